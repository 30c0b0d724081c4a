-- A row of another length than the columns isn't stored.
use Rattle.std.proofs.Common.{◌≡◌, ℕ, zero, suc, ◌+◌, ◌<◌, List, [], ◌∷◌, ◌++◌, drop, length, Option, Some, None, ap, ◌∙◌, sym, refl, arith, append_assoc}
use Rattle.std.specs.Prelude.{option_map, slice_get, Result, Ok, Err}
use lib.ListN.{get_or}
use Rattle.dk_values.specs.declared.column.Column.{Column}
use Rattle.dk_values.specs.declared.value.Value.{Value}
use Rattle.dk_query.specs.Kept.{behind, both}
use Rattle.dk_si.specs.Stored.{stored, stored_row, stored_rows, with_row}

nothing_behind : {T : Type 0} (first : Option T) → both first None ≡ None
nothing_behind None = refl
nothing_behind (Some x) = refl

pub other_length : (columns : List Column) (row : List Value) → (length row ≡ length columns → ⊥)
    → stored_row columns row ≡ None
other_length [] [] other = absurd (other refl)
other_length [] (v ∷ row) other = refl
other_length (column ∷ columns) [] other = refl
other_length (column ∷ columns) (v ∷ row) other =
    ap (both (stored column.kind v)) (other_length columns row (λ same. other (ap suc same)))
    ∙ nothing_behind (stored column.kind v)

-- the items from the i-th on begin with it
from_item : {T : Type 0} (xs : List T) (i : ℕ) (x : T) → i < length xs → x ≡ get_or xs i x → drop i xs ≡ x ∷ drop (i + 1) xs
from_item [] i x less is = absurd (omega (arith, less))
from_item (y ∷ xs) zero x less is = ap (λ z. z ∷ xs) (sym is)
from_item (y ∷ xs) (suc i) x less is =
    let next : suc i + 1 ≡ suc (i + 1) = omega arith in
    from_item xs i x (omega (arith, less)) is ∙ ap (λ (k : ℕ). x ∷ drop k (y ∷ xs)) (sym next)

from_got : {T : Type 0} (xs : List T) (i : ℕ) (x : T) → slice_get xs i ≡ Some x → drop i xs ≡ x ∷ drop (i + 1) xs
from_got [] i x is = absurd (cc is)
from_got (y ∷ xs) zero x is = let same : y ≡ x = cc in ap (λ z. z ∷ xs) same
from_got (y ∷ xs) (suc i) x is =
    let next : suc i + 1 ≡ suc (i + 1) = omega arith in
    from_got xs i x is ∙ ap (λ (k : ℕ). x ∷ drop k (y ∷ xs)) (sym next)

-- what is left of a row begins with this value of this column
left_is : (columns : List Column) (row : List Value) (i : ℕ) (column : Column) (v : Value) → i < length columns
    → column ≡ get_or columns i column → slice_get row i ≡ Some v
    → stored_row (drop i columns) (drop i row)
    ≡ both (stored column.kind v) (stored_row (drop (i + 1) columns) (drop (i + 1) row))
left_is columns row i column v less at value =
    ap (λ left. stored_row left (drop i row)) (from_item columns i column less at)
    ∙ ap (stored_row (column ∷ drop (i + 1) columns)) (from_got row i v value)

-- a value that doesn't fit
pub not_stored : (columns : List Column) (row found : List Value) (i : ℕ) (column : Column) (cell v : Value)
    → (made : Option Value) → i < length columns → column ≡ get_or columns i column → slice_get row i ≡ Some cell
    → v ≡ cell → made ≡ stored column.kind v → made ≡ None
    → option_map (λ values. found ++ values) (stored_row (drop i columns) (drop i row)) ≡ stored_row columns row
    → None ≡ stored_row columns row
not_stored columns row found i column cell v made less at value same is none so_far =
    let rest = stored_row (drop (i + 1) columns) (drop (i + 1) row) in
    let first : stored column.kind cell ≡ None = ap (stored column.kind) (sym same) ∙ (sym is ∙ none) in
    sym (ap (option_map (λ values. found ++ values)) (left_is columns row i column cell less at value
    ∙ ap (λ first. both first rest) first)) ∙ so_far

mapped : (found : List Value) (w : Value) (others : Option (List Value))
    → option_map (λ values. (found ++ w ∷ []) ++ values) others
    ≡ option_map (λ values. found ++ values) (both (Some w) others)
mapped found w None = refl
mapped found w (Some others) = ap Some (append_assoc found (w ∷ []) others)

-- a value that fits
pub is_stored : (columns : List Column) (row found more : List Value) (i : ℕ) (column : Column) (cell v w : Value)
    → (made : Option Value) → i < length columns → column ≡ get_or columns i column → slice_get row i ≡ Some cell
    → v ≡ cell → made ≡ stored column.kind v → made ≡ Some w → more ≡ found ++ w ∷ []
    → option_map (λ values. found ++ values) (stored_row (drop i columns) (drop i row)) ≡ stored_row columns row
    → option_map (λ values. more ++ values) (stored_row (drop (i + 1) columns) (drop (i + 1) row))
    ≡ stored_row columns row
is_stored columns row found more i column cell v w made less at value same is some added so_far =
    let rest = stored_row (drop (i + 1) columns) (drop (i + 1) row) in
    let first : stored column.kind cell ≡ Some w = ap (stored column.kind) (sym same) ∙ (sym is ∙ some) in
    ap (λ front. option_map (λ values. front ++ values) rest) added
    ∙ (mapped found w rest
    ∙ (ap (λ first. option_map (λ values. found ++ values) (both first rest)) (sym first)
    ∙ (ap (option_map (λ values. found ++ values)) (sym (left_is columns row i column cell less at value)) ∙ so_far)))

-- ---- rows

rows_left : (columns : List Column) (given : List (List Value)) (i : ℕ) (row : List Value) → slice_get given i ≡ Some row
    → stored_rows columns i (drop i given)
    ≡ with_row (stored_row columns row) i (stored_rows columns (i + 1) (drop (i + 1) given))
rows_left columns given i row at = ap (stored_rows columns i) (from_got given i row at)

-- a row that doesn't fit
pub misfit : (columns : List Column) (given rows : List (List Value)) (i : ℕ) (row : List Value)
    → (made : Option (List Value)) → slice_get given i ≡ Some row → made ≡ stored_row columns row → made ≡ None
    → behind rows (stored_rows columns i (drop i given)) ≡ stored_rows columns 0 given
    → stored_rows columns 0 given ≡ Err i
misfit columns given rows i row made at is none so_far =
    sym so_far ∙ ap (behind rows) (rows_left columns given i row at
    ∙ ap (λ first. with_row first i (stored_rows columns (i + 1) (drop (i + 1) given))) (sym is ∙ none))

behind_row : (rows : List (List Value)) (w : List Value) (others : Result (List (List Value)) ℕ)
    → behind (rows ++ w ∷ []) others ≡ behind rows (behind (w ∷ []) others)
behind_row rows w (Ok others) = ap Ok (append_assoc rows (w ∷ []) others)
behind_row rows w (Err n) = refl

-- a row that fits
pub one_more : (columns : List Column) (given rows more : List (List Value)) (i : ℕ) (row w : List Value)
    → (made : Option (List Value)) → slice_get given i ≡ Some row → made ≡ stored_row columns row → made ≡ Some w
    → more ≡ rows ++ w ∷ []
    → behind rows (stored_rows columns i (drop i given)) ≡ stored_rows columns 0 given
    → behind more (stored_rows columns (i + 1) (drop (i + 1) given)) ≡ stored_rows columns 0 given
one_more columns given rows more i row w made at is some added so_far =
    let rest = stored_rows columns (i + 1) (drop (i + 1) given) in
    ap (λ front. behind front rest) added
    ∙ (behind_row rows w rest
    ∙ (ap (λ first. behind rows (with_row first i rest)) (sym (sym is ∙ some))
    ∙ (ap (behind rows) (sym (rows_left columns given i row at)) ∙ so_far)))
