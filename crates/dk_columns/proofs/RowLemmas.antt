-- Rows that may be missing, as flags and columns.
use Rattle.std.proofs.Common.{◌≡◌, ◌≢◌, ℕ, zero, suc, ◌+◌, ◌<◌, ◌≤◌, Bool, true, false, List, [], ◌∷◌, ◌++◌, length, map, take, Option, Some, None, refl, ap, sym, ◌∙◌, subst, inr, arith, length-append}
use Rattle.std.specs.Prelude.{slice_get, slice_set, is_some, Result, Ok, Err, OnOk, OnErr}
use Rattle.std.proofs.lemmas.List.{map-append, length-take, take_all, append_assoc}
use Rattle.dk_rows.proofs.RowLemmas.{take_more, taken_back}
use Rattle.dk_values.specs.declared.value.ColType.{ColType}
use Rattle.dk_values.specs.declared.value.Value.{Value}
use Rattle.dk_columns.specs.Options.{option_if}
use Rattle.dk_columns.specs.Columns.{Column}
use Rattle.dk_columns.specs.OptionTables.{OptionTable, row_at, rows_from, kinds_of, table_of, with_row, with_rows, with_row_set, with_rows_front, with_row_put, empty_column, AreLong, FitsKinds, IsFrontPut, IsKeptOrMissing, IsNext, SameFront}
use Rattle.dk_columns.proofs.PutLemmas.{kinds_put, row_put_here, row_put_other, long_put, long_put_here, long_less}

abbrev pub MaybeRows : Type 0
MaybeRows = List (Option (List Value))

pub rows_len : (s : ℕ) (bs : List Bool) (columns : List Column) → length (rows_from s bs columns) ≡ length bs
rows_len s [] columns = refl
rows_len s (b ∷ bs) columns = ap suc (rows_len (suc s) bs columns)

pub rows_flags : (s : ℕ) (bs : List Bool) (columns : List Column) → map is_some (rows_from s bs columns) ≡ bs
rows_flags s [] columns = refl
rows_flags s (true ∷ bs) columns = ap (λ (cs : List Bool). true ∷ cs) (rows_flags (suc s) bs columns)
rows_flags s (false ∷ bs) columns = ap (λ (cs : List Bool). false ∷ cs) (rows_flags (suc s) bs columns)

rows_same : (s : ℕ) (bs : List Bool) (old new : List Column) → ((k : ℕ) → s ≤ k → k < s + length bs → row_at k new ≡ row_at k old) → rows_from s bs new ≡ rows_from s bs old
rows_same s [] old new h = refl
rows_same s (b ∷ bs) old new h =
    ap (λ (row : List Value). option_if b row ∷ rows_from (suc s) bs new) (h s (omega arith) (omega arith))
    ∙ ap (λ (rows : MaybeRows). option_if b (row_at s old) ∷ rows) (rows_same (suc s) bs old new (λ k le lt. h k (omega (arith, le)) (omega (arith, lt))))

rows_more : (s : ℕ) (bs : List Bool) (b : Bool) (columns : List Column) → rows_from s (bs ++ b ∷ []) columns ≡ rows_from s bs columns ++ option_if b (row_at (s + length bs) columns) ∷ []
rows_more s [] b columns =
    let place : s ≡ s + 0 = omega arith in
    ap (λ (k : ℕ). option_if b (row_at k columns) ∷ []) place
rows_more s (a ∷ bs) b columns =
    let place : suc s + length bs ≡ s + suc (length bs) = omega arith in
    ap (λ (rows : MaybeRows). option_if a (row_at s columns) ∷ rows) (rows_more (suc s) bs b columns)
    ∙ ap (λ (k : ℕ). option_if a (row_at s columns) ∷ (rows_from (suc s) bs columns ++ option_if b (row_at k columns) ∷ [])) place

rows_at : (s : ℕ) (bs : List Bool) (columns : List Column) (i : ℕ) (b : Bool) → slice_get bs i ≡ Some b → slice_get (rows_from s bs columns) i ≡ Some (option_if b (row_at (s + i) columns))
rows_at s [] columns i b e = absurd cc
rows_at s (a ∷ bs) columns zero b e =
    let same : a ≡ b = cc in
    let place : s ≡ s + zero = omega arith in
    ap (λ (x : Bool). Some (option_if x (row_at s columns))) same ∙ ap (λ (k : ℕ). Some (option_if b (row_at k columns))) place
rows_at s (a ∷ bs) columns (suc i) b e =
    let place : suc s + i ≡ s + suc i = omega arith in
    rows_at (suc s) bs columns i b e ∙ ap (λ (k : ℕ). Some (option_if b (row_at k columns))) place

-- the row of a place
pub row_there : (bs : List Bool) (columns : List Column) (i : ℕ) (b : Bool) → slice_get bs i ≡ Some b → slice_get (rows_from 0 bs columns) i ≡ Some (option_if b (row_at i columns))
row_there bs columns i b e =
    let place : 0 + i ≡ i = omega arith in
    rows_at 0 bs columns i b e ∙ ap (λ (k : ℕ). Some (option_if b (row_at k columns))) place

rows_set : (s : ℕ) (bs : List Bool) (old new : List Column) (i : ℕ) (b : Bool) → ((k : ℕ) → k ≢ s + i → row_at k new ≡ row_at k old) → rows_from s (slice_set bs i b) new ≡ slice_set (rows_from s bs old) i (option_if b (row_at (s + i) new))
rows_set s [] old new i b h = refl
rows_set s (a ∷ bs) old new zero b h =
    let place : s ≡ s + zero = omega arith in
    ap (λ (k : ℕ). option_if b (row_at k new) ∷ rows_from (suc s) bs new) place
    ∙ ap (λ (rows : MaybeRows). option_if b (row_at (s + zero) new) ∷ rows) (rows_same (suc s) bs old new (λ k le lt. h k (λ r. omega (arith, le, r))))
rows_set s (a ∷ bs) old new (suc i) b h =
    let place : suc s + i ≡ s + suc i = omega arith in
    ap (λ (row : List Value). option_if a row ∷ rows_from (suc s) (slice_set bs i b) new) (h s (λ r. omega (arith, r)))
    ∙ ap (λ (rows : MaybeRows). option_if a (row_at s old) ∷ rows) (rows_set (suc s) bs old new i b (λ k ne. h k (λ r. ne (omega (arith, r)))))
    ∙ ap (λ (k : ℕ). option_if a (row_at s old) ∷ slice_set (rows_from (suc s) bs old) i (option_if b (row_at k new))) place

rows_front : (s n : ℕ) (bs : List Bool) (columns : List Column) → rows_from s (take n bs) columns ≡ take n (rows_from s bs columns)
rows_front s zero bs columns = refl
rows_front s (suc n) [] columns = refl
rows_front s (suc n) (b ∷ bs) columns = ap (λ (rows : MaybeRows). option_if b (row_at s columns) ∷ rows) (rows_front (suc s) n bs columns)

abbrev table : List ColType → MaybeRows → OptionTable
table kinds rows = record { kinds = kinds; rows = rows }

same_table : (k k' : List ColType) (r r' : MaybeRows) → k ≡ k' → r ≡ r' → table k r ≡ table k' r'
same_table k k' r r' e f = ap (λ (x : List ColType). table x r) e ∙ ap (table k') f

module _ {T : Type 0} where
  pub set_len : (xs : List T) (i : ℕ) (x : T) → length (slice_set xs i x) ≡ length xs
  set_len [] i x = refl
  set_len (y ∷ xs) zero x = refl
  set_len (y ∷ xs) (suc i) x = ap suc (set_len xs i x)

  set_twice : (xs : List T) (i : ℕ) (x y : T) → slice_set (slice_set xs i x) i y ≡ slice_set xs i y
  set_twice [] i x y = refl
  set_twice (z ∷ xs) zero x y = refl
  set_twice (z ∷ xs) (suc i) x y = ap (λ (ys : List T). z ∷ ys) (set_twice xs i x y)

-- without memory a row was put in the first columns, behind the last row
pub put_behind : (n : ℕ) (bs : List Bool) (columns columns' : List Column) (row : List Value) → n ≡ length bs → AreLong (length bs) columns → FitsKinds (kinds_of columns) row → IsFrontPut n row columns columns'
    → AreLong (length bs) columns' × (table_of bs columns' ≡ table_of bs columns)
put_behind n bs columns columns' row at l f p =
    let here : AreLong n columns = subst (λ (k : ℕ). AreLong k columns) (sym at) l in
    let all = long_put (length bs) n p.count row columns l f in
    let rows = rows_same 0 bs columns (with_row_put n (take p.count row) columns) (λ k le lt. row_put_other n (take p.count row) columns k (λ r. omega (arith, lt, r, at)) here) in (
      subst (λ (cs : List Column). AreLong (length bs) cs) (sym p.put) all,
      ap (λ (cs : List Column). table_of bs cs) p.put ∙ same_table _ _ _ _ (kinds_put n (take p.count row) columns) rows,
    )

-- a row and its flag were put behind the others, or the row alone
pub pushed : {E : Type 0} (r : Result (Unit {0}) E) (n : ℕ) (bs bs' : List Bool) (columns columns' : List Column) (row : List Value) (b : Bool) → n ≡ length bs → AreLong (length bs) columns → FitsKinds (kinds_of columns) row
    → columns' ≡ with_row_put n row columns → OnOk r (bs' ≡ bs ++ b ∷ []) → OnErr r (bs' ≡ bs)
    → AreLong (length bs') columns' × OnOk r (table_of bs' columns' ≡ with_row (option_if b row) (table_of bs columns)) × OnErr r (table_of bs' columns' ≡ table_of bs columns)
pushed (Ok u) n bs bs' columns columns' row b at l f p e g =
    let here : AreLong n columns = subst (λ (k : ℕ). AreLong k columns) (sym at) l in
    let size : suc n ≡ length bs' = omega (arith, at, ap (λ (xs : List Bool). length xs) e, length-append bs (b ∷ [])) in
    let place : 0 + length bs ≡ n = omega (arith, at) in
    let long : AreLong (length bs') columns' = rw p (subst (λ (k : ℕ). AreLong k (with_row_put n row columns)) size (long_put_here n row columns here f)) in
    let others = rows_same 0 bs columns (with_row_put n row columns) (λ k le lt. row_put_other n row columns k (λ r. omega (arith, lt, r, at)) here) in
    let rows : rows_from 0 (bs ++ b ∷ []) (with_row_put n row columns) ≡ rows_from 0 bs columns ++ option_if b row ∷ [] =
    rows_more 0 bs b (with_row_put n row columns)
    ∙ ap (λ (k : ℕ). rows_from 0 bs (with_row_put n row columns) ++ option_if b (row_at k (with_row_put n row columns)) ∷ []) place
    ∙ ap (λ (x : List Value). rows_from 0 bs (with_row_put n row columns) ++ option_if b x ∷ []) (row_put_here n row columns here f)
    ∙ ap (λ (xs : MaybeRows). xs ++ option_if b row ∷ []) others in
    let tables = same_table _ _ _ _ (kinds_put n row columns) rows in
    (long, rw (p, e) tables, tt)
pushed (Err u) n bs bs' columns columns' row b at l f p e g =
    let none : IsFrontPut n row columns columns' = record { count = length row; put = p ∙ ap (λ (x : List Value). with_row_put n x columns) (sym (take_all (length row) row (omega arith))) } in
    let same = put_behind n bs columns columns' row at l f none in
    (rw g same.0, tt, rw g same.1)

-- a row was put in the place of another, which is missing
set_missing : (bs : List Bool) (columns : List Column) (row : List Value) (i j : ℕ) → i < length bs → AreLong (length bs) columns → FitsKinds (kinds_of columns) row
    → AreLong (length (slice_set bs i false)) (with_row_put i (take j row) columns) × (table_of (slice_set bs i false) (with_row_put i (take j row) columns) ≡ with_row_set i None (table_of bs columns))
set_missing bs columns row i j lt l f =
    let here : AreLong i columns = long_less i (length bs) columns (omega (arith, lt)) l in
    let rows = rows_set 0 bs columns (with_row_put i (take j row) columns) i false (λ k ne. row_put_other i (take j row) columns k (λ r. ne (omega (arith, r))) here) in (
      subst (λ (n : ℕ). AreLong n (with_row_put i (take j row) columns)) (sym (set_len bs i false)) (long_put (length bs) i j row columns l f),
      same_table _ _ _ _ (kinds_put i (take j row) columns) rows,
    )

-- without memory the row is missing
pub set_front : (bs bs' : List Bool) (columns columns' : List Column) (row : List Value) (i : ℕ) → i < length bs → AreLong (length bs) columns → FitsKinds (kinds_of columns) row → bs' ≡ slice_set bs i false → IsFrontPut i row columns columns'
    → AreLong (length bs') columns' × IsKeptOrMissing i (table_of bs columns) (table_of bs' columns')
set_front bs bs' columns columns' row i lt l f e p =
    let set = set_missing bs columns row i p.count lt l f in
    rw (e, p.put) (set.0, inr set.1)

pub set_again : {E : Type 0} (r : Result (Unit {0}) E) (bs bs' bs'' : List Bool) (columns columns' : List Column) (row : List Value) (i : ℕ) (b : Bool) → i < length bs → AreLong (length bs) columns → FitsKinds (kinds_of columns) row
    → bs' ≡ slice_set bs i false → columns' ≡ with_row_put i row columns → OnOk r (bs'' ≡ slice_set bs' i b) → OnErr r (bs'' ≡ bs')
    → AreLong (length bs'') columns' × OnOk r (table_of bs'' columns' ≡ with_row_set i (option_if b row) (table_of bs columns)) × OnErr r (IsKeptOrMissing i (table_of bs columns) (table_of bs'' columns'))
set_again (Ok u) bs bs' bs'' columns columns' row i b lt l f e p set g =
    let here : AreLong i columns = long_less i (length bs) columns (omega (arith, lt)) l in
    let new = with_row_put i row columns in
    let flags : bs'' ≡ slice_set bs i b = set ∙ ap (λ (xs : List Bool). slice_set xs i b) e ∙ set_twice bs i false b in
    let whole : take (length row) row ≡ row = take_all (length row) row (omega arith) in
    let long : AreLong (length bs) (with_row_put i row columns) = subst (λ (x : List Value). AreLong (length bs) (with_row_put i x columns)) whole (long_put (length bs) i (length row) row columns l f) in
    let place : 0 + i ≡ i = omega arith in
    let rows : rows_from 0 (slice_set bs i b) (with_row_put i row columns) ≡ slice_set (rows_from 0 bs columns) i (option_if b row) =
    rows_set 0 bs columns (with_row_put i row columns) i b (λ k ne. row_put_other i row columns k (λ r. ne (omega (arith, r))) here)
    ∙ ap (λ (k : ℕ). slice_set (rows_from 0 bs columns) i (option_if b (row_at k (with_row_put i row columns)))) place
    ∙ ap (λ (x : List Value). slice_set (rows_from 0 bs columns) i (option_if b x)) (row_put_here i row columns here f) in
    let tables = same_table _ _ _ _ (kinds_put i row columns) rows in
    rw (flags, p) (subst (λ (n : ℕ). AreLong n (with_row_put i row columns)) (sym (set_len bs i b)) long, tables, tt)
set_again (Err u) bs bs' bs'' columns columns' row i b lt l f e p set g =
    let front : IsFrontPut i row columns columns' = record { count = length row; put = p ∙ ap (λ (x : List Value). with_row_put i x columns) (sym (take_all (length row) row (omega arith))) } in
    let same = set_front bs bs' columns columns' row i lt l f e front in
    (rw g same.0, tt, rw g same.1)

-- fewer rows, and columns that were cut
pub cut_table : (n : ℕ) (bs : List Bool) (columns columns' : List Column) → n < length bs → SameFront n columns columns' → AreLong (length (take n bs)) columns' × (table_of (take n bs) columns' ≡ with_rows_front n (table_of bs columns))
cut_table n bs columns columns' lt same =
    let size : n ≡ length (take n bs) = omega (arith, length-take n bs, lt) in
    let rows = rows_same 0 (take n bs) columns columns' (λ k le less. same.rows k (omega (arith, less, size))) in (
      subst (λ (k : ℕ). AreLong k columns') size same.long,
      same_table _ _ _ _ same.kinds (rows ∙ rows_front 0 n bs columns),
    )

pub all_rows : (n : ℕ) (bs : List Bool) (columns : List Column) → length bs ≤ n → table_of bs columns ≡ with_rows_front n (table_of bs columns)
all_rows n bs columns le = ap (table (kinds_of columns)) (sym (take_all n (rows_from 0 bs columns) (omega (arith, le, rows_len 0 bs columns))))

-- columns without values
pub empty_kinds : (kinds : List ColType) → kinds_of (map empty_column kinds) ≡ kinds
empty_kinds [] = refl
empty_kinds (kind ∷ kinds) = ap (λ (ks : List ColType). kind ∷ ks) (empty_kinds kinds)

pub empty_long : (kinds : List ColType) → AreLong 0 (map empty_column kinds)
empty_long [] = tt
empty_long (kind ∷ kinds) = (record { long = omega arith; kinds = λ k d lt. absurd (omega (arith, lt)) }, empty_long kinds)

pub empty_table : (kinds : List ColType) → table_of [] (map empty_column kinds) ≡ record { kinds = kinds; rows = [] }
empty_table kinds = ap (λ (ks : List ColType). table ks []) (empty_kinds kinds)

-- a column more for the next type
pub empty_more : (kinds : List ColType) (j : ℕ) (kind : ColType) (columns columns' : List Column) (c : Column) → slice_get kinds j ≡ Some kind → columns ≡ map empty_column (take j kinds) → c ≡ empty_column kind → columns' ≡ columns ++ c ∷ []
    → columns' ≡ map empty_column (take (j + 1) kinds)
empty_more kinds j kind columns columns' c at e made more =
    more ∙ ap (λ (cs : List Column). cs ++ c ∷ []) e ∙ ap (λ (k : Column). map empty_column (take j kinds) ++ k ∷ []) made
    ∙ sym (ap (map empty_column) (take_more kinds j kind at) ∙ map-append empty_column (take j kinds) (kind ∷ []))

-- a row more of a list
pub listed_more : (kinds : List ColType) (all : MaybeRows) (i : ℕ) (row : Option (List Value)) (rows new : OptionTable) → slice_get all i ≡ Some row → rows ≡ record { kinds = kinds; rows = take i all } → new ≡ with_row row rows
    → new ≡ record { kinds = kinds; rows = take (i + 1) all }
listed_more kinds all i row rows new at e put = put ∙ ap (with_row row) e ∙ ap (table kinds) (sym (take_more all i row at))

-- a row more behind the front of others
pub rows_next : (old rows new : OptionTable) (more : MaybeRows) (i : ℕ) → rows ≡ with_rows (take i more) old → IsNext i more rows new → new ≡ with_rows (take (i + 1) more) old
rows_next old rows new more i e (row, at, put) =
    put ∙ ap (with_row row) e
    ∙ ap (table old.kinds) (append_assoc old.rows (take i more) (row ∷ []) ∙ ap (λ (xs : MaybeRows). old.rows ++ xs) (sym (take_more more i row at)))

-- rows that were put behind others are taken back
pub rows_back : (n : ℕ) (old rows new : OptionTable) (more : MaybeRows) → n ≡ length old.rows → rows ≡ with_rows more old → new ≡ with_rows_front n rows → new ≡ old
rows_back n old rows new more at e cut =
    cut ∙ ap (with_rows_front n) e ∙ ap (table old.kinds) (taken_back old.rows more (old.rows ++ more) n refl at)
