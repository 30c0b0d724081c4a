-- Rows of a vector read and written one after the other.
use Rattle.std.proofs.Common.{ℕ, ◌+◌, ◌≡◌, ◌<◌, ◌≤◌, Bool, true, false, List, [], ◌∷◌, ◌++◌, length, take, drop, get_or, set, Option, Some, None, refl, ap, sym, ◌∙◌, cond, arith, length-set, subst}
use Rattle.std.specs.Prelude.{◌==◌, slice_get}
use Rattle.std.specs.List.{All}
use Rattle.std.proofs.lemmas.Bool.{eqb-true, eqb-false}
use Rattle.std.proofs.lemmas.List.{take_more, drop_more, drop_all, map-append}
use Rattle.std.proofs.lemmas.List.Elements.{All-set}
use Rattle.std.proofs.lemmas.Option.{get_or_from_slice_get, slice_get_within}
use Rattle.dk_values.specs.declared.value.ColType.{ColType}
use Rattle.dk_values.specs.declared.value.Value.{Value}
use Rattle.dk_columns.specs.OptionTables.{OptionTable, FitsKinds, with_row_set}
use Rattle.dk_chain.specs.Nodes.{old_in}
use Rattle.dk_vector.specs.Vectors.{IsRow, values_or_none, base_at, or_base}
use Rattle.dk_vector.specs.Changes.{rows_of, AreBelow, IsWritten}
use Rattle.dk_vector.proofs.PlaceLemmas.{at_same, at_other}

pub rows_next : (base : OptionTable) (rows : List ℕ) (i : ℕ) (done : List (List Value)) (values : List Value) → i < length rows
    → done ≡ rows_of base (take i rows) → values ≡ base_at (get_or rows i 0) base → done ++ values ∷ [] ≡ rows_of base (take (i + 1) rows)
rows_next base rows i done values within e is =
    ap (λ d. d ++ values ∷ []) e ∙ ap (λ v. rows_of base (take i rows) ++ v ∷ []) is
    ∙ sym (map-append (λ row. base_at row base) (take i rows) (get_or rows i 0 ∷ []))
    ∙ sym (ap (rows_of base) (take_more rows i 0 within))

pub below_at : (n m : ℕ) (rows : List ℕ) (i : ℕ) → AreBelow n rows → m ≡ n → i < length rows → get_or rows i 0 < m
below_at n m rows i below e within = let h : get_or rows i 0 < n = below i 0 within in omega (arith, h, e)

pub fits_at : (kinds now : List ColType) (values : List (List Value)) (i : ℕ) (row : List Value) → All (FitsKinds kinds) values → now ≡ kinds
    → slice_get values i ≡ Some row → FitsKinds now row
fits_at kinds now values i row fits e is =
    let h : FitsKinds kinds (get_or values i []) = fits i [] (slice_get_within values i row is) in
    subst (λ (k : List ColType). FitsKinds k row) (sym e) (subst (FitsKinds kinds) (get_or_from_slice_get values i row [] is) h)

-- one row written
one_written : (table : OptionTable) (i row : ℕ) (values : List Value) → i < length table.rows
    → base_at row (with_row_set i (Some values) table) ≡ or_base (base_at row table) (cond (i == row) (Some values) None)
one_written table i row values within = so (i == row) refl
  where
    so : (b : Bool) → (i == row) ≡ b → base_at row (with_row_set i (Some values) table) ≡ or_base (base_at row table) (cond b (Some values) None)
    so true e = ap values_or_none (ap (slice_get (set table.rows i (Some values))) (sym (eqb-true i row e)) ∙ at_same table.rows i (Some values) within)
    so false e = ap values_or_none (at_other table.rows i row (Some values) (eqb-false i row e))

pub written_none : (rows : List ℕ) (values : List (List Value)) (i : ℕ) (table : OptionTable) → length rows ≤ i → IsWritten (drop i rows) (drop i values) table table
written_none rows values i table end =
    record { kinds = refl; count = refl; rows = λ all. all; each = λ row. sym (ap (λ rows. or_base (base_at row table) (old_in row rows (drop i values))) (drop_all i rows end)) }

pub written_next : (rows : List ℕ) (values : List (List Value)) (i j : ℕ) (row : List Value) (old now new : OptionTable) → j ≡ i + 1 → i < length rows
    → slice_get values i ≡ Some row → get_or rows i 0 < length now.rows → FitsKinds now.kinds row
    → IsWritten (drop j rows) (drop j values) old now → new ≡ with_row_set (get_or rows i 0) (Some row) now
    → IsWritten (drop i rows) (drop i values) old new
written_next rows values i j value old now new next within is below fits so_far e =
    let r = get_or rows i 0 in
    record {
      kinds = ap (λ (t : OptionTable). t.kinds) e ∙ so_far.kinds;
      count = ap (λ (t : OptionTable). length t.rows) e ∙ length-set now.rows r (Some value) ∙ so_far.count;
      rows = λ all. subst (λ (t : OptionTable). All (IsRow t.kinds) t.rows) (sym e) (All-set (IsRow now.kinds) now.rows r (Some value) fits (so_far.rows all));
      each = λ row.
          ap (base_at row) e ∙ one_written now r row value below
          ∙ ap (λ b. or_base b (cond (r == row) (Some value) None)) (so_far.each row ∙ ap (λ j. or_base (base_at row old) (old_in row (drop j rows) (drop j values))) next)
          ∙ both (r == row) (base_at row old) (old_in row (drop (i + 1) rows) (drop (i + 1) values))
          ∙ sym (ap (λ rs. or_base (base_at row old) (old_in row rs (drop i values))) (drop_more rows i 0 within)
          ∙ ap (λ vs. or_base (base_at row old) (old_in row (r ∷ drop (i + 1) rows) vs)) (drop_more values i [] (slice_get_within values i value is) ∙ ap (λ v. v ∷ drop (i + 1) values) (get_or_from_slice_get values i value [] is)));
    }
  where
    both : (b : Bool) (base : List Value) (o : Option (List Value)) → or_base (or_base base o) (cond b (Some value) None) ≡ or_base base (cond b (Some value) o)
    both true base o = refl
    both false base o = refl
