-- Things that are put one behind the other, from the i-th on.
use Rattle.std.proofs.Common.{◌≡◌, ℕ, ◌+◌, List, ◌++◌, drop, Some, ap, subst, ◌∙◌, append_assoc}
use Rattle.std.specs.Prelude.{slice_get}
use Rattle.std.specs.List.{flat_map, AllByRecursion}
use Rattle.dk_rows.proofs.RowLemmas.{drop_next}

module _ {T : Type 0} (spell : T → List ℕ) where
  pub put_step : (xs : List T) (i : ℕ) (x : T) (old new all : List ℕ) → slice_get xs i ≡ Some x
      → old ++ flat_map spell (drop i xs) ≡ all → new ≡ old ++ spell x → new ++ flat_map spell (drop (i + 1) xs) ≡ all
  put_step xs i x old new all here told put =
      let left : old ++ (spell x ++ flat_map spell (drop (i + 1) xs)) ≡ all
      = subst (λ (ys : List T). old ++ flat_map spell ys ≡ all) (drop_next xs i x here) told in
      ap (λ (bytes : List ℕ). bytes ++ flat_map spell (drop (i + 1) xs)) put
      ∙ append_assoc old (spell x) (flat_map spell (drop (i + 1) xs)) ∙ left

-- what holds of all from the i-th on holds of the i-th, and of all behind it
pub all_from : {T : Type 0} (P : T → Type 0) (xs : List T) (i : ℕ) (x : T) → slice_get xs i ≡ Some x
    → AllByRecursion P (drop i xs) → P x × AllByRecursion P (drop (i + 1) xs)
all_from P xs i x here all = subst (λ (ys : List _). AllByRecursion P ys) (drop_next xs i x here) all
