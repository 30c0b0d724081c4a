-- Lists that are empty, and tests of the items on both sides of one.
use Rattle.std.proofs.Common.{◌≡◌, ℕ, ◌+◌, ◌-◌, Bool, List, [], ◌∷◌, ◌++◌, length, map, take, drop, ap, ◌∙◌, sym, refl, arith}
use Rattle.std.proofs.lemmas.Bool.Decides.{nat_tests}
use Rattle.std.specs.Prelude.{◌&&◌, ◌==◌, sum}
use Rattle.std.specs.List.{list_all, fold}
use Rattle.std.proofs.lemmas.List.Folds.{list_all-append}
use Rattle.dk_types.specs.declared.net.TableNet.{TableNet}
use Rattle.dk_si.specs.Machine.{changed_ids}
use Rattle.dk_si.specs.Nets.{is_empty}
use Rattle.dk_core.specs.Core.{all_but}

pub none_empty : {T : Type 0} → (items : List T) → (length items == 0) ≡ is_empty items
none_empty [] = refl
none_empty (x ∷ items) = grind (arith, nat_tests)

none_of_both : {T : Type 0} → (id : T → ℕ) → (items : List T) → (ids : List ℕ)
    → (is_empty items && is_empty ids) ≡ is_empty (map id items ++ ids)
none_of_both id [] ids = refl
none_of_both id (x ∷ items) ids = refl

pub no_ids : (part : TableNet) → (is_empty part.updates && is_empty part.deletes) ≡ is_empty (changed_ids part)
no_ids part = none_of_both (λ update. update.0) part.updates part.deletes

pub all_beside : {T : Type 0} → (test : T → Bool) → (items : List T) → (number : ℕ)
    → (list_all test (take (number - 1) items) && list_all test (drop number items)) ≡ list_all test (all_but number items)
all_beside test items number = sym (list_all-append test (take (number - 1) items) (drop number items))

-- ---- sums

adds : (a x r s t : ℕ) → r ≡ (a + x) + t → s ≡ (0 + x) + t → r ≡ a + s
adds a x r s t one other = grind (arith, one, other)

sum_from : (a : ℕ) (numbers : List ℕ) → fold (λ m n. m + n) a numbers ≡ a + sum numbers
sum_from a [] = grind arith
sum_from a (x ∷ numbers) = adds a x _ _ _ (sum_from (a + x) numbers) (sum_from (0 + x) numbers)

pub sum_more : (x : ℕ) (numbers : List ℕ) → sum (x ∷ numbers) ≡ x + sum numbers
sum_more x numbers = let same : 0 + x ≡ x = omega arith in sum_from (0 + x) numbers ∙ ap (λ n. n + sum numbers) same
