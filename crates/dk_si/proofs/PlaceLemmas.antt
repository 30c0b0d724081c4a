-- What stands at a place of a list.
use Rattle.std.proofs.Common.{◌≡◌, ◌⊎◌, inl, inr, ⊎_elim, ℕ, zero, suc, ◌-◌, ◌<◌, ◌≤◌, Bool, true, false, List, [], ◌∷◌}
use Rattle.std.proofs.Common.{◌++◌, length, replicate, take, drop, ap, ◌∙◌, sym, refl, subst, arith, slice_get}
use Rattle.std.proofs.Common.{slice_set, Some, None}
use Rattle.std.specs.Prelude.{◌==◌, ◌||◌, if◌then◌else◌}
use Rattle.std.specs.List.{list_all, list_any}
use Rattle.std.proofs.lemmas.List.Folds.{list_any-append}
use Rattle.std.proofs.lemmas.Bool.{and_parts, or_cases, or_parts, cases_order, eqb-true}
use Rattle.dk_si.specs.declared.machine.Session.{Session}
use Rattle.dk_si.specs.Nets.{has_id}
use Rattle.dk_si.specs.Machine.{others, session_at}

-- what stands at a place of a list with an item more at its end
pub last_place : {T : Type 0} → (xs : List T) → (last : T) → (k : ℕ) → (x : T) → slice_get (xs ++ last ∷ []) k ≡ Some x
    → (slice_get xs k ≡ Some x) ⊎ ((k ≡ length xs) × (last ≡ x))
last_place [] last zero x at = inr (refl, cc)
last_place [] last (suc k) x at = cc
last_place (y ∷ ys) last zero x at = inl at
last_place (y ∷ ys) last (suc k) x at = ⊎_elim inl (λ h. inr (ap suc h.0, h.1)) (last_place ys last k x at)

-- what stands at a place of a list with a new item, and where
pub set_place : {T : Type 0} → (xs : List T) → (n : ℕ) → (new : T) → (k : ℕ) → (x : T)
    → slice_get (slice_set xs n new) k ≡ Some x
    → ((k ≡ n) × (new ≡ x)) ⊎ ((k ≡ n → ⊥) × (slice_get xs k ≡ Some x))
set_place [] n new k x at = cc
set_place (y ∷ ys) zero new zero x at = inl (refl, cc)
set_place (y ∷ ys) zero new (suc k) x at = inr (λ same. absurd (omega arith), at)
set_place (y ∷ ys) (suc n) new zero x at = inr (λ same. absurd (omega arith), at)
set_place (y ∷ ys) (suc n) new (suc k) x at =
    ⊎_elim (λ h. inl (ap suc h.0, h.1)) (λ h. inr (λ same. h.0 (omega arith), h.1)) (set_place ys n new k x at)

-- and it is as long
pub set_length : {T : Type 0} → (xs : List T) (k : ℕ) (x : T) → length (slice_set xs k x) ≡ length xs
set_length [] k x = refl
set_length (y ∷ xs) zero x = refl
set_length (y ∷ xs) (suc k) x = ap suc (set_length xs k x)

-- where none of the first n passes a test, the item at a place below n fails it
none_before : {T : Type 0} → (test : T → Bool) → (xs : List T) → (n k : ℕ) → (x : T) → list_any test (take n xs)
    ≡ false → k < n
    → slice_get xs k ≡ Some x → test x ≡ false
none_before test [] n k x none less at = cc
none_before test (y ∷ ys) zero k x none less at = absurd (omega arith)
none_before test (y ∷ ys) (suc n) zero x none less at =
    let same : y ≡ x = cc in subst (λ z. test z ≡ false) same (or_parts _ _ none).0
none_before test (y ∷ ys) (suc n) (suc k) x none less at =
    none_before test ys n k x (or_parts _ _ none).1 (omega arith) at

-- where none from place n on passes a test, the item at such a place fails it
pub none_from : {T : Type 0} → (test : T → Bool) → (xs : List T) → (n k : ℕ) → (x : T) → list_any test (drop n xs)
    ≡ false → n ≤ k
    → slice_get xs k ≡ Some x → test x ≡ false
none_from test [] n k x none less at = cc
none_from test (y ∷ ys) zero zero x none less at =
    let same : y ≡ x = cc in subst (λ z. test z ≡ false) same (or_parts _ _ none).0
none_from test (y ∷ ys) zero (suc k) x none less at = none_from test ys zero k x (or_parts _ _ none).1 (omega arith) at
none_from test (y ∷ ys) (suc n) zero x none less at = absurd (omega arith)
none_from test (y ∷ ys) (suc n) (suc k) x none less at = none_from test ys n k x none (omega arith) at

-- where no other session passes a test, one at another place fails it
pub none_other : (test : Session → Bool) → (sessions : List Session) → (number k : ℕ) → (other : Session)
    → list_any test (others sessions number) ≡ false → 0 < number → (k ≡ number - 1 → ⊥) → slice_get sessions k
    ≡ Some other → test other ≡ false
none_other test sessions number k other none above apart at =
    let h = or_parts _ _ (sym (list_any-append test (take (number - 1) sessions) (drop number sessions)) ∙ none) in
    ⊎_elim
    (λ same. absurd (apart same))
    (λ order. ⊎_elim
    (λ less. none_before test sessions (number - 1) k other h.0 less at)
    (λ less. none_from test sessions number k other h.1 (omega arith) at)
    order)
    (cases_order k (number - 1))

-- a new item leaves those at other places
pub set_apart : {T : Type 0} → (xs : List T) → (n k : ℕ) → (new : T) → (n ≡ k → ⊥) → slice_get (slice_set xs n new) k
    ≡ slice_get xs k
set_apart [] n k new apart = refl
set_apart (y ∷ ys) zero zero new apart = absurd (apart refl)
set_apart (y ∷ ys) zero (suc k) new apart = refl
set_apart (y ∷ ys) (suc n) zero new apart = refl
set_apart (y ∷ ys) (suc n) (suc k) new apart = set_apart ys n k new (λ same. apart (ap suc same))

found_if : (first : Bool) → (sessions : List Session) → (number : ℕ) → (found : Session) → (number == 0) ≡ first
    → (if first then None else slice_get sessions (number - 1)) ≡ Some found
    → (slice_get sessions (number - 1) ≡ Some found) × (0 < number)
found_if true sessions number found is at = cc
found_if false sessions number found is at = (at, grind (arith, is))

-- the sessions have the numbers from 1 on
pub found_at : (sessions : List Session) → (number : ℕ) → (found : Session) → session_at sessions number ≡ Some found
    → (slice_get sessions (number - 1) ≡ Some found) × (0 < number)
found_at sessions number found at = found_if (number == 0) sessions number found refl at

pub same_copies : {T : Type 0} → (n k : ℕ) → (x y : T) → slice_get (replicate n x) k ≡ Some y → x ≡ y
same_copies zero k x y at = cc
same_copies (suc n) zero x y at = cc
same_copies (suc n) (suc k) x y at = same_copies n k x y at

-- what all ids pass, each of them passes
pub each_id : (test : ℕ → Bool) → (ids : List ℕ) → (row : ℕ) → list_all test ids ≡ true → has_id ids row ≡ true
    → test row ≡ true
each_id test [] row all has = cc
each_id test (id ∷ ids) row all has =
    let h = and_parts _ _ all in
    ⊎_elim (λ same. subst (λ n. test n ≡ true) (eqb-true id row same) h.0) (each_id test ids row h.1) (or_cases _ _ has)

-- a test of some item of one list or another
pub any_of_both : {T : Type 0} → (test : T → Bool) (all xs ys : List T) → all ≡ xs ++ ys → list_any test all
    ≡ (list_any test xs || list_any test ys)
any_of_both test all xs ys is = ap (list_any test) is ∙ list_any-append test xs ys
