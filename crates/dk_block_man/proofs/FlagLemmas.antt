-- Flags, and the numbers of those that are set.
use Rattle.std.specs.Prelude.{◌≡◌, ℕ, zero, suc, ◌+◌, ◌<◌, ◌≤◌, Bool, true, false, List, [], ◌∷◌, ◌++◌, length, get_or, set, replicate, refl}
use Rattle.std.proofs.Common.{sym, ◌∙◌, ap, arith}
use Rattle.std.proofs.lemmas.Bool.{eq-eqb, ne_eqb, lt-ltb, le-ltb}
use Rattle.dk_block_man.specs.Used.{used_from, is_among, least_from, with_block, without_block}

-- no number below the first is among them
pub none_below : (n m : ℕ) (flags : List Bool) → m < n → is_among (used_from n flags) m ≡ false
none_below n m [] lt = refl
none_below n m (true ∷ flags) lt =
    rw (ne_eqb n m (λ e. omega (arith, e, lt))) (none_below (n + 1) m flags (omega arith))
none_below n m (false ∷ flags) lt = none_below (n + 1) m flags (omega arith)

shifted : (n k : ℕ) → n + suc k ≡ n + 1 + k
shifted n k = omega arith

pub among : (n k : ℕ) (flags : List Bool) → is_among (used_from n flags) (n + k) ≡ get_or flags k false
among n k [] = refl
among n zero (true ∷ flags) = rw (eq-eqb n (n + 0) (omega arith)) refl
among n zero (false ∷ flags) = none_below (n + 1) (n + 0) flags (omega arith)
among n (suc k) (true ∷ flags) =
    rw (ne_eqb n (n + suc k) (λ e. omega (arith, e))) (ap (λ m. is_among (used_from (n + 1) flags) m) (shifted n k)
    ∙ among (n + 1) k flags)
among n (suc k) (false ∷ flags) = ap (λ m. is_among (used_from (n + 1) flags) m) (shifted n k) ∙ among (n + 1) k flags

-- one more stands in front of those from a later number on
with_front : (n m : ℕ) (flags : List Bool) → m < n → with_block m (used_from n flags) ≡ m ∷ used_from n flags
with_front n m [] lt = refl
with_front n m (true ∷ flags) lt = rw (lt-ltb m n lt) refl
with_front n m (false ∷ flags) lt = with_front (n + 1) m flags (omega arith)

pub used-set : (n k : ℕ) (flags : List Bool) → k < length flags → get_or flags k false ≡ false
    → used_from n (set flags k true) ≡ with_block (n + k) (used_from n flags)
used-set n k [] lt off = absurd (omega arith)
used-set n zero (true ∷ flags) lt off = cc
used-set n zero (false ∷ flags) lt off =
    let same : n ≡ n + 0 = omega arith in
    ap (λ m. m ∷ used_from (n + 1) flags) same ∙ sym (with_front (n + 1) (n + 0) flags (omega arith))
used-set n (suc k) (true ∷ flags) lt off =
    rw (le-ltb (n + suc k) n (omega arith))
    (ap (λ (l : List ℕ). n ∷ l) (used-set (n + 1) k flags (omega arith) off
    ∙ ap (λ m. with_block m (used_from (n + 1) flags)) (sym (shifted n k))))
used-set n (suc k) (false ∷ flags) lt off = used-set (n + 1) k flags (omega arith) off
    ∙ ap (λ m. with_block m (used_from (n + 1) flags)) (sym (shifted n k))

pub used-push : (n : ℕ) (flags : List Bool)
    → used_from n (flags ++ true ∷ []) ≡ with_block (n + length flags) (used_from n flags)
used-push n [] = ap (λ m. m ∷ []) (omega arith)
used-push n (true ∷ flags) =
    rw (le-ltb (n + suc (length flags)) n (omega arith))
    (ap (λ (l : List ℕ). n ∷ l) (used-push (n + 1) flags
    ∙ ap (λ m. with_block m (used_from (n + 1) flags)) (sym (shifted n (length flags)))))
used-push n (false ∷ flags) = used-push (n + 1) flags
    ∙ ap (λ m. with_block m (used_from (n + 1) flags)) (sym (shifted n (length flags)))

pub used-clear : (n k : ℕ) (flags : List Bool) → get_or flags k false ≡ true
    → used_from n (set flags k false) ≡ without_block (n + k) (used_from n flags)
used-clear n k [] on = cc
used-clear n zero (true ∷ flags) on = rw (eq-eqb n (n + 0) (omega arith)) refl
used-clear n zero (false ∷ flags) on = cc
used-clear n (suc k) (true ∷ flags) on =
    rw (ne_eqb n (n + suc k) (λ e. omega (arith, e)))
    (ap (λ (l : List ℕ). n ∷ l) (used-clear (n + 1) k flags on
    ∙ ap (λ m. without_block m (used_from (n + 1) flags)) (sym (shifted n k))))
used-clear n (suc k) (false ∷ flags) on = used-clear (n + 1) k flags on
    ∙ ap (λ m. without_block m (used_from (n + 1) flags)) (sym (shifted n k))

-- where a number isn't set, it is left out
pub used-none : (n m : ℕ) → used_from n (replicate m false) ≡ []
used-none n zero = refl
used-none n (suc m) = used-none (n + 1) m

least_at : (n m : ℕ) (flags : List Bool) → m < n → least_from m (used_from n flags) ≡ m
least_at n m [] lt = refl
least_at n m (true ∷ flags) lt = rw (ne_eqb n m (λ e. omega (arith, e, lt))) refl
least_at n m (false ∷ flags) lt = least_at (n + 1) m flags (omega arith)

pub least-is : (n place : ℕ) (flags : List Bool) → place ≤ length flags
    → ((k : ℕ) → k < place → get_or flags k false ≡ true)
    → (place < length flags → get_or flags place false ≡ false)
    → least_from n (used_from n flags) ≡ n + place
least-is n zero [] le all off = omega arith
least-is n (suc place) [] le all off = absurd (omega arith)
least-is n zero (true ∷ flags) le all off = let no = off (omega arith) in cc
least-is n zero (false ∷ flags) le all off = least_at (n + 1) n flags (omega arith) ∙ omega arith
least-is n (suc place) (true ∷ flags) le all off =
    rw (eq-eqb n n refl)
    (least-is (n + 1) place flags (omega arith) (λ k lt. all (suc k) (omega arith)) (λ lt. off (omega arith))
    ∙ sym (shifted n place))
least-is n (suc place) (false ∷ flags) le all off = let no = all 0 (omega arith) in cc
