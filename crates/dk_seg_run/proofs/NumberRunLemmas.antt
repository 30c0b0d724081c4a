-- The runs of numbers are those of the values that they stand for.
use Rattle.std.proofs.Common.{◌≡◌, ◌⊎◌, inl, inr, ℕ, ℤ, pos, zero, suc, ◌+◌, Bool, true, false, cond, List, [], ◌∷◌, length, map, drop, Some, refl, ap, sym, ◌∙◌, subst, arith}
use Rattle.std.specs.List.{AllByRecursion, prefix_len}
use Rattle.std.specs.Ordering.{int_eq}
use Rattle.dk_values.specs.declared.value.ColType.{ColType}
use Rattle.dk_values.specs.declared.value.ColType.TheVariants as types
use Rattle.dk_values.specs.declared.value.Value.{Value}
use Rattle.dk_bytes.specs.PlainValue.{same}
use Rattle.dk_bytes.proofs.SameLemmas.{same_self, same_true}
use Rattle.dk_seg_body.specs.Numbers.{StandsFor, AllStandFor, value_for, values_for}
use Rattle.dk_seg_run.specs.declared.run_length.Run.{Run}
use Rattle.dk_seg_run.specs.RunLength.{run_of, runs_of, with_value}
use Rattle.dk_seg_run.specs.NumberRuns.{run_count, runs_in, run_len, behind_run}
use Rattle.dk_seg_run.proofs.RunLemmas.{front_run, with_same, with_other}

-- the values are one where the numbers are one
pub same_numbers : (kind : ColType) (m n : ℤ) → StandsFor kind m → StandsFor kind n → same (value_for kind m) (value_for kind n) ≡ int_eq m n
same_numbers types.Bool m n h k = truths h k
  where
    truths : (m ≡ pos 0) ⊎ (m ≡ pos 1) → (n ≡ pos 0) ⊎ (n ≡ pos 1) → same (value_for types.Bool m) (value_for types.Bool n) ≡ int_eq m n
    truths (inl e) (inl f) = rw (e, f) refl
    truths (inl e) (inr f) = rw (e, f) refl
    truths (inr e) (inl f) = rw (e, f) refl
    truths (inr e) (inr f) = rw (e, f) refl
same_numbers types.Int m n h k = refl
same_numbers types.Big m n h k = refl
same_numbers types.Text m n h k = absurd h

-- a value before a value that is another one begins a run
next_run : (v w : Value) (vs : List Value) → length (runs_of (v ∷ w ∷ vs)) ≡ cond (same v w) 0 1 + length (runs_of (w ∷ vs))
next_run v w vs = by_test (same v w) refl
  where
    k : ℕ
    k = prefix_len (same w) vs

    by_test : (b : Bool) → same v w ≡ b → length (runs_of (v ∷ w ∷ vs)) ≡ cond (same v w) 0 1 + length (runs_of (w ∷ vs))
    by_test true e =
        let one : v ≡ w = same_true v w e in
        let runs = front_run w vs in
        rw (e, one) (ap (λ (l : List Run). length (with_value w l)) runs ∙ ap length (with_same w (k + 1) (runs_of (drop k vs))) ∙ sym (ap (λ (l : List Run). 0 + length l) runs ∙ omega arith))
    by_test false e =
        let runs = front_run w vs in
        rw e (ap (λ (l : List Run). length (with_value v l)) runs ∙ ap length (with_other v w (k + 1) (runs_of (drop k vs)) e) ∙ sym (ap (λ (l : List Run). 1 + length l) runs ∙ omega arith))

-- the first run of numbers
pub first_number_run : (kind : ColType) (n : ℤ) (ns : List ℤ) → AllStandFor kind (n ∷ ns) → runs_of (values_for kind (n ∷ ns)) ≡ run_of (value_for kind n) (run_len n ns) ∷ runs_of (values_for kind (behind_run n ns))
first_number_run kind n [] all = refl
first_number_run kind n (m ∷ ms) all = by_test (int_eq n m) refl (first_number_run kind n ms (all.0, all.1.1)) (first_number_run kind m ms all.1)
  where
    v : Value
    v = value_for kind n

    w : Value
    w = value_for kind m

    by_test : (b : Bool) → int_eq n m ≡ b
        → runs_of (v ∷ values_for kind ms) ≡ run_of v (run_len n ms) ∷ runs_of (values_for kind (behind_run n ms))
        → runs_of (w ∷ values_for kind ms) ≡ run_of w (run_len m ms) ∷ runs_of (values_for kind (behind_run m ms))
        → runs_of (v ∷ w ∷ values_for kind ms) ≡ run_of v (run_len n (m ∷ ms)) ∷ runs_of (values_for kind (behind_run n (m ∷ ms)))
    by_test true e here next =
        let one : v ≡ w = same_true v w (same_numbers kind n m all.0 all.1.0 ∙ e) in
        rw e (ap (λ (u : Value). with_value v (runs_of (u ∷ values_for kind ms))) (sym one) ∙ ap (with_value v) here ∙ with_same v (run_len n ms) (runs_of (values_for kind (behind_run n ms))))
    by_test false e here next =
        rw e (ap (with_value v) next ∙ with_other v w _ _ (same_numbers kind n m all.0 all.1.0 ∙ e) ∙ ap (λ (l : List Run). run_of v 1 ∷ l) (sym next))

pub behind_stands : (kind : ColType) (n : ℤ) (ns : List ℤ) → AllStandFor kind ns → AllStandFor kind (behind_run n ns)
behind_stands kind n [] all = tt
behind_stands kind n (m ∷ ms) all = by_test (int_eq n m) refl (behind_stands kind n ms all.1)
  where
    by_test : (b : Bool) → int_eq n m ≡ b → AllStandFor kind (behind_run n ms) → AllStandFor kind (behind_run n (m ∷ ms))
    by_test true e ih = rw e ih
    by_test false e ih = rw e all

runs_behind : (kind : ColType) (n : ℤ) (ns : List ℤ) → AllStandFor kind (n ∷ ns) → length (runs_of (values_for kind (n ∷ ns))) ≡ run_count n ns
runs_behind kind n [] all = refl
runs_behind kind n (m ∷ ms) all =
    next_run (value_for kind n) (value_for kind m) (values_for kind ms)
    ∙ ap (λ (b : Bool). cond b 0 1 + length (runs_of (values_for kind (m ∷ ms)))) (same_numbers kind n m all.0 all.1.0)
    ∙ ap (λ (k : ℕ). cond (int_eq n m) 0 1 + k) (runs_behind kind m ms all.1)

-- how many runs the values have
pub runs_counted : (kind : ColType) (ns : List ℤ) → AllStandFor kind ns → length (runs_of (values_for kind ns)) ≡ runs_in ns
runs_counted kind [] all = refl
runs_counted kind (n ∷ ns) all = runs_behind kind n ns all
