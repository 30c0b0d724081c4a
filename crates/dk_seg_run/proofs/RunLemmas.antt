-- The runs of a list of values.
use Rattle.std.proofs.Common.{◌≡◌, ℕ, zero, suc, ◌+◌, ◌-◌, Bool, true, false, List, [], ◌∷◌, ◌++◌, length, take, drop, Option, Some, None, refl, sym, ap, subst, ◌∙◌, replicate, arith, add-one}
use Rattle.std.specs.List.{AllByRecursion, prefix_len}
use Rattle.dk_values.specs.declared.value.ColType.{ColType}
use Rattle.dk_values.specs.declared.value.Value.{Value}
use Rattle.dk_seg_run.specs.declared.run_length.Run.{Run}
use Rattle.dk_bytes.specs.PlainValue.{is_present, present, same}
use Rattle.dk_bytes.proofs.SameLemmas.{same_true, same_self}
use Rattle.dk_seg_run.specs.RunLength.{passes, expanded, run_of, with_value, runs_of, IsRun, repeats}

-- a value before the runs of the values after it, where their first run is known
pub with_same : (v : Value) (n : ℕ) (runs : List Run) → with_value v (run_of v n ∷ runs) ≡ run_of v (n + 1) ∷ runs
with_same v n runs = rw same_self refl

pub with_other : (v w : Value) (n : ℕ) (runs : List Run) → same v w ≡ false → with_value v (run_of w n ∷ runs) ≡ run_of v 1 ∷ run_of w n ∷ runs
with_other v w n runs e = rw e refl

-- the first run takes the values at the front that are the first one
pub front_run : (v : Value) (vs : List Value) → runs_of (v ∷ vs) ≡ run_of v (prefix_len (same v) vs + 1) ∷ runs_of (drop (prefix_len (same v) vs) vs)
front_run v [] = refl
front_run v (w ∷ vs) = by_test (same v w) refl (front_run v vs) (front_run w vs)
  where
    by_test : (b : Bool) → same v w ≡ b
        → with_value v (runs_of vs) ≡ run_of v (prefix_len (same v) vs + 1) ∷ runs_of (drop (prefix_len (same v) vs) vs)
        → with_value w (runs_of vs) ≡ run_of w (prefix_len (same w) vs + 1) ∷ runs_of (drop (prefix_len (same w) vs) vs)
        → runs_of (v ∷ w ∷ vs) ≡ run_of v (prefix_len (same v) (w ∷ vs) + 1) ∷ runs_of (drop (prefix_len (same v) (w ∷ vs)) (w ∷ vs))
    by_test true e here next =
        let k = prefix_len (same v) vs in
        let one : 1 + k ≡ suc k = omega arith in
        let drops : runs_of (drop (1 + k) (w ∷ vs)) ≡ runs_of (drop k vs) = ap (λ (m : ℕ). runs_of (drop m (w ∷ vs))) one in
        let left : with_value v (with_value w (runs_of vs)) ≡ run_of v (k + 1 + 1) ∷ runs_of (drop k vs)
        = ap (λ (u : Value). with_value v (with_value u (runs_of vs))) (sym (same_true v w e)) ∙ ap (with_value v) here ∙ with_same v (k + 1) (runs_of (drop k vs)) in
        let count : k + 1 + 1 ≡ 1 + k + 1 = omega arith in
        rw e (left ∙ ap (λ (m : ℕ). run_of v m ∷ runs_of (drop k vs)) count ∙ ap (λ (l : List Run). run_of v (1 + k + 1) ∷ l) (sym drops))
    by_test false e here next =
        rw e (ap (with_value v) next ∙ with_other v w _ _ e ∙ ap (λ (l : List Run). run_of v 1 ∷ l) (sym next))

-- the values that are null or the value, and of these the values that are present
pub kept_count : (v : Value) (vs : List Value) → length (present (take (prefix_len (passes v) vs) vs)) ≡ prefix_len (same v) (present vs)
kept_count v [] = refl
kept_count v (w ∷ vs) = by_test (is_present w) (same v w) refl refl (kept_count v vs)
  where
    by_test : (p s : Bool) → is_present w ≡ p → same v w ≡ s
        → length (present (take (prefix_len (passes v) vs) vs)) ≡ prefix_len (same v) (present vs)
        → length (present (take (prefix_len (passes v) (w ∷ vs)) (w ∷ vs))) ≡ prefix_len (same v) (present (w ∷ vs))
    by_test false s p e here =
        let k = prefix_len (passes v) vs in
        let one : 1 + k ≡ suc k = omega arith in
        let less : length (present (w ∷ take k vs)) ≡ length (present (take k vs)) = rw p refl in
        rw p (ap (λ (m : ℕ). length (present (take m (w ∷ vs)))) one ∙ less ∙ here)
    by_test true true p e here =
        let k = prefix_len (passes v) vs in
        let one : 1 + k ≡ suc k = omega arith in
        let more : length (present (w ∷ take k vs)) ≡ 1 + length (present (take k vs)) = rw p (omega arith) in
        rw (p, e) (ap (λ (m : ℕ). length (present (take m (w ∷ vs)))) one ∙ more ∙ ap (λ (m : ℕ). 1 + m) here)
    by_test true false p e here = rw (p, e) refl

pub kept_rest : (v : Value) (vs : List Value) → present (drop (prefix_len (passes v) vs) vs) ≡ drop (prefix_len (same v) (present vs)) (present vs)
kept_rest v [] = refl
kept_rest v (w ∷ vs) = by_test (is_present w) (same v w) refl refl (kept_rest v vs)
  where
    by_test : (p s : Bool) → is_present w ≡ p → same v w ≡ s
        → present (drop (prefix_len (passes v) vs) vs) ≡ drop (prefix_len (same v) (present vs)) (present vs)
        → present (drop (prefix_len (passes v) (w ∷ vs)) (w ∷ vs)) ≡ drop (prefix_len (same v) (present (w ∷ vs))) (present (w ∷ vs))
    by_test false s p e here =
        let k = prefix_len (passes v) vs in
        let one : 1 + k ≡ suc k = omega arith in
        rw p (ap (λ (m : ℕ). present (drop m (w ∷ vs))) one ∙ here)
    by_test true true p e here =
        let k = prefix_len (passes v) vs in
        let one : 1 + k ≡ suc k = omega arith in
        let j = prefix_len (same v) (present vs) in
        let two : suc j ≡ 1 + j = omega arith in
        rw (p, e) (ap (λ (m : ℕ). present (drop m (w ∷ vs))) one ∙ here ∙ ap (λ (m : ℕ). drop m (w ∷ present vs)) two)
    by_test true false p e here = rw (p, e) (rw p refl)

pub first_run : (n count : ℕ) (v : Value) (vs front behind : List Value) → n ≡ prefix_len (passes v) vs → front ≡ take n vs → behind ≡ drop n vs → count ≡ length (present front)
    → runs_of (v ∷ present vs) ≡ run_of v (count + 1) ∷ runs_of (present behind)
first_run n count v vs front behind e f b c =
    let number : count ≡ prefix_len (same v) (present vs) = c ∙ ap (λ (l : List Value). length (present l)) (f ∙ ap (λ (m : ℕ). take m vs) e) ∙ kept_count v vs in
    let rest : present behind ≡ drop (prefix_len (same v) (present vs)) (present vs) = ap present (b ∙ ap (λ (m : ℕ). drop m vs) e) ∙ kept_rest v vs in
    rw (number, rest) (front_run v (present vs))

-- the runs stand for the values
expanded-with : (v : Value) (runs : List Run) → expanded (with_value v runs) ≡ v ∷ expanded runs
expanded-with v [] = refl
expanded-with v (run ∷ runs) = by_test (same v run.value) refl
  where
    by_test : (b : Bool) → same v run.value ≡ b → expanded (with_value v (run ∷ runs)) ≡ v ∷ expanded (run ∷ runs)
    by_test true e =
        let more : replicate (run.count + 1) run.value ≡ v ∷ replicate run.count run.value
        = ap (λ (m : ℕ). replicate m run.value) (add-one run.count) ∙ ap (λ (u : Value). u ∷ replicate run.count run.value) (sym (same_true v run.value e)) in
        rw e (ap (λ (l : List Value). l ++ expanded runs) more)
    by_test false e = rw e refl

pub expanded-runs_of : (vs : List Value) → expanded (runs_of vs) ≡ vs
expanded-runs_of [] = refl
expanded-runs_of (v ∷ vs) = expanded-with v (runs_of vs) ∙ ap (λ l. v ∷ l) (expanded-runs_of vs)

-- no run has the value of the run before it
abbrev pub Apart : Option Value → List Run → Type 0
Apart last [] = Unit {0}
Apart last (run ∷ runs) = (repeats last run.value ≡ false) × Apart (Some run.value) runs

apart-with : (v : Value) (runs : List Run) → Apart None runs → Apart None (with_value v runs)
apart-with v [] h = (refl, tt)
apart-with v (run ∷ runs) h = by_test (same v run.value) refl
  where
    by_test : (b : Bool) → same v run.value ≡ b → Apart None (with_value v (run ∷ runs))
    by_test true e = rw e (refl, h.1)
    by_test false e = rw e (refl, (e, h.1))

pub apart-runs_of : (vs : List Value) → Apart None (runs_of vs)
apart-runs_of [] = tt
apart-runs_of (v ∷ vs) = apart-with v (runs_of vs) (apart-runs_of vs)

-- runs that are read: each fits, and none has the value of the run before it
abbrev pub AreRuns : ColType → Option Value → List Run → Type 0
AreRuns kind last [] = Unit {0}
AreRuns kind last (run ∷ runs) = IsRun kind run × (repeats last run.value ≡ false) × AreRuns kind (Some run.value) runs

abbrev fresh : Value → List Run → Type 0
fresh v [] = Unit {0}
fresh v (run ∷ runs) = same v run.value ≡ false

fresh-AreRuns : (kind : ColType) (v : Value) (runs : List Run) → AreRuns kind (Some v) runs → fresh v runs
fresh-AreRuns kind v [] h = tt
fresh-AreRuns kind v (run ∷ runs) h = h.1

runs-front : (n : ℕ) (v : Value) (vs : List Value) (runs : List Run) → runs_of vs ≡ runs → fresh v runs → runs_of (replicate (suc n) v ++ vs) ≡ run_of v (suc n) ∷ runs
runs-front zero v vs [] e f = ap (with_value v) e
runs-front zero v vs (run ∷ runs) e f = ap (with_value v) e ∙ rw f refl
runs-front (suc n) v vs runs e f = ap (with_value v) (runs-front n v vs runs e f) ∙ with_same v (suc n) runs ∙ ap (λ (m : ℕ). run_of v m ∷ runs) (add-one (suc n))

-- the values that such runs stand for have these runs
pub runs_of-expanded : (kind : ColType) (last : Option Value) (runs : List Run) → AreRuns kind last runs → runs_of (expanded runs) ≡ runs
runs_of-expanded kind last [] h = refl
runs_of-expanded kind last (run ∷ runs) h =
    let n : run.count ≡ suc (run.count - 1) = omega (arith, h.0.some) in
    subst (λ (m : ℕ). runs_of (replicate m run.value ++ expanded runs) ≡ run_of run.value m ∷ runs) (sym n)
    (runs-front (run.count - 1) run.value (expanded runs) runs (runs_of-expanded kind (Some run.value) runs h.2) (fresh-AreRuns kind run.value runs h.2))

pub All-AreRuns : (kind : ColType) (last : Option Value) (runs : List Run) → AllByRecursion (IsRun kind) runs → Apart last runs → AreRuns kind last runs
All-AreRuns kind last [] h a = tt
All-AreRuns kind last (run ∷ runs) h a = (h.0, a.0, All-AreRuns kind (Some run.value) runs h.1 a.1)

pub AreRuns-All : (kind : ColType) (last : Option Value) (runs : List Run) → AreRuns kind last runs → AllByRecursion (IsRun kind) runs
AreRuns-All kind last [] h = tt
AreRuns-All kind last (run ∷ runs) h = (h.0, AreRuns-All kind (Some run.value) runs h.2)
