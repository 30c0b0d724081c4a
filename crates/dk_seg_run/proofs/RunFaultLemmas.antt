-- A fault of a body of one value or of runs stands at most at the body's length.
use Rattle.std.proofs.Common.{ℕ, zero, suc, ◌-◌, ◌≤◌, cond, eqb, List, length, Option, Some, None, Ok, Err, arith}
use Rattle.std.specs.Int.{w16, w32}
use Rattle.dk_values.specs.declared.value.ColType.{ColType}
use Rattle.dk_values.specs.declared.value.Value.{Value}
use Rattle.dk_bytes.specs.Fields.{Place, number_at}
use Rattle.dk_bytes.specs.PlainValue.{value_at}
use Rattle.dk_bytes.specs.Reading.{start, whole}
use Rattle.dk_bytes.proofs.FaultPlaceLemmas.{end_of, FailsBy, Within, Inside, bind_bounded, chosen_bounded, guard_bounded, number_within, value_within, whole_bounded}
use Rattle.dk_seg_run.specs.declared.run_length.Run.{Run}
use Rattle.dk_seg_run.specs.Constant.{constant_at}
use Rattle.dk_seg_run.specs.RunLength.{run_of, repeats, expanded, run_at, runs_at, closed, run_length_at}

pub constant_within : (kind : ColType) (count : ℕ) (bytes : List ℕ) → FailsBy (length bytes) (constant_at kind count bytes)
unfolding constant_at
constant_within kind zero bytes = omega arith
constant_within kind (suc n) bytes =
    bind_bounded (length bytes) (λ (_ : Value). Unit {0}) (λ (_ : List Value). Unit {0}) (whole (value_at kind (start bytes))) _
    (whole_bounded (length bytes) (value_at kind (start bytes)) (value_within (length bytes) kind (start bytes) (omega arith)))
    (λ value k. tt)

run_within : (end : ℕ) (kind : ColType) (last : Option Value) (p : Place) → end_of p ≤ end → Within end (run_at kind last p)
unfolding run_at
run_within end kind last p h =
    bind_bounded end (Inside end) (Inside end) (value_at kind p) _ (value_within end kind p h)
    (λ value k. bind_bounded end (Inside {A = Value} end) (Inside {A = Run} end) (cond (repeats last value.0) (Err p.at) (Ok value)) _ (guard_bounded end (Inside {A = Value} end) (repeats last value.0) (Ok value) p.at k (omega arith))
    (λ fresh l. bind_bounded end (Inside end) (Inside end) (number_at w16 fresh.1) _ (number_within end w16 fresh.1 l)
    (λ count m. guard_bounded end (Inside {A = Run} end) (eqb count.0 0) (Ok (run_of fresh.0 count.0, count.1)) fresh.1.at m (omega arith))))

runs_within : (end : ℕ) (kind : ColType) (last : Option Value) (n : ℕ) (p : Place) → end_of p ≤ end → Within end (runs_at kind last n p)
runs_within end kind last zero p h = h
runs_within end kind last (suc n) p h =
    bind_bounded end (Inside end) (Inside end) (run_at kind last p) _ (run_within end kind last p h)
    (λ run k. bind_bounded end (Inside end) (Inside end) (runs_at kind (Some run.0.value) n run.1) _ (runs_within end kind (Some run.0.value) n run.1 k)
    (λ others l. l))

closed_within : (end count : ℕ) (runs : List Run × Place) → end_of runs.1 ≤ end → FailsBy end (closed count runs)
closed_within end count runs h =
    chosen_bounded end (λ (_ : List Value). Unit {0}) (eqb (length (expanded runs.0)) count) (cond (eqb (length runs.1.rest) 0) (Ok (expanded runs.0)) (Err runs.1.at)) (runs.1.at - 2)
    (chosen_bounded end (λ (_ : List Value). Unit {0}) (eqb (length runs.1.rest) 0) (Ok (expanded runs.0)) runs.1.at tt (omega arith))
    (omega arith)

pub runs_within_body : (kind : ColType) (count : ℕ) (bytes : List ℕ) → FailsBy (length bytes) (run_length_at kind count bytes)
unfolding run_length_at
runs_within_body kind count bytes =
    bind_bounded (length bytes) (Inside (length bytes)) (λ (_ : List Value). Unit {0}) (number_at w32 (start bytes)) _ (number_within (length bytes) w32 (start bytes) (omega arith))
    (λ n k. bind_bounded (length bytes) (Inside {A = ℕ} (length bytes)) (λ (_ : List Value). Unit {0}) (cond (eqb n.0 0) (Err 0) (Ok n)) _ (guard_bounded (length bytes) (Inside {A = ℕ} (length bytes)) (eqb n.0 0) (Ok n) 0 k (omega arith))
    (λ some l. bind_bounded (length bytes) (Inside (length bytes)) (λ (_ : List Value). Unit {0}) (runs_at kind None some.0 some.1) _ (runs_within (length bytes) kind None some.0 some.1 l)
    (λ runs m. closed_within (length bytes) count runs m)))
