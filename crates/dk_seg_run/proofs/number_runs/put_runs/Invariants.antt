use Rattle.std.proofs.Common.{◌≡◌, ◌++◌, ◌≤◌, length, take, vec_len}
use Rattle.std.specs.List.{AllByRecursion, flat_map}
use Rattle.dk_seg_body.specs.Numbers.{AllStandFor, values_for}
use Rattle.dk_seg_run.specs.RunLength.{IsRun, runs_of, run_bytes}
use Rattle.dk_seg_run.proofs.number_runs.put_runs.Given as goal

abbrev pub invariant-runs : goal.invariant-runs
invariant-runs l = record {
  told : l.out.items ++ flat_map run_bytes (runs_of (values_for l.kind l.left)) ≡ l.fn.out.items ++ flat_map run_bytes (runs_of (values_for l.kind l.fn.numbers));
  stand : AllStandFor l.kind l.left;
  fits : AllByRecursion (IsRun l.kind) (runs_of (values_for l.kind l.left));
  front : take (vec_len l.fn.out) l.out.items ≡ l.fn.out.items;
  long : vec_len l.fn.out ≤ length l.out.items;
  within : length l.left ≤ length l.fn.numbers;
}

abbrev pub decreases-runs : goal.decreases-runs
decreases-runs l = length l.left
