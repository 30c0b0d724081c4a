use Rattle.std.proofs.Common.{◌≡◌, ◌+◌, ◌*◌, ◌^◌, ◌<◌, ◌≤◌, ◌↔◌, length}
use Rattle.std.specs.List.{AllByRecursion, flat_map}
use Rattle.dk_seg_run.specs.RunLength.{IsRun, runs_of, run_bytes}
use Rattle.dk_bytes.specs.PlainValue.{present}
use Rattle.dk_seg_run.proofs.run_length.runs_len.Given as goal

abbrev pub invariant-runs : goal.invariant-runs
invariant-runs l = record {
  told : l.len + length (flat_map run_bytes (runs_of (present l.left))) ≡ length (flat_map run_bytes (runs_of (present l.fn.values)));
  fits : AllByRecursion (IsRun l.kind) (runs_of (present l.fn.values)) ↔ AllByRecursion (IsRun l.kind) (runs_of (present l.left));
  count : l.runs + length (runs_of (present l.left)) ≡ length (runs_of (present l.fn.values));
  small : l.len ≤ 65539 * l.runs;
  few : l.runs < 2 ^ 32;
}

abbrev pub decreases-runs : goal.decreases-runs
decreases-runs l = length l.left
