use Rattle.std.proofs.Common.{◌≡◌, ◌+◌, ◌≤◌, length}
use Rattle.dk_seg_run.specs.RunLength.{runs_of}
use Rattle.dk_bytes.specs.PlainValue.{present}
use Rattle.dk_seg_run.proofs.run_length.run_count.Given as goal

abbrev pub invariant-runs : goal.invariant-runs
invariant-runs l = record {
  told : l.runs + length (runs_of (present l.left)) ≡ length (runs_of (present l.fn.values));
  within : l.runs + length l.left ≤ length l.fn.values;
}

abbrev pub decreases-runs : goal.decreases-runs
decreases-runs l = length l.left
