use Rattle.std.proofs.Common.{◌≡◌, ◌*◌, ◌≤◌, length, take}
use Rattle.dk_seg_run.specs.RunLength.{expanded}
use Rattle.dk_seg_run.proofs.run_length.total.Given as goal

abbrev pub invariant-runs : goal.invariant-runs
invariant-runs l = record {
  told : l.sum ≡ length (expanded (take l.run-index l.runs));
  small : l.sum ≤ 65535 * l.run-index;
}
