use Rattle.std.proofs.Common.{◌≡◌, ◌++◌, take}
use Rattle.dk_seg_run.specs.RunLength.{expanded}
use Rattle.dk_seg_run.proofs.run_length.expand.Given as goal

abbrev pub invariant-runs : goal.invariant-runs
invariant-runs l = record {
  kind : l.cells.kind ≡ l.fn.cells.kind;
  values : l.cells.values ≡ l.fn.cells.values ++ expanded (take l.run-index l.runs);
}
