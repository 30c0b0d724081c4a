-- The values so far, and those that the flags left and the present values left stand for.
use Rattle.std.proofs.Common.{◌≡◌, ◌++◌, ◌≤◌, drop}
use Rattle.dk_segment.specs.Segment.{with_nulls}
use Rattle.dk_segment.proofs.present.push_with_nulls.Given as goal

abbrev pub invariant-flags : goal.invariant-flags
invariant-flags l = record {
  kind : l.cells.kind ≡ l.fn.cells.kind;
  told : l.cells.values ++ with_nulls (drop l.flag-index l.flags) (drop l.at l.present.values) ≡ l.fn.cells.values ++ with_nulls l.flags l.present.values;
  few : l.at ≤ l.flag-index;
}
