-- The values so far.
use Rattle.std.proofs.Common.{◌≡◌, take}
use Rattle.dk_plain_engine.proofs.now.exact_row.Given as goal

abbrev pub invariant-loop-value : goal.invariant-loop-value
invariant-loop-value l = l.values.items ≡ take l.value-index l.row
