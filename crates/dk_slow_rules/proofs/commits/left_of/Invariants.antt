-- The rows of the other parts are still to be taken away.
use Rattle.std.proofs.Common.{◌≡◌, drop}
use Rattle.dk_slow_rules.specs.Rows.{left_of}
use Rattle.dk_slow_rules.proofs.commits.left_of.Given as goal

abbrev pub invariant-loop-part : goal.invariant-loop-part
invariant-loop-part l = left_of l.table (drop l.part-index l.made) l.left ≡ left_of l.table l.made l.count
