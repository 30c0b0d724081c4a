-- What is left decides.
use Rattle.std.proofs.Common.{◌≡◌, length}
use Rattle.dk_core.specs.Commits.{same_schema}
use Rattle.dk_slow_rules.proofs.commits.same_schema.Given as goal

abbrev pub invariant-columns : goal.invariant-columns
invariant-columns l = same_schema l.left l.right ≡ same_schema l.fn.schema l.fn.other

abbrev pub decreases-columns : goal.decreases-columns
decreases-columns l = length l.left
