-- Each turn takes an entry.
use Rattle.std.proofs.Common.{length}
use Rattle.dk_undo.proofs.tests.ends_without_dropping.Given as goal

abbrev pub invariant-loop-number : goal.invariant-loop-number
invariant-loop-number g l = Unit {0}

abbrev pub decreases-loop-number : goal.decreases-loop-number
decreases-loop-number g l = length l.stack.entries
