-- What is copied, and what is left to look at.
use Rattle.std.proofs.Common.{◌≡◌, ◌++◌, length}
use Rattle.dk_plain.specs.Runs.{below, behind}
use Rattle.dk_plain.proofs.runs.copy_below.Given as goal

abbrev pub invariant-items : goal.invariant-items
invariant-items g l =
    (l.all.items ++ below g.T.Keyed.key l.bound l.left ≡ l.fn.all.items ++ below g.T.Keyed.key l.bound l.items)
    × (behind g.T.Keyed.key l.bound l.left ≡ behind g.T.Keyed.key l.bound l.items)

abbrev pub decreases-items : goal.decreases-items
decreases-items g l = length l.left
