-- What is left decides.
use Rattle.std.proofs.Common.{◌≡◌, length}
use lib.Pointwise.{pointwise}
use Rattle.dk_legal.proofs.same.all_same.Given as goal

abbrev pub invariant-items : goal.invariant-items
invariant-items g l = pointwise g.T.Same.same l.left l.right ≡ pointwise g.T.Same.same l.fn.items l.fn.others

abbrev pub decreases-items : goal.decreases-items
decreases-items g l = length l.left
