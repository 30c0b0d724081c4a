-- The pieces are written one after another.
use Rattle.std.proofs.Common.{append_assoc}
use Rattle.dk_types.proofs.damage.DamageDisplay.fmt.Goals as goal

pub returns-in-HeaderSum-clause-writes : goal.returns-in-HeaderSum-clause-writes
returns-in-HeaderSum-clause-writes g c = rw c.in-HeaderSum.is (simp append_assoc c.write-in-HeaderSum.ensures.writes)
