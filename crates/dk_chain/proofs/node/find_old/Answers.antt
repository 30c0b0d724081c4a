use Rattle.std.proofs.Common.{arith}
use Rattle.dk_chain.proofs.FindLemmas.{old_next, old_here, old_short}
use Rattle.dk_chain.proofs.node.find_old.Goals as goal

pub returns-then-i-len : goal.returns-then-i-len
returns-then-i-len c = grind (arith, old_short, c.places.invariant)

pub returns-then-offsets-i : goal.returns-then-offsets-i
returns-then-offsets-i c = grind (arith, old_here, c.places.invariant, c.get.ensures)

pub places-preserved : goal.places-preserved
places-preserved c = grind (arith, old_next, c.places.invariant)
