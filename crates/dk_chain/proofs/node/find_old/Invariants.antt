use Rattle.std.proofs.Common.{◌≡◌, drop}
use Rattle.dk_chain.specs.Nodes.{old_in}
use Rattle.dk_chain.proofs.node.find_old.Given as goal

abbrev pub invariant-places : goal.invariant-places
invariant-places l = old_in l.row (drop l.i l.offsets) (drop l.i l.old) ≡ old_in l.row l.offsets l.old
