use Rattle.std.proofs.Common.{◌≡◌, take, false}
use Rattle.dk_chain.specs.Nodes.{has_stamp}
use Rattle.dk_chain.proofs.chain.stamp_oldest.Given as goal

abbrev pub invariant-nodes : goal.invariant-nodes
invariant-nodes l = (l.nodes.items ≡ l.fn.nodes.items) × (has_stamp l.from (take l.i l.nodes.items) ≡ false)
