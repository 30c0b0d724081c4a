use Rattle.std.proofs.Common.{◌≡◌, ◌-◌, drop, length, false}
use Rattle.dk_chain.specs.Nodes.{has_stamp}
use Rattle.dk_chain.proofs.chain.stamp_newest.Given as goal

abbrev pub invariant-nodes : goal.invariant-nodes
invariant-nodes l = (l.nodes.items ≡ l.fn.nodes.items) × (has_stamp l.from (drop (length l.nodes.items - l.k) l.nodes.items) ≡ false)
