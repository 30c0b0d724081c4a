use Rattle.std.proofs.Common.{◌≡◌, take, length, ◌-◌}
use Rattle.dk_chain.specs.Nodes.{nodes_at, newest_stamp}
use Rattle.dk_chain.proofs.chain.find_newest.Given as goal

abbrev pub invariant-nodes : goal.invariant-nodes
invariant-nodes l = newest_stamp (nodes_at l.row (take (length l.nodes - l.k) l.nodes)) ≡ newest_stamp (nodes_at l.row l.nodes)
