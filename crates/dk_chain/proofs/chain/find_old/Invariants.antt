use Rattle.std.proofs.Common.{◌≡◌, drop}
use Rattle.dk_stamp.specs.Sees.{sees}
use Rattle.dk_chain.specs.Nodes.{nodes_at, oldest_unseen}
use Rattle.dk_chain.proofs.chain.find_old.Given as goal

abbrev pub invariant-nodes : goal.invariant-nodes
invariant-nodes l = oldest_unseen (sees l.snapshot) (nodes_at l.row (drop l.i l.nodes)) ≡ oldest_unseen (sees l.snapshot) (nodes_at l.row l.nodes)
