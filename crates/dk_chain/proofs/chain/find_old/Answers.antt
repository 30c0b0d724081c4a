use Rattle.std.proofs.Common.{sym, ◌∙◌}
use Rattle.dk_chain.proofs.NodeLemmas.{unseen_here}
use Rattle.dk_chain.proofs.chain.find_old.Goals as goal

pub returns-in-Some : goal.returns-in-Some
returns-in-Some c = sym (unseen_here _ _ _ _ _ _ c.nodes-test.true c.index-nodes-i.is (sym c.in-Some.is ∙ c.unseen_old.ensures)) ∙ c.nodes.invariant
