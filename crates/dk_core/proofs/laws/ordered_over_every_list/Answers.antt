-- The law is a lemma.
use Rattle.dk_core.proofs.OrderEventLemmas.{ordered_over_every_list}
use Rattle.dk_core.proofs.laws.ordered_over_every_list.Goals as goal

pub returns : goal.returns
returns c = ordered_over_every_list
