-- By the forms that a meaning has.
use Rattle.dk_laws.proofs.laws.refusals_may_be_replied.Goals as goal
use Rattle.dk_laws.proofs.KindLemmas.{refusals_may_be_replied}

pub returns : goal.returns
returns c = refusals_may_be_replied
