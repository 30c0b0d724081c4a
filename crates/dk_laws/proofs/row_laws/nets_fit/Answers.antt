-- The law is a lemma.
use Rattle.dk_laws.proofs.row_laws.nets_fit.Goals as goal
use Rattle.dk_laws.proofs.FittingStateLemmas.{nets_fit}

pub returns : goal.returns
returns c = nets_fit
