-- The law is a lemma.
use Rattle.dk_laws.proofs.row_laws.commits_fit.Goals as goal
use Rattle.dk_laws.proofs.FittingStateLemmas.{commits_fit}

pub returns : goal.returns
returns c = commits_fit
