-- The law is a lemma.
use Rattle.dk_laws.proofs.row_laws.rows_fit.Goals as goal
use Rattle.dk_laws.proofs.FittingStateLemmas.{rows_fit}

pub returns : goal.returns
returns c = rows_fit
