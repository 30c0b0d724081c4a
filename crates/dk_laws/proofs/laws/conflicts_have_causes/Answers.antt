-- The law is a lemma.
use Rattle.dk_laws.proofs.laws.conflicts_have_causes.Goals as goal
use Rattle.dk_laws.proofs.ConflictLemmas.{conflicts_have_causes}

pub returns : goal.returns
returns c = conflicts_have_causes
