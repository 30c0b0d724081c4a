-- The law is a lemma.
use Rattle.dk_laws.proofs.laws.others_leave_a_meaning.Goals as goal
use Rattle.dk_laws.proofs.SessionLemmas.{others_leave_a_meaning}

pub returns : goal.returns
returns c = others_leave_a_meaning
