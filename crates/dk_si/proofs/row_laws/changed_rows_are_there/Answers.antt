-- The law is a lemma.
use Rattle.dk_si.proofs.row_laws.changed_rows_are_there.Goals as goal
use Rattle.dk_si.proofs.PresentLemmas.{changed_rows_are_there}

pub returns : goal.returns
returns c = changed_rows_are_there
