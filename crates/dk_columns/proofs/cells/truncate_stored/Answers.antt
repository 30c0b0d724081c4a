use Rattle.dk_columns.proofs.StoredLemmas.{mapped_front}
use Rattle.dk_columns.proofs.cells.truncate_stored.Goals as goal

pub returns-in-Numbers-clause-values : goal.returns-in-Numbers-clause-values
returns-in-Numbers-clause-values c = rw c.in-Numbers.is (mapped_front _ _ _ _ c.truncate.ensures)

pub returns-in-Texts-clause-values : goal.returns-in-Texts-clause-values
returns-in-Texts-clause-values c = rw c.in-Texts.is (mapped_front _ _ _ _ c.truncate-in-Texts.ensures)
