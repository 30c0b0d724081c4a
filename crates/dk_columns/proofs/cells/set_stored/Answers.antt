use Rattle.dk_columns.proofs.StoredLemmas.{mapped_set}
use Rattle.dk_columns.proofs.cells.set_stored.Goals as goal

pub returns-in-Numbers-clause-ok : goal.returns-in-Numbers-clause-ok
returns-in-Numbers-clause-ok c = rw c.in-Numbers.is (mapped_set c.set.result _ _ _ _ _ _ c.set.ensures.ok c.number_to_keep.ensures.value)

pub returns-in-Texts-clause-ok : goal.returns-in-Texts-clause-ok
returns-in-Texts-clause-ok c = rw c.in-Texts.is (mapped_set c.set-in-Texts.result _ _ _ _ _ _ c.set-in-Texts.ensures.ok c.text_to_keep.ensures)
