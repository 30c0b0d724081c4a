use Rattle.dk_columns.proofs.StoredLemmas.{mapped_copies}
use Rattle.dk_columns.proofs.cells.push_stored_copies.Goals as goal

pub returns-in-Numbers-clause-ok : goal.returns-in-Numbers-clause-ok
returns-in-Numbers-clause-ok c = rw c.in-Numbers.is (mapped_copies c.push_copies.result _ _ _ _ _ _ c.push_copies.ensures.ok c.number_to_keep.ensures.value)

pub returns-in-Texts-clause-ok : goal.returns-in-Texts-clause-ok
returns-in-Texts-clause-ok c = rw c.in-Texts.is (mapped_copies c.push_copies-in-Texts.result _ _ _ _ _ _ c.push_copies-in-Texts.ensures.ok c.text_to_keep.ensures)
