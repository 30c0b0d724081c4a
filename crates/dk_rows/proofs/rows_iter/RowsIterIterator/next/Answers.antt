use Rattle.std.proofs.Common.{sym, ◌∙◌}
use Rattle.dk_rows.proofs.RowLemmas.{drop_next}
use Rattle.dk_rows.proofs.rows_iter.RowsIterIterator.next.Goals as goal

pub returns-clause-steps : goal.returns-clause-steps
returns-clause-steps c = sym c.self.view_is ∙ drop_next c.self.inside.rows.now c.self.inside.at c.get-row.result c.get-row.ensures
