use Rattle.dk_rows.proofs.RowLemmas.{copied_more}
use Rattle.dk_columns.proofs.option_row.OptionRow.to_row.Goals as goal

pub cells-preserved : goal.cells-preserved
cells-preserved c = copied_more c.args.self.now _ _ _ _ _ c.cells.invariant c.get.ensures c.in_ok-to_value.ensures c.in_ok-push.ensures.ok
