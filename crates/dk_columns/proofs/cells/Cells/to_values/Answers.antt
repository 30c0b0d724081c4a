use Rattle.dk_rows.proofs.RowLemmas.{copied_more}
use Rattle.dk_columns.proofs.cells.Cells.to_values.Goals as goal

pub values-preserved : goal.values-preserved
values-preserved c = copied_more c.args.self.now.values _ _ _ _ _ c.values.invariant c.get.ensures.value c.in_ok-to_value.ensures c.in_ok-push.ensures.ok
