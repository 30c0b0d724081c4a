use Rattle.dk_columns.proofs.ColumnLemmas.{appended_more}
use Rattle.dk_columns.proofs.cells.Cells.append.Goals as goal

pub values-preserved : goal.values-preserved
values-preserved c = appended_more c.args.self.now _ _ c.args.more.now.values _ _ c.values.invariant c.get.ensures.value c.in_default.ensures.ok
