use Rattle.dk_rows.proofs.RowLemmas.{same_more}
use Rattle.dk_columns.proofs.cells.Cells.is_same.Goals as goal

pub values-preserved : goal.values-preserved
values-preserved c =
    same_more c.args.self.now.values c.args.other.now.values _ _ _ c.values.invariant c.get.ensures.value c.get-in-values.ensures.value (c.is_same.ensures.0 c.if-not-is_same.false)
