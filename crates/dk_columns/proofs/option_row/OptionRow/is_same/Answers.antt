use Rattle.dk_rows.proofs.RowLemmas.{same_more}
use Rattle.dk_columns.proofs.option_row.OptionRow.is_same.Goals as goal

pub cells-preserved : goal.cells-preserved
cells-preserved c =
    same_more c.args.self.now c.args.other.now _ _ _ c.cells.invariant c.get.ensures c.get-in-cells.ensures (c.is_same.ensures.0 c.if-not-is_same.false)
