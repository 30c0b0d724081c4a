use Rattle.dk_rows.proofs.RowLemmas.{same_more}
use Rattle.dk_columns.proofs.option_rows.OptionRows.has_same_rows.Goals as goal

pub rows-preserved : goal.rows-preserved
rows-preserved c =
    same_more c.args.self.now.rows c.args.other.now.rows _ _ _ c.rows.invariant c.get.ensures.row c.get-in-rows.ensures.row (c.is_same_row.ensures.0 c.if-not-is_same_row.false)
