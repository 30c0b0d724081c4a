use Rattle.dk_rows.proofs.RowLemmas.{copied_more}
use Rattle.dk_columns.proofs.option_rows.OptionRows.to_list.Goals as goal

pub rows-preserved : goal.rows-preserved
rows-preserved c = copied_more c.args.self.now.rows _ _ _ _ _ c.rows.invariant c.get.ensures.row c.in_ok-own_row.ensures c.in_ok-push.ensures.ok
