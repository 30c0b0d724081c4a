use Rattle.dk_columns.proofs.RowLemmas.{listed_more}
use Rattle.dk_columns.proofs.option_rows.OptionRows.from_list.Goals as goal

pub rows-preserved : goal.rows-preserved
rows-preserved c = listed_more c.args.kinds.now c.args.rows.now c.rows.i _ _ _ c.get.ensures c.rows.invariant c.in_ok-push_if_there.ensures.ok
