use Rattle.dk_rows.proofs.RowLemmas.{copied_more}
use Rattle.dk_rows.proofs.rows.Rows.from_list.Goals as goal

pub rows-preserved : goal.rows-preserved
rows-preserved c = copied_more c.args.rows.now _ _ _ _ _ c.rows.invariant c.get.ensures c.as_slice.ensures c.in_ok-push_slice.ensures.ok
