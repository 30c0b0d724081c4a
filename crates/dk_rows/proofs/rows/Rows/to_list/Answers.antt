use Rattle.dk_rows.proofs.RowLemmas.{copied_more}
use Rattle.dk_rows.proofs.rows.Rows.to_list.Goals as goal

pub rows-preserved : goal.rows-preserved
rows-preserved c = copied_more c.args.self.now _ _ _ _ _ c.rows.invariant c.get.ensures c.in_ok-to_row.ensures c.in_ok-push.ensures.ok
