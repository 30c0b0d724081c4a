use Rattle.dk_columns.proofs.RowLemmas.{empty_more}
use Rattle.dk_columns.proofs.option_rows.empty_columns.Goals as goal

pub kinds-preserved : goal.kinds-preserved
kinds-preserved c = empty_more c.args.kinds.now c.kinds.j _ _ _ _ c.kind_in.ensures c.kinds.invariant c.in_ok-new.ensures c.in_ok-push.ensures.items
