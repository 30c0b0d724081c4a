use Rattle.dk_rows.proofs.RowLemmas.{row_ended}
use Rattle.dk_rows.proofs.rows.push_row.Goals as goal

pub returns-clause-ends : goal.returns-clause-ends
returns-clause-ends c =
    (row_ended c.end_row.result _ _ _ _ _ _ _ c.requires c.len-before.ensures c.in_ok-push_values.ensures.ok c.end_row.ensures.same c.end_row.ensures.ended c.end_row.ensures.back c.end_row.ensures.err).0

pub returns-clause-ok : goal.returns-clause-ok
returns-clause-ok c =
    (row_ended c.end_row.result _ _ _ _ _ _ _ c.requires c.len-before.ensures c.in_ok-push_values.ensures.ok c.end_row.ensures.same c.end_row.ensures.ended c.end_row.ensures.back c.end_row.ensures.err).1
