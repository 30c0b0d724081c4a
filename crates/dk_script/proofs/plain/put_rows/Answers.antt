-- The next row was put.
use Rattle.dk_script.proofs.RowLemmas.{row_put}
use Rattle.dk_script.proofs.plain.put_rows.Goals as goal

pub rows-preserved : goal.rows-preserved
rows-preserved c = row_put c.rows.out.items c.put_row.new.out.items _ c.args.rows.now c.rows.i _
    c.in_ok-put_row.ensures.ok c.get.ensures c.rows.invariant
