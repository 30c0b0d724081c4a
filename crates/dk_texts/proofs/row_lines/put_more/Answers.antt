-- A comma and the next value were put.
use Rattle.dk_texts.proofs.RowLemmas.{value_put}
use Rattle.dk_texts.proofs.row_lines.put_more.Goals as goal

pub cells-preserved : goal.cells-preserved
cells-preserved c =
    value_put c.cells.out.items c.put.new.out.items c.put_cell.new.out.items _ c.args.row.now c.cells.j _
    c.in_ok-put.ensures.ok c.in_ok-put_cell.ensures.ok c.get.ensures c.cells.invariant
