use Rattle.dk_bytes.specs.RowFields.{cell_bytes}
use Rattle.dk_wal.specs.Writable.{IsShort}
use Rattle.dk_wal.proofs.PutLemmas.{put_step, all_from}
use Rattle.dk_wal.proofs.put.put_lent.Goals as goal

pub cells-preserved : goal.cells-preserved
cells-preserved c = record {
  told = put_step cell_bytes c.args.row.now c.cells.j _ _ _ _ c.get.ensures c.cells.invariant.told
      c.in_ok-put_cell.ensures;
  short = (all_from IsShort c.args.row.now c.cells.j _ c.get.ensures c.cells.invariant.short).1;
}
