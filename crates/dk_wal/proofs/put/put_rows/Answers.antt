use Rattle.dk_bytes.specs.RowFields.{row_bytes}
use Rattle.dk_wal.specs.Writable.{AreShort}
use Rattle.dk_wal.proofs.PutLemmas.{put_step, all_from}
use Rattle.dk_wal.proofs.put.put_rows.Goals as goal

pub rows-preserved : goal.rows-preserved
rows-preserved c = record {
  told = put_step row_bytes c.args.rows.now c.rows.i _ _ _ _ c.get.ensures c.rows.invariant.told
      c.in_ok-put_lent.ensures;
  short = (all_from AreShort c.args.rows.now c.rows.i _ c.get.ensures c.rows.invariant.short).1;
}
