-- A cut, and the sync behind it.
use Rattle.dk_device.specs.declared.device.FileId.TheVariants.{Wal}
use Rattle.dk_wal.proofs.CutLemmas.{cut_crash, cut_done}
use Rattle.dk_wal.proofs.ChanceLemmas.{behind_sync}
use Rattle.dk_wal.proofs.changes.cut_tail.Goals as goal

pub returns-in_err-cut_synced-clause-crash : goal.returns-in_err-cut_synced-clause-crash
returns-in_err-cut_synced-clause-crash g c =
    cut_crash g.D.Disk c.args.disk.now c.cut_synced.new.disk c.args.end c.cut_synced.ensures.alone

pub returns-clause-crash : goal.returns-clause-crash
returns-clause-crash g c =
    cut_crash g.D.Disk c.args.disk.now c.cut_synced.new.disk c.args.end c.cut_synced.ensures.alone

pub returns-clause-cut : goal.returns-clause-cut
returns-clause-cut g c = record {
  content = c.in_ok-cut_synced.ensures.cut;
  extent = c.in_ok-cut_synced.ensures.shrunk;
  synced = c.in_ok-cut_synced.ensures.synced;
  filled =
      cut_done g.D.Disk c.args.disk.now c.cut_synced.new.disk c.args.end c.cut_synced.ensures.alone
      c.in_ok-cut_synced.ensures.synced (g.met.D.Disk.content_length c.cut_synced.new.disk Wal)
      c.in_ok-cut_synced.ensures.shrunk;
  writes = λ before.
      behind_sync _ (g.D.Disk.time c.cut_synced.new.disk) _ (g.D.Disk.calls c.cut_synced.new.disk) c.in_ok-cut_synced.ensures.calls.done.0
      c.in_ok-cut_synced.ensures.calls.done.1 before;
}
