-- A record is written at the end of the log, and synced.
use Rattle.std.proofs.Common.{ℕ, length, sym, subst, arith}
use Rattle.dk_device.specs.declared.device.FileId.TheVariants.{Wal}
use Rattle.dk_device.specs.Changes.{Changes}
use Rattle.dk_device.specs.Disk.{TornWrite}
use Rattle.dk_wal.proofs.AppendLemmas.{append_crash, append_done}
use Rattle.dk_wal.proofs.ChanceLemmas.{behind_sync}
use Rattle.dk_wal.proofs.changes.append.Goals as goal

pub returns-in_err-write_synced-clause-crash : goal.returns-in_err-write_synced-clause-crash
returns-in_err-write_synced-clause-crash g c =
    append_crash g.D.Disk c.args.end c.args.bytes.now c.args.disk.now c.write_synced.new.disk
    (subst (λ (n : ℕ). Changes g.D.Disk (TornWrite c.args.end (length c.args.bytes.now) n) Wal c.args.disk.now
    c.write_synced.new.disk) (sym c.requires) c.write_synced.ensures.alone.images)
    c.write_synced.result c.write_synced.ensures.calls

pub returns-clause-crash : goal.returns-clause-crash
returns-clause-crash g c =
    append_crash g.D.Disk c.args.end c.args.bytes.now c.args.disk.now c.write_synced.new.disk
    (subst (λ (n : ℕ). Changes g.D.Disk (TornWrite c.args.end (length c.args.bytes.now) n) Wal c.args.disk.now
    c.write_synced.new.disk) (sym c.requires) c.write_synced.ensures.alone.images)
    c.write_synced.result c.write_synced.ensures.calls

pub returns-clause-appended : goal.returns-clause-appended
returns-clause-appended g c = record {
  written = c.in_ok-write_synced.ensures.written;
  extent = omega (arith, c.in_ok-write_synced.ensures.grown, c.requires);
  synced = c.in_ok-write_synced.ensures.synced;
  recorded =
      append_done g.D.Disk c.args.end c.args.bytes.now c.args.disk.now c.write_synced.new.disk
      c.in_ok-write_synced.ensures.written c.in_ok-write_synced.ensures.synced
      (g.met.D.Disk.content_length c.args.disk.now Wal)
      (λ m is. g.met.D.Disk.content_left c.args.disk.now Wal m is) (sym c.requires);
  writes = λ before.
      behind_sync _ (g.D.Disk.time c.write_synced.new.disk) _ (g.D.Disk.calls c.write_synced.new.disk) c.in_ok-write_synced.ensures.calls.done.0
      c.in_ok-write_synced.ensures.calls.done.1 before;
}
