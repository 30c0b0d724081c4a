-- The log is replaced by its header.
use Rattle.std.proofs.Common.{List, ℕ, length, ap, subst, arith}
use Rattle.dk_device.specs.declared.device.FileId.TheVariants.{Wal}
use Rattle.dk_device.specs.Calls.{Stopped, Did, synced_replacement}
use Rattle.dk_device.specs.Changes.{HoldsOnly}
use Rattle.dk_device.proofs.CallLemmas.{makes_failed}
use Rattle.dk_header.specs.LogLayout.{log_header_bytes}
use Rattle.dk_wal.specs.Crashes.{log_reset}
use Rattle.dk_wal.proofs.CutLemmas.{reset_crash, new_fills, told_is}
use Rattle.dk_wal.proofs.ChanceLemmas.{behind_sync}
use Rattle.dk_wal.proofs.changes.reset.Goals as goal

pub returns-in_err-replace_synced-clause-crash : goal.returns-in_err-replace_synced-clause-crash
returns-in_err-replace_synced-clause-crash g c =
    reset_crash g.D.Disk c.args.disk.now c.replace_synced.new.disk
    _ (ap (λ (l : List ℕ). length l) c.log_header.ensures) c.replace_synced.ensures.alone

pub returns-clause-crash : goal.returns-clause-crash
returns-clause-crash g c =
    reset_crash g.D.Disk c.args.disk.now c.replace_synced.new.disk
    _ (ap (λ (l : List ℕ). length l) c.log_header.ensures) c.replace_synced.ensures.alone

pub returns-clause-reset : goal.returns-clause-reset
returns-clause-reset g c =
    let log = subst (λ (bytes : List ℕ). HoldsOnly g.D.Disk Wal bytes c.replace_synced.new.disk)
    c.log_header.ensures c.in_ok-replace_synced.ensures.replaced in
    record {
      log = log;
      filled = λ image left tables.
          new_fills c.args.iteration tables image (omega (arith, c.ranges.iteration.fits))
          (told_is (g.D.Disk.content c.replace_synced.new.disk Wal) image (log_header_bytes c.args.iteration)
          (log.synced image left) log.content);
      writes = λ before.
          behind_sync _ (g.D.Disk.time c.replace_synced.new.disk) _ (g.D.Disk.calls c.replace_synced.new.disk)
          c.in_ok-replace_synced.ensures.calls.done.0 c.in_ok-replace_synced.ensures.calls.done.1 before;
    }

pub returns-in_err-replace_synced-clause-calls : goal.returns-in_err-replace_synced-clause-calls
returns-in_err-replace_synced-clause-calls g c =
    makes_failed g.D.Disk (log_reset c.args.iteration) c.args.disk.now c.replace_synced.new.disk _
    c.from_residual.result c.from_residual.ensures.1
    (subst (λ (bytes : List ℕ). Stopped (synced_replacement Wal bytes) (g.D.Disk.time c.args.disk.now)
    (g.D.Disk.calls c.args.disk.now) (g.D.Disk.time c.replace_synced.new.disk)
    (g.D.Disk.calls c.replace_synced.new.disk)) c.log_header.ensures
    c.in_err-replace_synced.ensures.calls.failed)

pub returns-clause-calls : goal.returns-clause-calls
returns-clause-calls g c = record {
  done = subst (λ (bytes : List ℕ). Did (synced_replacement Wal bytes) (g.D.Disk.time c.args.disk.now)
      (g.D.Disk.calls c.args.disk.now) (g.D.Disk.time c.replace_synced.new.disk)
      (g.D.Disk.calls c.replace_synced.new.disk)) c.log_header.ensures c.in_ok-replace_synced.ensures.calls.done;
  failed = tt;
}
