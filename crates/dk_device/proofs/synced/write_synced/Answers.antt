-- A write, and the sync behind it.
use Rattle.std.specs.Prelude.{length}
use Rattle.dk_device.specs.declared.calls.Request.TheVariants.{Write, Sync}
use Rattle.dk_device.specs.Calls.{synced_write}
use Rattle.dk_device.proofs.CallLemmas.{first_failed, second_failed, both_done, makes_failed, tried}
use Rattle.dk_device.proofs.ChangeLemmas.{write_alone, alone_settled}
use Rattle.dk_device.proofs.synced.write_synced.Goals as goal

pub returns-in_err-write_at-clause-alone : goal.returns-in_err-write_at-clause-alone
returns-in_err-write_at-clause-alone g c =
    write_alone g.D.Disk c.args.file c.args.disk.now c.write_at.new.self c.write_at.ensures.writes.other_file
    c.write_at.ensures.call.time c.args.at (length c.args.bytes.now) c.write_at.ensures.writes.crash

pub returns-in_err-sync-clause-alone : goal.returns-in_err-sync-clause-alone
returns-in_err-sync-clause-alone g c =
    alone_settled g.D.Disk _ c.args.file c.args.disk.now c.write_at.new.self c.sync.new.self
    (write_alone g.D.Disk c.args.file c.args.disk.now c.write_at.new.self c.write_at.ensures.writes.other_file
    c.write_at.ensures.call.time c.args.at (length c.args.bytes.now) c.write_at.ensures.writes.crash)
    c.sync.ensures.settles c.sync.ensures.call.time

pub returns-clause-alone : goal.returns-clause-alone
returns-clause-alone g c =
    alone_settled g.D.Disk _ c.args.file c.args.disk.now c.write_at.new.self c.sync.new.self
    (write_alone g.D.Disk c.args.file c.args.disk.now c.write_at.new.self c.write_at.ensures.writes.other_file
    c.write_at.ensures.call.time c.args.at (length c.args.bytes.now) c.write_at.ensures.writes.crash)
    c.sync.ensures.settles c.sync.ensures.call.time

pub returns-in_err-write_at-clause-calls : goal.returns-in_err-write_at-clause-calls
returns-in_err-write_at-clause-calls g c =
    makes_failed g.D.Disk (synced_write c.args.file c.args.at c.args.bytes.now) c.args.disk.now c.write_at.new.self
    _ c.from_residual.result c.from_residual.ensures.1
    (first_failed (c.args.file, Write c.args.at c.args.bytes.now) (c.args.file, Sync)
    _ _ _ _ c.write_at.ensures.call.time.next (tried _ _ _ c.in_err-write_at.ensures.call.calls.failed))

pub returns-in_err-sync-clause-calls : goal.returns-in_err-sync-clause-calls
returns-in_err-sync-clause-calls g c =
    makes_failed g.D.Disk (synced_write c.args.file c.args.at c.args.bytes.now) c.args.disk.now c.sync.new.self
    _ c.from_residual-in_err-sync.result c.from_residual-in_err-sync.ensures.1
    (second_failed (c.args.file, Write c.args.at c.args.bytes.now) (c.args.file, Sync)
    _ (g.D.Disk.time c.write_at.new.self) _ _ (g.D.Disk.calls c.write_at.new.self)
    _ c.write_at.ensures.call.time.next c.in_ok-write_at.ensures.call.calls.done c.sync.ensures.call.time.next
    (tried _ _ _ c.in_err-sync.ensures.call.calls.failed))

pub returns-clause-calls : goal.returns-clause-calls
returns-clause-calls g c = record {
  done =
      both_done (c.args.file, Write c.args.at c.args.bytes.now) (c.args.file, Sync)
      _ (g.D.Disk.time c.write_at.new.self) _ _ (g.D.Disk.calls c.write_at.new.self)
      _ c.write_at.ensures.call.time.next c.in_ok-write_at.ensures.call.calls.done c.sync.ensures.call.time.next
      c.in_ok-sync.ensures.call.calls.done;
  failed = tt;
}
