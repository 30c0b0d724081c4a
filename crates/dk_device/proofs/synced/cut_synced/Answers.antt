-- A cut, and the sync behind it.
use Rattle.dk_device.specs.declared.calls.Request.TheVariants.{Cut, Sync}
use Rattle.dk_device.specs.Calls.{synced_cut}
use Rattle.dk_device.proofs.CallLemmas.{first_failed, second_failed, both_done, makes_failed, tried}
use Rattle.dk_device.proofs.ChangeLemmas.{cut_alone, alone_settled}
use Rattle.dk_device.proofs.synced.cut_synced.Goals as goal

pub returns-in_err-cut-clause-alone : goal.returns-in_err-cut-clause-alone
returns-in_err-cut-clause-alone g c =
    cut_alone g.D.Disk c.args.file c.args.disk.now c.cut.new.self c.cut.ensures.cuts.other_file c.cut.ensures.call.time
    c.args.len c.cut.ensures.cuts.crash

pub returns-in_err-sync-clause-alone : goal.returns-in_err-sync-clause-alone
returns-in_err-sync-clause-alone g c =
    alone_settled g.D.Disk _ c.args.file c.args.disk.now c.cut.new.self c.sync.new.self
    (cut_alone g.D.Disk c.args.file c.args.disk.now c.cut.new.self c.cut.ensures.cuts.other_file c.cut.ensures.call.time
    c.args.len c.cut.ensures.cuts.crash)
    c.sync.ensures.settles c.sync.ensures.call.time

pub returns-clause-alone : goal.returns-clause-alone
returns-clause-alone g c =
    alone_settled g.D.Disk _ c.args.file c.args.disk.now c.cut.new.self c.sync.new.self
    (cut_alone g.D.Disk c.args.file c.args.disk.now c.cut.new.self c.cut.ensures.cuts.other_file c.cut.ensures.call.time
    c.args.len c.cut.ensures.cuts.crash)
    c.sync.ensures.settles c.sync.ensures.call.time

pub returns-in_err-cut-clause-calls : goal.returns-in_err-cut-clause-calls
returns-in_err-cut-clause-calls g c =
    makes_failed g.D.Disk (synced_cut c.args.file c.args.len) c.args.disk.now c.cut.new.self
    _ c.from_residual.result c.from_residual.ensures.1
    (first_failed (c.args.file, Cut c.args.len) (c.args.file, Sync) _ _ _ _ c.cut.ensures.call.time.next
    (tried _ _ _ c.in_err-cut.ensures.call.calls.failed))

pub returns-in_err-sync-clause-calls : goal.returns-in_err-sync-clause-calls
returns-in_err-sync-clause-calls g c =
    makes_failed g.D.Disk (synced_cut c.args.file c.args.len) c.args.disk.now c.sync.new.self
    _ c.from_residual-in_err-sync.result c.from_residual-in_err-sync.ensures.1
    (second_failed (c.args.file, Cut c.args.len) (c.args.file, Sync) _ (g.D.Disk.time c.cut.new.self)
    _ _ (g.D.Disk.calls c.cut.new.self) _ c.cut.ensures.call.time.next c.in_ok-cut.ensures.call.calls.done
    c.sync.ensures.call.time.next (tried _ _ _ c.in_err-sync.ensures.call.calls.failed))

pub returns-clause-calls : goal.returns-clause-calls
returns-clause-calls g c = record {
  done =
      both_done (c.args.file, Cut c.args.len) (c.args.file, Sync) _ (g.D.Disk.time c.cut.new.self)
      _ _ (g.D.Disk.calls c.cut.new.self) _ c.cut.ensures.call.time.next c.in_ok-cut.ensures.call.calls.done
      c.sync.ensures.call.time.next c.in_ok-sync.ensures.call.calls.done;
  failed = tt;
}
