-- A cut to nothing and a write, each with its sync.
use Rattle.std.specs.Prelude.{length}
use Rattle.std.proofs.Common.{arith}
use Rattle.dk_device.specs.Calls.{synced_write, synced_cut}
use Rattle.dk_device.proofs.CallLemmas.{makes_first, makes_second, makes_both}
use Rattle.dk_device.proofs.ReplacementLemmas.{replaced, emptied_alone, replaced_alone}
use Rattle.dk_device.proofs.synced.replace_synced.Goals as goal

pub returns-clause-replaced : goal.returns-clause-replaced
returns-clause-replaced g c = record {
  content =
      replaced c.args.bytes.now (g.D.Disk.content c.args.disk.now c.args.file)
      (g.D.Disk.content c.cut_synced.new.disk c.args.file)
      (g.D.Disk.content c.write_synced.new.disk c.args.file)
      c.in_ok-cut_synced.ensures.cut c.in_ok-write_synced.ensures.written;
  extent = omega (arith, c.in_ok-cut_synced.ensures.shrunk, c.in_ok-write_synced.ensures.grown);
  synced = c.in_ok-write_synced.ensures.synced;
}

pub returns-in_err-cut_synced-clause-alone : goal.returns-in_err-cut_synced-clause-alone
returns-in_err-cut_synced-clause-alone g c =
    emptied_alone g.D.Disk c.args.file (length c.args.bytes.now) c.args.disk.now c.cut_synced.new.disk
    c.cut_synced.ensures.alone

pub returns-in_err-write_synced-clause-alone : goal.returns-in_err-write_synced-clause-alone
returns-in_err-write_synced-clause-alone g c =
    replaced_alone g.D.Disk c.args.file (length c.args.bytes.now) c.args.disk.now c.cut_synced.new.disk
    c.write_synced.new.disk c.in_ok-cut_synced.ensures.cut c.in_ok-cut_synced.ensures.synced
    c.cut_synced.ensures.alone c.write_synced.ensures.alone

pub returns-clause-alone : goal.returns-clause-alone
returns-clause-alone g c =
    replaced_alone g.D.Disk c.args.file (length c.args.bytes.now) c.args.disk.now c.cut_synced.new.disk
    c.write_synced.new.disk c.in_ok-cut_synced.ensures.cut c.in_ok-cut_synced.ensures.synced
    c.cut_synced.ensures.alone c.write_synced.ensures.alone

pub returns-in_err-cut_synced-clause-calls : goal.returns-in_err-cut_synced-clause-calls
returns-in_err-cut_synced-clause-calls g c =
    makes_first g.D.Disk (synced_cut c.args.file 0) (synced_write c.args.file 0 c.args.bytes.now) c.args.disk.now
    c.cut_synced.new.disk _ c.from_residual.result
    c.from_residual.ensures.1 c.in_err-cut_synced.ensures.calls.failed

pub returns-in_err-write_synced-clause-calls : goal.returns-in_err-write_synced-clause-calls
returns-in_err-write_synced-clause-calls g c =
    makes_second g.D.Disk (synced_cut c.args.file 0) (synced_write c.args.file 0 c.args.bytes.now) c.args.disk.now
    c.cut_synced.new.disk c.write_synced.new.disk _
    c.from_residual-in_err-write_synced.result c.from_residual-in_err-write_synced.ensures.1
    c.in_ok-cut_synced.ensures.calls.done c.in_err-write_synced.ensures.calls.failed

pub returns-clause-calls : goal.returns-clause-calls
returns-clause-calls g c =
    makes_both g.D.Disk (synced_cut c.args.file 0) (synced_write c.args.file 0 c.args.bytes.now) c.args.disk.now
    c.cut_synced.new.disk c.write_synced.new.disk _
    c.in_ok-cut_synced.ensures.calls.done c.in_ok-write_synced.ensures.calls.done
