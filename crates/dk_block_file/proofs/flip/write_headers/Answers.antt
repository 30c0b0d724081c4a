-- A range of the headers is written and synced.
use Rattle.dk_device.specs.declared.device.FileId.TheVariants.{Main}
use Rattle.dk_device.specs.Calls.{synced_write}
use Rattle.dk_device.proofs.CallLemmas.{makes_failed, no_ok}
use Rattle.dk_block_file.proofs.BlockLemmas.{fails_by_disk}
use Rattle.dk_block_file.proofs.FlipLemmas.{written_part}
use Rattle.dk_block_file.proofs.flip.write_headers.Goals as goal

pub returns-in_err-write_synced-clause-writes : goal.returns-in_err-write_synced-clause-writes
returns-in_err-write_synced-clause-writes g c =
    written_part g.D.Disk c.args.at c.args.bytes.now c.args.disk.now c.write_synced.new.disk c.from_residual.result
    c.requires.headers c.requires.within
    c.write_synced.ensures.extent c.write_synced.ensures.alone
    (no_ok _ _ c.from_residual.result c.from_residual.ensures.1)
    (makes_failed g.D.Disk (synced_write Main c.args.at c.args.bytes.now) c.args.disk.now c.write_synced.new.disk
    _ c.from_residual.result c.from_residual.ensures.1
    c.in_err-write_synced.ensures.calls.failed)

pub returns-clause-writes : goal.returns-clause-writes
returns-clause-writes g c =
    written_part g.D.Disk c.args.at c.args.bytes.now c.args.disk.now c.write_synced.new.disk _ c.requires.headers
    c.requires.within
    c.write_synced.ensures.extent c.write_synced.ensures.alone
    record { written = c.in_ok-write_synced.ensures.written; synced = c.in_ok-write_synced.ensures.synced }
    record { done = c.in_ok-write_synced.ensures.calls.done; failed = tt }

pub returns-in_err-write_synced-clause-cause : goal.returns-in_err-write_synced-clause-cause
returns-in_err-write_synced-clause-cause g c =
    fails_by_disk (g.D.Disk.faults c.args.disk.now) (g.D.Disk.faults c.write_synced.new.disk)
    c.from_residual.result c.from_residual.ensures.1
    c.in_err-write_synced.ensures.cause.later c.in_err-write_synced.ensures.cause.failed

pub returns-clause-cause : goal.returns-clause-cause
returns-clause-cause g c = record { later = c.write_synced.ensures.cause.later; failed = tt }
