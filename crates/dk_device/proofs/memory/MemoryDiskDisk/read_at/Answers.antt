-- What a read of a disk in memory gives, and that it changes nothing.
use Rattle.std.specs.Prelude.{length}
use Rattle.std.proofs.Common.{rules}
use Rattle.dk_device.specs.declared.calls.Request.TheVariants.{Read}
use Rattle.dk_device.proofs.OutcomeLemmas.{read_keeps, elapses}
use Rattle.dk_device.proofs.memory.MemoryDiskDisk.read_at.Goals as goal

pub returns-in_err-begin_read-clause-same : goal.returns-in_err-begin_read-clause-same
returns-in_err-begin_read-clause-same c =
    read_keeps _ _ _ _ c.args.self.now c.begin_read.new.self c.begin_read.ensures.went

pub returns-in_err-begin_read-clause-call : goal.returns-in_err-begin_read-clause-call
returns-in_err-begin_read-clause-call c =
    record { time = elapses _ _ _ _ _ c.begin_read.ensures.went; calls = search rules; reason = search rules }

pub returns-clause-same : goal.returns-clause-same
returns-clause-same c = read_keeps _ _ _ _ c.args.self.now c.begin_read.new.self c.begin_read.ensures.went

pub returns-clause-call : goal.returns-clause-call
returns-clause-call c =
    record { time = elapses _ _ _ _ _ c.begin_read.ensures.went; calls = search rules; reason = search rules }
