-- What a sync of a disk in memory leaves to a crash.
use Rattle.dk_device.specs.declared.calls.Request.TheVariants.{Sync}
use Rattle.dk_device.proofs.OutcomeLemmas.{settles, makes_call}
use Rattle.dk_device.proofs.memory.MemoryDiskDisk.sync.Goals as goal

pub returns-clause-settles : goal.returns-clause-settles
returns-clause-settles c =
    settles _ _ c.args.self.now c.perform.new.self c.perform.ensures.went

pub returns-clause-call : goal.returns-clause-call
returns-clause-call c =
    makes_call c.args.file Sync _ c.args.self.now c.perform.new.self c.perform.ensures.went c.perform.ensures.reason
