-- What a cut of a disk in memory does to its two files.
use Rattle.dk_device.specs.declared.calls.Request.TheVariants.{Cut}
use Rattle.dk_device.proofs.OutcomeLemmas.{cuts, makes_call}
use Rattle.dk_device.proofs.memory.MemoryDiskDisk.cut.Goals as goal

pub returns-clause-cuts : goal.returns-clause-cuts
returns-clause-cuts c =
    cuts _ _ _ c.args.self.now c.perform.new.self c.perform.ensures.went c.requires

pub returns-clause-call : goal.returns-clause-call
returns-clause-call c =
    makes_call c.args.file (Cut c.args.len) _ c.args.self.now c.perform.new.self c.perform.ensures.went c.perform.ensures.reason
