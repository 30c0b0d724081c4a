-- What a write of a disk in memory does to its two files.
use Rattle.dk_device.specs.declared.calls.Request.TheVariants.{Write}
use Rattle.dk_device.proofs.OutcomeLemmas.{writes, makes_call}
use Rattle.dk_device.proofs.memory.MemoryDiskDisk.write_at.Goals as goal

pub returns-clause-writes : goal.returns-clause-writes
returns-clause-writes c =
    writes _ _ _ _ c.args.self.now c.write.new.self c.write.ensures.went c.write.ensures.reason c.requires

pub returns-clause-call : goal.returns-clause-call
returns-clause-call c =
    makes_call c.args.file (Write c.args.at c.args.bytes.now) _ c.args.self.now c.write.new.self c.write.ensures.went c.write.ensures.reason
