-- A read changes no content.
use Rattle.dk_device.proofs.OutcomeLemmas.{read_file}
use Rattle.dk_device.proofs.memory.MemoryDisk.begin_read.Goals as goal

pub returns-clause-same : goal.returns-clause-same
returns-clause-same c = read_file _ _ _ _ _ _ c.perform.ensures.went
