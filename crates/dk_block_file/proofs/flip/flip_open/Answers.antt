-- The gate is opened where the body is on the disk.
use Rattle.dk_device.specs.declared.device.FileId.TheVariants.{Main}
use Rattle.dk_block_file.proofs.FlipLemmas.{opens}
use Rattle.dk_block_file.proofs.flip.flip_open.Goals as goal

pub returns-clause-opens : goal.returns-clause-opens
returns-clause-opens g c =
    opens g.D.Disk c.args.twin c.args.disk.now c.write_gate.new.disk c.requires.twin c.requires.headers
    c.write_gate.result (g.met.D.Disk.content_length c.args.disk.now Main) c.write_gate.ensures.writes
    c.requires.closed
