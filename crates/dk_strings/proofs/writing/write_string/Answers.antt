-- What was written is read again, and what was used stays.
use Rattle.dk_device.specs.declared.device.FileId.TheVariants.{Main}
use Rattle.dk_strings.proofs.WritingLemmas.{string_again, used_stays}
use Rattle.dk_strings.proofs.writing.write_string.Goals as goal

pub returns-in-Ok-clause-again : goal.returns-in-Ok-clause-again
returns-in-Ok-clause-again g c =
    string_again (g.D.Disk.content c.write_parts.new.disk Main) c.write_parts.new.blocks c.args.man.now.used
    c.write_parts.new.man.used c.args.bytes.now c.write_parts.ensures.writes.takes c.in-Ok.ensures.done.holds

pub returns-in-Ok-clause-keeps : goal.returns-in-Ok-clause-keeps
returns-in-Ok-clause-keeps g c =
    used_stays g.D.Disk c.write_parts.new.blocks c.args.man.now.used c.write_parts.new.man.used c.args.disk.now
    c.write_parts.new.disk c.write_parts.ensures.writes

pub returns-in-Err-clause-keeps : goal.returns-in-Err-clause-keeps
returns-in-Err-clause-keeps g c =
    used_stays g.D.Disk c.write_parts.new.blocks c.args.man.now.used c.write_parts.new.man.used c.args.disk.now
    c.write_parts.new.disk c.write_parts.ensures.writes
