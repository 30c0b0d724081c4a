-- A part is read from its block.
use Rattle.std.specs.Prelude.{drop, length}
use Rattle.std.proofs.lemmas.Result.{err_from_is_err_and}
use Rattle.dk_device.specs.declared.device.FileId.TheVariants.{Main}
use Rattle.dk_header.specs.declared.header.TheConstants.{SUM_BYTES}
use Rattle.dk_strings.proofs.ReadingLemmas.{part_fault}
use Rattle.dk_strings.proofs.reading.read_next.Goals as goal

pub returns-in_err-read_unused-clause-part : goal.returns-in_err-read_unused-clause-part
returns-in_err-read_unused-clause-part g c =
    let p = err_from_is_err_and c.from_residual.result c.from_residual.ensures.1 in
    rw (p.1, p.2) (part_fault (g.D.Disk.content c.args.disk.now Main) c.args.string.part c.args.man.now.used
    (length c.args.found.now.bytes.items) c.args.string.root (drop SUM_BYTES c.read_unused.new.buf)
    c.args.found.now.bytes.items c.args.found.now.bytes.items c.in_err-read_unused.field-0.0
    c.in_err-read_unused.ensures.found)
