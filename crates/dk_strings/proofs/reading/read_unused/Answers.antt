-- A block is read and marked.
use Rattle.std.specs.Prelude.{drop}
use Rattle.std.proofs.lemmas.Result.{err_from_is_err_and}
use Rattle.dk_device.specs.declared.device.FileId.TheVariants.{Main}
use Rattle.dk_header.specs.declared.header.TheConstants.{SUM_BYTES}
use Rattle.dk_strings.proofs.ReadingLemmas.{unused_fault, unused_twice, unused_is}
use Rattle.dk_strings.proofs.reading.read_unused.Goals as goal

pub returns-in_err-read_block-clause-found : goal.returns-in_err-read_block-clause-found
returns-in_err-read_block-clause-found g c =
    let p = err_from_is_err_and c.from_residual.result c.from_residual.ensures.1 in
    rw (p.1, p.2) (unused_fault (g.D.Disk.content c.args.disk.now Main) c.args.man.now.used c.args.block
    (drop SUM_BYTES c.read_block.new.buf) c.in_err-read_block.field-0.0 c.in_err-read_block.ensures.found)

pub returns-then-not-mark-clause-found : goal.returns-then-not-mark-clause-found
returns-then-not-mark-clause-found g c =
    unused_twice (g.D.Disk.content c.args.disk.now Main) c.args.man.now.used c.args.block
    (drop SUM_BYTES c.read_block.new.buf) c.mark.result c.mark.ensures.was c.if-not-mark.true
    c.in_ok-read_block.ensures.found

pub returns-clause-found : goal.returns-clause-found
returns-clause-found g c =
    unused_is (g.D.Disk.content c.args.disk.now Main) c.args.man.now.used c.args.block
    (drop SUM_BYTES c.read_block.new.buf) c.mark.result c.mark.ensures.was c.if-not-mark.false
    c.in_ok-read_block.ensures.found
