-- The values of a segment are those of its bytes in its block.
use Rattle.std.specs.Prelude.{drop}
use Rattle.std.proofs.lemmas.Result.{err_from_is_err_and}
use Rattle.dk_device.specs.declared.device.FileId.TheVariants.{Main}
use Rattle.dk_header.specs.declared.header.TheConstants.{SUM_BYTES}
use Rattle.dk_recover.proofs.ColumnLemmas.{segment_fault}
use Rattle.dk_recover.proofs.columns.read_segment.Goals as goal

pub returns-in_err-hold-clause-exact : goal.returns-in_err-hold-clause-exact
returns-in_err-hold-clause-exact g c =
    let p = err_from_is_err_and c.from_residual.result c.from_residual.ensures.1 in
    rw (p.1, p.2) (segment_fault (g.D.Disk.content c.args.disk.now Main) c.args.column.now.kind c.args.column.now.values
    c.args.segment.now (drop SUM_BYTES c.hold.new.held.buf) c.args.column.now.values c.in_err-hold.field-0.0
    c.in_err-hold.ensures.read)
