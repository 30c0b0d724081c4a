-- A table is read with the pages of its groups.
use Rattle.std.proofs.lemmas.Result.{err_from_is_err_and}
use Rattle.dk_device.specs.declared.device.FileId.TheVariants.{Main}
use Rattle.dk_recover.proofs.TableLemmas.{table_fault, table_found}
use Rattle.dk_recover.proofs.pages.read_table.Goals as goal

pub returns-in_err-pages-clause-exact : goal.returns-in_err-pages-clause-exact
returns-in_err-pages-clause-exact g c =
    let p = err_from_is_err_and c.from_residual.result c.from_residual.ensures.1 in
    rw (p.1, p.2) (table_fault (g.D.Disk.content c.args.disk.now Main) c.args.entry.now c.args.man.now.used
    c.as_slice.result.now c.as_slice-2.result.now c.as_slice.ensures.columns c.as_slice-2.ensures
    c.read_pages.new.man.used c.in_err-pages.field-0.0 c.in_err-pages.ensures.exact)

pub returns-clause-exact : goal.returns-clause-exact
returns-clause-exact g c =
    table_found (g.D.Disk.content c.args.disk.now Main) c.args.entry.now c.args.man.now.used
    c.as_slice.result.now c.as_slice-2.result.now c.as_slice.ensures.columns c.as_slice-2.ensures
    c.read_pages.new.man.used c.in_ok-copy.field-0 c.in_ok-copy-2.field-0 c.in_ok-pages.pages
    c.in_ok-copy.ensures c.in_ok-copy-2.ensures c.in_ok-pages.ensures.exact
