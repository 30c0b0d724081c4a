-- The tree is read as its chain and its bytes say.
use Rattle.std.proofs.lemmas.Result.{err_from_is_err_and}
use Rattle.dk_device.specs.declared.device.FileId.TheVariants.{Main}
use Rattle.dk_recover.proofs.TreeLemmas.{chain_fault, tables_fault, tables_found, stored_found}
use Rattle.dk_recover.proofs.tree.read_stored.Goals as goal

pub returns-in_err-found-clause-exact : goal.returns-in_err-found-clause-exact
returns-in_err-found-clause-exact g c =
    let p = err_from_is_err_and c.from_residual.result c.from_residual.ensures.1 in
    rw (p.1, p.2) (chain_fault (g.D.Disk.content c.args.disk.now Main) c.args.root c.args.man.now.used
    c.in_err-found.field-0.0 c.in_err-found.ensures.exact)

pub returns-in_err-tables-clause-exact : goal.returns-in_err-tables-clause-exact
returns-in_err-tables-clause-exact g c =
    let p = err_from_is_err_and c.from_residual-in_err-tables.result c.from_residual-in_err-tables.ensures.1 in
    rw (p.1, p.2) (tables_fault (g.D.Disk.content c.args.disk.now Main) c.args.root c.args.man.now.used
    c.in_ok-found.found c.in_err-tables.field-0.0 c.as_slice.result.now c.as_slice.ensures.value
    c.in_ok-found.ensures.exact c.in_err-tables.ensures.exact)

pub returns-clause-exact : goal.returns-clause-exact
returns-clause-exact g c =
    tables_found (g.D.Disk.content c.args.disk.now Main) c.args.root c.args.man.now.used
    c.in_ok-found.found c.in_ok-tables.tables c.as_slice.result.now c.as_slice.ensures.value
    c.in_ok-found.ensures.exact c.in_ok-tables.ensures.exact

pub returns-clause-found : goal.returns-clause-found
returns-clause-found g c =
    stored_found (g.D.Disk.content c.args.disk.now Main) c.args.root c.args.man.now.used c.in_ok-found.found
    c.in_ok-tables.tables c.as_slice.result.now c.as_slice.ensures.value c.in_ok-found.ensures.found
    c.in_ok-tables.ensures.found
