-- A page is read as its chain, its bytes and its blocks say.
use Rattle.std.specs.Prelude.{◌≡◌, ℕ, length}
use Rattle.std.proofs.Common.{◌∙◌, ap}
use Rattle.std.proofs.lemmas.Result.{err_from_is_err_and}
use Rattle.dk_device.specs.declared.device.FileId.TheVariants.{Main}
use Rattle.dk_block_file.specs.Blocks.{blocks_in}
use Rattle.dk_recover.proofs.TellingLemmas.{if_same}
use Rattle.dk_recover.proofs.PageLemmas.{chain_fault, bytes_fault, claim_fault, page_found}
use Rattle.dk_recover.proofs.page.read_page.Goals as goal

pub returns-in_err-found-clause-exact : goal.returns-in_err-found-clause-exact
returns-in_err-found-clause-exact g c =
    let p = err_from_is_err_and c.from_residual.result c.from_residual.ensures.1 in
    rw (p.1, p.2) (chain_fault (g.D.Disk.content c.args.disk.now Main) c.args.columns c.args.group c.args.man.now.used
    c.read_string.new.man.used c.in_err-found.field-0.0 c.in_err-found.ensures.exact)

pub returns-in_err-page-clause-exact : goal.returns-in_err-page-clause-exact
returns-in_err-page-clause-exact g c =
    let p = err_from_is_err_and c.from_residual-in_err-page.result c.from_residual-in_err-page.ensures.1 in
    rw (p.1, p.2) (bytes_fault (g.D.Disk.content c.args.disk.now Main) c.args.columns c.args.group c.args.man.now.used
    c.in_ok-found.found c.as_slice.result.now c.as_slice.ensures.value c.in_ok-found.ensures.exact
    c.read_string.new.man.used c.in_err-page.field-0.0 c.in_err-page.ensures.exact)

pub returns-in_err-own-clause-exact : goal.returns-in_err-own-clause-exact
returns-in_err-own-clause-exact g c =
    let p = err_from_is_err_and c.from_residual-in_err-own.result c.from_residual-in_err-own.ensures.1 in
    rw (p.1, p.2) (claim_fault (g.D.Disk.content c.args.disk.now Main) c.args.columns c.args.group c.args.man.now.used
    c.in_ok-found.found c.as_slice.result.now c.as_slice.ensures.value c.in_ok-found.ensures.exact
    c.in_ok-page.page c.in_ok-page.ensures.exact
    c.blocks_in-count.result (g.D.Disk.extent c.read_string.new.disk Main)
    (c.blocks_in-count.ensures ∙ ap (λ (n : ℕ). blocks_in n) c.len.ensures)
    (if_same (g.D.Disk.content c.args.disk.now Main) (g.D.Disk.content c.read_string.new.disk Main)
    (λ main. length main ≡ g.D.Disk.extent c.read_string.new.disk Main) (c.in_ok-found.ensures.looks.content Main)
    (g.met.D.Disk.content_length c.read_string.new.disk Main))
    c.read_string.new.man.used c.in_ok-found.ensures.marked c.as_slice-2.result.now c.as_slice-2.ensures
    c.claim_page.new.man.used c.in_err-own.field-0.0 c.in_err-own.ensures.exact)

pub returns-clause-exact : goal.returns-clause-exact
returns-clause-exact g c =
    page_found (g.D.Disk.content c.args.disk.now Main) c.args.columns c.args.group c.args.man.now.used
    c.in_ok-found.found c.as_slice.result.now c.as_slice.ensures.value c.in_ok-found.ensures.exact
    c.in_ok-page.page c.in_ok-page.ensures.exact
    c.blocks_in-count.result (g.D.Disk.extent c.read_string.new.disk Main)
    (c.blocks_in-count.ensures ∙ ap (λ (n : ℕ). blocks_in n) c.len.ensures)
    (if_same (g.D.Disk.content c.args.disk.now Main) (g.D.Disk.content c.read_string.new.disk Main)
    (λ main. length main ≡ g.D.Disk.extent c.read_string.new.disk Main) (c.in_ok-found.ensures.looks.content Main)
    (g.met.D.Disk.content_length c.read_string.new.disk Main))
    c.read_string.new.man.used c.in_ok-found.ensures.marked c.as_slice-2.result.now c.as_slice-2.ensures
    c.in_ok-own.own c.append.new.self c.claim_page.new.man.used c.in_ok-append.ensures.ok c.in_ok-own.ensures.exact
