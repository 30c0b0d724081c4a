-- The main header is read first, and then the twins.
use Rattle.std.proofs.Common.{arith}
use Rattle.std.proofs.lemmas.Result.{err_from_is_err_and}
use Rattle.dk_device.specs.declared.device.FileId.TheVariants.{Main}
use Rattle.dk_recover.specs.Headers.{or_damaged, twins_read, Opens}
use Rattle.dk_recover.proofs.TellingLemmas.{if_same, if_rw}
use Rattle.dk_recover.proofs.HeaderLemmas.{itself, version_refused, version_known}
use Rattle.dk_recover.proofs.headers.read_headers.Goals as goal

pub returns-in_err-check_version-clause-exact : goal.returns-in_err-check_version-clause-exact
returns-in_err-check_version-clause-exact g c =
    let p = err_from_is_err_and c.from_residual-in_err-check_version.result
    c.from_residual-in_err-check_version.ensures.1 in
    rw (p.1, p.2) (version_refused (g.D.Disk.content c.args.disk.now Main) c.len.result
    (if_rw (g.D.Disk.content c.args.disk.now Main) _ _ c.len.ensures
    (g.met.D.Disk.content_length c.args.disk.now Main)) (omega (arith, c.if-len.false))
    c.in_ok-header.header c.in_ok-header.ensures.bytes c.check_version.result c.check_version.ensures
    c.in_err-check_version.field-0.0 c.in_err-check_version.was)

pub returns-clause-exact : goal.returns-clause-exact
returns-clause-exact g c =
    version_known (g.D.Disk.content c.args.disk.now Main) c.len.result
    (if_rw (g.D.Disk.content c.args.disk.now Main) _ _ c.len.ensures
    (g.met.D.Disk.content_length c.args.disk.now Main)) (omega (arith, c.if-len.false))
    c.in_ok-header.header c.in_ok-header.ensures.bytes c.check_version.result c.check_version.ensures
    c.in_ok-check_version.field-0 c.in_ok-check_version.was
    c.read_twins.result
    (if_same (g.D.Disk.content c.args.disk.now Main) (g.D.Disk.content c.read_header.new.disk Main)
    (λ main. Opens itself (or_damaged (twins_read main)) c.read_twins.result)
    (c.in_ok-header.ensures.looks.content Main) c.read_twins.ensures.exact)
