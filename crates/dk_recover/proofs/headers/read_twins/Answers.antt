-- The two database headers decide which is current.
use Rattle.std.specs.Prelude.{◌≡◌, take, drop}
use Rattle.std.proofs.Common.{sym, ◌∙◌, arith}
use Rattle.dk_device.specs.declared.device.FileId.TheVariants.{Main}
use Rattle.dk_header.specs.declared.header.TheConstants.{HEADER_BYTES}
use Rattle.dk_recover.proofs.TellingLemmas.{if_same, if_rw}
use Rattle.dk_recover.proofs.HeaderLemmas.{twins_short, twins_current, twins_damaged}
use Rattle.dk_recover.proofs.headers.read_twins.Goals as goal

pub returns-then-have-lt-HEADERS_BYTES-clause-exact : goal.returns-then-have-lt-HEADERS_BYTES-clause-exact
returns-then-have-lt-HEADERS_BYTES-clause-exact g c =
    twins_short (g.D.Disk.content c.args.disk.now Main) c.len-have.result
    (if_rw (g.D.Disk.content c.args.disk.now Main) _ _ c.len-have.ensures
    (g.met.D.Disk.content_length c.args.disk.now Main)) (omega (arith, c.if-have-lt-HEADERS_BYTES.true))

pub returns-in-Ok-clause-exact : goal.returns-in-Ok-clause-exact
returns-in-Ok-clause-exact g c =
    twins_current (g.D.Disk.content c.args.disk.now Main) c.len-have.result
    (if_rw (g.D.Disk.content c.args.disk.now Main) _ _ c.len-have.ensures
    (g.met.D.Disk.content_length c.args.disk.now Main)) (omega (arith, c.if-have-lt-HEADERS_BYTES.false))
    c.in_ok-first.first c.in_ok-second.second c.in_ok-first.ensures.bytes
    (if_same (g.D.Disk.content c.args.disk.now Main) (g.D.Disk.content c.read_header.new.disk Main)
    (λ main. c.in_ok-second.second ≡ take HEADER_BYTES (drop 8192 main)) (c.in_ok-first.ensures.looks.content Main)
    c.in_ok-second.ensures.bytes)
    c.in-Ok.current (sym c.in-Ok.is ∙ c.choose.ensures)

pub returns-in-Err-clause-exact : goal.returns-in-Err-clause-exact
returns-in-Err-clause-exact g c =
    twins_damaged (g.D.Disk.content c.args.disk.now Main) c.len-have.result
    (if_rw (g.D.Disk.content c.args.disk.now Main) _ _ c.len-have.ensures
    (g.met.D.Disk.content_length c.args.disk.now Main)) (omega (arith, c.if-have-lt-HEADERS_BYTES.false))
    c.in_ok-first.first c.in_ok-second.second c.in_ok-first.ensures.bytes
    (if_same (g.D.Disk.content c.args.disk.now Main) (g.D.Disk.content c.read_header.new.disk Main)
    (λ main. c.in_ok-second.second ≡ take HEADER_BYTES (drop 8192 main)) (c.in_ok-first.ensures.looks.content Main)
    c.in_ok-second.ensures.bytes)
    c.in-Err.damage (sym c.in-Err.is ∙ c.choose.ensures)
