-- The body is written beside its closed gate.
use Rattle.std.specs.Prelude.{ℕ, List}
use Rattle.std.proofs.Common.{subst}
use Rattle.dk_device.specs.declared.device.FileId.TheVariants.{Main}
use Rattle.dk_header.specs.Layout.{body_bytes}
use Rattle.dk_block_file.specs.Effects.{WritesHeaders}
use Rattle.dk_block_file.proofs.FlipLemmas.{writes_body}
use Rattle.dk_block_file.proofs.flip.flip_body.Goals as goal

pub returns-clause-writes : goal.returns-clause-writes
returns-clause-writes g c =
    writes_body g.D.Disk c.args.twin c.args.header.now c.args.disk.now c.write_headers.new.disk
    c.write_headers.result c.requires.twin c.requires.headers
    (subst (λ (at : ℕ). WritesHeaders g.D.Disk at (body_bytes c.args.header.now) c.args.disk.now
    c.write_headers.new.disk c.write_headers.result) c.header_place.ensures
    (subst (λ (bytes : List ℕ). WritesHeaders g.D.Disk c.header_place.result bytes c.args.disk.now
    c.write_headers.new.disk c.write_headers.result)
    c.body_of-body.ensures.layout c.write_headers.ensures.writes))
    (g.met.D.Disk.content_length c.args.disk.now Main) c.requires.closed
