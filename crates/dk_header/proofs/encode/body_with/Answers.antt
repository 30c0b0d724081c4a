-- A database header that was written is read again.
use Rattle.std.proofs.Common.{◌≡◌, List, ℕ, Ok, subst, sym}
use Rattle.dk_header.specs.declared.header.DbHeader.{DbHeader}
use Rattle.dk_header.specs.Layout.{body_read}
use Rattle.dk_header.proofs.HeaderLemmas.{body_again}
use Rattle.dk_header.proofs.encode.body_with.Goals as goal

pub returns-clause-again : goal.returns-clause-again
returns-clause-again c = λ fits twin.
    let header : DbHeader = record { iteration = c.args.iteration; root = c.args.root; blocks = c.args.blocks } in
    subst (λ (bytes : List ℕ). body_read twin bytes ≡ Ok header) (sym c.make_body.ensures)
    (body_again twin header c.ranges.iteration.fits c.ranges.root.fits c.ranges.blocks.fits fits)
