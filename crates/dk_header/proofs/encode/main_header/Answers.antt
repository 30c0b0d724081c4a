-- A main header that was written is read again.
use Rattle.std.proofs.Common.{◌≡◌, List, ℕ, Ok, subst, sym}
use Rattle.dk_header.specs.Layout.{main_read}
use Rattle.dk_header.proofs.HeaderLemmas.{main_again}
use Rattle.dk_header.proofs.encode.main_header.Goals as goal

pub returns-clause-again : goal.returns-clause-again
returns-clause-again c = subst (λ (bytes : List ℕ). main_read bytes ≡ Ok c.args.version) (sym c.make_main.ensures)
    (main_again c.args.version c.ranges.version.fits)
