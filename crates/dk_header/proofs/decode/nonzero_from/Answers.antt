-- A place behind another counts from the front.
use Rattle.std.proofs.Common.{not, ◌==◌, List, ℕ, ap, ◌∙◌}
use Rattle.std.specs.List.{position}
use Rattle.dk_header.specs.Layout.{place_behind}
use Rattle.dk_header.proofs.decode.nonzero_from.Goals as goal

pub returns-in-Some : goal.returns-in-Some
returns-in-Some c = ap (place_behind c.args.from) (c.in-Some.ensures.first
    ∙ ap (λ (l : List ℕ). position (λ b. not (b == 0)) l) c.split_at.ensures.back)

pub returns-in-None : goal.returns-in-None
returns-in-None c = ap (place_behind c.args.from) (c.in-None.ensures.first
    ∙ ap (λ (l : List ℕ). position (λ b. not (b == 0)) l) c.split_at.ensures.back)
