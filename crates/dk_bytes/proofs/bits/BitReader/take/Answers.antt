use Rattle.std.proofs.Common.{ℕ, ◌/◌, ◌%◌, ◌^◌, ap, sym, ◌∙◌, arith}
use Rattle.dk_bytes.proofs.JoinedBitsLemmas.{masked, low_of, left_of, held_below}
use Rattle.dk_bytes.proofs.bits.BitReader.take.Goals as goal

pub invariant_of-self : goal.invariant_of-self
invariant_of-self c = (held_below _ _ _ c.filled-held.ensures.below c.filled-held.ensures.enough, omega arith)

pub returns-clause-value : goal.returns-clause-value
returns-clause-value c =
    masked _ _ c.requires
    ∙ sym (low_of _ _ _ _ c.filled-held.ensures.enough)
    ∙ ap (λ (x : ℕ). x % 2 ^ c.args.width) (c.filled-held.ensures.number ∙ c.self.view_is)

pub returns-clause-left : goal.returns-clause-left
returns-clause-left c =
    sym (left_of _ _ _ _ c.filled-held.ensures.enough)
    ∙ ap (λ (x : ℕ). x / 2 ^ c.args.width) (c.filled-held.ensures.number ∙ c.self.view_is)
