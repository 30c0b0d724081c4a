use Rattle.std.proofs.Common.{ℕ, List, take, ap, sym, ◌∙◌, arith}
use Rattle.dk_columns.specs.Flags.{flag, flags}
use Rattle.dk_columns.proofs.MaskLemmas.{cut_set, cut_flags, flags_all}
use Rattle.dk_columns.proofs.mask.Mask.truncate.Goals as goal

pub invariant_of-self : goal.invariant_of-self
invariant_of-self c i le =
    ap (λ (words : List ℕ). flag words i) (c.truncate.ensures.items ∙ ap (λ (m : ℕ). take m c.widen.new.words.items) c.div_ceil.ensures)
    ∙ cut_set c.self.inside.words.items c.widen.new.words.items c.args.n c.self.inside.len c.widen.ensures c.self.invariant i le

pub returns-then-n-self : goal.returns-then-n-self
returns-then-n-self c =
    ap (λ (words : List ℕ). flags c.args.n words) (c.truncate.ensures.items ∙ ap (λ (m : ℕ). take m c.widen.new.words.items) c.div_ceil.ensures)
    ∙ cut_flags c.self.inside.words.items c.widen.new.words.items c.args.n c.self.inside.len _ c.widen.ensures (omega (arith, c.if-n-self.true)) c.self.view_is

pub returns-else-n-self : goal.returns-else-n-self
returns-else-n-self c = sym c.self.view_is ∙ flags_all c.args.n c.self.inside.len c.self.inside.words.items _ c.self.view_is (omega (arith, c.if-n-self.false))
