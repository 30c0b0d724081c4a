use Rattle.std.proofs.Common.{◌≡◌, ◌+◌, ◌++◌, ℕ, List, Bool, true, replicate, ap, ◌∙◌, arith}
use Rattle.dk_columns.specs.Flags.{flags}
use Rattle.dk_columns.proofs.MaskLemmas.{set_behind}
use Rattle.dk_columns.proofs.mask.Mask.push_set.Goals as goal

pub returns-clause-ok : goal.returns-clause-ok
returns-clause-ok c =
    let sum : c.in-Some.len ≡ c.self.inside.len + c.args.count = omega (arith, c.in-Some.ensures) in
    ap (λ (n : ℕ). flags n c.self.inside.words.items) sum
    ∙ set_behind c.self.inside.len c.args.count c.self.inside.words.items c.self.invariant
    ∙ ap (λ (xs : List Bool). xs ++ replicate c.args.count true) c.self.view_is
