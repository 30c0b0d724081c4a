use Rattle.std.proofs.Common.{ℤ, List, Option, length, ap, arith}
use Rattle.dk_columns.proofs.OptionsLemmas.{options_len, stand_len}
use Rattle.dk_columns.proofs.numbers.Numbers.len.Goals as goal

pub returns : goal.returns
returns c =
    let len = ap (λ (os : List (Option ℤ)). length os) c.self.view_is in
    let all = stand_len c.self.inside.present c.self.inside.numbers.items c.self.invariant in
    let shown = options_len c.self.inside.present c.self.inside.numbers.items all in
    omega (arith, c.len.ensures, len, all, shown)
