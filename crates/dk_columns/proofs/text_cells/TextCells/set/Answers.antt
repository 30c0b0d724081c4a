use Rattle.std.proofs.Common.{ℕ, List, Option, length, ap, arith}
use Rattle.dk_columns.proofs.OptionsLemmas.{options_len}
use Rattle.dk_columns.proofs.text_cells.TextCells.set.Goals as goal

pub set_both-requires-clause-within : goal.set_both-requires-clause-within
set_both-requires-clause-within c =
    let len = ap (λ (os : List (Option (List ℕ))). length os) c.self.view_is in
    omega (arith, c.requires, len, options_len c.self.inside.present c.self.inside.texts c.self.invariant)
