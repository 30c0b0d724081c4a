use Rattle.std.proofs.Common.{ℕ, List, Option, length, ap, arith}
use Rattle.dk_columns.proofs.OptionsLemmas.{options_len}
use Rattle.dk_columns.proofs.text_cells.TextCells.get.Goals as goal

pub text_if-requires-clause-within : goal.text_if-requires-clause-within
text_if-requires-clause-within c =
    let len = ap (λ (os : List (Option (List ℕ))). length os) c.self.view_is in
    omega (arith, c.requires, len, options_len c.self.inside.present c.self.inside.texts c.self.invariant)
