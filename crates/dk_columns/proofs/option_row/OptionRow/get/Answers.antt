use Rattle.std.proofs.Common.{List, length, ap, arith}
use Rattle.dk_values.specs.declared.value.Value.{Value}
use Rattle.dk_columns.proofs.PutLemmas.{row_len}
use Rattle.dk_columns.proofs.option_row.OptionRow.get.Goals as goal

pub value_at-requires-clause-within : goal.value_at-requires-clause-within
value_at-requires-clause-within c =
    let len = ap (λ (vs : List Value). length vs) c.self.view_is in
    omega (arith, c.requires, len, row_len c.self.inside.place c.self.inside.columns.now)
