use Rattle.std.proofs.Common.{length, ap, arith}
use Rattle.dk_columns.specs.OptionTables.{OptionTable}
use Rattle.dk_columns.proofs.RowLemmas.{rows_len}
use Rattle.dk_columns.proofs.option_rows.OptionRows.get.Goals as goal

pub row_if-requires-clause-within : goal.row_if-requires-clause-within
row_if-requires-clause-within c =
    let len = ap (λ (t : OptionTable). length t.rows) c.self.view_is in
    omega (arith, c.requires, len, rows_len 0 c.self.inside.present c.self.inside.columns.items)
