use Rattle.std.proofs.Common.{length, ap, arith}
use Rattle.dk_columns.specs.OptionTables.{OptionTable}
use Rattle.dk_columns.proofs.RowLemmas.{rows_len}
use Rattle.dk_columns.proofs.option_rows.OptionRows.set.Goals as goal

pub set_row-requires-clause-within : goal.set_row-requires-clause-within
set_row-requires-clause-within g c =
    let len = ap (λ (t : OptionTable). length t.rows) c.self.view_is in
    omega (arith, c.requires.within, len, rows_len 0 c.self.inside.present c.self.inside.columns.items)
