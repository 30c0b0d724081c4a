use Rattle.std.proofs.Common.{length, ap, arith}
use Rattle.dk_columns.specs.OptionTables.{OptionTable}
use Rattle.dk_columns.proofs.PutLemmas.{nulls_fit}
use Rattle.dk_columns.proofs.RowLemmas.{rows_len}
use Rattle.dk_columns.proofs.option_rows.OptionRows.set_missing.Goals as goal

pub set_row-requires-clause-within : goal.set_row-requires-clause-within
set_row-requires-clause-within c =
    let len = ap (λ (t : OptionTable). length t.rows) c.self.view_is in
    omega (arith, c.requires, len, rows_len 0 c.self.inside.present c.self.inside.columns.items)

pub set_row-requires-clause-fits : goal.set_row-requires-clause-fits
set_row-requires-clause-fits c = nulls_fit c.self.inside.columns.items _ (omega (arith, c.len.ensures, c.self.inside.columns.ok.0))
