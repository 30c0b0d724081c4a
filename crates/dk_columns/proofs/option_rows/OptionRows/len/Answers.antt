use Rattle.std.proofs.Common.{length, ap, arith}
use Rattle.dk_columns.specs.OptionTables.{OptionTable}
use Rattle.dk_columns.proofs.RowLemmas.{rows_len}
use Rattle.dk_columns.proofs.option_rows.OptionRows.len.Goals as goal

pub returns : goal.returns
returns c =
    let len = ap (λ (t : OptionTable). length t.rows) c.self.view_is in
    omega (arith, c.len.ensures, len, rows_len 0 c.self.inside.present c.self.inside.columns.items)
