-- The values of the row up to the j-th are put.
use Rattle.std.proofs.Common.{◌≡◌, take}
use Rattle.dk_columns.specs.OptionTables.{with_row_put}
use Rattle.dk_columns.proofs.option_rows.put_row.Given as goal

abbrev pub invariant-columns : goal.invariant-columns
invariant-columns g l = l.columns.items ≡ with_row_put l.i (take l.j (g.R.LendRow.values l.row)) l.fn.columns.items
