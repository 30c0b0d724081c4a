-- There is a column for each of the first types.
use Rattle.std.proofs.Common.{◌≡◌, take, map}
use Rattle.dk_columns.specs.OptionTables.{empty_column}
use Rattle.dk_columns.proofs.option_rows.empty_columns.Given as goal

abbrev pub invariant-kinds : goal.invariant-kinds
invariant-kinds l = l.columns.items ≡ map empty_column (take l.j l.kinds)
