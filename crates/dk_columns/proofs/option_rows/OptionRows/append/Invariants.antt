-- The rows up to the i-th stand behind those before.
use Rattle.std.proofs.Common.{◌≡◌, take}
use Rattle.dk_columns.specs.OptionTables.{with_rows}
use Rattle.dk_columns.proofs.option_rows.OptionRows.append.Given as goal

abbrev pub invariant-rows : goal.invariant-rows
invariant-rows l = l.self ≡ with_rows (take l.i l.more.rows) l.fn.self
