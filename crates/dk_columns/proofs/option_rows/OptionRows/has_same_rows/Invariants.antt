-- The rows are the same up to the i-th.
use Rattle.std.proofs.Common.{◌≡◌, take}
use Rattle.dk_columns.proofs.option_rows.OptionRows.has_same_rows.Given as goal

abbrev pub invariant-rows : goal.invariant-rows
invariant-rows l = take l.i l.self.rows ≡ take l.i l.other.rows
