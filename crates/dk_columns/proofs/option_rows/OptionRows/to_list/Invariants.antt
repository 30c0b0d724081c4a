-- What is made so far is the front of the rows.
use Rattle.std.proofs.Common.{◌≡◌, take}
use Rattle.dk_columns.proofs.option_rows.OptionRows.to_list.Given as goal

abbrev pub invariant-rows : goal.invariant-rows
invariant-rows l = l.rows ≡ take l.i l.self.rows
