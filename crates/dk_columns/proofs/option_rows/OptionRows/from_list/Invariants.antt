-- What is made so far is the front of the list.
use Rattle.std.proofs.Common.{◌≡◌, take}
use Rattle.dk_columns.proofs.option_rows.OptionRows.from_list.Given as goal

abbrev pub invariant-rows : goal.invariant-rows
invariant-rows l = l.made ≡ record { kinds = l.fn.kinds; rows = take l.i l.rows }
