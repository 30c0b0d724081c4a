-- What is made so far is the front of the list.
use Rattle.std.proofs.Common.{◌≡◌, take}
use Rattle.dk_rows.proofs.rows.Rows.from_list.Given as goal

abbrev pub invariant-rows : goal.invariant-rows
invariant-rows l = l.made ≡ take l.i l.rows
