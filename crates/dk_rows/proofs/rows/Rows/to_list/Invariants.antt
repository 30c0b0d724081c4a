-- What is made so far is the front of the rows.
use Rattle.std.proofs.Common.{◌≡◌, take}
use Rattle.dk_rows.proofs.rows.Rows.to_list.Given as goal

abbrev pub invariant-rows : goal.invariant-rows
invariant-rows l = l.rows ≡ take l.i l.self
