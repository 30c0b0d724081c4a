-- The rows are the same up to the i-th.
use Rattle.std.proofs.Common.{◌≡◌, take}
use Rattle.dk_rows.proofs.rows.Rows.is_same.Given as goal

abbrev pub invariant-rows : goal.invariant-rows
invariant-rows l = take l.i l.self ≡ take l.i l.other
