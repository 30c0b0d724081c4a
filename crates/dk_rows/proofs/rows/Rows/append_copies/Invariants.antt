-- The rows up to the i-th stand behind those before.
use Rattle.std.proofs.Common.{◌≡◌, ◌++◌, take}
use Rattle.dk_rows.proofs.rows.Rows.append_copies.Given as goal

abbrev pub invariant-rows : goal.invariant-rows
invariant-rows l = l.self ≡ l.fn.self ++ take l.i l.more
