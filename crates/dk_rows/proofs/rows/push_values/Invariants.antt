-- The values of the row so far stand behind those before.
use Rattle.std.proofs.Common.{◌≡◌, ◌++◌, take}
use Rattle.dk_rows.proofs.rows.push_values.Given as goal

abbrev pub invariant-cells : goal.invariant-cells
invariant-cells l = l.values ≡ l.fn.values ++ take l.value-index l.row
