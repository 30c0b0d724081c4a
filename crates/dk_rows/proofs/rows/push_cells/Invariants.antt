-- The values of the row up to the j-th stand behind those before.
use Rattle.std.proofs.Common.{◌≡◌, ◌++◌, take}
use Rattle.dk_rows.proofs.rows.push_cells.Given as goal

abbrev pub invariant-cells : goal.invariant-cells
invariant-cells l = l.values ≡ l.fn.values ++ take l.j l.row
