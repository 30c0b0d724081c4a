-- The values are the same up to the i-th.
use Rattle.std.proofs.Common.{◌≡◌, take}
use Rattle.dk_columns.proofs.cells.Cells.is_same.Given as goal

abbrev pub invariant-values : goal.invariant-values
invariant-values l = take l.i l.self.values ≡ take l.i l.other.values
