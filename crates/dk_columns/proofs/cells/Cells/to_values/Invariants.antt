-- What is made so far is the front of the values.
use Rattle.std.proofs.Common.{◌≡◌, take}
use Rattle.dk_columns.proofs.cells.Cells.to_values.Given as goal

abbrev pub invariant-values : goal.invariant-values
invariant-values l = l.values ≡ take l.i l.self.values
