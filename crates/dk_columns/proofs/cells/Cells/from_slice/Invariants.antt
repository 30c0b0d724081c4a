-- What is made so far is the front of the values.
use Rattle.std.proofs.Common.{◌≡◌, take}
use Rattle.dk_columns.proofs.cells.Cells.from_slice.Given as goal

abbrev pub invariant-values : goal.invariant-values
invariant-values l = l.cells ≡ record { kind = l.fn.kind; values = take l.i l.values }
