-- The values up to the i-th stand behind those before.
use Rattle.std.proofs.Common.{◌≡◌, take}
use Rattle.dk_columns.specs.Columns.{with_values}
use Rattle.dk_columns.proofs.cells.Cells.append.Given as goal

abbrev pub invariant-values : goal.invariant-values
invariant-values l = l.self ≡ with_values (take l.i l.more.values) l.fn.self
