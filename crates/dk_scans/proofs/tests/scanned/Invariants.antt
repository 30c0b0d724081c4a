-- The column is one of numbers, with a flag for each value.
use Rattle.std.proofs.Common.{◌≡◌, length}
use Rattle.dk_values.specs.declared.value.ColType.TheVariants.{Big}
use Rattle.dk_scans.proofs.tests.scanned.Given as goal

abbrev pub invariant-rows : goal.invariant-rows
invariant-rows l = (l.cells.kind ≡ Big) × (length l.rows ≡ length l.cells.values)
