-- The column is one of numbers.
use Rattle.std.proofs.Common.{◌≡◌}
use Rattle.dk_values.specs.declared.value.ColType.TheVariants.{Big}
use Rattle.dk_scans.proofs.tests.scanned_alike.Given as goal

abbrev pub invariant-numbers : goal.invariant-numbers
invariant-numbers l = l.cells.kind ≡ Big
