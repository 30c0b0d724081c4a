-- The column is one of texts.
use Rattle.std.proofs.Common.{◌≡◌}
use Rattle.dk_values.specs.declared.value.ColType.TheVariants.{Text}
use Rattle.dk_scans.proofs.tests.texts.Given as goal

abbrev pub invariant-texts : goal.invariant-texts
invariant-texts l = l.cells.kind ≡ Text
