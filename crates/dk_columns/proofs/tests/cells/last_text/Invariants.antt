-- The column stays one of texts.
use Rattle.std.proofs.Common.{◌≡◌}
use Rattle.dk_values.specs.declared.value.ColType.TheVariants.{Text}
use Rattle.dk_columns.proofs.tests.cells.last_text.Given as goal

abbrev pub invariant-texts : goal.invariant-texts
invariant-texts l = l.cells.kind ≡ Text
