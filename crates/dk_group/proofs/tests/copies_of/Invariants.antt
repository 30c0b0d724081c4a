-- The rows so far are rows of two numbers.
use Rattle.std.proofs.Common.{[], ◌∷◌, ◌≡◌, length}
use Rattle.std.specs.List.{All}
use Rattle.dk_values.specs.declared.value.ColType.TheVariants as types
use Rattle.dk_columns.specs.OptionTables.{FitsKinds}
use Rattle.dk_group.proofs.tests.copies_of.Given as goal

abbrev pub invariant-copies : goal.invariant-copies
invariant-copies l = record { count : length l.rows ≡ l.i; fits : All (FitsKinds (types.Big ∷ types.Big ∷ [])) l.rows }
