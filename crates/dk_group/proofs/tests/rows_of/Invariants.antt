-- The rows so far are rows of two numbers.
use Rattle.std.proofs.Common.{[], ◌∷◌, ◌≡◌}
use Rattle.std.specs.List.{All}
use Rattle.dk_values.specs.declared.value.ColType.TheVariants as types
use Rattle.dk_vector.specs.Vectors.{IsRow}
use Rattle.dk_group.proofs.tests.rows_of.Given as goal

abbrev pub invariant-digits : goal.invariant-digits
invariant-digits l = record { kinds : l.rows.kinds ≡ types.Big ∷ types.Big ∷ []; there : All (IsRow (types.Big ∷ types.Big ∷ [])) l.rows.rows }
