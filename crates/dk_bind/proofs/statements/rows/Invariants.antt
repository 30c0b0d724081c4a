-- The rows so far, with those of the tuples that are left, are those of all tuples.
use Rattle.std.proofs.Common.{◌≡◌, drop}
use Rattle.dk_bind.specs.Lists.{bound_from, with_front}
use Rattle.dk_bind.specs.Statements.{bound_tuple}
use Rattle.dk_bind.proofs.statements.rows.Given as goal

abbrev pub invariant-tuples : goal.invariant-tuples
invariant-tuples l =
    with_front l.rows (bound_from (bound_tuple l.scope.schema.now) l.place (drop l.place l.tuples))
    ≡ bound_from (bound_tuple l.scope.schema.now) 0 l.tuples
