-- The items so far, with those of the columns that are left, are those of all columns.
use Rattle.std.proofs.Common.{◌≡◌, drop}
use Rattle.dk_bind.specs.Lists.{with_front}
use Rattle.dk_bind.specs.Queries.{around_of, bound_star}
use Rattle.dk_bind.proofs.queries.star.Given as goal

abbrev pub invariant-columns : goal.invariant-columns
invariant-columns l =
    with_front l.items (bound_star (around_of l.scope) l.at l.place (drop l.place l.scope.schema.now))
    ≡ bound_star (around_of l.scope) l.at 0 l.scope.schema.now
