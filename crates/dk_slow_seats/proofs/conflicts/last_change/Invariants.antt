-- The other commits lead to the same number.
use Rattle.std.proofs.Common.{◌≡◌, drop}
use Rattle.dk_slow_seats.specs.Folds.{last_from}
use Rattle.dk_slow_seats.proofs.conflicts.last_change.Given as goal

abbrev pub invariant-loop-commit : goal.invariant-loop-commit
invariant-loop-commit l = (l.number ≡ l.commit-index)
    × (last_from l.table l.row l.number l.last (drop l.commit-index l.commits) ≡ last_from l.table l.row 0 0 l.commits)
