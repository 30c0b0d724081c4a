-- The other seats lead to the same bound.
use Rattle.std.proofs.Common.{◌≡◌, drop}
use Rattle.dk_slow_seats.specs.Folds.{bound_from}
use Rattle.dk_slow_seats.proofs.bounds.bound.Given as goal

abbrev pub invariant-loop-seat : goal.invariant-loop-seat
invariant-loop-seat l = bound_from l.bound (drop l.seat-index l.seats) ≡ bound_from l.commits l.seats
