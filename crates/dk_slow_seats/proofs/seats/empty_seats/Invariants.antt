-- So many seats have nothing.
use Rattle.std.proofs.Common.{◌≡◌}
use Rattle.std.proofs.Math.ListN.{replicate}
use Rattle.dk_core.specs.Core.{no_seat}
use Rattle.dk_slow_seats.proofs.seats.empty_seats.Given as goal

abbrev pub invariant-seats : goal.invariant-seats
invariant-seats l = l.seats.items ≡ replicate l._number no_seat
