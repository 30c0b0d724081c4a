-- The stamper stands among the other seats.
use Rattle.std.proofs.Common.{◌≡◌, drop}
use Rattle.dk_core.specs.Findings.{stamper_among}
use Rattle.dk_slow_seats.proofs.conflicts.stamper_among.Given as goal

abbrev pub invariant-loop-seat : goal.invariant-loop-seat
invariant-loop-seat l =
    stamper_among l.n l.table l.row (drop l.seat-index l.seats) ≡ stamper_among l.n l.table l.row l.seats
