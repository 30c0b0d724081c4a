-- The writer stands among the other seats.
use Rattle.std.proofs.Common.{◌≡◌, drop}
use Rattle.dk_core.specs.Findings.{writer_among}
use Rattle.dk_slow_seats.proofs.conflicts.writer_among.Given as goal

abbrev pub invariant-loop-seat : goal.invariant-loop-seat
invariant-loop-seat l = writer_among l.table l.row (drop l.seat-index l.seats) ≡ writer_among l.table l.row l.seats
