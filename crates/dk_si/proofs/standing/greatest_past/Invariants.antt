-- The greatest so far, and that of the rest.
use Rattle.std.proofs.Common.{◌≡◌, drop}
use Rattle.dk_si.specs.ShortStanding.{greatest_past}
use Rattle.dk_si.proofs.standing.greatest_past.Given as goal

abbrev pub invariant-loop-other : goal.invariant-loop-other
invariant-loop-other l =
    greatest_past l.flights l.greatest (drop l.other-index l.written) ≡ greatest_past l.flights l.least l.written
