-- What is added so far, and what the rest adds.
use Rattle.std.proofs.Common.{◌≡◌, drop}
use Rattle.std.specs.List.{flat_map}
use Rattle.dk_si.specs.ShortStanding.{short_needs_after, short_needs_by, with_needs}
use Rattle.dk_si.proofs.standing.Standing.needs_after.Given as goal

abbrev pub invariant-loop-flight : goal.invariant-loop-flight
invariant-loop-flight l =
    with_needs l.needs
    (flat_map (short_needs_by l.told.opened l.self l.told.session l.told.reply.now) (drop l.flight-index l.flight-items))
    ≡ short_needs_after l.told.opened l.self l.told.session l.told.reply.now
