-- What is done so far, and what the rest gives.
use Rattle.std.proofs.Common.{◌≡◌, ◌++◌, drop}
use Rattle.std.specs.List.{flat_map}
use Rattle.dk_si.specs.ShortStanding.{as_full}
use Rattle.dk_si.specs.Standing.{written_by, written_after}
use Rattle.dk_si.proofs.standing.Standing.written_after.Given as goal

abbrev pub invariant-loop-flight : goal.invariant-loop-flight
invariant-loop-flight l =
    l.all ++ flat_map (written_by l.told.session l.self.place l.told.reply.now) (drop l.flight-index l.flight-items)
    ≡ written_after (as_full l.self) l.told.session l.told.reply.now
