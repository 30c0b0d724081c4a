-- The least so far.
use Rattle.std.proofs.Common.{◌≡◌, take}
use Rattle.std.specs.List.{fold}
use Rattle.dk_manager.specs.State.{lesser_start}
use Rattle.dk_manager.proofs.live.least_start.Given as goal

abbrev pub invariant-seats : goal.invariant-seats
invariant-seats l = l.least ≡ fold lesser_start l.last (take l.seat-index l.seats)
