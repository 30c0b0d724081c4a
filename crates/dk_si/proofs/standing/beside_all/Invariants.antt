-- What is kept so far, and what is kept of the rest.
use Rattle.std.proofs.Common.{◌≡◌, ◌++◌, drop}
use Rattle.std.specs.List.{filter}
use Rattle.dk_si.specs.ShortStanding.{is_beside}
use Rattle.dk_si.proofs.standing.beside_all.Given as goal

abbrev pub invariant-loop-other : goal.invariant-loop-other
invariant-loop-other l =
    l.kept ++ filter (is_beside l.flights) (drop l.other-index l.written) ≡ filter (is_beside l.flights) l.written
