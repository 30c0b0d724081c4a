-- The lowest so far.
use Rattle.std.proofs.Common.{◌≡◌, take, fold}
use Rattle.dk_scans.specs.Extremes.{lower_key}
use Rattle.dk_scans.proofs.extremes.lowest_of.Given as goal

abbrev pub invariant-numbers : goal.invariant-numbers
invariant-numbers l =
    l.lowest ≡ fold (lower_key l.extreme) l.first (take l.number-index l.numbers)
