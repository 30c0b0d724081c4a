-- The lowest of what the first k words select.
use Rattle.std.proofs.Common.{◌≡◌, fold}
use Rattle.dk_scans.specs.Extremes.{lower_key}
use Rattle.dk_scans.specs.Selection.{in_words}
use Rattle.dk_scans.proofs.extremes.lowest_key.Given as goal

abbrev pub invariant-words : goal.invariant-words
invariant-words l =
    l.lowest ≡ fold (lower_key l.extreme) l.first (in_words l.k l.flags l.numbers)
