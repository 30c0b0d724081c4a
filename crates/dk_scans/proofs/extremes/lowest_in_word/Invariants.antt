-- The lowest of what the first i bits select.
use Rattle.std.proofs.Common.{◌≡◌, take, fold}
use Rattle.dk_scans.specs.Extremes.{lower_key}
use Rattle.dk_scans.specs.Selection.{select, bits}
use Rattle.dk_scans.proofs.extremes.lowest_in_word.Given as goal

abbrev pub invariant-numbers : goal.invariant-numbers
invariant-numbers l =
    l.lowest ≡ fold (lower_key l.extreme) l.first (select (bits l.i l.word) (take l.i l.numbers))
