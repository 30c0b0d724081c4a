-- None of the first i flags is set.
use Rattle.std.proofs.Common.{◌≡◌, [], take}
use Rattle.dk_scans.specs.Selection.{select}
use Rattle.dk_scans.proofs.extremes.first_number.Given as goal

abbrev pub invariant-numbers : goal.invariant-numbers
invariant-numbers l =
    select (take l.i l.flags) (take l.i l.numbers) ≡ []
