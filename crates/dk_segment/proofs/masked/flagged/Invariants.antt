-- The numbers so far, and those that are left.
use Rattle.std.proofs.Common.{◌≡◌, ◌++◌, drop}
use Rattle.dk_segment.specs.Masked.{flagged}
use Rattle.dk_segment.proofs.masked.flagged.Given as goal

abbrev pub invariant-numbers : goal.invariant-numbers
invariant-numbers l = l.found.items ++ flagged (drop l.i l.flags) (drop l.i l.numbers) ≡ flagged l.flags l.numbers
