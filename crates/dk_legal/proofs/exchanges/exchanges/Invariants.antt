-- What is done so far, and what the rest gives.
use Rattle.std.proofs.Common.{◌≡◌, ◌++◌, drop}
use Rattle.dk_si.specs.Exchanges.{exchanges_from, exchanges}
use Rattle.dk_legal.proofs.exchanges.exchanges.Given as goal

abbrev pub invariant-loop-i : goal.invariant-loop-i
invariant-loop-i l = l.all.items ++ exchanges_from l.i (drop l.i l.entries) ≡ exchanges l.entries
