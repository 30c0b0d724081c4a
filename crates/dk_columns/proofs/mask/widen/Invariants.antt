-- The flags up to the i-th are set.
use Rattle.dk_columns.specs.Flags.{Widened}
use Rattle.dk_columns.proofs.mask.widen.Given as goal

abbrev pub invariant-flags : goal.invariant-flags
invariant-flags l = Widened l.fn.words.items l.words.items l.from l.i
