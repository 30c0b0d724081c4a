-- The value has passed its limit, and more digits make it no smaller.
use Rattle.std.proofs.Common.{arith}
use Rattle.dk_copy.proofs.NumberLemmas.{value_over_at}
use Rattle.dk_copy.proofs.numbers.value_of.Goals as goal

pub returns-then-value-digit-clause-none : goal.returns-then-value-digit-clause-none
returns-then-value-digit-clause-none c =
    value_over_at c.args.digits.now c.digits.value c.digits.d-index c.digits-test.true
    (omega (arith, c.from-digit.ensures, c.saturating_sub.ensures)) c.digits.invariant
