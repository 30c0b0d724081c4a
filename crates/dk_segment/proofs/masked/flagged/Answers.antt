use Rattle.std.proofs.Common.{arith, pos}
use Rattle.dk_segment.proofs.MaskedLemmas.{one_number, no_number}
use Rattle.dk_segment.proofs.masked.flagged.Goals as goal

pub numbers-preserved : goal.numbers-preserved
numbers-preserved c = one_number c.args.flags.now c.args.numbers.now c.numbers.i 0 (pos 0) _ _ _ (omega (arith, c.requires, c.numbers-test.true)) (omega (arith, c.numbers-test.true)) c.in_ok-push_if.ensures c.numbers.invariant

pub returns : goal.returns
returns c = no_number c.args.flags.now c.args.numbers.now c.numbers.i _ _ (omega (arith, c.requires, c.numbers-test.false)) c.numbers.invariant
