use Rattle.std.proofs.Common.{arith}
use Rattle.dk_bytes.proofs.PackingLemmas.{one_taken, one_behind, some_behind}
use Rattle.dk_bytes.proofs.numbers.unpack_beyond.Goals as goal

pub numbers-preserved : goal.numbers-preserved
numbers-preserved c = record {
  told = one_taken _ _ _ _ _ _ _ _ _ c.numbers-test.true c.in_ok-push.ensures.items c.take.ensures.value c.take.ensures.left c.numbers.invariant.told;
  behind = one_behind _ _ _ _ _ _ c.numbers-test.true c.take.ensures.left c.numbers.invariant.behind;
  within = omega arith;
}

pub returns-else-is_zero : goal.returns-else-is_zero
returns-else-is_zero c = some_behind _ _ _ _ _ c.numbers-test.false c.numbers.invariant.behind c.if-is_zero.ensures
