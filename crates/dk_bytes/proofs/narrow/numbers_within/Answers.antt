use Rattle.dk_bytes.proofs.NarrowLemmas.{one_more}
use Rattle.dk_bytes.proofs.narrow.numbers_within.Goals as goal

pub numbers-preserved : goal.numbers-preserved
numbers-preserved c = one_more _ _ _ _ _ _ c.numbers.invariant c.packed_number.ensures c.in_ok-push.ensures.items
