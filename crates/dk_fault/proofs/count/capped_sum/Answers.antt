use Rattle.std.proofs.Common.{refl, arith}
use Rattle.std.proofs.lemmas.Fn.{says_at}
use Rattle.dk_fault.proofs.SumLemmas.{capped_step}
use Rattle.dk_fault.proofs.count.capped_sum.Goals as goal

-- the item's size goes from the rest to the total
pub loop-item-preserved : goal.loop-item-preserved
loop-item-preserved g c = record {
  small = omega arith;
  same = λ f sizes.
      capped_step f c.args.items.now c.loop-item.item-index c.item-item.result c.loop-item.total c.size.result
      c.saturating_add-total.result c.loop-item-test.true c.item-item.is
      (sizes c.item-item.result c.size.result (says_at g.F.Fn c.size.ensures refl)) c.saturating_add-total.ensures
      (c.loop-item.invariant.same f sizes);
}
