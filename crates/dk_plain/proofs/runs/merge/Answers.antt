-- The next item of the run stands, and the rest of it joins what is behind.
use Rattle.dk_plain.proofs.RunLemmas.{merge_step}
use Rattle.dk_plain.proofs.runs.merge.Goals as goal

pub loop-item-preserved : goal.loop-item-preserved
loop-item-preserved g c =
    merge_step g.T.Keyed.key c.loop-item.all.items c.copy_below.new.all.items c.push.new.self.items c.args.run.now
    c.loop-item.left.now c.in_ok-left.left.now _ c.loop-item.item-index c.key.result c.item-item.result c.in_ok-copy.field-0
    c.loop-item-test.true c.item-item.is c.key.ensures c.in_ok-left.ensures.0 c.in_ok-left.ensures.1 c.in_ok-copy.ensures
    c.in_ok-push.ensures.items c.loop-item.invariant.0 c.loop-item.invariant.1
