-- The next item makes the run longer.
use Rattle.std.proofs.Common.{arith}
use Rattle.dk_plain.proofs.RunLemmas.{above_step}
use Rattle.dk_plain.proofs.runs.len_above.Goals as goal

pub loop-item-preserved : goal.loop-item-preserved
loop-item-preserved g c =
    let h = c.loop-item.invariant in
    let more = above_step g.T.Keyed.key c.args.low c.loop-item.greatest c.key-key.result c.args.items.now
    c.loop-item.item-index c.item-item.result c.loop-item-test.true c.item-item.is c.key-key.ensures h.1
    (omega (arith, c.if-key-greatest.false)) h.2 h.3 h.4 in
    (omega (arith, h.0), omega (arith, h.1, c.if-key-greatest.false), more.0, more.1, more.2)
