use Rattle.std.proofs.Common.{arith, ◌<◌, ◌≤◌, length, ap}
use Rattle.dk_chain.proofs.StampLemmas.{oldest_found, oldest_ended}
use Rattle.dk_chain.proofs.chain.stamp_oldest.Goals as goal

pub returns-then-index-from : goal.returns-then-index-from
returns-then-index-from c =
    let now = c.nodes.nodes.items in
    let count = ap length c.nodes.invariant.0 in
    let within : c.nodes.i < length now = omega (arith, c.nodes-test.true, c.len-i-end.ensures, c.args.nodes.now.ok.0, count) in
    oldest_found c.args.from c.args.to c.nodes.i now c.args.nodes.now.items c.index.result.now c.index_mut.result.now
    c.nodes.invariant within c.index.ensures c.index_mut.ensures.value c.if-index-from.true

pub returns : goal.returns
returns c =
    let now = c.nodes.nodes.items in
    let count = ap length c.nodes.invariant.0 in
    let end : length now ≤ c.nodes.i = omega (arith, c.nodes-test.false, c.len-i-end.ensures, c.args.nodes.now.ok.0, count) in
    oldest_ended c.args.from c.args.to c.nodes.i now c.args.nodes.now.items c.nodes.invariant end
