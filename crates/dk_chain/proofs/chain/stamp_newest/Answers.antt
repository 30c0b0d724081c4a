use Rattle.std.proofs.Common.{arith, ◌≡◌, ◌<◌, ◌+◌, ◌-◌, length, ap}
use Rattle.dk_chain.proofs.StampLemmas.{newest_found, newest_ended}
use Rattle.dk_chain.proofs.chain.stamp_newest.Goals as goal

pub returns-then-index-from : goal.returns-then-index-from
returns-then-index-from c =
    let now = c.nodes.nodes.items in
    let n = length now in
    let count = ap length c.nodes.invariant.0 in
    let long : c.len.result ≡ n = omega (arith, c.len.ensures, c.nodes.nodes.ok.0) in
    let inside : c.nodes.k < n = omega (arith, c.nodes-test.true, c.len-k-end.ensures, c.args.nodes.now.ok.0, count) in
    let next : n - c.nodes.k ≡ ((c.len.result - 1) - c.nodes.k) + 1 = omega (arith, long, inside) in
    let within : (c.len.result - 1) - c.nodes.k < n = omega (arith, long, inside) in
    newest_found c.args.from c.args.to ((c.len.result - 1) - c.nodes.k) (n - c.nodes.k) now c.args.nodes.now.items c.index.result.now c.index_mut.result.now
    c.nodes.invariant next within c.index.ensures c.index_mut.ensures.value c.if-index-from.true

pub returns : goal.returns
returns c =
    let now = c.nodes.nodes.items in
    let count = ap length c.nodes.invariant.0 in
    let end : length now - c.nodes.k ≡ 0 = omega (arith, c.nodes-test.false, c.len-k-end.ensures, c.args.nodes.now.ok.0, count) in
    newest_ended c.args.from c.args.to (length now - c.nodes.k) now c.args.nodes.now.items c.nodes.invariant end
