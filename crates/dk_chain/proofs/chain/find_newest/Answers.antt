use Rattle.std.proofs.Common.{sym, ◌∙◌, ap, arith, ◌≡◌, ◌+◌, ◌-◌, ◌<◌, length, take}
use Rattle.dk_chain.specs.Nodes.{nodes_at, newest_stamp}
use Rattle.dk_chain.proofs.NodeLemmas.{newest_next}
use Rattle.dk_chain.proofs.chain.find_newest.Goals as goal

pub nodes-preserved : goal.nodes-preserved
nodes-preserved c =
    let n = length c.args.nodes.now in
    let within = c.nodes-test.true in
    let front : n - (c.nodes.k + 1) ≡ (n - 1) - c.nodes.k = omega arith in
    let next : n - c.nodes.k ≡ ((n - 1) - c.nodes.k) + 1 = omega (arith, within) in
    let inside : (n - 1) - c.nodes.k < n = omega (arith, within) in
    ap (λ i. newest_stamp (nodes_at c.args.row (take i c.args.nodes.now))) front
    ∙ sym (newest_next _ _ _ _ _ next inside c.index-nodes-nodes.is (sym c.in_default.is ∙ c.stamp_if.ensures))
    ∙ c.nodes.invariant
