use Rattle.std.proofs.Common.{◌≡◌, ◌+◌, ◌-◌, length, arith, subst, Some, ℕ}
use Rattle.std.specs.Prelude.{slice_get}
use Rattle.dk_vector.specs.Pages.{seen_by}
use Rattle.dk_vector.proofs.PageLemmas.{back_next}
use Rattle.dk_vector.proofs.pages.write_back.Goals as goal

pub nodes-preserved : goal.nodes-preserved
nodes-preserved c =
    let nodes = c.args.chain.now in
    let within = c.nodes-test.true in
    let next : length nodes - c.nodes.k ≡ (length nodes - (c.nodes.k + 1)) + 1 = omega (arith, within) in
    let place : c.len.result - 1 - c.nodes.k ≡ length nodes - (c.nodes.k + 1) = omega (arith, c.len.ensures) in
    back_next (seen_by c.args.reader.now) nodes (length nodes - (c.nodes.k + 1)) (length nodes - c.nodes.k) c.get.result.now c.args.rows.now c.nodes.rows c.write_node.new.rows
    next (subst (λ (i : ℕ). slice_get nodes i ≡ Some c.get.result.now) place c.get.ensures) c.in_ok-write_node.ensures c.nodes.invariant
