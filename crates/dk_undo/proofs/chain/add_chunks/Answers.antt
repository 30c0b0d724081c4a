-- Chunks are added one by one, and given back where memory is missing.
use Rattle.std.proofs.Common.{◌≡◌, drop, take, sym, ap, ◌∙◌, subst, arith}
use Rattle.dk_undo.specs.Chain.{AreEmpty, Grows}
use Rattle.dk_undo.proofs.PackedLemmas.{grows-nothing, grows-more, grows-drop, grows-take}
use Rattle.dk_undo.proofs.chain.add_chunks.Goals as goal

pub loop-added-init : goal.loop-added-init
loop-added-init g c = grows-nothing _

pub free_chunks-requires : goal.free_chunks-requires
free_chunks-requires g c =
    let before = c.len-before.ensures ∙ c.args.chunks.now.ok.0 in
    subst (λ cs. AreEmpty (drop c.len-before.result cs)) (sym c.in-Err.ensures.err)
    (grows-drop _ _ _ _ before c.loop-added.invariant)

pub returns-in-Err-clause-err : goal.returns-in-Err-clause-err
returns-in-Err-clause-err g c =
    let before = c.len-before.ensures ∙ c.args.chunks.now.ok.0 in
    c.free_chunks.ensures ∙ ap (take c.len-before.result) c.in-Err.ensures.err
    ∙ grows-take _ _ _ _ before c.loop-added.invariant

pub loop-added-preserved : goal.loop-added-preserved
loop-added-preserved g c = grows-more _ _ _ _ 1 c.loop-added.invariant c.in_default.ensures.ok

pub returns-clause-ok : goal.returns-clause-ok
returns-clause-ok g c =
    let all : c.loop-added._added ≡ c.args.count = omega
    (arith, c.loop-added-test.false, c.loop-added.auto._added-end) in
    subst (λ k. Grows c.args.chunks.now.items c.loop-added.chunks.items k) all c.loop-added.invariant
