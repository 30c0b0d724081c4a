use Rattle.dk_turns.proofs.CounterLemmas.{build_first, build_more, build_end}
use Rattle.dk_turns.proofs.tests.passes.Goals as goal

pub loop-init : goal.loop-init
loop-init c = rw c.new-all.ensures.items (build_first c.args.turns.now.id c.args.first c.requires.0 c.requires.1)

pub loop-preserved : goal.loop-preserved
loop-preserved c =
    let s = c.split.ensures in
    build_more c.args.turns.now.id c.loop.first c.split.new.pass c.split.result c.loop.all.items c.lacks.new.all.items
    c.loop.invariant s.pass.0 s.pass.1 s.new.0 s.new.1 (c.lacks.ensures c.if-lacks.false)

pub returns : goal.returns
returns c = build_end c.args.turns.now.id c.loop.first c.loop.all.items c.lacks-2.new.all.items c.loop.invariant
    (c.lacks-2.ensures c.if-lacks-2.false)
