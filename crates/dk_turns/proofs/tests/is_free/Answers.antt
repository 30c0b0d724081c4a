use Rattle.dk_turns.proofs.CounterLemmas.{may_put_tried}
use Rattle.dk_turns.proofs.tests.is_free.Goals as goal

pub release-requires-clause-held : goal.release-requires-clause-held
release-requires-clause-held c =
    let s = c.in-Some.ensures.some in
    may_put_tried c.args.pass.now.knowledge c.try_take.new.pass.knowledge c.args.turn c.in-Some.held c.requires.2 s.0
    s.1
