use Rattle.std.proofs.Common.{rules}
use Rattle.dk_turns.proofs.CounterLemmas.{may_count, may_put_taken, may_put_made}
use Rattle.dk_turns.proofs.tests.count.Goals as goal

pub release-requires-clause-held : goal.release-requires-clause-held
release-requires-clause-held g c =
    let t = c.take-held.ensures in
    may_put_taken c.args.pass.now.knowledge c.take-held.new.pass.knowledge c.args.turn c.take-held.result c.requires.2
    t.knowledge t.turn

pub event-place-requires-clause-step : goal.event-place-requires-clause-step
event-place-requires-clause-step g c =
    let t = c.take-held.ensures in
    may_count c.args.pass.now.knowledge c.take-held.new.pass.knowledge c.args.turn c.take-held.result.part _ tt
    c.requires.2 t.knowledge t.turn (search rules)

pub release-requires-2-clause-held : goal.release-requires-2-clause-held
release-requires-2-clause-held g c =
    let t = c.take-held.ensures in
    let e = c.event-place.ensures in
    may_put_made c.take-held.new.pass.knowledge c.event-place.new.pass.knowledge tt e.made.0 _ c.event-place.new.held
    (search rules) e.held e.made.2
