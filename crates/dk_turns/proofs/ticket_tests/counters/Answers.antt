use Rattle.dk_turns.proofs.CounterLemmas.{build_pair}
use Rattle.dk_turns.proofs.ticket_tests.counters.Goals as goal

pub returns-clause-ready : goal.returns-clause-ready
returns-clause-ready c =
    let s = c.split-other.ensures in
    let o = c.in-Ok-new.ensures.pass in
    build_pair c.in-Ok-new.turns.id c.in-Ok-new.one c.split-other.new.pass c.split-other.result o.0 o.1 s.pass.0
    s.pass.1 s.new.0 s.new.1
