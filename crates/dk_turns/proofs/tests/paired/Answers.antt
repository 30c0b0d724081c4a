use Rattle.dk_turns.proofs.CounterLemmas.{build_pair}
use Rattle.dk_turns.proofs.tests.paired.Goals as goal

pub returns : goal.returns
returns c =
    let o = c.in_ok-turns.ensures in
    let s = c.split-second.ensures in
    build_pair c.in_ok-turns.turns.id c.in_ok-turns.first c.split-second.new.pass c.split-second.result o.0 o.1
    s.pass.0 s.pass.1 s.new.0 s.new.1
