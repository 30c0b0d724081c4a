use Rattle.dk_turns.proofs.CounterLemmas.{among_at}
use Rattle.dk_turns.proofs.tests.spread.Goals as goal

pub for_each_mut-requires-clause-accepts : goal.for_each_mut-requires-clause-accepts
for_each_mut-requires-clause-accepts g c κs within = λ i p small is. c.requires p.now
    (among_at c.args.passes.now i p.now small is)
