use Rattle.dk_turns.proofs.CounterLemmas.{Building}
use Rattle.dk_turns.proofs.tests.passes.Given as goal

abbrev pub invariant-loop : goal.invariant-loop
invariant-loop l = Building l.turns.id l.first l.all.items
