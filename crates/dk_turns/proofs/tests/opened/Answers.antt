use Rattle.std.proofs.Common.{rules}
use Rattle.dk_turns.specs.declared.layout.TheConstants.{TURNS}
use Rattle.dk_turns.proofs.CounterLemmas.{starts_even}
use Rattle.dk_turns.proofs.tests.opened.Goals as goal

pub new-requires-clause-fact : goal.new-requires-clause-fact
new-requires-clause-fact c = starts_even (Unit {0}) c.in-Ok.parts.items TURNS (search rules)
