use Rattle.dk_turns.specs.IdlePasses.{StaysIdle}
use Rattle.dk_turns.proofs.tests.count_on.Given as goal

abbrev pub invariant-loop-step : goal.invariant-loop-step
invariant-loop-step g l = StaysIdle l.fn.pass l.pass
