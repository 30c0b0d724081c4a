-- The iteration behind what a call comes to is in bounds.
use Rattle.dk_plain_engine.proofs.EngineLemmas.{found_within}
use Rattle.dk_plain_engine.proofs.engine.Engine.answer.Goals as goal

pub carry-requires-clause-iteration : goal.carry-requires-clause-iteration
carry-requires-clause-iteration c =
    found_within c.args.self.now c.args.number c.args.asked.now c.in_ok-outcome.field-0.outcome
    c.find.ensures.iteration c.in_ok-outcome.ensures.outcome
