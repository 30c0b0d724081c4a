-- A turn carries on what the engine stands behind.
use Rattle.dk_plain_engine.proofs.StandLemmas.{turn_answers}
use Rattle.dk_plain_engine.proofs.engine.Engine.run.Goals as goal

pub returns : goal.returns
returns c = λ lawful entries stands.
    turn_answers c.args.self.now c.turn-answer.new.self c.args.session c.args.asked c.turn-answer.result.reply
    c.turn-answer.result.name c.turn-answer.ensures c.requires.above c.requires.within lawful entries stands
