-- The law is a lemma.
use Rattle.dk_alone.proofs.OnlyAnswerLemmas.{histories_are_answers}
use Rattle.dk_alone.proofs.one_thread.histories_are_answers.Goals as goal

pub returns : goal.returns
returns c = histories_are_answers
