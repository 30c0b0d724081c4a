-- The law is a lemma.
use Rattle.dk_alone.proofs.AnswerWalkLemmas.{answers_have_the_calls}
use Rattle.dk_alone.proofs.one_thread.answers_have_the_calls.Goals as goal

pub returns : goal.returns
returns c = answers_have_the_calls
