-- The law is a lemma.
use Rattle.dk_alone.proofs.AnswerWalkLemmas.{answers_are_legal}
use Rattle.dk_alone.proofs.one_thread.answers_are_legal.Goals as goal

pub returns : goal.returns
returns c = answers_are_legal
