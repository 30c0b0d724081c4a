-- The law is a lemma.
use Rattle.dk_alone.proofs.ReplyAnswerLemmas.{replies_are_answers}
use Rattle.dk_alone.proofs.one_thread.replies_are_answers.Goals as goal

pub returns : goal.returns
returns c = replies_are_answers
