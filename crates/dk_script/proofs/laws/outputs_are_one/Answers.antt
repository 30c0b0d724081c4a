-- The law is a lemma.
use Rattle.dk_alone.proofs.OnlyAnswerLemmas.{histories_are_answers}
use Rattle.dk_script.proofs.OutputLemmas.{outputs_are_one}
use Rattle.dk_script.proofs.laws.outputs_are_one.Goals as goal

pub returns : goal.returns
returns c = outputs_are_one histories_are_answers
