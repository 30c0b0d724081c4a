-- What was put and what is left to put are the text of all answers.
use Rattle.std.proofs.Common.{◌≡◌, ◌++◌, drop}
use Rattle.dk_script.specs.PlainTexts.{answers_text}
use Rattle.dk_script.proofs.plain.plain_output.Given as goal

abbrev pub invariant-answers : goal.invariant-answers
invariant-answers l = l.out.items ++ answers_text (drop l.told-index l.answers) ≡ answers_text l.answers
