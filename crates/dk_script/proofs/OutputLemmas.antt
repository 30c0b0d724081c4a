-- What a script prints is a function of the script, while nothing fails.
use Rattle.std.proofs.Common.{◌∙◌, sym, ap, [], arith}
use Rattle.dk_si.specs.Machine.{first_state}
use Rattle.dk_alone.specs.AnswerHistory.{answer_history}
use Rattle.dk_alone.specs.AnswerLaws.{HistoriesAreAnswers}
use Rattle.dk_script.specs.Histories.{history_text}
use Rattle.dk_script.specs.OutputLaws.{OutputsAreOne}
use Rattle.dk_script.proofs.TimelessLemmas.{history_timeless}

pub outputs_are_one : HistoriesAreAnswers → OutputsAreOne
outputs_are_one histories_are_answers requests entries plain calls =
    sym (history_timeless entries first_state)
    ∙ (ap (history_text first_state) (histories_are_answers [] 1 entries (omega arith) plain)
    ∙ ap (λ asked. history_text first_state (answer_history [] 1 first_state asked)) calls)
