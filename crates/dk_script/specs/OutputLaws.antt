-- What a script prints is a function of the script, while nothing fails.
use Rattle.std.specs.Prelude.{◌≡◌, ℕ, List, [], map}
use Rattle.dk_si.specs.declared.history.Asked.{Asked}
use Rattle.dk_si.specs.declared.history.Entry.{Entry}
use Rattle.dk_si.specs.Machine.{first_state}
use Rattle.dk_alone.specs.AnswerHistory.{calls_of, answer_history}
use Rattle.dk_alone.specs.AnswerLaws.{IsPlainHistory}
use Rattle.dk_script.specs.Calls.{asked_of}
use Rattle.dk_script.specs.Histories.{history_text}

-- the calls that requests make where there is memory to read each
abbrev pub calls_for : List (ℕ × List ℕ) → List (ℕ × Asked)
calls_for requests = map (λ request. (request.0, asked_of request.1 [])) requests

-- where no reply tells a fault, a stop or want of memory, a history that answers requests prints what they are answered
-- on one thread, which is a function of them
abbrev pub OutputsAreOne : Type 0
OutputsAreOne = (requests : List (ℕ × List ℕ)) (entries : List Entry)
    → IsPlainHistory [] 1 entries → calls_of entries ≡ calls_for requests
    → history_text first_state entries
    ≡ history_text first_state (answer_history [] 1 first_state (calls_for requests))
