-- What a call of a runner does to the history that it stands for.
use Rattle.std.specs.Prelude.{◌≡◌, ℕ, true, List, [], ◌∷◌, ◌++◌, Option, Some, None}
use Rattle.dk_types.specs.declared.reply.Reply.{Reply}
use Rattle.dk_si.specs.declared.history.Asked.{Asked}
use Rattle.dk_si.specs.declared.history.Entry.{Entry}
use Rattle.dk_si.specs.declared.history.Entry.TheVariants as entry
use Rattle.dk_si.specs.declared.machine.Machine.{Machine}
use Rattle.dk_si.specs.Exchanges.{exchanges}
use Rattle.dk_si.specs.Laws.{state_after}
use Rattle.dk_si.specs.Machine.{first_state, next}
use Rattle.dk_si.specs.OneThread.{is_legal_alone}
use Rattle.dk_alone.specs.AnswerHistory.{are_answered}
use Rattle.dk_script.specs.Calls.{IsRead}
use Rattle.dk_script.specs.Histories.{name_told}
use Rattle.dk_plain_engine.specs.declared.engine.Answer.{Answer}

-- a legal history of one thread from a database without tables, in which each call has its reply
pub record IsWhole (entries : List Entry) : Type 0 where
  pub legal : is_legal_alone [] 1 entries ≡ true
  pub answered : are_answered (exchanges entries) ≡ true

-- the number of a transaction that begins, and the commits that it sees
abbrev pub Start : Type 0
Start = ℕ × ℕ

-- the entries of a call: the call, the Begun entry where it makes one, and its reply
abbrev pub exchange : ℕ → Asked → Option Start → Reply → List Entry
exchange session asked None reply = entry.Call session asked ∷ entry.Reply session reply ∷ []
exchange session asked (Some start) reply =
    entry.Call session asked ∷ entry.Begun session start.0 start.1 ∷ entry.Reply session reply ∷ []

-- the state in which the reply comes
abbrev pub state_replied : Machine → ℕ → Asked → Option Start → Machine
state_replied machine session asked None = next [] machine (entry.Call session asked)
state_replied machine session asked (Some start) =
    next [] (next [] machine (entry.Call session asked)) (entry.Begun session start.0 start.1)

-- Behind entries that stood stand those of one more call, which was read of this text and data. Its reply is the
-- answer's, which has the name of a Conflict's table as the refused transaction sees it.
pub record AnswersCall {R : Type 0} (stands : R → List Entry → Type 0) (new : R) (entries : List Entry) (session : ℕ)
    (text copy : List ℕ) (answer : Answer) : Type 0 where
  pub asked : Asked
  pub start : Option Start
  pub read : IsRead text copy asked
  pub stood : stands new (entries ++ exchange session asked start answer.reply)
  pub name : answer.name
      ≡ name_told (state_replied (state_after [] first_state entries) session asked start) session answer.reply
