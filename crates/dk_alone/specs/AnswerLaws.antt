-- In a history of one thread the replies are a function of the calls, and each list of calls has
-- such a history.
use Rattle.std.specs.List.{list_all}
use Rattle.std.specs.Prelude.{Bool, true, not, ℕ, ◌&&◌, ◌≤◌, ◌≡◌, List, [], ◌∷◌, ◌++◌, Option, Some}
use Rattle.std.specs.Prelude.{None, map}
use Rattle.dk_types.specs.declared.reply.Refusal.{Refusal}
use Rattle.dk_types.specs.declared.reply.Refusal.TheVariants as refusal
use Rattle.dk_types.specs.declared.reply.Reply.{Reply}
use Rattle.dk_types.specs.declared.reply.Reply.TheVariants as reply
use Rattle.dk_syntax.specs.declared.statement.Statement.TheVariants as statement
use Rattle.dk_si.specs.declared.database.Table.{Table}
use Rattle.dk_si.specs.declared.history.Asked.{Asked}
use Rattle.dk_si.specs.declared.history.Asked.TheVariants.{Unread, Bad, Good}
use Rattle.dk_si.specs.declared.history.Entry.{Entry}
use Rattle.dk_si.specs.declared.history.Entry.TheVariants as entry
use Rattle.dk_si.specs.declared.machine.Machine.{Machine}
use Rattle.dk_si.specs.declared.machine.Session.{Session}
use Rattle.dk_si.specs.declared.limits.TheConstants.{MAX_ITERATION}
use Rattle.dk_si.specs.Answer.{answer, timeless}
use Rattle.dk_alone.specs.AnswerHistory.{is_call, calls_of, iteration_after, answer_history}
use Rattle.dk_alone.specs.AnswerHistory.{timeless_entry, are_answered}
use Rattle.dk_si.specs.Exchanges.{exchanges}
use Rattle.dk_si.specs.Laws.{state_after}
use Rattle.dk_si.specs.Machine.{first_state, next, session_at}
use Rattle.dk_si.specs.OneThread.{is_legal_alone}
use Rattle.dk_si.specs.ReplyTests.{is_fault, is_refused}

abbrev pub is_fault_or_stop : Refusal → Bool
is_fault_or_stop (refusal.Stopped first) = true
is_fault_or_stop refusal = is_fault refusal

-- a statement that was read has neither met a fault nor an engine that is stopped
abbrev pub is_plain : Asked → Reply → Bool
is_plain Unread reply = true
is_plain (Bad at) reply = true
is_plain (Good statement) reply = not (is_refused is_fault_or_stop reply)

-- the reply to the call in flight is plain
abbrev pub is_plain_to : Option Asked → Reply → Bool
is_plain_to None reply = true
is_plain_to (Some asked) reply = is_plain asked reply

abbrev pub is_plain_entry : Machine → Entry → Bool
is_plain_entry machine (entry.Call number asked) = true
is_plain_entry machine (entry.Begun number transaction start) = true
is_plain_entry machine (entry.Reply number reply) = elim (session_at machine.sessions number) [
  | None ↦ true
  | Some session ↦ is_plain_to session.asked reply
]

-- all replies of a history are plain
abbrev pub are_plain : List Table → Machine → List Entry → Bool
are_plain opened machine [] = true
are_plain opened machine (entry ∷ entries) =
    is_plain_entry machine entry && are_plain opened (next opened machine entry) entries

-- A legal history of one thread, in which each call has its reply, and no reply to a statement that
-- was read tells a fault, a stop or want of memory.
pub record IsPlainHistory (opened : List Table) (iteration : ℕ)
    (entries : List Entry) : Type 0 where
  pub legal : is_legal_alone opened iteration entries ≡ true
  pub answered : are_answered (exchanges entries) ≡ true
  pub plain : are_plain opened first_state entries ≡ true

-- each list of lawful calls has such a history: the one that answers them
abbrev pub AnswersAreLegal : Type 0
AnswersAreLegal = (opened : List Table) (iteration : ℕ) (calls : List (ℕ × Asked))
    → iteration ≤ MAX_ITERATION → list_all is_call calls ≡ true
    → IsPlainHistory opened iteration (answer_history opened iteration first_state calls)

-- which has exactly those calls
abbrev pub AnswersHaveTheCalls : Type 0
AnswersHaveTheCalls =
    (opened : List Table) (iteration : ℕ) (machine : Machine) (calls : List (ℕ × Asked))
    → calls_of (answer_history opened iteration machine calls) ≡ calls

-- it is the only one, moments aside
abbrev pub HistoriesAreAnswers : Type 0
HistoriesAreAnswers = (opened : List Table) (iteration : ℕ) (entries : List Entry)
    → iteration ≤ MAX_ITERATION → IsPlainHistory opened iteration entries
    → map timeless_entry entries ≡ answer_history opened iteration first_state (calls_of entries)

-- a call in flight behind a history of one thread, and a reply that may come there
pub record IsReplyTo (opened : List Table) (iteration : ℕ) (entries : List Entry) (number : ℕ)
    (session : Session)
    (asked : Asked) (reply : Reply) : Type 0 where
  pub legal : is_legal_alone opened iteration (entries ++ entry.Reply number reply ∷ []) ≡ true
  pub is : session_at (state_after opened first_state entries).sessions number ≡ Some session
  pub call : session.asked ≡ Some asked
  pub plain : is_plain asked reply ≡ true

-- The reply is the answer in the state before it. A call that begins a transaction is answered by
-- what it means once that has begun; while its session is outside one, the answer is that no
-- further transaction can begin.
abbrev pub RepliesAreAnswers : Type 0
RepliesAreAnswers =
    (opened : List Table) (iteration : ℕ) (entries : List Entry) (number : ℕ) (session : Session)
    (asked : Asked) (reply : Reply)
    → iteration ≤ MAX_ITERATION → IsReplyTo opened iteration entries number session asked reply
    → let machine = state_after opened first_state entries in
    timeless reply ≡ answer opened (iteration_after iteration entries) machine number
    session.transaction asked

-- two replies to one call are the same
abbrev pub RepliesAreOne : Type 0
RepliesAreOne =
    (opened : List Table) (iteration : ℕ) (entries : List Entry) (number : ℕ) (session : Session)
    (asked : Asked) (reply other : Reply)
    → iteration ≤ MAX_ITERATION
    → IsReplyTo opened iteration entries number session asked reply
    → IsReplyTo opened iteration entries number session asked other
    → timeless reply ≡ timeless other

-- a history by hand: a transaction begins, and stands beside a checkpoint and a call that could not
-- be read
abbrev pub AnswersByHand : Type 0
AnswersByHand =
    answer_history [] 1 first_state
    ((1, Good statement.Begin) ∷ (2, Good statement.Checkpoint) ∷ (1, Good statement.Commit)
    ∷ (2, Unread)
    ∷ (2, Good statement.Rollback) ∷ [])
    ≡ entry.Call 1 (Good statement.Begin) ∷ entry.Begun 1 0 0 ∷ entry.Reply 1 (reply.Begun 0)
    ∷ entry.Call 2 (Good statement.Checkpoint) ∷ entry.Reply 2 (reply.Checkpointed 2)
    ∷ entry.Call 1 (Good statement.Commit) ∷ entry.Reply 1 reply.Ended
    ∷ entry.Call 2 Unread ∷ entry.Reply 2 (reply.Refused refusal.OutOfMemory)
    ∷ entry.Call 2 (Good statement.Rollback)
    ∷ entry.Reply 2 (reply.Refused refusal.NoTransaction) ∷ []
