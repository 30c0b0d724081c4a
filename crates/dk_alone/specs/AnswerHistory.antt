-- The history of one thread that answers a list of calls: each call, its Begun entry where it makes
-- one, and its reply.
use Rattle.std.specs.List.{list_all}
use Rattle.std.specs.Prelude.{ℕ, Bool, List, [], ◌∷◌, ◌++◌, Some, None, if◌then◌else◌, ◌&&◌, not}
use Rattle.std.specs.Prelude.{is_some, length, nat_lt, nat_le}
use Rattle.dk_types.specs.declared.reply.Reply.{Reply}
use Rattle.dk_types.specs.declared.reply.Reply.TheVariants as reply
use Rattle.dk_si.specs.declared.database.Table.{Table}
use Rattle.dk_si.specs.declared.exchange.Exchange.{Exchange}
use Rattle.dk_si.specs.declared.history.Asked.{Asked}
use Rattle.dk_si.specs.declared.history.Entry.{Entry}
use Rattle.dk_si.specs.declared.history.Entry.TheVariants as entry
use Rattle.dk_si.specs.declared.limits.TheConstants.{SESSIONS}
use Rattle.dk_si.specs.declared.machine.Machine.{Machine}
use Rattle.dk_si.specs.declared.machine.Transaction.{Transaction}
use Rattle.dk_si.specs.declared.machine.Transaction.TheVariants as transaction
use Rattle.dk_si.specs.Answer.{answer, timeless}
use Rattle.dk_si.specs.LawfulCalls.{is_lawful_call}
use Rattle.dk_si.specs.Laws.{state_after}
use Rattle.dk_si.specs.Machine.{next, session_at, asks_for, begins_one, is_outside}
use Rattle.dk_si.specs.OneThread.{is_spent_alone}

-- a call that a session may make: sessions have the numbers 1 to 32
abbrev pub is_call : ℕ × Asked → Bool
is_call call = (nat_lt 0 call.0 && nat_le call.0 SESSIONS) && is_lawful_call call.1

-- the calls of a history, each with its session
abbrev pub calls_of : List Entry → List (ℕ × Asked)
calls_of [] = []
calls_of (entry.Call session asked ∷ entries) = (session, asked) ∷ calls_of entries
calls_of (entry.Begun session number start ∷ entries) = calls_of entries
calls_of (entry.Reply session reply ∷ entries) = calls_of entries

-- the last iteration that was written, behind a reply, an entry, and a list of entries
abbrev pub iteration_behind : ℕ → Reply → ℕ
iteration_behind iteration (reply.Checkpointed written) = written
iteration_behind iteration other = iteration

abbrev pub iteration_and : ℕ → Entry → ℕ
iteration_and iteration (entry.Call session asked) = iteration
iteration_and iteration (entry.Begun session number start) = iteration
iteration_and iteration (entry.Reply session reply) = iteration_behind iteration reply

abbrev pub iteration_after : ℕ → List Entry → ℕ
iteration_after iteration [] = iteration
iteration_after iteration (entry ∷ entries) =
    iteration_after (iteration_and iteration entry) entries

-- the transaction of the session of that number
abbrev pub transaction_at : Machine → ℕ → Transaction
transaction_at machine number = elim (session_at machine.sessions number) [
  | None ↦ transaction.Outside
  | Some session ↦ session.transaction
]

-- a transaction begins with the call in flight: it asks for one outside a transaction, and a
-- further one can begin
abbrev pub will_begin : List Table → Machine → ℕ → Asked → Bool
will_begin opened machine number asked =
    (asks_for begins_one (Some asked) && is_outside (transaction_at machine number))
    && not (is_spent_alone opened machine)

-- the transaction that begins next sees all commits so far
abbrev pub begun_next : Machine → ℕ → Entry
begun_next machine number = entry.Begun number machine.begun (length machine.commits)

-- the reply to the call in flight, where the last iteration so far is this one
abbrev pub reply_next : List Table → ℕ → Machine → ℕ → Asked → Entry
reply_next opened iteration machine number asked =
    entry.Reply number
    (answer opened iteration machine number (transaction_at machine number) asked)

-- what follows a call: its Begun entry, where it makes one, and the reply in the state behind that
abbrev pub answer_entries : List Table → ℕ → Machine → ℕ → Asked → List Entry
answer_entries opened iteration machine number asked =
    let begun = begun_next machine number in
    if will_begin opened machine number asked
    then begun ∷ reply_next opened iteration (next opened machine begun) number asked ∷ []
    else reply_next opened iteration machine number asked ∷ []

-- the entries of a call
abbrev pub call_entries : List Table → ℕ → Machine → ℕ → Asked → List Entry
call_entries opened iteration machine number asked =
    let call = entry.Call number asked in
    call ∷ answer_entries opened iteration (next opened machine call) number asked

-- the history that answers these calls, one after the other
abbrev pub answer_history : List Table → ℕ → Machine → List (ℕ × Asked) → List Entry
answer_history opened iteration machine [] = []
answer_history opened iteration machine (call ∷ calls) =
    let entries = call_entries opened iteration machine call.0 call.1 in
    entries ++ answer_history opened (iteration_after iteration entries)
    (state_after opened machine entries) calls

-- an entry without the moment of its receipt
abbrev pub timeless_entry : Entry → Entry
timeless_entry (entry.Call session asked) = entry.Call session asked
timeless_entry (entry.Begun session number start) = entry.Begun session number start
timeless_entry (entry.Reply session reply) = entry.Reply session (timeless reply)

-- each call has its reply
abbrev pub are_answered : List Exchange → Bool
are_answered all = list_all (λ exchange. is_some exchange.replied) all
