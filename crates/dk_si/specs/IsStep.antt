-- The machine's step: which entry may come after which.
use Rattle.std.specs.List.{list_all}
use Rattle.std.specs.Prelude.{ℕ, Bool, not, true, ◌||◌, List, ◌&&◌, is_none, length, ◌==◌, nat_lt, false, Some, None, Option, [], ◌∷◌, ◌++◌}
use Rattle.dk_types.specs.declared.reply.Refusal.{Refusal}
use Rattle.dk_types.specs.declared.reply.Refusal.TheVariants as refusal
use Rattle.dk_types.specs.declared.reply.Reply.{Reply}
use Rattle.dk_types.specs.declared.reply.Reply.TheVariants as reply
use Rattle.dk_si.specs.declared.database.Table.{Table}
use Rattle.dk_si.specs.declared.history.Asked.{Asked}
use Rattle.dk_si.specs.declared.history.Entry.{Entry}
use Rattle.dk_si.specs.declared.history.Entry.TheVariants as entry
use Rattle.dk_si.specs.declared.machine.Machine.{Machine}
use Rattle.dk_si.specs.declared.machine.Session.{Session}
use Rattle.dk_si.specs.declared.limits.TheConstants.{MAX_TRANSACTIONS}
use Rattle.dk_si.specs.declared.machine.WriteSet.{WriteSet}
use Rattle.dk_si.specs.declared.machine.Transaction.{Transaction}
use Rattle.dk_si.specs.declared.machine.Transaction.TheVariants as transaction
use Rattle.dk_si.specs.HeldRows.{is_blocked, holds}
use Rattle.dk_si.specs.LawfulCalls.{is_lawful_call}
use Rattle.dk_si.specs.Machine.{write_set_in_flight, asks_for, begins_one, is_outside, session_at, next}
use Rattle.dk_si.specs.MayAnswer.{may_answer}
use Rattle.dk_si.specs.ReplyTests.{has_no_iteration}
use Rattle.dk_si.specs.Spent.{is_spent}
use Rattle.dk_si.specs.StatesSince.{was_since_call}

-- the start of an open transaction
abbrev pub start_of : Transaction → ℕ
start_of (transaction.Open active) = active.start
start_of other = 0

-- no row that the statement changes is blocked
abbrev pub none_blocked : Machine → ℕ → ℕ → Option WriteSet → Bool
none_blocked machine session start None = true
none_blocked machine session start (Some set) = list_all (λ row. not (is_blocked machine session start set.table row)) set.ids

-- a conflict's row is held in some state since the call, and the numbers are spent in some state since the call
abbrev pub is_founded_refusal : List Table → ℕ → List Entry → Refusal → Bool
is_founded_refusal opened session before (refusal.Conflict table row by) =
    was_since_call (holds opened session table row by) opened session before
is_founded_refusal opened session before (refusal.Exhausted numbers) =
    has_no_iteration (refusal.Exhausted numbers) || was_since_call (is_spent opened numbers) opened session before
is_founded_refusal opened session before other = true

-- what must hold of the other sessions: where a change is made, no row that it touches is blocked
abbrev pub is_founded : List Table → ℕ → List Entry → Machine → Session → Reply → Bool
is_founded opened number before machine session (reply.Changed count receipt) =
    none_blocked machine number (start_of session.transaction) (write_set_in_flight opened machine.commits session.transaction session.asked)
is_founded opened number before machine session (reply.Refused refusal) = is_founded_refusal opened number before refusal
is_founded opened number before machine session other = true

-- a call may come where its session has none in flight
abbrev pub may_call : Asked → Session → Bool
may_call asked session = is_none session.asked && is_lawful_call asked

-- a transaction begins with the next number, and sees the commits so far
abbrev pub may_begin : Machine → ℕ → ℕ → Session → Bool
may_begin machine number start session =
    (asks_for begins_one session.asked && is_outside session.transaction)
    && ((number == machine.begun && nat_lt number MAX_TRANSACTIONS) && start == length machine.commits)

-- a reply comes where its session's state allows it, and the other sessions do
abbrev pub may_reply : List Table → ℕ → List Entry → Machine → Reply → Session → Bool
may_reply opened number before machine reply session = elim session.asked [
  | None ↦ false
  | Some asked ↦ may_answer opened machine.commits session.transaction asked reply && is_founded opened number before machine session reply
]

abbrev pub if_there : (Session → Bool) → Option Session → Bool
if_there test None = false
if_there test (Some session) = test session

-- an entry that may come behind those before it, where this is the state
abbrev pub is_step : List Table → List Entry → Machine → Entry → Bool
is_step opened before machine (entry.Call session asked) = if_there (may_call asked) (session_at machine.sessions session)
is_step opened before machine (entry.Begun session number start) =
    if_there (may_begin machine number start) (session_at machine.sessions session)
is_step opened before machine (entry.Reply session reply) =
    if_there (may_reply opened session before machine reply) (session_at machine.sessions session)

-- each of these entries is a step from the state after those before it
abbrev pub are_steps : List Table → List Entry → Machine → List Entry → Bool
are_steps opened before machine [] = true
are_steps opened before machine (entry ∷ entries) =
    is_step opened before machine entry && are_steps opened (before ++ entry ∷ []) (next opened machine entry) entries
