-- The machine's state, and what each entry makes of it.
use Rattle.std.proofs.Math.ListN.{replicate}
use Rattle.std.specs.Prelude.{Bool, true, false, Option, Some, None, [], ℕ, ◌-◌, List, ◌==◌, slice_get, take, drop, if◌then◌else◌, slice_set, ◌++◌, map, ◌&&◌, length, ◌+◌, option_to_list, nat_lt}
use Rattle.dk_types.specs.declared.net.Commit.{Commit}
use Rattle.dk_types.specs.declared.net.Commit.TheVariants as commit
use Rattle.dk_types.specs.declared.net.TableNet.{TableNet}
use Rattle.dk_types.specs.declared.reply.Receipt.{Receipt}
use Rattle.dk_types.specs.declared.reply.Refusal.{Refusal}
use Rattle.dk_types.specs.declared.reply.Refusal.TheVariants as refusal
use Rattle.dk_types.specs.declared.reply.Reply.{Reply}
use Rattle.dk_types.specs.declared.reply.Reply.TheVariants as reply
use Rattle.dk_syntax.specs.declared.statement.Statement.{Statement}
use Rattle.dk_syntax.specs.declared.statement.Statement.TheVariants as statement
use Rattle.dk_si.specs.declared.database.Table.{Table}
use Rattle.dk_si.specs.declared.history.Asked.{Asked}
use Rattle.dk_si.specs.declared.history.Asked.TheVariants.{Good}
use Rattle.dk_si.specs.declared.history.Entry.{Entry}
use Rattle.dk_si.specs.declared.history.Entry.TheVariants as entry
use Rattle.dk_si.specs.declared.kind.Kind.{Kind}
use Rattle.dk_si.specs.declared.kind.Kind.TheVariants as kind
use Rattle.dk_si.specs.declared.machine.OpenTransaction.{OpenTransaction}
use Rattle.dk_si.specs.declared.machine.Machine.{Machine}
use Rattle.dk_si.specs.declared.machine.Transition.{Transition}
use Rattle.dk_si.specs.declared.machine.LastTransaction.{LastTransaction}
use Rattle.dk_si.specs.declared.machine.Session.{Session}
use Rattle.dk_si.specs.declared.limits.TheConstants.{SESSIONS, MAX_TRANSACTIONS}
use Rattle.dk_si.specs.declared.machine.WriteSet.{WriteSet}
use Rattle.dk_si.specs.declared.machine.Transaction.{Transaction}
use Rattle.dk_si.specs.declared.machine.Transaction.TheVariants as transaction
use Rattle.dk_si.specs.declared.meaning.Meaning.{Meaning}
use Rattle.dk_si.specs.declared.meaning.Meaning.TheVariants as meant
use Rattle.dk_si.specs.Database.{view, after}
use Rattle.dk_si.specs.Meaning.{meaning}
use Rattle.dk_si.specs.Nets.{row_count, committed_ids, merged_net}

abbrev pub kind_of : Statement → Kind
kind_of (statement.Create table columns) = kind.Create
kind_of (statement.Insert table tuples) = kind.Change
kind_of (statement.InsertSelect table at query) = kind.Change
kind_of (statement.Copy table bytes) = kind.Change
kind_of (statement.Select query) = kind.Select
kind_of (statement.Update table sets filter) = kind.Change
kind_of (statement.Delete table filter) = kind.Change
kind_of statement.Begin = kind.Begin
kind_of statement.Commit = kind.Commit
kind_of statement.Rollback = kind.Rollback
kind_of statement.Checkpoint = kind.Checkpoint

-- outside a transaction such a statement begins one of its own
abbrev pub has_own : Kind → Bool
has_own kind.Create = true
has_own kind.Select = true
has_own kind.Change = true
has_own other = false

-- the kind of the statement in flight, if there is one
abbrev pub kind_in : Option Asked → Option Kind
kind_in (Some (Good statement)) = Some (kind_of statement)
kind_in other = None

abbrev pub asks_for : (Kind → Bool) → Option Asked → Bool
asks_for test asked = elim (kind_in asked) [ None ↦ false | Some kind ↦ test kind ]

-- a session before its first call
abbrev pub idle : Session
idle = record { transaction = transaction.Outside; asked = None; writes = None; last = None }

-- all sessions but this one
abbrev pub others : List Session → ℕ → List Session
others sessions number = take (number - 1) sessions ++ drop number sessions

-- the machine before the first entry
abbrev pub first_state : Machine
first_state = record { commits = []; begun = 0; sessions = replicate SESSIONS idle }

-- the sessions have the numbers from 1 on
abbrev pub session_at : List Session → ℕ → Option Session
session_at sessions number = if number == 0 then None else slice_get sessions (number - 1)

abbrev pub with_session : Machine → ℕ → Session → Machine
with_session machine number session = record machine { sessions = slice_set machine.sessions (number - 1) session }

-- what a call means in an open transaction
abbrev pub meaning_in : List Table → List Commit → OpenTransaction → Asked → Meaning
meaning_in opened commits active (Good statement) = meaning (view opened commits active.start active.net) statement
meaning_in opened commits active other = meant.Nothing

-- how many rows of a table stand before the transaction's own ones
abbrev pub committed_count : List Table → List Commit → OpenTransaction → ℕ → ℕ
committed_count opened commits active table = row_count (after opened commits active.start) table

-- the ids of a part's updates and deletes
abbrev pub changed_ids : TableNet → List ℕ
changed_ids part = map (λ update. update.0) part.updates ++ part.deletes

-- the committed rows that a statement updates or deletes
abbrev pub write_set : List Table → List Commit → OpenTransaction → Meaning → Option WriteSet
write_set opened commits active (meant.Change count part) =
    Some (record { table = part.table; ids = committed_ids (committed_count opened commits active part.table) (changed_ids part) })
write_set opened commits active other = None

-- the committed rows that the call in flight updates or deletes
abbrev pub write_set_in_flight : List Table → List Commit → Transaction → Option Asked → Option WriteSet
write_set_in_flight opened commits (transaction.Open active) (Some asked) = write_set opened commits active (meaning_in opened commits active asked)
write_set_in_flight opened commits other asked = None

-- the transaction's changes after a statement of that meaning
abbrev pub net_after : List Table → List Commit → OpenTransaction → Meaning → List TableNet
net_after opened commits active (meant.Change count part) = merged_net (committed_count opened commits active part.table) active.net part
net_after opened commits active other = active.net

-- after the call the transaction was not begun in it
abbrev pub stay_open : OpenTransaction → List TableNet → Transition
stay_open active net = record { transaction = transaction.Open (record active { net = net; fresh = false }); commit = None; net = net }

-- the transaction is over
abbrev pub end_with : List TableNet → Option Commit → Transition
end_with net commit = record { transaction = transaction.Outside; commit = commit; net = net }

-- the transaction was begun by the statement in flight for itself
abbrev pub is_own : OpenTransaction → Option Asked → Bool
is_own active asked = active.fresh && asks_for has_own asked

abbrev pub end_own : OpenTransaction → Option Asked → Transition
end_own active asked = if is_own active asked then end_with active.net None else stay_open active active.net

-- whether a refusal of a call of that kind aborts its transaction
abbrev pub aborts : Refusal → Kind → Bool
aborts (refusal.Conflict table row by) kind = true
aborts (refusal.DiskFault stops) kind.Commit = true
aborts (refusal.DiskFault stops) kind.Change = true
aborts (refusal.Damaged damage) kind.Change = true
aborts refusal.OutOfMemory kind.Change = true
aborts refusal kind = false

abbrev pub refusal_transition : OpenTransaction → Option Asked → Refusal → Transition
refusal_transition active asked refusal =
    if is_own active asked then end_with active.net None
    else (if asks_for (aborts refusal) asked then record { transaction = transaction.Aborted; commit = None; net = active.net }
    else stay_open active active.net)

-- what a call means in the state of the last commit, at which a CREATE TABLE looks
abbrev pub meaning_now : List Table → List Commit → Option Asked → Meaning
meaning_now opened commits (Some (Good statement)) = meaning (after opened commits (length commits)) statement
meaning_now opened commits other = meant.Nothing

-- the commit of a new table
abbrev pub creation : Meaning → Option Commit
creation (meant.Create name schema) = Some (commit.Create name schema)
creation other = None

-- a changed net is kept, or committed where the reply has a receipt
abbrev pub change_transition : OpenTransaction → Option Asked → List TableNet → Option Receipt → Transition
change_transition active asked net (Some receipt) = end_with net (Some (commit.Change net))
change_transition active asked net None = if is_own active asked then end_with net None else stay_open active net

-- the net behind the call in flight
abbrev pub net_behind : List Table → List Commit → OpenTransaction → Option Asked → List TableNet
net_behind opened commits active None = active.net
net_behind opened commits active (Some asked) = net_after opened commits active (meaning_in opened commits active asked)

-- what a reply makes of an open transaction
abbrev pub transition : List Table → List Commit → OpenTransaction → Option Asked → Reply → Transition
transition opened commits active asked (reply.Created receipt) = end_with active.net (creation (meaning_now opened commits asked))
transition opened commits active asked (reply.Changed count receipt) = change_transition active asked (net_behind opened commits active asked) receipt
transition opened commits active asked (reply.Rows rows) = end_own active asked
transition opened commits active asked (reply.Begun start) = stay_open active active.net
transition opened commits active asked (reply.Committed receipt) = end_with active.net (Some (commit.Change active.net))
transition opened commits active asked reply.Ended = end_with active.net None
transition opened commits active asked (reply.Checkpointed iteration) = stay_open active active.net
transition opened commits active asked (reply.Refused refusal) = refusal_transition active asked refusal

-- a commit behind so many others has the next number
abbrev pub commit_number : ℕ → Option Commit → Option ℕ
commit_number commits None = None
commit_number commits (Some commit) = Some (commits + 1)

-- the last transaction of a session, if the entry that ended it is this one
abbrev pub last_transaction : ℕ → Transaction → Option Commit → List TableNet → ℕ → Option LastTransaction
last_transaction number (transaction.Open still) commit net commits = None
last_transaction number transaction.Outside commit net commits = Some (record { number = number; net = net; commit = commit_number commits commit })
last_transaction number transaction.Aborted commit net commits = Some (record { number = number; net = net; commit = None })

-- a transaction that is aborted ends by a ROLLBACK
abbrev pub after_aborted : Reply → Transaction
after_aborted reply.Ended = transaction.Outside
after_aborted other = transaction.Aborted

-- a session after a reply that leaves it in this transaction
abbrev pub session_behind : Transaction → Option WriteSet → Option LastTransaction → Session
session_behind transaction writes last = record { transaction = transaction; asked = None; writes = writes; last = last }

-- the machine after a reply to an open transaction
abbrev pub after_open_reply : List Table → Machine → ℕ → Session → OpenTransaction → Transition → Machine
after_open_reply opened machine number session active move = record machine {
  commits = machine.commits ++ option_to_list move.commit;
  sessions = slice_set machine.sessions (number - 1)
      (session_behind move.transaction (write_set_in_flight opened machine.commits session.transaction session.asked) (last_transaction active.number move.transaction move.commit move.net (length machine.commits)));
}

abbrev pub after_reply : List Table → Machine → ℕ → Session → Reply → Machine
after_reply opened machine number session reply = elim session.transaction [
  | transaction.Outside ↦ with_session machine number (session_behind transaction.Outside None None)
  | transaction.Aborted ↦ with_session machine number (session_behind (after_aborted reply) None None)
  | transaction.Open active ↦ after_open_reply opened machine number session active (transition opened machine.commits active session.asked reply)
]

-- a call is in flight, and what its session's last transaction held is let go
abbrev pub after_call : Machine → ℕ → Asked → Session → Machine
after_call machine number asked session = with_session machine number (record session { asked = Some asked; last = None })

-- the transactions have the numbers below 2^40
abbrev pub next_number : ℕ → ℕ
next_number n = if nat_lt n MAX_TRANSACTIONS then n + 1 else n

abbrev pub after_begin : Machine → ℕ → ℕ → ℕ → Session → Machine
after_begin machine session number start before = record machine {
  begun = next_number machine.begun;
  sessions = slice_set machine.sessions (session - 1)
      (record before { transaction = transaction.Open (record { number = number; start = start; net = []; fresh = true }) });
}

-- the machine after an entry
abbrev pub next : List Table → Machine → Entry → Machine
next opened machine (entry.Call session asked) = elim (session_at machine.sessions session) [
  | None ↦ machine
  | Some before ↦ after_call machine session asked before
]
next opened machine (entry.Begun session number start) = elim (session_at machine.sessions session) [
  | None ↦ machine
  | Some before ↦ after_begin machine session number start before
]
next opened machine (entry.Reply session reply) = elim (session_at machine.sessions session) [
  | None ↦ machine
  | Some before ↦ after_reply opened machine session before reply
]

-- a call that begins a transaction: BEGIN, or a statement for itself
abbrev pub begins_one : Kind → Bool
begins_one kind.Begin = true
begins_one other = has_own other

abbrev pub is_outside : Transaction → Bool
is_outside transaction.Outside = true
is_outside other = false
