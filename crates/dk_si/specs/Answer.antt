-- What a call is answered in a history of one thread: a function of the state and the call.
use Rattle.std.specs.Prelude.{◌+◌, List, length, ℕ, [], ◌∷◌, Option, Some, None, zero, suc, if◌then◌else◌, Bool, min, ◌==◌, ◌&&◌, not, option_map}
use Rattle.dk_types.specs.declared.net.Commit.{Commit}
use Rattle.dk_types.specs.declared.net.TableNet.{TableNet}
use Rattle.dk_types.specs.declared.reply.Holder.{Holder}
use Rattle.dk_types.specs.declared.reply.Holder.TheVariants as holder
use Rattle.dk_types.specs.declared.reply.Receipt.{Receipt}
use Rattle.dk_types.specs.declared.reply.Refusal.TheVariants as refusal
use Rattle.dk_types.specs.declared.reply.Reply.{Reply}
use Rattle.dk_types.specs.declared.reply.Reply.TheVariants as reply
use Rattle.dk_syntax.specs.declared.statement.Statement.{Statement}
use Rattle.dk_si.specs.declared.database.Table.{Table}
use Rattle.dk_si.specs.declared.history.Asked.{Asked}
use Rattle.dk_si.specs.declared.history.Asked.TheVariants.{Good, Unread, Bad}
use Rattle.dk_si.specs.declared.kind.Kind.{Kind}
use Rattle.dk_si.specs.declared.kind.Kind.TheVariants as kind
use Rattle.dk_si.specs.declared.machine.OpenTransaction.{OpenTransaction}
use Rattle.dk_si.specs.declared.machine.Machine.{Machine}
use Rattle.dk_si.specs.declared.machine.Session.{Session}
use Rattle.dk_si.specs.declared.machine.WriteSet.{WriteSet}
use Rattle.dk_si.specs.declared.machine.Transaction.{Transaction}
use Rattle.dk_si.specs.declared.machine.Transaction.TheVariants as transaction
use Rattle.dk_si.specs.declared.meaning.Meaning.{Meaning}
use Rattle.dk_si.specs.declared.meaning.Meaning.TheVariants as meant
use Rattle.dk_si.specs.declared.limits.TheConstants.{MAX_ITERATION}
use Rattle.dk_si.specs.Database.{after}
use Rattle.dk_si.specs.HeldRows.{commit_has, is_blocked}
use Rattle.dk_si.specs.Machine.{others, meaning_in, write_set, net_after, kind_of}
use Rattle.dk_si.specs.Nets.{is_empty}
use Rattle.dk_si.specs.Size.{size_refusal}
use Rattle.dk_si.specs.Meaning.{meaning}
use Rattle.dk_si.specs.OneThread.{open_with}
use Rattle.dk_si.specs.Spent.{committed_rows}
use Rattle.dk_si.specs.Weight.{cap}

-- the receipt of the next commit, whose moment the disk tells
abbrev pub next_receipt : List Commit → Receipt
next_receipt commits = record { number = length commits + 1; moment = 0 }

-- the first open transaction that has the row in its net
abbrev pub first_with : ℕ → ℕ → List Session → Option ℕ
first_with table row [] = None
first_with table row (session ∷ sessions) = elim (open_with table row session) [ None ↦ first_with table row sessions | Some number ↦ Some number ]

-- the number of the last commit that changed the row, 0 where none did
abbrev pub last_change : ℕ → ℕ → List Commit → ℕ
last_change table row [] = 0
last_change table row (commit ∷ commits) = elim (last_change table row commits) [
  | zero ↦ if commit_has table row commit then 1 else 0
  | suc n ↦ suc (suc n)
]

abbrev pub holder_of : Machine → ℕ → ℕ → ℕ → Holder
holder_of machine number table row = elim (first_with table row (others machine.sessions number)) [
  | None ↦ holder.Commit (last_change table row machine.commits)
  | Some transaction ↦ holder.Transaction transaction
]

-- the least of these that pass a test
abbrev pub least_where : (ℕ → Bool) → List ℕ → Option ℕ
least_where test [] = None
least_where test (id ∷ ids) =
    if test id then Some (elim (least_where test ids) [ None ↦ id | Some other ↦ min id other ]) else least_where test ids

abbrev pub answer_spent : List Table → Machine → Reply
answer_spent opened machine = reply.Refused (refusal.Exhausted (record {
  clock = 0;
  rows = cap (committed_rows opened machine.commits);
  transactions = machine.begun;
  iteration = 0;
}))

-- a checkpoint writes the iteration behind the last one
abbrev pub answer_checkpoint : ℕ → Reply
answer_checkpoint iteration =
    if iteration == MAX_ITERATION
    then reply.Refused (refusal.Exhausted (record { clock = 0; rows = 0; transactions = 0; iteration = MAX_ITERATION }))
    else reply.Checkpointed (iteration + 1)

abbrev pub answer_outside : List Table → ℕ → Machine → Kind → Reply
answer_outside opened iteration machine kind.Commit = reply.Refused refusal.NoTransaction
answer_outside opened iteration machine kind.Rollback = reply.Refused refusal.NoTransaction
answer_outside opened iteration machine kind.Checkpoint = answer_checkpoint iteration
answer_outside opened iteration machine other = answer_spent opened machine

abbrev pub answer_aborted : Kind → Reply
answer_aborted kind.Rollback = reply.Ended
answer_aborted other = reply.Refused refusal.Aborted

abbrev pub answer_commit : List Commit → List TableNet → Reply
answer_commit commits [] = reply.Ended
answer_commit commits (part ∷ net) = reply.Committed (next_receipt commits)

abbrev pub answer_create : List Commit → Meaning → Reply
answer_create commits (meant.Create name schema) = reply.Created (next_receipt commits)
answer_create commits (meant.Refused refusal) = reply.Refused refusal
answer_create commits other = reply.Refused refusal.Unsupported

abbrev pub answer_select : Meaning → Reply
answer_select (meant.Rows rows) = reply.Rows rows
answer_select (meant.Refused refusal) = reply.Refused refusal
answer_select other = reply.Refused refusal.Unsupported

-- the table and the least of the rows that a statement changes and that are blocked
abbrev pub least_blocked : Machine → ℕ → ℕ → Option WriteSet → Option (ℕ × ℕ)
least_blocked machine number start None = None
least_blocked machine number start (Some set) = option_map (λ row. (set.table, row)) (least_where (is_blocked machine number start set.table) set.ids)

-- a row that is held is refused, and a statement of its own commits where it changes something
abbrev pub answer_rows : Machine → ℕ → Bool → ℕ → Option (ℕ × ℕ) → Reply
answer_rows machine number commits_now count (Some at) = reply.Refused (refusal.Conflict at.0 at.1 (holder_of machine number at.0 at.1))
answer_rows machine number commits_now count None = reply.Changed count (if commits_now then Some (next_receipt machine.commits) else None)

-- a change that leads to this net and updates or deletes these rows
abbrev pub answer_net : Machine → ℕ → OpenTransaction → ℕ → List TableNet → Option WriteSet → Reply
answer_net machine number active count net writes = elim (size_refusal net) [
  | Some refusal ↦ reply.Refused refusal
  | None ↦ answer_rows machine number (active.fresh && not (is_empty net)) count (least_blocked machine number active.start writes)
]

abbrev pub answer_change : Machine → ℕ → OpenTransaction → Meaning → List TableNet → Option WriteSet → Reply
answer_change machine number active (meant.Change count part) net writes = answer_net machine number active count net writes
answer_change machine number active (meant.Refused refusal) net writes = reply.Refused refusal
answer_change machine number active other net writes = reply.Refused refusal.Unsupported

abbrev pub answer_open : List Table → Machine → ℕ → OpenTransaction → Statement → Kind → Reply
answer_open opened machine number active statement kind.Begin =
    if active.fresh then reply.Begun active.start else reply.Refused refusal.InTransaction
answer_open opened machine number active statement kind.Commit = answer_commit machine.commits active.net
answer_open opened machine number active statement kind.Rollback = reply.Ended
answer_open opened machine number active statement kind.Checkpoint = reply.Refused refusal.InTransaction
answer_open opened machine number active statement kind.Create =
    if active.fresh then answer_create machine.commits (meaning (after opened (machine.commits) (length machine.commits)) statement)
    else reply.Refused refusal.InTransaction
answer_open opened machine number active statement kind.Select = answer_select (meaning_in opened machine.commits active (Good statement))
answer_open opened machine number active statement kind.Change =
    let meant_so = meaning_in opened machine.commits active (Good statement) in
    answer_change machine number active meant_so (net_after opened machine.commits active meant_so)
    (write_set opened machine.commits active meant_so)

abbrev pub answer_statement : List Table → ℕ → Machine → ℕ → Transaction → Statement → Reply
answer_statement opened iteration machine number transaction.Outside statement = answer_outside opened iteration machine (kind_of statement)
answer_statement opened iteration machine number transaction.Aborted statement = answer_aborted (kind_of statement)
answer_statement opened iteration machine number (transaction.Open active) statement =
    answer_open opened machine number active statement (kind_of statement)

-- the answer to a call of a session in that transaction, where the greatest iteration so far is this one
abbrev pub answer : List Table → ℕ → Machine → ℕ → Transaction → Asked → Reply
answer opened iteration machine number transaction Unread = reply.Refused refusal.OutOfMemory
answer opened iteration machine number transaction (Bad at) = reply.Refused (refusal.Syntax at)
answer opened iteration machine number transaction (Good statement) = answer_statement opened iteration machine number transaction statement

abbrev pub timeless_receipt : Receipt → Receipt
timeless_receipt receipt = record { number = receipt.number; moment = 0 }

-- a reply without the moment of its receipt
abbrev pub timeless : Reply → Reply
timeless (reply.Created receipt) = reply.Created (timeless_receipt receipt)
timeless (reply.Changed count receipt) = reply.Changed count (option_map timeless_receipt receipt)
timeless (reply.Rows rows) = reply.Rows rows
timeless (reply.Begun start) = reply.Begun start
timeless (reply.Committed receipt) = reply.Committed (timeless_receipt receipt)
timeless reply.Ended = reply.Ended
timeless (reply.Checkpointed iteration) = reply.Checkpointed iteration
timeless (reply.Refused refusal) = reply.Refused refusal
