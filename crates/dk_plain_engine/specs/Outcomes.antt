-- What a call comes to: its reply, and what that makes of its session's transaction.
use Rattle.std.specs.Prelude.{ℕ, Bool, true, false, not, ◌&&◌, List, [], ◌∷◌, length, Option, Some, None, if◌then◌else◌}
use Rattle.dk_types.specs.declared.net.Commit.{Commit}
use Rattle.dk_types.specs.declared.net.Commit.TheVariants as commit
use Rattle.dk_types.specs.declared.net.TableNet.{TableNet}
use Rattle.dk_types.specs.declared.reply.Refusal.{Refusal}
use Rattle.dk_types.specs.declared.reply.Refusal.TheVariants as refusal
use Rattle.dk_types.specs.declared.reply.Reply.{Reply}
use Rattle.dk_types.specs.declared.reply.Reply.TheVariants as reply
use Rattle.dk_syntax.specs.declared.statement.Statement.{Statement}
use Rattle.dk_si.specs.declared.database.Table.{Table}
use Rattle.dk_si.specs.declared.history.Asked.{Asked}
use Rattle.dk_si.specs.declared.history.Asked.TheVariants.{Unread, Bad, Good}
use Rattle.dk_si.specs.declared.kind.Kind.{Kind}
use Rattle.dk_si.specs.declared.kind.Kind.TheVariants as kind
use Rattle.dk_si.specs.declared.machine.Machine.{Machine}
use Rattle.dk_si.specs.declared.machine.OpenTransaction.{OpenTransaction}
use Rattle.dk_si.specs.declared.machine.Transaction.{Transaction}
use Rattle.dk_si.specs.declared.machine.Transaction.TheVariants as transaction
use Rattle.dk_si.specs.declared.machine.WriteSet.{WriteSet}
use Rattle.dk_si.specs.declared.meaning.Meaning.{Meaning}
use Rattle.dk_si.specs.declared.meaning.Meaning.TheVariants as meant
use Rattle.dk_si.specs.Answer.{next_receipt, holder_of, least_blocked, answer_outside}
use Rattle.dk_si.specs.Database.{after}
use Rattle.dk_si.specs.Machine.{aborts, has_own, kind_of, meaning_in, net_after, write_set}
use Rattle.dk_si.specs.Meaning.{meaning}
use Rattle.dk_si.specs.Nets.{is_empty}
use Rattle.dk_si.specs.Size.{size_refusal}
use Rattle.dk_plain_engine.specs.declared.effect.Effect.{Effect}
use Rattle.dk_plain_engine.specs.declared.effect.Effect.TheVariants as effect
use Rattle.dk_plain_engine.specs.declared.effect.Outcome.{Outcome}

-- an open transaction behind an effect
abbrev pub open_after : OpenTransaction → Effect → Transaction
open_after active effect.Stay = transaction.Open (record active { fresh = false })
open_after active (effect.Keep net) = transaction.Open (record active { net = net; fresh = false })
open_after active effect.Abort = transaction.Aborted
open_after active other = transaction.Outside

abbrev pub aborted_after : Effect → Transaction
aborted_after effect.End = transaction.Outside
aborted_after other = transaction.Aborted

abbrev pub transaction_after : Transaction → Effect → Transaction
transaction_after transaction.Outside effect = transaction.Outside
transaction_after transaction.Aborted effect = aborted_after effect
transaction_after (transaction.Open active) effect = open_after active effect

-- the commit that an effect on an open transaction is
abbrev pub open_commit : OpenTransaction → Effect → Option Commit
open_commit active effect.CommitOwn = Some (commit.Change active.net)
open_commit active (effect.CommitThis commit) = Some commit
open_commit active other = None

abbrev pub commit_of : Transaction → Effect → Option Commit
commit_of (transaction.Open active) effect = open_commit active effect
commit_of other effect = None

abbrev pub commits : Effect → Bool
commits effect.CommitOwn = true
commits (effect.CommitThis commit) = true
commits other = false

-- a transaction that its statement began for itself is over with it
abbrev pub own_effect : OpenTransaction → Kind → Effect
own_effect active kind = if active.fresh && has_own kind then effect.End else effect.Stay

abbrev pub refusal_effect : OpenTransaction → Kind → Refusal → Effect
refusal_effect active kind refusal =
    if active.fresh && has_own kind then effect.End else (if aborts refusal kind then effect.Abort else effect.Stay)

abbrev pub stay : Reply → Outcome
stay reply = record { reply = reply; effect = effect.Stay }

abbrev pub refuse : OpenTransaction → Kind → Refusal → Outcome
refuse active kind refusal = record { reply = reply.Refused refusal; effect = refusal_effect active kind refusal }

-- CREATE TABLE in a transaction of its own
abbrev pub create_outcome : List Commit → Meaning → Outcome
create_outcome commits (meant.Create name schema) = record {
  reply = reply.Created (next_receipt commits);
  effect = effect.CommitThis (commit.Create name schema);
}
create_outcome commits (meant.Refused refusal) = record { reply = reply.Refused refusal; effect = effect.End }
create_outcome commits other = record { reply = reply.Refused refusal.Unsupported; effect = effect.End }

abbrev pub select_outcome : OpenTransaction → Meaning → Outcome
select_outcome active (meant.Rows rows) = record { reply = reply.Rows rows; effect = own_effect active kind.Select }
select_outcome active (meant.Refused refusal) = refuse active kind.Select refusal
select_outcome active other = refuse active kind.Select refusal.Unsupported

-- a transaction that changes rows to this net
abbrev pub changed_outcome : List Commit → OpenTransaction → ℕ → List TableNet → Outcome
changed_outcome commits active count net =
    if active.fresh && not (is_empty net)
    then record { reply = reply.Changed count (Some (next_receipt commits)); effect = effect.CommitThis (commit.Change net) }
    else record { reply = reply.Changed count None; effect = if active.fresh then effect.End else effect.Keep net }

abbrev pub rows_outcome : Machine → ℕ → OpenTransaction → ℕ → List TableNet → Option (ℕ × ℕ) → Outcome
rows_outcome machine number active count net (Some at) =
    refuse active kind.Change (refusal.Conflict at.0 at.1 (holder_of machine number at.0 at.1))
rows_outcome machine number active count net None = changed_outcome machine.commits active count net

abbrev pub net_outcome : Machine → ℕ → OpenTransaction → ℕ → List TableNet → Option WriteSet → Outcome
net_outcome machine number active count net writes = elim (size_refusal net) [
  | Some refusal ↦ refuse active kind.Change refusal
  | None ↦ rows_outcome machine number active count net (least_blocked machine number active.start writes)
]

abbrev pub change_outcome : Machine → ℕ → OpenTransaction → Meaning → List TableNet → Option WriteSet → Outcome
change_outcome machine number active (meant.Change count part) net writes = net_outcome machine number active count net writes
change_outcome machine number active (meant.Refused refusal) net writes = refuse active kind.Change refusal
change_outcome machine number active other net writes = refuse active kind.Change refusal.Unsupported

abbrev pub commit_outcome : List Commit → List TableNet → Outcome
commit_outcome commits [] = record { reply = reply.Ended; effect = effect.End }
commit_outcome commits (part ∷ net) = record { reply = reply.Committed (next_receipt commits); effect = effect.CommitOwn }

-- a change of rows, which means this in the transaction
abbrev pub meant_outcome : List Table → Machine → ℕ → OpenTransaction → Meaning → Outcome
meant_outcome opened machine number active meant_so =
    change_outcome machine number active meant_so (net_after opened machine.commits active meant_so)
    (write_set opened machine.commits active meant_so)

-- a statement of that kind in an open transaction
abbrev pub open_outcome : List Table → Machine → ℕ → OpenTransaction → Statement → Kind → Outcome
open_outcome opened machine number active statement kind.Begin =
    if active.fresh then stay (reply.Begun active.start) else stay (reply.Refused refusal.InTransaction)
open_outcome opened machine number active statement kind.Commit = commit_outcome machine.commits active.net
open_outcome opened machine number active statement kind.Rollback = record { reply = reply.Ended; effect = effect.End }
open_outcome opened machine number active statement kind.Checkpoint = stay (reply.Refused refusal.InTransaction)
open_outcome opened machine number active statement kind.Create =
    if active.fresh
    then create_outcome machine.commits (meaning (after opened machine.commits (length machine.commits)) statement)
    else stay (reply.Refused refusal.InTransaction)
open_outcome opened machine number active statement kind.Select =
    select_outcome active (meaning_in opened machine.commits active (Good statement))
open_outcome opened machine number active statement kind.Change =
    meant_outcome opened machine number active (meaning_in opened machine.commits active (Good statement))

-- a statement in a transaction that was aborted
abbrev pub aborted_outcome : Kind → Outcome
aborted_outcome kind.Rollback = record { reply = reply.Ended; effect = effect.End }
aborted_outcome other = stay (reply.Refused refusal.Aborted)

abbrev pub statement_outcome : List Table → ℕ → Machine → ℕ → Transaction → Statement → Outcome
statement_outcome opened iteration machine number transaction.Outside statement =
    stay (answer_outside opened iteration machine (kind_of statement))
statement_outcome opened iteration machine number transaction.Aborted statement = aborted_outcome (kind_of statement)
statement_outcome opened iteration machine number (transaction.Open active) statement =
    open_outcome opened machine number active statement (kind_of statement)

-- a call of a session in that transaction, where the last iteration so far is this one
abbrev pub outcome : List Table → ℕ → Machine → ℕ → Transaction → Asked → Outcome
outcome opened iteration machine number transaction Unread = stay (reply.Refused refusal.OutOfMemory)
outcome opened iteration machine number transaction (Bad at) = stay (reply.Refused (refusal.Syntax at))
outcome opened iteration machine number transaction (Good statement) =
    statement_outcome opened iteration machine number transaction statement

-- what a call comes to, as one word
unfoldable pub call_outcome : List Table → ℕ → Machine → ℕ → Transaction → Asked → Outcome
call_outcome opened iteration machine number transaction asked = outcome opened iteration machine number transaction asked

-- want of memory, where the transaction is open
abbrev pub lack_effect : Transaction → Asked → Effect
lack_effect (transaction.Open active) (Good statement) = refusal_effect active (kind_of statement) refusal.OutOfMemory
lack_effect other asked = effect.Stay

-- the reply is a conflict
abbrev pub is_conflict_refusal : Refusal → Bool
is_conflict_refusal (refusal.Conflict table row by) = true
is_conflict_refusal other = false

abbrev pub is_conflict : Reply → Bool
is_conflict (reply.Refused refusal) = is_conflict_refusal refusal
is_conflict other = false
