-- What a call may be answered by what its own session knows.
use Rattle.std.specs.Prelude.{is_none, Bool, false, ◌||◌, List, nat_le, [], ◌∷◌, true, ℕ, zero, suc, ◌+◌, ◌-◌, ◌&&◌, length, ◌==◌, not, Option, Some, None, if◌then◌else◌}
use Rattle.dk_values.specs.declared.value.Value.{Value}
use Rattle.dk_types.specs.declared.net.Commit.{Commit}
use Rattle.dk_types.specs.declared.net.TableNet.{TableNet}
use Rattle.dk_types.specs.declared.reply.Receipt.{Receipt}
use Rattle.dk_types.specs.declared.reply.Refusal.{Refusal}
use Rattle.dk_types.specs.declared.reply.Refusal.TheVariants as refusal
use Rattle.dk_types.specs.declared.reply.Reply.{Reply}
use Rattle.dk_types.specs.declared.reply.Reply.TheVariants as reply
use Rattle.dk_syntax.specs.declared.statement.Statement.{Statement}
use Rattle.dk_si.specs.declared.database.Table.{Table}
use Rattle.dk_si.specs.declared.history.Asked.{Asked}
use Rattle.dk_si.specs.declared.history.Asked.TheVariants.{Good, Unread, Bad}
use Rattle.dk_si.specs.declared.kind.Kind.{Kind}
use Rattle.dk_si.specs.declared.kind.Kind.TheVariants as kind
use Rattle.dk_si.specs.declared.machine.OpenTransaction.{OpenTransaction}
use Rattle.dk_si.specs.declared.machine.WriteSet.{WriteSet}
use Rattle.dk_si.specs.declared.machine.Transaction.{Transaction}
use Rattle.dk_si.specs.declared.machine.Transaction.TheVariants as transaction
use Rattle.dk_si.specs.declared.meaning.Meaning.{Meaning}
use Rattle.dk_si.specs.declared.meaning.Meaning.TheVariants as meant
use Rattle.dk_si.specs.declared.limits.TheConstants.{MAX_ITERATION}
use Rattle.dk_si.specs.Database.{after}
use Rattle.dk_si.specs.HeldRows.{writes_row}
use Rattle.dk_si.specs.Machine.{write_set, net_after, meaning_in, kind_of}
use Rattle.dk_si.specs.Meaning.{is_same_refusal, same_rows, meaning, is_text_refusal}
use Rattle.dk_si.specs.Size.{size_refusal}
use Rattle.dk_si.specs.ReplyTests.{is_fault, is_stopped, has_no_iteration, is_refused, is_no_transaction, is_spent_refusal, is_aborted, is_ended, is_committed, is_next, is_in_transaction, is_begun, is_no_memory}
use Rattle.dk_si.specs.Nets.{is_empty}

abbrev pub checkpoint_answers : List Commit → Reply → Bool
checkpoint_answers commits (reply.Checkpointed iteration) = nat_le iteration MAX_ITERATION
checkpoint_answers commits (reply.Refused refusal) = has_no_iteration refusal || (is_stopped commits refusal || is_fault refusal)
checkpoint_answers commits other = false

-- the reply to a call outside a transaction
abbrev pub outside_answers : List Commit → Kind → Reply → Bool
outside_answers commits kind.Commit reply = is_refused is_no_transaction reply
outside_answers commits kind.Rollback reply = is_refused is_no_transaction reply
outside_answers commits kind.Checkpoint reply = checkpoint_answers commits reply
outside_answers commits other reply = is_refused is_spent_refusal reply

-- the reply to a call in a transaction that was aborted
abbrev pub aborted_answers : Kind → Reply → Bool
aborted_answers kind.Rollback reply = is_ended reply
aborted_answers other reply = is_refused is_aborted reply

-- the reply to COMMIT in an open transaction
abbrev pub commit_answers : List Commit → List TableNet → Reply → Bool
commit_answers commits [] reply = is_ended reply
commit_answers commits (part ∷ net) reply = is_committed commits reply || is_refused (λ refusal. is_stopped commits refusal || is_fault refusal) reply

abbrev pub is_meant_refusal : Meaning → Refusal → Bool
is_meant_refusal (meant.Refused own) refusal = is_same_refusal own refusal
is_meant_refusal other refusal = false

abbrev pub are_meant_rows : Meaning → List (List Value) → Bool
are_meant_rows (meant.Rows rows) others = same_rows rows others
are_meant_rows other others = false

-- the reply to a query: the rows that it means in the view
abbrev pub select_answers : Meaning → Reply → Bool
select_answers meaning (reply.Rows rows) = are_meant_rows meaning rows
select_answers meaning (reply.Refused refusal) = is_meant_refusal meaning refusal || is_fault refusal
select_answers meaning other = false

abbrev pub is_creation : Meaning → Bool
is_creation (meant.Create name schema) = true
is_creation other = false

-- whether the statement is refused so in the state after one of so many commits, from the n-th on
abbrev pub is_refused_from : List Table → List Commit → Statement → Refusal → ℕ → ℕ → Bool
is_refused_from opened commits statement refusal n zero = is_meant_refusal (meaning (after opened commits n) statement) refusal
is_refused_from opened commits statement refusal n (suc more) =
    is_meant_refusal (meaning (after opened commits n) statement) refusal || is_refused_from opened commits statement refusal (n + 1) more

-- the reply to CREATE TABLE, which looks at the state of the last commit, or is refused by one since its start
abbrev pub create_answers : List Table → List Commit → OpenTransaction → Statement → Reply → Bool
create_answers opened commits active statement (reply.Created receipt) =
    is_creation (meaning (after opened commits (length commits)) statement) && is_next commits receipt
create_answers opened commits active statement (reply.Refused refusal) =
    is_refused_from opened commits statement refusal active.start (length commits - active.start)
    || (is_stopped commits refusal || is_fault refusal)
create_answers opened commits active statement other = false

abbrev pub is_change_of : ℕ → Meaning → Bool
is_change_of count (meant.Change changed part) = changed == count
is_change_of count other = false

abbrev pub is_any_change : Meaning → Bool
is_any_change (meant.Change changed part) = true
is_any_change other = false

-- that is the refusal, if there is one
abbrev pub is_that_refusal : Option Refusal → Refusal → Bool
is_that_refusal None refusal = false
is_that_refusal (Some own) refusal = is_same_refusal own refusal

-- a statement commits for itself exactly where its net is not empty, and then has the next receipt
abbrev pub is_receipt_for : List Commit → Bool → Option Receipt → Bool
is_receipt_for commits commits_now None = not commits_now
is_receipt_for commits commits_now (Some receipt) = commits_now && is_next commits receipt

-- why a change may be refused, which leads to this net and updates or deletes these rows
abbrev pub is_change_refusal : List Commit → Meaning → List TableNet → Option WriteSet → Bool → Refusal → Bool
is_change_refusal commits meant_so net writes commits_now (refusal.Conflict table row by) = writes_row writes table row
is_change_refusal commits meant_so net writes commits_now (refusal.Stopped first) = commits_now && first == length commits + 1
is_change_refusal commits meant_so net writes commits_now other =
    is_meant_refusal meant_so other || (is_fault other || (is_any_change meant_so && is_that_refusal (size_refusal net) other))

-- the reply to a change, which leads to this net and updates or deletes these rows
abbrev pub is_change_reply : List Commit → Meaning → List TableNet → Option WriteSet → Bool → Reply → Bool
is_change_reply commits meant_so net writes commits_now (reply.Changed count receipt) =
    (is_change_of count meant_so && is_none (size_refusal net)) && is_receipt_for commits commits_now receipt
is_change_reply commits meant_so net writes commits_now (reply.Refused refusal) =
    is_change_refusal commits meant_so net writes commits_now refusal
is_change_reply commits meant_so net writes commits_now other = false

-- the reply to INSERT, UPDATE and DELETE, whose meaning in the view is this
abbrev pub change_answers : List Table → List Commit → OpenTransaction → Meaning → Reply → Bool
change_answers opened commits active meant_so reply =
    let net = net_after opened commits active meant_so in
    is_change_reply commits meant_so net (write_set opened commits active meant_so) (active.fresh && not (is_empty net)) reply

-- the reply to a statement of that kind in a transaction that is open
abbrev pub open_answers : List Table → List Commit → OpenTransaction → Statement → Kind → Reply → Bool
open_answers opened commits active statement kind.Begin reply =
    if active.fresh then is_begun active.start reply else is_refused is_in_transaction reply
open_answers opened commits active statement kind.Commit reply = commit_answers commits active.net reply
open_answers opened commits active statement kind.Rollback reply = is_ended reply
open_answers opened commits active statement kind.Checkpoint reply = is_refused is_in_transaction reply
open_answers opened commits active statement kind.Create reply =
    if active.fresh then create_answers opened commits active statement reply else is_refused is_in_transaction reply
open_answers opened commits active statement kind.Select reply = select_answers (meaning_in opened commits active (Good statement)) reply
open_answers opened commits active statement kind.Change reply =
    change_answers opened commits active (meaning_in opened commits active (Good statement)) reply

-- the reply to a statement
abbrev pub statement_answers : List Table → List Commit → Transaction → Statement → Reply → Bool
statement_answers opened commits transaction.Outside statement reply = outside_answers commits (kind_of statement) reply
statement_answers opened commits transaction.Aborted statement reply = aborted_answers (kind_of statement) reply
statement_answers opened commits (transaction.Open active) statement reply =
    open_answers opened commits active statement (kind_of statement) reply

-- the reply to a call, by what its own session knows: its transaction and the commits
abbrev pub may_answer : List Table → List Commit → Transaction → Asked → Reply → Bool
may_answer opened commits transaction Unread reply = is_refused is_no_memory reply
may_answer opened commits transaction (Bad at) reply = is_refused (is_text_refusal at) reply
may_answer opened commits transaction (Good statement) reply = statement_answers opened commits transaction statement reply
