-- What a reply that ends a call asks of what the call's events did.
use Rattle.std.specs.Prelude.{Bool, true, false, ◌&&◌, ◌||◌, not, is_none, Option, Some, None, ◌==◌}
use Rattle.dk_types.specs.declared.reply.Exhausted.{Exhausted}
use Rattle.dk_types.specs.declared.reply.Holder.{Holder}
use Rattle.dk_types.specs.declared.reply.Holder.TheVariants as holder
use Rattle.dk_types.specs.declared.reply.Refusal.{Refusal}
use Rattle.dk_types.specs.declared.reply.Refusal.TheVariants as refusal
use Rattle.dk_types.specs.declared.reply.Reply.{Reply}
use Rattle.dk_types.specs.declared.reply.Reply.TheVariants as reply
use Rattle.dk_si.specs.declared.machine.Session.{Session}
use Rattle.dk_si.specs.declared.machine.Transaction.{Transaction}
use Rattle.dk_si.specs.declared.machine.Transaction.TheVariants as transaction
use Rattle.dk_si.specs.Machine.{transition, write_set_in_flight}
use Rattle.dk_si.specs.MayAnswer.{may_answer}
use Rattle.dk_si.specs.ReplyTests.{has_no_iteration}
use Rattle.dk_core.specs.declared.seat.Seat.{Seat}
use Rattle.dk_core.specs.Core.{Core}
use Rattle.dk_core.specs.Changes.{has_whole_change, has_no_change}

abbrev pub is_open_transaction : Transaction → Bool
is_open_transaction (transaction.Open active) = true
is_open_transaction other = false

-- the reply leaves the session's transaction open
abbrev pub leaves_open : Core → Session → Reply → Bool
leaves_open core session reply = elim session.transaction [
  | transaction.Outside ↦ false
  | transaction.Aborted ↦ false
  | transaction.Open active ↦ is_open_transaction
      (transition core.opened core.now.commits active session.asked reply).transaction
]

-- Changed needs that the versions made since the Call are all that the statement changes; every other reply that
-- leaves
-- the transaction open needs that no version was made since
abbrev pub suits_versions : Core → Session → Seat → Reply → Bool
suits_versions core session seat (reply.Changed count receipt) =
    has_whole_change (write_set_in_flight core.opened core.now.commits session.transaction session.asked) seat
suits_versions core session seat other = not (leaves_open core session other) || has_no_change seat

abbrev pub same_holder : Holder → Holder → Bool
same_holder (holder.Commit m) (holder.Commit n) = m == n
same_holder (holder.Transaction m) (holder.Transaction n) = m == n
same_holder by other = false

abbrev pub same_numbers : Exhausted → Exhausted → Bool
same_numbers a b = (a.clock == b.clock && a.rows == b.rows)
    && (a.transactions == b.transactions && a.iteration == b.iteration)

-- a Conflict, and the numbers that are spent, are refused so by an event; the last iteration is refused by none, and
-- so
-- is every other refusal
abbrev pub is_found : Option Refusal → Refusal → Bool
is_found (Some (refusal.Conflict table row by)) (refusal.Conflict table' row' by') = (table == table' && row == row')
    && same_holder by by'
is_found (Some (refusal.Exhausted a)) (refusal.Exhausted b) = same_numbers a b
is_found None (refusal.Conflict table row by) = false
is_found None (refusal.Exhausted numbers) = has_no_iteration (refusal.Exhausted numbers)
is_found None other = true
is_found (Some found) other = false

-- after what an event refused its session is told so, and is told so only then
abbrev pub suits_findings : Seat → Reply → Bool
suits_findings seat (reply.Refused refusal) = is_found seat.found refusal
suits_findings seat other = is_none seat.found

-- the call in flight may be answered so by what its session knows, and by what its events did
abbrev pub may_end_call : Core → Reply → Session → Seat → Bool
may_end_call core reply session seat = elim session.asked [
  | None ↦ false
  | Some asked ↦ may_answer core.opened core.now.commits session.transaction asked reply
      && (suits_findings seat reply && suits_versions core session seat reply)
]
