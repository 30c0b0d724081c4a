-- Histories of one thread: the entries of each call stand together, so no call comes while another is in flight.
use Rattle.std.specs.List.{list_any, list_all, filter}
use Rattle.std.specs.Prelude.{ℕ, List, Option, Some, None, if◌then◌else◌, Bool, false, ◌==◌, ◌&&◌, not, nat_lt, ◌||◌, ◌^◌, true, length, ◌+◌, ◌*◌, is_none, [], ◌∷◌}
use Rattle.dk_types.specs.declared.net.TableNet.{TableNet}
use Rattle.dk_types.specs.declared.reply.Exhausted.{Exhausted}
use Rattle.dk_types.specs.declared.reply.Holder.{Holder}
use Rattle.dk_types.specs.declared.reply.Holder.TheVariants as holder
use Rattle.dk_types.specs.declared.reply.Refusal.{Refusal}
use Rattle.dk_types.specs.declared.reply.Refusal.TheVariants as refusal
use Rattle.dk_types.specs.declared.reply.Reply.{Reply}
use Rattle.dk_types.specs.declared.reply.Reply.TheVariants as reply
use Rattle.dk_si.specs.declared.database.Table.{Table}
use Rattle.dk_si.specs.declared.history.Asked.{Asked}
use Rattle.dk_si.specs.declared.history.Entry.{Entry}
use Rattle.dk_si.specs.declared.history.Entry.TheVariants as entry
use Rattle.dk_si.specs.declared.machine.Machine.{Machine}
use Rattle.dk_si.specs.declared.machine.Session.{Session}
use Rattle.dk_si.specs.declared.limits.TheConstants.{MAX_TRANSACTIONS}
use Rattle.dk_si.specs.declared.machine.WriteSet.{WriteSet}
use Rattle.dk_si.specs.declared.machine.Transaction.{Transaction}
use Rattle.dk_si.specs.declared.machine.Transaction.TheVariants as transaction
use Rattle.dk_si.specs.declared.limits.TheConstants.{MAX_ROWS}
use Rattle.dk_si.specs.HeldRows.{commit_holds, is_blocked, writes_row}
use Rattle.dk_si.specs.IsLegal.{is_legal}
use Rattle.dk_si.specs.Machine.{others, write_set_in_flight, net_behind, asks_for, begins_one, session_at, next, first_state}
use Rattle.dk_si.specs.Size.{size_refusal}
use Rattle.dk_si.specs.Nets.{net_has}
use Rattle.dk_si.specs.Spent.{committed_rows}
use Rattle.dk_si.specs.Weight.{cap}

-- the number of a session's open transaction, if it has the row in its net
abbrev pub open_with : ℕ → ℕ → Session → Option ℕ
open_with table row session = elim session.transaction [
  | transaction.Outside ↦ None
  | transaction.Aborted ↦ None
  | transaction.Open active ↦ if net_has active.net table row then Some active.number else None
]

-- the open transaction of that number has the row in its net
abbrev pub open_has : ℕ → ℕ → ℕ → Session → Bool
open_has k table row session = elim (open_with table row session) [ None ↦ false | Some number ↦ number == k ]

-- who holds a row: an open transaction of another session by its net alone, or a commit as ever
abbrev pub held_alone : Machine → ℕ → ℕ → ℕ → ℕ → Holder → Bool
held_alone machine number start table row (holder.Commit n) = commit_holds machine number start n table row
held_alone machine number start table row (holder.Transaction k) = list_any (open_has k table row) (others machine.sessions number)

-- the least of the rows that a statement changes and that are held
abbrev pub is_least_held : Machine → ℕ → ℕ → Option WriteSet → ℕ → ℕ → Bool
is_least_held machine number start None table row = false
is_least_held machine number start (Some set) table row =
    (writes_row (Some set) table row && is_blocked machine number start set.table row)
    && list_all (λ other. not (is_blocked machine number start set.table other && nat_lt other row)) set.ids

-- a transaction that is refused for its size is refused so before its rows are looked at
abbrev pub is_conflict_alone : Machine → ℕ → ℕ → Option WriteSet → List TableNet → ℕ → ℕ → Holder → Bool
is_conflict_alone machine number start writes net table row by =
    is_none (size_refusal net)
    && (is_least_held machine number start writes table row && held_alone machine number start table row by)

-- the conflict of a call in flight in this transaction
abbrev pub may_conflict : List Table → Machine → ℕ → Transaction → Option Asked → ℕ → ℕ → Holder → Bool
may_conflict opened machine number (transaction.Open active) asked table row by =
    is_conflict_alone machine number active.start (write_set_in_flight opened machine.commits (transaction.Open active) asked)
    (net_behind opened machine.commits active asked) table row by
may_conflict opened machine number other asked table row by = false

-- each transaction that is open, and the one that would begin, may have so many new rows
abbrev pub OPEN_ROWS : ℕ
OPEN_ROWS = 2 ^ 32

abbrev pub is_open : Session → Bool
is_open session = elim session.transaction [ transaction.Outside ↦ false | transaction.Aborted ↦ false | transaction.Open active ↦ true ]

abbrev pub open_count : Machine → ℕ
open_count machine = length (filter is_open machine.sessions)

-- no further transaction can begin
abbrev pub is_spent_alone : List Table → Machine → Bool
is_spent_alone opened machine =
    machine.begun == MAX_TRANSACTIONS || nat_lt MAX_ROWS (committed_rows opened machine.commits + OPEN_ROWS * (open_count machine + 1))

-- the numbers that are compared where a transaction is to begin
abbrev pub are_spent_numbers : List Table → Machine → Exhausted → Bool
are_spent_numbers opened machine numbers =
    (numbers.clock == 0 && numbers.iteration == 0)
    && (numbers.transactions == machine.begun && numbers.rows == cap (committed_rows opened machine.commits))

-- what a refusal must be besides a step
abbrev pub may_refuse : List Table → Machine → ℕ → Transaction → Option Asked → Refusal → Bool
may_refuse opened machine number transaction asked (refusal.Conflict table row by) =
    may_conflict opened machine number transaction asked table row by
may_refuse opened machine number transaction asked (refusal.Exhausted numbers) =
    not (asks_for begins_one asked) || (is_spent_alone opened machine && are_spent_numbers opened machine numbers)
may_refuse opened machine number transaction asked other = true

abbrev pub may_reply_alone : List Table → Machine → ℕ → Transaction → Option Asked → Reply → Bool
may_reply_alone opened machine number transaction asked (reply.Refused refusal) = may_refuse opened machine number transaction asked refusal
may_reply_alone opened machine number transaction asked other = true

-- no other session has a call in flight
abbrev pub none_in_flight : Machine → ℕ → Bool
none_in_flight machine number = list_all (λ session. is_none session.asked) (others machine.sessions number)

-- what a step must be besides, where the entries of each call stand together
abbrev pub is_step_alone : List Table → Machine → Entry → Bool
is_step_alone opened machine (entry.Call number asked) = none_in_flight machine number
is_step_alone opened machine (entry.Begun number transaction start) = none_in_flight machine number && not (is_spent_alone opened machine)
is_step_alone opened machine (entry.Reply number reply) =
    none_in_flight machine number && elim (session_at machine.sessions number) [
      | None ↦ false
      | Some session ↦ may_reply_alone opened machine number session.transaction session.asked reply
    ]

abbrev pub are_steps_alone : List Table → Machine → List Entry → Bool
are_steps_alone opened machine [] = true
are_steps_alone opened machine (entry ∷ entries) =
    is_step_alone opened machine entry && are_steps_alone opened (next opened machine entry) entries

-- a legal history of one thread
abbrev pub is_legal_alone : List Table → ℕ → List Entry → Bool
is_legal_alone opened iteration entries = is_legal opened iteration entries && are_steps_alone opened first_state entries
