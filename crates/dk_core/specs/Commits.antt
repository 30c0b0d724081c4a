-- How a commit goes: the session's own rows are put into groups, in their order, and then it makes its Point.
use Rattle.std.specs.Prelude.{ℕ, ◌-◌, Bool, true, false, ◌&&◌, ◌||◌, not, bytes_eq, is_none, is_some, min, List, [], ◌∷◌, ◌++◌, sum, take, length, Option, Some, ◌==◌, nat_lt, if◌then◌else◌}
use lib.Pointwise.{pointwise}
use Rattle.std.specs.List.{list_all}
use Rattle.dk_values.specs.declared.column.Column.{Column}
use Rattle.dk_values.specs.declared.value.ColType.{ColType}
use Rattle.dk_values.specs.declared.value.ColType.TheVariants as type
use Rattle.dk_values.specs.declared.value.Value.{Value}
use Rattle.dk_types.specs.declared.net.TableNet.{TableNet}
use Rattle.dk_types.specs.declared.reply.Reply.{Reply}
use Rattle.dk_types.specs.declared.reply.Reply.TheVariants as reply
use Rattle.dk_si.specs.declared.history.Asked.{Asked}
use Rattle.dk_si.specs.declared.kind.Kind.{Kind}
use Rattle.dk_si.specs.declared.kind.Kind.TheVariants as kind
use Rattle.dk_si.specs.declared.limits.TheConstants.{GROUP_ROWS}
use Rattle.dk_si.specs.declared.machine.OpenTransaction.{OpenTransaction}
use Rattle.dk_si.specs.declared.machine.Session.{Session}
use Rattle.dk_si.specs.declared.machine.Transaction.TheVariants as transaction
use Rattle.dk_si.specs.declared.meaning.Meaning.{Meaning}
use Rattle.dk_si.specs.declared.meaning.Meaning.TheVariants as meant
use Rattle.dk_si.specs.Machine.{asks_for, is_own, meaning_now, net_behind}
use Rattle.dk_si.specs.Meaning.{same_rows}
use Rattle.dk_si.specs.Nets.{is_empty, part_of, new_rows}
use Rattle.dk_core.specs.declared.event.Done.{Done}
use Rattle.dk_core.specs.declared.event.Done.TheVariants as done
use Rattle.dk_core.specs.declared.seat.Seat.{Seat}
use Rattle.dk_core.specs.Core.{Core, next_receipt}
use Rattle.dk_core.specs.Layout.{groups_of, first_row, rows_in, next_group}
use Rattle.dk_core.specs.Replies.{may_end_call}

abbrev pub is_commit_kind : Kind → Bool
is_commit_kind kind.Commit = true
is_commit_kind other = false

-- the call in flight may commit: it is COMMIT, or a statement with a transaction of its own
abbrev pub commits_now : OpenTransaction → Option Asked → Bool
commits_now active asked = asks_for is_commit_kind asked || is_own active asked

-- some of the session's own rows stand in groups, and it has made no Point yet
abbrev pub is_placing : Seat → Bool
is_placing seat = nat_lt 0 (new_rows seat.made)

-- between its first Append or Adopt and its Point, or between the two Points of a creation
abbrev pub is_committing : Seat → Bool
is_committing seat = is_placing seat || is_some seat.creates

-- the rows of a table that stand in groups already, in their order
abbrev pub placed_in : ℕ → List TableNet → List (List Value)
placed_in table [] = []
placed_in table (part ∷ parts) = placed_in table parts ++ (if part.table == table then part.rows else [])

-- these are the first of the others
abbrev pub is_front : List (List Value) → List (List Value) → Bool
is_front rows others = same_rows rows (take (length rows) others)

-- the session's own rows of a table, behind the statement that commits
abbrev pub own_rows : Core → OpenTransaction → Session → ℕ → List (List Value)
own_rows core active session table =
    (part_of (net_behind core.opened core.now.commits active session.asked) table).rows

-- how many of them stand in no group yet
abbrev pub left_to_place : Core → OpenTransaction → Session → Seat → ℕ → ℕ
left_to_place core active session seat table = length (own_rows core active session table) - length
    (placed_in table seat.made)

-- the next of the session's own rows of a table, once a committing call is in flight that was not refused
abbrev pub are_next_rows : Core → OpenTransaction → ℕ → List (List Value) → Session → Seat → Bool
are_next_rows core active table rows session seat =
    (commits_now active session.asked && is_none seat.found)
    && (not (is_empty rows) && is_front (placed_in table seat.made ++ rows) (own_rows core active session table))

-- an Adopt has a full group, which stands behind the others
abbrev pub is_adopted_group : List ℕ → ℕ → ℕ → List (List Value) → Bool
is_adopted_group groups group first rows =
    length rows == GROUP_ROWS && (group == length groups && first == sum groups)

-- an Append has as many of the rows that are left as the last group has room for, or those that are left in a new
-- group
abbrev pub is_next_append : List ℕ → ℕ → ℕ → ℕ → List (List Value) → Bool
is_next_append groups left group first rows =
    (group == next_group groups && first == first_row groups group)
    && length rows == min left (GROUP_ROWS - rows_in groups group)

-- full groups go first: no table has one left
abbrev pub no_full_group_left : Core → OpenTransaction → Session → Seat → Bool
no_full_group_left core active session seat =
    list_all (λ part. nat_lt (left_to_place core active session seat part.table) GROUP_ROWS)
    (net_behind core.opened core.now.commits active session.asked)

abbrev pub may_adopt : Core → ℕ → ℕ → ℕ → List (List Value) → Session → Seat → Bool
may_adopt core table group first rows session seat = elim session.transaction [
  | transaction.Outside ↦ false
  | transaction.Aborted ↦ false
  | transaction.Open active ↦ are_next_rows core active table rows session seat
      && is_adopted_group (groups_of core.layout table) group first rows
]

abbrev pub may_append : Core → ℕ → ℕ → ℕ → List (List Value) → Session → Seat → Bool
may_append core table group first rows session seat = elim session.transaction [
  | transaction.Outside ↦ false
  | transaction.Aborted ↦ false
  | transaction.Open active ↦ are_next_rows core active table rows session seat
      && (no_full_group_left core active session seat
      && is_next_append (groups_of core.layout table) (left_to_place core active session seat table) group first rows)
]

-- all own rows stand in groups
abbrev pub all_placed : Core → Session → Seat → Bool
all_placed core session seat = elim session.transaction [
  | transaction.Outside ↦ false
  | transaction.Aborted ↦ false
  | transaction.Open active ↦ new_rows seat.made ==
      new_rows (net_behind core.opened core.now.commits active session.asked)
]

abbrev pub same_type : ColType → ColType → Bool
same_type type.Bool type.Bool = true
same_type type.Int type.Int = true
same_type type.Big type.Big = true
same_type type.Text type.Text = true
same_type kind other = false

abbrev pub same_column : Column → Column → Bool
same_column a b = bytes_eq a.name b.name && same_type a.kind b.kind

abbrev pub same_schema : List Column → List Column → Bool
same_schema schema other = pointwise same_column schema other

-- the statement means the creation of that table
abbrev pub is_creation_of : List ℕ → List Column → Meaning → Bool
is_creation_of name schema (meant.Create own_name own_schema) = bytes_eq name own_name
    && same_schema schema own_schema
is_creation_of name schema other = false

abbrev pub is_create : Kind → Bool
is_create kind.Create = true
is_create other = false

-- CREATE TABLE in a transaction of its own
abbrev pub creates_now : OpenTransaction → Option Asked → Bool
creates_now active asked = active.fresh && asks_for is_create asked

-- the first Point of a creation gives the name and the schema that the statement means in the state of the last
-- commit
abbrev pub may_create : Core → List ℕ → List Column → Session → Seat → Bool
may_create core name schema session seat = elim session.transaction [
  | transaction.Outside ↦ false
  | transaction.Aborted ↦ false
  | transaction.Open active ↦ (creates_now active session.asked && (is_none seat.found && is_none seat.creates))
      && is_creation_of name schema (meaning_now core.opened core.now.commits session.asked)
]

-- a Point that is a commit: the call may be answered so, and all own rows stand in groups
abbrev pub may_commit : Core → Reply → Session → Seat → Bool
may_commit core reply session seat = may_end_call core reply session seat && all_placed core session seat

-- a creation has made its first Point before its second one, and nothing else has
abbrev pub may_point : Core → Done → ℕ → Session → Seat → Bool
may_point core (done.Create name schema) moment session seat = may_create core name schema session seat
may_point core done.Created moment session seat =
    is_some seat.creates && may_commit core (reply.Created (next_receipt core.now moment)) session seat
may_point core (done.Changed count) moment session seat =
    is_none seat.creates && may_commit core (reply.Changed count (Some (next_receipt core.now moment))) session seat
may_point core done.Commit moment session seat =
    is_none seat.creates && may_commit core (reply.Committed (next_receipt core.now moment)) session seat
