-- What an event makes of the core.
use Rattle.std.specs.Prelude.{ℕ, ◌+◌, ◌-◌, List, [], ◌∷◌, ◌++◌, take, length, Some, None, slice_set, if◌then◌else◌}
use Rattle.dk_values.specs.declared.value.Value.{Value}
use Rattle.dk_types.specs.declared.net.TableNet.{TableNet}
use Rattle.dk_types.specs.declared.reply.Refusal.TheVariants as refusal
use Rattle.dk_core.specs.declared.event.Done.TheVariants as done
use Rattle.dk_core.specs.declared.event.Event.{Event}
use Rattle.dk_core.specs.declared.event.Event.TheVariants as event
use Rattle.dk_core.specs.declared.seat.Seat.{Seat}
use Rattle.dk_core.specs.Core.{Core, no_seat, seat_at, next_snapshot}
use Rattle.dk_core.specs.Entries.{entry_of, entries_after, state_with, standing_with}
use Rattle.dk_core.specs.Findings.{conflict, is_full, spent_numbers}
use Rattle.dk_core.specs.Layout.{groups_of, with_rows}

-- the call is over, and what it made joins the versions of the transaction
abbrev pub seat_after_reply : Seat → Seat
seat_after_reply seat = record seat { versions = seat.made ++ seat.versions; made = []; found = None; creates = None }

abbrev pub seat_after_begin : Core → Seat → Seat
seat_after_begin core seat =
    if is_full core then record seat { found = Some (refusal.Exhausted (spent_numbers core)) }
    else record no_seat { live = Some (next_snapshot core.now) }

-- a Change makes one version, or finds a conflict and changes nothing
abbrev pub seat_after_change : Core → ℕ → TableNet → Seat → Seat
seat_after_change core number part seat = elim seat.live [
  | None ↦ seat
  | Some live ↦ elim (conflict core number live.start part) [
    | None ↦ record seat { made = part ∷ seat.made }
    | Some refusal ↦ record seat { found = Some refusal }
  ]
]

abbrev pub appended_part : ℕ → List (List Value) → TableNet
appended_part table rows = record { table = table; updates = []; deletes = []; rows = rows }

abbrev pub seat_after_placing : ℕ → List (List Value) → Seat → Seat
seat_after_placing table rows seat = record seat { made = appended_part table rows ∷ seat.made }

-- the commit has its number, and is pending until all versions have it
abbrev pub seat_after_commit : Core → Seat → Seat
seat_after_commit core seat = elim seat.live [
  | None ↦ seat
  | Some live ↦ record
      (seat_after_reply seat) { live = Some (record live { commit = Some (length core.now.commits + 1) }) }
]

-- all but the oldest version, and all but the newest
abbrev pub without_oldest : {T : Type 0} → List T → List T
without_oldest items = take (length items - 1) items

abbrev pub without_newest : {T : Type 0} → List T → List T
without_newest [] = []
without_newest (x ∷ xs) = xs

abbrev pub seat_after : Core → Event → Seat → Seat
seat_after core (event.Call number asked) seat = record seat { found = None }
seat_after core (event.Begin number) seat = seat_after_begin core seat
seat_after core (event.Change number at part) seat = seat_after_change core number part seat
seat_after core (event.Append number table group first rows) seat = seat_after_placing table rows seat
seat_after core (event.Adopt number table group first rows) seat = seat_after_placing table rows seat
seat_after core (event.Point number (done.Create name schema) moment) seat =
    record seat { creates = Some (record { name = name; schema = schema }) }
seat_after core (event.Point number done moment) seat = seat_after_commit core seat
seat_after core (event.Stamp number) seat = record seat { versions = without_oldest seat.versions }
seat_after core (event.Finish number) seat = record seat { live = None }
seat_after core (event.Undo number) seat = record seat { versions = without_newest seat.versions }
seat_after core (event.Reply number reply) seat = seat_after_reply seat
seat_after core (event.Leave number) seat = record seat { live = None }
seat_after core other seat = seat

-- the session of an event, 0 where it has none or changes nothing of it
abbrev pub session_of_event : Event → ℕ
session_of_event (event.Call number asked) = number
session_of_event (event.Begin number) = number
session_of_event (event.Change number at part) = number
session_of_event (event.Append number table group first rows) = number
session_of_event (event.Adopt number table group first rows) = number
session_of_event (event.Point number done moment) = number
session_of_event (event.Stamp number) = number
session_of_event (event.Finish number) = number
session_of_event (event.Undo number) = number
session_of_event (event.Reply number reply) = number
session_of_event (event.Leave number) = number
session_of_event other = 0

abbrev pub seats_after : Core → Event → List Seat
seats_after core event = elim (seat_at core.seats (session_of_event event)) [
  | None ↦ core.seats
  | Some seat ↦ slice_set core.seats (session_of_event event - 1) (seat_after core event seat)
]

abbrev pub with_placed : List (List ℕ) → ℕ → ℕ → List (List Value) → List (List ℕ)
with_placed layout table group rows = slice_set layout table (with_rows group (length rows) (groups_of layout table))

-- rows are placed, and a new table has no groups
abbrev pub layout_after : Core → Event → List (List ℕ)
layout_after core (event.Append number table group first rows) = with_placed core.layout table group rows
layout_after core (event.Adopt number table group first rows) = with_placed core.layout table group rows
layout_after core (event.Point number done.Created moment) = core.layout ++ [] ∷ []
layout_after core other = core.layout

-- the core after an event
abbrev pub step : Core → Event → Core
step core event = record core {
  entries = entries_after core event;
  standing = standing_with core (entry_of core event);
  now = state_with core (entry_of core event);
  seats = seats_after core event;
  layout = layout_after core event;
}
