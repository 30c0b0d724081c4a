-- The core behind an entry and behind an event.
use Rattle.std.specs.Prelude.{ℕ, ◌+◌, ◌^◌, ◌<◌, List, ◌++◌, ◌∷◌, [], length}
use Rattle.dk_values.specs.declared.value.Value.{Value}
use Rattle.dk_types.specs.declared.reply.Reply.{Reply}
use Rattle.dk_si.specs.declared.history.Entry.{Entry}
use Rattle.dk_si.specs.declared.history.Entry.TheVariants as entry
use Rattle.dk_si.specs.Standing.{FullStanding, standing_and, standing_after}
use Rattle.dk_core.specs.declared.event.Event.{Event}
use Rattle.dk_core.specs.Core.{Core}
use Rattle.dk_core.specs.Layout.{groups_of, rows_in}
use Rattle.dk_core.specs.Step.{step, appended_part, with_placed}
use Rattle.dk_slow_seats.specs.Seats.{seats_put, seats_with, committed_at, with_version}
use Rattle.dk_slow_state.specs.Moves.{machine_behind}

-- what stands of stops and iterations behind an entry
unfoldable pub standing_behind : ℕ → FullStanding → Entry → FullStanding
standing_behind iteration standing entry = standing_and iteration standing entry

-- what stands of them behind all entries, as one word
unfoldable pub standing_of : ℕ → List Entry → FullStanding
standing_of iteration entries = standing_after iteration entries

-- the core behind one more entry, its seats and groups aside
abbrev pub entered : Core → Entry → Core
entered core entry = record core {
  entries = core.entries ++ entry ∷ [];
  standing = standing_behind core.iteration core.standing entry;
  now = machine_behind core.opened core.now entry;
}

-- the core behind an event, as one word
unfoldable pub core_behind : Core → Event → Core
core_behind core event = step core event

-- the core behind a reply that is a commit, its groups aside
abbrev pub committed : Core → ℕ → Reply → Core
committed core number reply = record (entered core (entry.Reply number reply)) {
  seats = seats_put core.seats number (committed_at (length core.now.commits) core.seats number);
}

-- the core behind rows that a session puts into that group of a table, or into a new one behind the others
abbrev pub placed : Core → ℕ → ℕ → ℕ → List (List Value) → Core
placed core number table group rows = record (seats_with core number (with_version (appended_part table rows))) {
  layout = with_placed core.layout table group rows;
}

-- the rows that an event puts into a group can be counted there
abbrev pub FitsIn : List (List ℕ) → ℕ → ℕ → List (List Value) → Type 0
FitsIn layout table group rows = rows_in (groups_of layout table) group + length rows < 2 ^ 64
