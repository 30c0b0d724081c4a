-- The machine's entry that an event is, if it is one, and what it makes of the history.
use Rattle.std.specs.Prelude.{true, Bool, List, [], ◌∷◌, ◌++◌, length, Option, Some, None, option_map, if◌then◌else◌}
use Rattle.dk_si.specs.declared.history.Entry.{Entry}
use Rattle.dk_si.specs.declared.history.Entry.TheVariants as entry
use Rattle.dk_si.specs.declared.machine.Machine.{Machine}
use Rattle.dk_si.specs.Machine.{next}
use Rattle.dk_si.specs.Standing.{FullStanding, standing_and, stands_on}
use Rattle.dk_core.specs.declared.event.Event.{Event}
use Rattle.dk_core.specs.declared.event.Event.TheVariants as event
use Rattle.dk_core.specs.Core.{Core, point_reply}
use Rattle.dk_core.specs.Findings.{is_full}

-- a Call, a Begin that finds room, a Reply, and a Point that is a commit
abbrev pub entry_of : Core → Event → Option Entry
entry_of core (event.Call number asked) = Some (entry.Call number asked)
entry_of core (event.Begin number) = if is_full core then None else Some
    (entry.Begun number core.now.begun (length core.now.commits))
entry_of core (event.Point number done moment) = option_map (entry.Reply number) (point_reply core.now done moment)
entry_of core (event.Reply number reply) = Some (entry.Reply number reply)
entry_of core other = None

abbrev pub with_entry : List Entry → Option Entry → List Entry
with_entry entries None = entries
with_entry entries (Some entry) = entries ++ entry ∷ []

abbrev pub entries_after : Core → Event → List Entry
entries_after core event = with_entry core.entries (entry_of core event)

abbrev pub state_with : Core → Option Entry → Machine
state_with core None = core.now
state_with core (Some entry) = next core.opened core.now entry

abbrev pub standing_with : Core → Option Entry → FullStanding
standing_with core None = core.standing
standing_with core (Some entry) = standing_and core.iteration core.standing entry

-- stops and iterations stand well behind the entry too
abbrev pub stands_with : Core → Option Entry → Bool
stands_with core None = true
stands_with core (Some entry) = stands_on core.iteration core.standing entry
