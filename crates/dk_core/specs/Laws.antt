-- What holds of the core over every list of events.
use Rattle.std.specs.Prelude.{◌≡◌, ℕ, Bool, true, false, ◌&&◌, List, [], ◌∷◌, ◌==◌}
use Rattle.dk_si.specs.declared.database.Table.{Table}
use Rattle.dk_si.specs.IsLegal.{is_legal}
use Rattle.dk_core.specs.declared.event.Event.{Event}
use Rattle.dk_core.specs.Core.{Core, first_core}
use Rattle.dk_core.specs.Allows.{allows}
use Rattle.dk_core.specs.Reading.{reads}
use Rattle.dk_core.specs.Step.{session_of_event, step}
use Rattle.dk_core.specs.Versions.{Numbered, Placed, Ordered}

abbrev pub core_after : Core → List Event → Core
core_after core [] = core
core_after core (event ∷ events) = core_after (step core event) events

-- each of these events is allowed in its turn
abbrev pub all_allowed : Core → List Event → Bool
all_allowed core [] = true
all_allowed core (event ∷ events) = allows core event && all_allowed (step core event) events

-- the entries of a list of events that the core allows are a legal history
abbrev pub LegalOverEveryList : Type 0
LegalOverEveryList = (opened : List Table) (iteration sessions : ℕ) (events : List Event)
    → all_allowed (first_core opened iteration sessions) events ≡ true
    → is_legal opened iteration (core_after (first_core opened iteration sessions) events).entries ≡ true

-- after a list of events that the core allows, snapshots and versions have these numbers and places
abbrev pub VersionsOverEveryList : Type 0
VersionsOverEveryList = (opened : List Table) (iteration sessions : ℕ) (events : List Event)
    → all_allowed (first_core opened iteration sessions) events ≡ true
    → Numbered (core_after (first_core opened iteration sessions) events) × Placed
    (core_after (first_core opened iteration sessions) events)

-- and no transaction has a newer version of a row that it deleted
abbrev pub OrderedOverEveryList : Type 0
OrderedOverEveryList = (opened : List Table) (iteration sessions : ℕ) (events : List Event)
    → all_allowed (first_core opened iteration sessions) events ≡ true
    → Ordered (core_after (first_core opened iteration sessions) events)

-- after such a list every further event of another session leaves what a session reads as it was
abbrev pub SnapshotsAreStable : Type 0
SnapshotsAreStable = (opened : List Table) (iteration sessions : ℕ) (events : List Event) (event : Event)
    (number table : ℕ)
    → all_allowed (first_core opened iteration sessions) events ≡ true
    → (session_of_event event == number) ≡ false
    → reads (step (core_after (first_core opened iteration sessions) events) event) number table
    ≡ reads (core_after (first_core opened iteration sessions) events) number table
