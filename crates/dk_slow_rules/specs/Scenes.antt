-- The core that a scene borrows its parts from, and what is asked of one of its sessions.
use Rattle.std.specs.Prelude.{◌≡◌, ℕ, Bool, true, false, List, Option, Some, None}
use Rattle.dk_si.specs.declared.history.Entry.{Entry}
use Rattle.dk_si.specs.declared.machine.Session.{Session}
use Rattle.dk_si.specs.declared.standing.Standing.{Standing}
use Rattle.dk_si.specs.ShortStanding.{IsBehind, stand_well}
use Rattle.dk_si.specs.Standing.{standing_after}
use Rattle.dk_core.specs.declared.seat.Seat.{Seat}
use Rattle.dk_core.specs.Core.{Core}
use Rattle.dk_slow_rules.specs.declared.scene.Held.{Held}
use Rattle.dk_slow_rules.specs.declared.scene.Scene.{Scene}

-- the core of which a scene has the parts; what stands of stops and iterations is told by the entries
abbrev pub core_in : Scene → Core
core_in scene = record {
  opened = scene.opened.now;
  iteration = scene.iteration;
  sessions = scene.sessions;
  entries = scene.entries.now;
  standing = standing_after scene.iteration scene.entries.now;
  now = record { commits = scene.commits.now; begun = scene.begun; sessions = scene.states.now };
  seats = scene.seats.now;
  layout = scene.layout.now;
}

-- there is such a session, and it passes the test
abbrev pub passes : (Session → Seat → Bool) → Option Held → Bool
passes test None = false
passes test (Some held) = test held.session.now held.seat.now

-- stops and iterations stand well over these entries, as they do after events that were allowed, and this is what is
-- kept of them behind the entries
pub record StandWell (iteration : ℕ) (entries : List Entry) (standing : Standing) : Type 0 where
  pub behind : IsBehind iteration entries standing
  pub well : stand_well iteration entries ≡ true
