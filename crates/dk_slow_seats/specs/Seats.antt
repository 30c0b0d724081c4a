-- One seat of many, and a core of which the seats and the commits alone are known.
use Rattle.std.specs.Prelude.{ℕ, ◌+◌, ◌-◌, List, [], ◌∷◌, Option, Some, None, length, slice_set}
use Rattle.dk_types.specs.declared.net.Commit.{Commit}
use Rattle.dk_types.specs.declared.net.TableNet.{TableNet}
use Rattle.dk_si.specs.declared.history.Entry.{Entry}
use Rattle.dk_si.specs.declared.history.Entry.TheVariants as entry
use Rattle.dk_si.specs.Machine.{first_state}
use Rattle.dk_core.specs.declared.seat.Seat.{Seat}
use Rattle.dk_core.specs.declared.seat.Snapshot.{Snapshot}
use Rattle.dk_core.specs.Core.{Core, first_core, seat_at}
use Rattle.dk_core.specs.Step.{seat_after_reply}

-- the seat of a session is changed, if it has one
abbrev pub with_seat : List Seat → ℕ → (Seat → Seat) → List Seat
with_seat seats number change = elim (seat_at seats number) [
  | None ↦ seats
  | Some seat ↦ slice_set seats (number - 1) (change seat)
]

-- a seat is put in the place of that session, if there is one to put
abbrev pub seats_put : List Seat → ℕ → Option Seat → List Seat
seats_put seats number None = seats
seats_put seats number (Some seat) = slice_set seats (number - 1) seat

-- the core with such a seat
abbrev pub seats_with : Core → ℕ → (Seat → Seat) → Core
seats_with core number change = record core { seats = with_seat core.seats number change }

abbrev pub begun_entry : Core → ℕ → Entry
begun_entry core number = entry.Begun number core.now.begun (length core.now.commits)

-- a seat with one version more
abbrev pub with_version : TableNet → Seat → Seat
with_version part seat = record seat { made = part ∷ seat.made }

-- how many commits the snapshot of a session sees, if it has one
abbrev pub start_at : List Seat → ℕ → Option ℕ
start_at seats number = elim (seat_at seats number) [
  | None ↦ None
  | Some seat ↦ elim seat.live [ None ↦ None | Some live ↦ Some live.start ]
]

-- a seat with a snapshot, behind its commit, which comes behind so many others
abbrev pub with_commit : ℕ → Seat → Snapshot → Seat
with_commit commits seat live =
    record (seat_after_reply seat) { live = Some (record live { commit = Some (commits + 1) }) }

-- the seat of a session behind that commit, if it has a snapshot
abbrev pub committed_at : ℕ → List Seat → ℕ → Option Seat
committed_at commits seats number = elim (seat_at seats number) [
  | None ↦ None
  | Some seat ↦ elim seat.live [ None ↦ None | Some live ↦ Some (with_commit commits seat live) ]
]

-- a core with these seats and commits: what asks for no more of a core is told of it
abbrev pub core_of : List Seat → List Commit → Core
core_of seats commits =
    record (first_core [] 0 0) { seats = seats; now = record first_state { commits = commits } }
