-- What each event of the core keeps: the machine's part is the state of a legal history, and each session's seat
-- agrees with
-- what the machine knows of the session.
use Rattle.std.proofs.Common.{◌≡◌, ◌⊎◌, ℕ, ◌+◌, ◌<◌, ◌≤◌, true, false, List, [], length, Option, Some, None, slice_get, slice_set, ◌-◌}
use Rattle.std.specs.Prelude.{Bool, ◌&&◌, is_none}
use Rattle.dk_types.specs.declared.net.Commit.{Commit}
use Rattle.dk_types.specs.declared.reply.Refusal.{Refusal}
use Rattle.dk_types.specs.Nets.{IsNet}
use Rattle.dk_si.specs.declared.database.Table.{Table}
use Rattle.dk_si.specs.declared.history.Asked.{Asked}
use Rattle.dk_si.specs.declared.history.Entry.{Entry}
use Rattle.dk_si.specs.declared.machine.OpenTransaction.{OpenTransaction}
use Rattle.dk_si.specs.declared.machine.LastTransaction.{LastTransaction}
use Rattle.dk_si.specs.declared.machine.Transaction.{Transaction}
use Rattle.dk_si.specs.declared.machine.Session.{Session}
use Rattle.dk_si.specs.declared.machine.Machine.{Machine}
use Rattle.dk_si.specs.declared.limits.TheConstants.{SESSIONS, MAX_TRANSACTIONS}
use Rattle.dk_si.specs.Nets.{net_has}
use Rattle.dk_si.specs.Machine.{first_state, committed_count, write_set_in_flight}
use Rattle.dk_si.specs.HeldRows.{commit_has, has_pending_write, writes_row}
use Rattle.dk_si.specs.IsStep.{are_steps, is_founded_refusal}
use Rattle.dk_si.specs.Laws.{state_after}
use Rattle.dk_si.specs.Exchanges.{exchanges}
use Rattle.dk_si.specs.IsLegal.{stops_well, iterates_well}
use Rattle.dk_core.specs.declared.seat.Snapshot.{Snapshot}
use Rattle.dk_core.specs.declared.seat.Seat.{Seat}
use Rattle.dk_core.specs.Core.{Core, seat_at, unstamped}
use Rattle.dk_core.specs.Findings.{writer_in}
use Rattle.dk_core.specs.Allows.{is_open, is_active, allows_locally}
use Rattle.dk_core.specs.Entries.{entry_of, entries_after, state_with}
use Rattle.dk_core.specs.Step.{seats_after}
use Rattle.dk_core.specs.declared.event.Event.{Event}
use Rattle.dk_si.specs.declared.machine.Transaction.TheVariants as state

-- stops and iterations stand well over the whole list
abbrev pub stands_well : Core → List Entry → Bool
stands_well core entries = stops_well (exchanges entries) && iterates_well core.iteration (exchanges entries)

-- the seat has a version of the row without a commit number
abbrev pub Has : Seat → ℕ → ℕ → Type 0
Has seat table row = net_has (unstamped seat) table row ≡ true

-- no commit from the start on changed the row, and no other transaction without a Point has a version of it
pub record Alone (commits : List Commit) (seats : List Seat) (place start table row : ℕ) : Type 0 where
  pub clear : (k : ℕ) (commit : Commit) → start ≤ k → slice_get commits k ≡ Some commit
      → commit_has table row commit ≡ true → ⊥
  pub alone : (k : ℕ) (other : Seat) (number : ℕ) → (k ≡ place → ⊥) → slice_get seats k ≡ Some other
      → writer_in table row other ≡ Some number → ⊥

-- the machine knows the session's transaction as this one, and as one that has changed the row
abbrev pub ClaimsOpen : List Table → Machine → Option Asked → Seat → Snapshot → ℕ → ℕ → OpenTransaction → Type 0
ClaimsOpen opened machine asked seat live table row active =
    (live.commit ≡ None) × (active.number ≡ live.number) × (live.start ≡ active.start)
    × (net_has seat.versions table row ≡ true → net_has active.net table row ≡ true)
    × (net_has seat.made table row ≡ true
    → writes_row (write_set_in_flight opened machine.commits (state.Open active) asked) table row ≡ true)
    × (row < committed_count opened machine.commits active table)

abbrev pub ClaimsPast : Session → Snapshot → ℕ → ℕ → Option LastTransaction → Type 0
ClaimsPast session live table row None = ⊥
ClaimsPast session live table row (Some past) =
    (past.number ≡ live.number) × (past.commit ≡ live.commit) ×
    ((net_has past.net table row ≡ true) ⊎ (writes_row session.writes table row ≡ true))

abbrev pub ClaimsBy : List Table → Machine → Session → Seat → Snapshot → ℕ → ℕ → Transaction → Type 0
ClaimsBy opened machine session seat live table row (state.Open active) =
    ClaimsOpen opened machine session.asked seat live table row active
ClaimsBy opened machine session seat live table row state.Outside = ClaimsPast session live table row session.last
ClaimsBy opened machine session seat live table row state.Aborted = ClaimsPast session live table row session.last

abbrev pub Claims : List Table → Machine → Session → Seat → Snapshot → ℕ → ℕ → Type 0
Claims opened machine session seat live table row =
    ClaimsBy opened machine session seat live table row session.transaction

-- an open transaction's net is a net
abbrev pub Lawful : Transaction → Type 0
Lawful state.Outside = Unit {0}
Lawful state.Aborted = Unit {0}
Lawful (state.Open active) = IsNet active.net

-- an open transaction that goes on has this snapshot
abbrev pub Links : ℕ → Seat → Session → Transaction → Type 0
Links commits seat session state.Outside = Unit {0}
Links commits seat session state.Aborted = Unit {0}
Links commits seat session (state.Open active) =
    (active.start ≤ commits) ×
    (is_active session ≡ true
    → seat.live ≡ Some (record { number = active.number; start = active.start; commit = None }))

pub record Sits (opened : List Table) (entries : List Entry) (machine : Machine) (seats : List Seat) (place : ℕ)
    (session : Session) (seat : Seat) : Type 0 where
  pub links : Links (length machine.commits) seat session session.transaction
  pub lawful : Lawful session.transaction
  pub kept : (table row : ℕ) → has_pending_write table row session ≡ true → Has seat table row
  pub claimed : (live : Snapshot) (table row : ℕ) → seat.live ≡ Some live → Has seat table row
      → Claims opened machine session seat live table row
  pub free : (live : Snapshot) (table row : ℕ) → seat.live ≡ Some live → live.commit ≡ None → Has seat table row
      → Alone machine.commits seats place live.start table row
  pub quiet : is_open session ≡ false → is_none session.asked ≡ false → seat.live ≡ None
  pub found : (refusal : Refusal) → seat.found ≡ Some refusal
      → is_founded_refusal opened (place + 1) entries refusal ≡ true

pub record Fits (core : Core) : Type 0 where
  pub is_now : core.now ≡ state_after core.opened first_state core.entries
  pub steps : are_steps core.opened [] first_state core.entries ≡ true
  pub whole : stands_well core core.entries ≡ true
  pub numbers : core.now.begun ≤ MAX_TRANSACTIONS
  pub even : length core.seats ≡ length core.now.sessions
  pub count : length core.seats ≡ SESSIONS
  pub sit : (place : ℕ) (session : Session) (seat : Seat) → slice_get core.now.sessions place ≡ Some session
      → slice_get core.seats place ≡ Some seat
      → Sits core.opened core.entries core.now core.seats place session seat

-- a core with these entries, this state and these seats
abbrev pub core_with : Core → List Entry → Machine → List Seat → Core
core_with core entries now seats = record core { entries = entries; now = now; seats = seats }

-- its seats, where that of this session is changed so
abbrev pub with_change : Core → ℕ → (Seat → Seat) → List Seat
with_change core number change = elim (seat_at core.seats number) as (λ x. List Seat) [
  | None ↦ core.seats
  | Some seat ↦ slice_set core.seats (number - 1) (change seat)
]

-- the part of the core after an event that the invariant is about
abbrev pub moved : Core → Event → Core
moved core event = core_with core (entries_after core event) (state_with core (entry_of core event))
    (seats_after core event)

-- the event is allowed, told over the whole list of entries
abbrev pub allows_so : Core → Event → Bool
allows_so core event = allows_locally core event && stands_well core (entries_after core event)
