-- An event of another session leaves what a session reads as it was.
use Rattle.dk_core.proofs.StepLemmas.{seat_found}
use Rattle.dk_core.proofs.VersionLemmas.{grown_with}
use Rattle.std.proofs.Common.{arith, ◌≡◌, ℕ, zero, suc, ◌-◌, ◌<◌, ◌≤◌, Bool, true, false, List, [], ◌++◌, take, length, Option, Some, None, ap, ◌∙◌, refl, slice_get, slice_set}
use Rattle.std.specs.Prelude.{◌==◌, if◌then◌else◌}
use Rattle.std.proofs.lemmas.Bool.{true≢false}
use Rattle.std.proofs.lemmas.List.{take-append-le}
use Rattle.dk_values.specs.declared.value.Value.{Value}
use Rattle.dk_types.specs.declared.net.Commit.{Commit}
use Rattle.dk_types.specs.declared.net.TableNet.{TableNet}
use Rattle.dk_types.specs.declared.reply.Reply.{Reply}
use Rattle.dk_types.specs.declared.reply.Reply.TheVariants as told
use Rattle.dk_si.specs.declared.database.Table.{Table}
use Rattle.dk_si.specs.declared.history.Asked.{Asked}
use Rattle.dk_si.specs.declared.history.Entry.TheVariants as history
use Rattle.dk_si.specs.declared.machine.Machine.{Machine}
use Rattle.dk_si.specs.declared.machine.Session.{Session}
use Rattle.dk_si.specs.declared.machine.Transaction.{Transaction}
use Rattle.dk_si.specs.declared.machine.Transaction.TheVariants as state
use Rattle.dk_si.specs.Database.{after, after_all, apply_net}
use Rattle.dk_si.specs.Machine.{after_call, after_begin, after_reply, after_open_reply, after_aborted, with_session, session_behind, transition, session_at, next}
use Rattle.dk_si.specs.Nets.{row_count}
use Rattle.dk_si.proofs.GrowthLemmas.{Grown}
use Rattle.dk_si.proofs.PlaceLemmas.{found_at}
use Rattle.dk_core.specs.declared.event.Done.TheVariants as done
use Rattle.dk_core.specs.declared.event.Event.{Event}
use Rattle.dk_core.specs.declared.event.Event.TheVariants as event
use Rattle.dk_core.specs.declared.seat.Seat.{Seat}
use Rattle.dk_core.specs.Core.{Core, first_core, seat_at, next_receipt}
use Rattle.dk_core.specs.Entries.{entry_of, state_with}
use Rattle.dk_core.specs.Findings.{is_full}
use Rattle.dk_core.specs.Laws.{core_after, SnapshotsAreStable}
use Rattle.dk_core.specs.Reading.{rows_of_table, rows_in, reads}
use Rattle.dk_core.specs.Step.{session_of_event, seat_after, seats_after, step}
use Rattle.dk_core.proofs.Invariant.{Fits, Links}
use Rattle.dk_core.proofs.DeleteLemmas.{set_other}
use Rattle.dk_core.proofs.LegalLemmas.{first_sound, all_keep}

less_one : (a b : ℕ) → (a == b) ≡ false → 0 < a → 0 < b → (a - 1 == b - 1) ≡ false
less_one a b apart above positive = grind (arith, apart, above, positive)

not_zero : (n : ℕ) → (n == 0) ≡ false → 0 < n
not_zero zero is = absurd (true≢false is)
not_zero (suc n) is = omega arith

place_if : {T : Type 0} → (xs : List T) (number other : ℕ) (x : T) (first : Bool) → (number == 0) ≡ first
    → (other == number) ≡ false → 0 < other
    → (if first then None else slice_get (slice_set xs (other - 1) x) (number - 1))
    ≡ (if first then None else slice_get xs (number - 1))
place_if xs number other x true is apart above = refl
place_if xs number other x false is apart above =
    set_other xs (other - 1) (number - 1) x (less_one other number apart above (not_zero number is))

-- a lookup by a session's number, where another session's place is set
pub other_place : {T : Type 0} → (xs : List T) (number other : ℕ) (x : T) → (other == number) ≡ false → 0 < other
    → (if number == 0 then None else slice_get (slice_set xs (other - 1) x) (number - 1)) ≡
    (if number == 0 then None else slice_get xs (number - 1))
other_place xs number other x apart above = place_if xs number other x (number == 0) refl apart above

-- an entry leaves the sessions of others
call_others : (machine : Machine) (number other : ℕ) (asked : Asked) (found : Option Session)
    → session_at machine.sessions other ≡ found → (other == number) ≡ false
    → session_at
    (elim found as (λ x. Machine) [ None ↦ machine | Some before ↦ after_call machine other asked before ]).sessions
    number
    ≡ session_at machine.sessions number
call_others machine number other asked None is apart = refl
call_others machine number other asked (Some before) is apart = other_place machine.sessions number other _ apart
    (found_at machine.sessions other before is).1

begun_others : (machine : Machine) (number other transaction start : ℕ) (found : Option Session)
    → session_at machine.sessions other ≡ found → (other == number) ≡ false
    → session_at
    (elim found as
    (λ x. Machine) [ None ↦ machine | Some before ↦ after_begin machine other transaction start before ]).sessions
    number
    ≡ session_at machine.sessions number
begun_others machine number other transaction start None is apart = refl
begun_others machine number other transaction start (Some before) is apart =
    other_place machine.sessions number other _ apart (found_at machine.sessions other before is).1

told_others : (opened : List Table) (machine : Machine) (number other : ℕ) (before : Session) (reply : Reply)
    (transaction : Transaction) → 0 < other → (other == number) ≡ false
    → session_at (elim transaction as (λ x. Machine) [
      | state.Outside ↦ with_session machine other (session_behind state.Outside None None)
      | state.Aborted ↦ with_session machine other (session_behind (after_aborted reply) None None)
      | state.Open active ↦ after_open_reply opened machine other before active
          (transition opened machine.commits active before.asked reply)
    ]).sessions number ≡ session_at machine.sessions number
told_others opened machine number other before reply state.Outside above apart =
    other_place machine.sessions number other _ apart above
told_others opened machine number other before reply state.Aborted above apart =
    other_place machine.sessions number other _ apart above
told_others opened machine number other before reply (state.Open active) above apart =
    other_place machine.sessions number other _ apart above

reply_others : (opened : List Table) (machine : Machine) (number other : ℕ) (reply : Reply) (found : Option Session)
    → session_at machine.sessions other ≡ found → (other == number) ≡ false
    → session_at
    (elim found as
    (λ x. Machine) [ None ↦ machine | Some before ↦ after_reply opened machine other before reply ]).sessions number
    ≡ session_at machine.sessions number
reply_others opened machine number other reply None is apart = refl
reply_others opened machine number other reply (Some before) is apart =
    told_others opened machine number other before reply before.transaction
    (found_at machine.sessions other before is).1 apart

begin_others : (core : Core) (number other : ℕ) (full : Bool) → (other == number) ≡ false
    → session_at
    (state_with core
    (if full then None else Some (history.Begun other core.now.begun (length core.now.commits)))).sessions number
    ≡ session_at core.now.sessions number
begin_others core number other true apart = refl
begin_others core number other false apart =
    begun_others core.now number other core.now.begun (length core.now.commits) (session_at core.now.sessions other)
    refl apart

replied_others : (core : Core) (number other : ℕ) (reply : Reply) → (other == number) ≡ false
    → session_at (next core.opened core.now (history.Reply other reply)).sessions number ≡ session_at
    core.now.sessions number
replied_others core number other reply apart = reply_others core.opened core.now number other reply
    (session_at core.now.sessions other) refl apart

event_others : (core : Core) (event : Event) (number : ℕ) → (session_of_event event == number) ≡ false
    → session_at (state_with core (entry_of core event)).sessions number ≡ session_at core.now.sessions number
event_others core (event.Call other asked) number apart = call_others core.now number other asked
    (session_at core.now.sessions other) refl apart
event_others core (event.Begin other) number apart = begin_others core number other (is_full core) apart
event_others core (event.Point other (done.Create name schema) moment) number apart = refl
event_others core (event.Point other done.Created moment) number apart =
    replied_others core number other (told.Created (next_receipt core.now moment)) apart
event_others core (event.Point other (done.Changed count) moment) number apart =
    replied_others core number other (told.Changed count (Some (next_receipt core.now moment))) apart
event_others core (event.Point other done.Commit moment) number apart =
    replied_others core number other (told.Committed (next_receipt core.now moment)) apart
event_others core (event.Reply other reply) number apart = replied_others core number other reply apart
event_others core other number apart = refl

-- and an event the seats of others
seat_above : (seats : List Seat) (number : ℕ) (first : Bool) (seat : Seat) → (number == 0) ≡ first
    → (if first then None else slice_get seats (number - 1)) ≡ Some seat → 0 < number
seat_above seats number true seat is at = cc
seat_above seats zero false seat is at = absurd (true≢false is)
seat_above seats (suc n) false seat is at = omega arith

set_others : (seats : List Seat) (number other : ℕ) (change : Seat → Seat) (found : Option Seat)
    → seat_at seats other ≡ found → (other == number) ≡ false
    → seat_at
    (elim found as (λ x. List Seat) [ None ↦ seats | Some seat ↦ slice_set seats (other - 1) (change seat) ])
    number ≡ seat_at seats number
set_others seats number other change None is apart = refl
set_others seats number other change (Some seat) is apart =
    other_place seats number other (change seat) apart (seat_above seats other (other == 0) seat refl is)

seats_others : (core : Core) (event : Event) (number : ℕ) → (session_of_event event == number) ≡ false
    → seat_at (seats_after core event) number ≡ seat_at core.seats number
seats_others core event number apart =
    set_others core.seats number (session_of_event event) (seat_after core event)
    (seat_at core.seats (session_of_event event)) refl apart

-- what a transaction sees does not depend on later commits
abbrev seen_in : List Table → List TableNet → List TableNet → ℕ → List (Option (List Value))
seen_in tables net made table = take (row_count tables table)
    (rows_of_table (apply_net made (apply_net net tables)) table)

seen_stays : (opened : List Table) (commits more : List Commit) (start : ℕ) (net made : List TableNet) (table : ℕ)
    → start ≤ length commits
    → seen_in (after opened (commits ++ more) start) net made table ≡ seen_in (after opened commits start) net made
    table
seen_stays opened commits more start net made table within =
    ap (λ list. seen_in (after_all list opened) net made table) (take-append-le start commits more within)

rows_stay : (core : Core) (now : Machine) (seat : Seat) (session : Session) (transaction : Transaction) (table : ℕ)
    → Grown now.commits core.now.commits
    → Links (length core.now.commits) seat session transaction
    → rows_in (record core { now = now }) transaction seat table ≡ rows_in core transaction seat table
rows_stay core now seat session state.Outside table grown links = refl
rows_stay core now seat session state.Aborted table grown links = refl
rows_stay core now seat session (state.Open active) table grown links =
    ap (λ list. seen_in (after core.opened list active.start) active.net seat.made table) grown.is
    ∙ seen_stays core.opened core.now.commits grown.more active.start active.net seat.made table links.0

reads_of : (core : Core) → Fits core → (now : Machine) (number table : ℕ) → Grown now.commits core.now.commits
    → (session : Option Session) (seat : Option Seat) → session_at core.now.sessions number ≡ session
    → seat_at core.seats number ≡ seat
    → elim session as (λ x. List (Option (List Value))) [
      | None ↦ []
      | Some session ↦ elim seat as (λ x. List (Option (List Value))) [
        | None ↦ []
        | Some seat ↦ rows_in (record core { now = now }) session.transaction seat table
      ]
    ]
    ≡ elim session as (λ x. List (Option (List Value))) [
      | None ↦ []
      | Some session ↦ elim seat as (λ x. List (Option (List Value))) [
        | None ↦ []
        | Some seat ↦ rows_in core session.transaction seat table
      ]
    ]
reads_of core fits now number table grown None seat is there = refl
reads_of core fits now number table grown (Some session) None is there = refl
reads_of core fits now number table grown (Some session) (Some seat) is there =
    rows_stay core now seat session session.transaction table grown
    (fits.sit (number - 1) session seat (found_at core.now.sessions number session is).0
    (seat_found (number == 0) core.seats number seat refl there)).links

-- an event of another session
event_reads : (core : Core) → Fits core → (event : Event) (number table : ℕ)
    → (session_of_event event == number) ≡ false
    → reads (step core event) number table ≡ reads core number table
event_reads core fits event number table apart =
    let now = state_with core (entry_of core event) in
    ap (λ (found : Option Session). elim found as (λ x. List (Option (List Value))) [
      | None ↦ []
      | Some session ↦ elim (seat_at (seats_after core event) number) as (λ x. List (Option (List Value))) [
        | None ↦ []
        | Some seat ↦ rows_in (record core { now = now }) session.transaction seat table
      ]
    ]) (event_others core event number apart)
    ∙ (ap (λ (found : Option Seat). elim (session_at core.now.sessions number) as (λ x. List (Option (List Value))) [
      | None ↦ []
      | Some session ↦ elim found as (λ x. List (Option (List Value))) [
        | None ↦ []
        | Some seat ↦ rows_in (record core { now = now }) session.transaction seat table
      ]
    ]) (seats_others core event number apart)
    ∙ reads_of core fits now number table (grown_with core (entry_of core event))
    (session_at core.now.sessions number) (seat_at core.seats number) refl refl)

pub snapshots_are_stable : SnapshotsAreStable
snapshots_are_stable opened iteration sessions events event number table allowed apart =
    let first = first_core opened iteration sessions in
    event_reads (core_after first events) (all_keep first (first_sound opened iteration sessions) events allowed).fits
    event number table apart
