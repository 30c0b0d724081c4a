-- Each event keeps what fits.
use Rattle.dk_core.proofs.HolderLemmas.{is_none_of}
use Rattle.dk_core.specs.Allows as may
use Rattle.dk_core.specs.Changes.{is_fresh_part}
use Rattle.dk_types.specs.declared.vector.VectorId.{VectorId}
use Rattle.dk_core.specs.Core as in_core
use Rattle.dk_core.specs.Entries as in_entries
use Rattle.dk_core.specs.Step as does
use Rattle.std.proofs.Common.{arith, ◌≡◌, ⊎_elim, ℕ, zero, suc, ◌+◌, ◌-◌, ◌*◌, ◌<◌, ◌≤◌, Bool, true, false, List, [], ◌∷◌, ◌++◌, length, Option, Some, None, ap, ◌∙◌, sym, refl, subst, slice_get, slice_set}
use Rattle.std.specs.Prelude.{◌&&◌, ◌||◌, not, is_none, is_some, ◌==◌, nat_lt, if◌then◌else◌}
use Rattle.std.specs.List.{filter}
use Rattle.std.proofs.lemmas.Bool.{true≢false, false≢true, and_from, and_parts, or_cases, or_left, or_right, eqb-true, eq-eqb, ltb-true, lt-ltb}
use Rattle.std.proofs.lemmas.List.{append-nil}
use Rattle.dk_types.specs.declared.net.TableNet.{TableNet}
use Rattle.dk_types.specs.declared.reply.Refusal.{Refusal}
use Rattle.dk_types.specs.declared.reply.Holder.{Holder}
use Rattle.dk_si.proofs.PlaceLemmas.{set_length, same_copies, set_place}
use Rattle.dk_si.specs.declared.database.Table.{Table}
use Rattle.dk_si.specs.declared.history.Asked.{Asked}
use Rattle.dk_si.specs.declared.history.Entry.{Entry}
use Rattle.dk_si.specs.declared.machine.OpenTransaction.{OpenTransaction}
use Rattle.dk_si.specs.declared.machine.LastTransaction.{LastTransaction}
use Rattle.dk_si.specs.declared.machine.WriteSet.{WriteSet}
use Rattle.dk_si.specs.declared.machine.Transaction.{Transaction}
use Rattle.dk_si.specs.declared.machine.Session.{Session}
use Rattle.dk_si.specs.declared.machine.Machine.{Machine}
use Rattle.dk_si.specs.declared.limits.TheConstants.{SESSIONS, MAX_TRANSACTIONS, MAX_ROWS, SPARE_ROWS}
use Rattle.dk_si.specs.Nets.{net_has, part_has}
use Rattle.dk_si.specs.Machine.{asks_for, first_state, idle, changed_ids, session_at, after_call, after_begin, committed_count, meaning_in, next, begins_one, is_outside}
use Rattle.dk_si.specs.HeldRows.{holds_against, holds, has_pending_write, writes_row}
use Rattle.dk_si.specs.Answer.{least_where}
use Rattle.dk_si.specs.IsStep.{are_steps, is_step, is_founded_refusal}
use Rattle.dk_si.specs.StatesSince.{was_so, was_since_call, is_call_of}
use Rattle.dk_si.specs.Spent.{is_spent, committed_rows}
use Rattle.dk_si.specs.ReplyTests.{has_no_iteration}
use Rattle.dk_si.specs.LawfulCalls.{is_lawful_call}
use Rattle.dk_si.specs.Weight.{cap}
use Rattle.dk_si.specs.declared.kind.Kind.{Kind}
use Rattle.dk_si.specs.Laws.{state_after}
use Rattle.dk_si.specs.OneThread.{OPEN_ROWS}
use Rattle.dk_core.specs.declared.seat.Snapshot.{Snapshot}
use Rattle.dk_core.specs.declared.seat.Seat.{Seat}
use Rattle.dk_core.specs.Core.{Core, no_seat, unstamped}
use Rattle.dk_core.specs.Findings.{writer_in, newest, is_unseen, conflict, has_live, is_full, spent_numbers}
use Rattle.dk_si.proofs.ForwardLemmas.{state_and_one, steps_and_one, was_so_is, since_and_one}
use Rattle.dk_si.proofs.TransitionLemmas.{session_of}
use Rattle.dk_core.proofs.Invariant.{core_with, stands_well, moved, allows_so, Has, Alone, Claims, Links, Sits, Fits}
use Rattle.dk_core.proofs.StepLemmas.{found, call_step, begin_step, not_so, writes_is}
use Rattle.dk_core.proofs.HolderLemmas.{held_now, least_passes, writes_parts}
use Rattle.dk_core.proofs.MoveLemmas.{Moved, stays}
use Rattle.dk_core.proofs.ChangeLemmas.{of_change, unmoved, seen_alone, least_fails, part_ids, version_own, alone_but}
use Rattle.dk_types.specs.declared.reply.Refusal.TheVariants as why
use Rattle.dk_si.specs.declared.history.Entry.TheVariants as history
use Rattle.dk_si.specs.declared.machine.Transaction.TheVariants as state
use Rattle.dk_core.specs.declared.event.Event.TheVariants as event

version_free : (core : Core) → Fits core → (number start : ℕ) (session : Session) (seat : Seat) (part : TableNet)
    → 0 < number
    → slice_get core.now.sessions (number - 1) ≡ Some session → slice_get core.seats (number - 1) ≡ Some seat
    → least_where (is_unseen core number start part.table) (changed_ids part) ≡ None
    → (k : ℕ) (other : Seat) (live : Snapshot) (table row : ℕ) → (k ≡ number - 1 → ⊥)
    → slice_get core.seats k ≡ Some other
    → other.live ≡ Some live → live.commit ≡ None → Has other table row
    → (n : ℕ) → writer_in table row (record seat { made = part ∷ seat.made }) ≡ Some n → ⊥
version_free core fits number start session seat part above at there none k other live table row apart where_is is
    uncommitted has n w =
    let new : Seat = record seat { made = part ∷ seat.made } in
    let p = writes_parts table row n new new.live refl w in
    ⊎_elim
    (λ h. let q = and_parts (part.table == table) (part_has part row) h in
    let t = eqb-true part.table table q.0 in
    (seen_alone core number start part.table row above
    (least_fails (is_unseen core number start part.table) (changed_ids part) row none (part_ids part row q.1))).alone
    k other live.number apart where_is
    (writes_is part.table row other live is uncommitted (subst (λ m. Has other m row) (sym t) has)))
    (λ h. ((fits.sit (number - 1) session seat at there).free p.live table row p.is p.commits h).alone k other live.number apart
    where_is
    (writes_is table row other live is uncommitted has))
    (or_cases (part.table == table && part_has part row) (net_has (unstamped seat) table row) p.has)

-- a test that holds now was so since the call in flight
was_now : (test : Machine → Bool) (opened : List Table) (session : ℕ) (machine : Machine) (so : Bool)
    (entries : List Entry)
    → 0 < length entries → test (state_after opened machine entries) ≡ true
    → was_so test opened session machine so entries ≡ true
was_now test opened session machine so [] some passes = absurd (omega (arith, some))
was_now test opened session machine so (entry ∷ []) some passes =
    or_right (so && not (is_call_of session entry)) _ passes
was_now test opened session machine so (entry ∷ second ∷ entries) some passes =
    was_now test opened session (next opened machine entry)
    ((so && not (is_call_of session entry)) || test (next opened machine entry)) (second ∷ entries)
    (omega arith) passes

-- a finding that is so now, while a call is in flight
pub founded_now : (core : Core) → Fits core → (number : ℕ) (test : Machine → Bool) → 0 < length core.entries
    → test core.now ≡ true
    → was_since_call test core.opened number core.entries ≡ true
founded_now core fits number test some passes =
    was_so_is test core.opened number first_state [] core.entries
    ∙ was_now test core.opened number first_state false core.entries some
    (subst (λ now. test now ≡ true) fits.is_now passes)

no_entries : (opened : List Table) (now : Machine) (entries : List Entry) (place : ℕ) (session : Session)
    (asked : Asked)
    → now ≡ state_after opened first_state entries → slice_get now.sessions place ≡ Some session
    → session.asked ≡ Some asked → 0 < length entries
no_entries opened now [] place session asked is_now at is =
    let same : idle ≡ session = same_copies SESSIONS place idle session
    (subst (λ m. slice_get m.sessions place ≡ Some session) is_now at) in
    let e : None ≡ Some asked = ap (λ s. s.asked) same ∙ is in
    cc
no_entries opened now (entry ∷ entries) place session asked is_now at is = omega arith

-- with a call in flight there are entries
pub in_flight : (core : Core) → Fits core → (place : ℕ) (session : Session) (asked : Asked)
    → slice_get core.now.sessions place ≡ Some session
    → session.asked ≡ Some asked → 0 < length core.entries
in_flight core fits place session asked at is = no_entries core.opened core.now core.entries place session asked
    fits.is_now at is

-- where the session is found with its transaction open, what holds the row holds it in the state
holds_at : (core : Core) (number table row : ℕ) (by : Holder) (active : OpenTransaction) (asked : Option Asked)
    (touched : Option WriteSet) (past : Option LastTransaction)
    → session_at core.now.sessions number ≡ Some (session_of (state.Open active) asked touched past)
    → holds_against core.opened core.now number active.start table row by ≡ true
    → holds core.opened number table row by core.now ≡ true
holds_at core number table row by active asked touched past at held =
    ap (λ found. elim found as (λ x. Bool) [
      | None ↦ false
      | Some session ↦ elim session.transaction as (λ x. Bool) [
        | state.Outside ↦ false
        | state.Aborted ↦ false
        | state.Open active ↦ holds_against core.opened core.now number active.start table row by
      ]
    ]) at ∙ held

some_refusal : (a b : Refusal) → Some a ≡ Some b → a ≡ b
some_refusal a b e = cc

-- a conflict is found, and so it was
conflict_own : (core : Core) → Fits core → (number row : ℕ) (active : OpenTransaction) (asked : Asked)
    (touched : Option WriteSet) (past : Option LastTransaction) (seat : Seat) (part : TableNet) → 0 < number
    → session_at core.now.sessions number ≡ Some (session_of (state.Open active) (Some asked) touched past)
    → slice_get core.now.sessions (number - 1) ≡ Some (session_of (state.Open active) (Some asked) touched past)
    → slice_get core.seats (number - 1) ≡ Some seat
    → least_where (is_unseen core number active.start part.table) (changed_ids part) ≡ Some row
    → Sits core.opened core.entries core.now
    (slice_set core.seats (number - 1)
    (record seat { found = Some (why.Conflict part.table row (newest core number part.table row)) })) (number - 1)
    (session_of (state.Open active) (Some asked) touched past)
    (record seat { found = Some (why.Conflict part.table row (newest core number part.table row)) })
conflict_own core fits number row active asked touched past seat part above is at there least =
    let place = number - 1 in
    let session = session_of (state.Open active) (Some asked) touched past in
    let by = newest core number part.table row in
    let refusal = why.Conflict part.table row by in
    let new : Seat = record seat { found = Some refusal } in
    let sits = fits.sit place session seat at there in
    let same : number ≡ place + 1 = omega (arith, above) in
    record {
      links = sits.links;
      lawful = sits.lawful;
      kept = sits.kept;
      claimed = sits.claimed;
      free = λ live table row same uncommitted has. alone_but core.now.commits core.seats place live.start table row
          new (sits.free live table row same uncommitted has);
      quiet = sits.quiet;
      found = λ other e. subst (λ r. is_founded_refusal core.opened (place + 1) core.entries r ≡ true)
          (some_refusal refusal other e)
          (subst (λ n. is_founded_refusal core.opened n core.entries refusal ≡ true) same
          (founded_now core fits number (holds core.opened number part.table row by)
          (in_flight core fits place session asked at refl)
          (holds_at core number part.table row by active (Some asked) touched past is
          (held_now core fits number active.start part.table row above
          (least_passes (is_unseen core number active.start part.table) (changed_ids part) row least)))));
    }

pub conflict_free : (core : Core) → Fits core → (place : ℕ) (session : Session) (seat new : Seat)
    → slice_get core.now.sessions place ≡ Some session → slice_get core.seats place ≡ Some seat
    → ((table row n : ℕ) → writer_in table row new ≡ Some n → writer_in table row seat ≡ Some n)
    → (k : ℕ) (other : Seat) (live : Snapshot) (table row : ℕ) → (k ≡ place → ⊥) → slice_get core.seats k ≡ Some other
    → other.live ≡ Some live → live.commit ≡ None → Has other table row
    → (n : ℕ) → writer_in table row new ≡ Some n → ⊥
conflict_free core fits place session seat new at there less k other live table row apart where_is is uncommitted has
    n w =
    let p = writes_parts table row n seat seat.live refl (less table row n w) in
    ((fits.sit place session seat at there).free p.live table row p.is p.commits p.has).alone k other live.number apart where_is
    (writes_is table row other live is uncommitted has)

change_by : (core : Core) → Fits core
    → (number : ℕ) (active : OpenTransaction) (asked : Asked) (touched : Option WriteSet)
    (past : Option LastTransaction) (seat : Seat) (part : TableNet) → 0 < number
    → session_at core.now.sessions number ≡ Some (session_of (state.Open active) (Some asked) touched past)
    → slice_get core.now.sessions (number - 1) ≡ Some (session_of (state.Open active) (Some asked) touched past)
    → slice_get core.seats (number - 1) ≡ Some seat
    → is_fresh_part (committed_count core.opened core.now.commits active part.table) seat.made
    (meaning_in core.opened core.now.commits active asked) part ≡ true
    → (found : Option ℕ) → least_where (is_unseen core number active.start part.table) (changed_ids part) ≡ found
    → Fits (core_with core core.entries core.now (slice_set core.seats (number - 1)
    (elim (elim found as
    (λ x. Option Refusal)
    [ None ↦ None | Some row ↦ Some (why.Conflict part.table row (newest core number part.table row)) ]) as
    (λ x. Seat) [
      | None ↦ record seat { made = part ∷ seat.made }
      | Some refusal ↦ record seat { found = Some refusal }
    ])))
change_by core fits number active asked touched past seat part above is at there fine None least =
    let session = session_of (state.Open active) (Some asked) touched past in
    let new : Seat = record seat { made = part ∷ seat.made } in
    stays core core.entries core.now (slice_set core.seats (number - 1) new) (number - 1) session new fits
    (unmoved core fits (number - 1) session seat new at there
    (version_free core fits number active.start session seat part above at there least)
    (version_own core fits number active asked touched past seat part above at there fine least))
    fits.is_now fits.steps fits.whole fits.numbers (set_length core.seats (number - 1) new ∙ fits.even)
    (set_length core.seats (number - 1) new ∙ fits.count)
change_by core fits number active asked touched past seat part above is at there fine (Some row) least =
    let session = session_of (state.Open active) (Some asked) touched past in
    let new : Seat = record seat { found = Some (why.Conflict part.table row (newest core number part.table row)) } in
    stays core core.entries core.now (slice_set core.seats (number - 1) new) (number - 1) session new fits
    (unmoved core fits (number - 1) session seat new at there
    (conflict_free core fits (number - 1) session seat new at there (λ table row n w. w))
    (conflict_own core fits number row active asked touched past seat part above is at there least))
    fits.is_now fits.steps fits.whole fits.numbers (set_length core.seats (number - 1) new ∙ fits.even)
    (set_length core.seats (number - 1) new ∙ fits.count)

-- a Change keeps the invariant
pub change_keeps : (core : Core) → Fits core → (number : ℕ) (at : VectorId) (part : TableNet)
    → may.at_session core number (may.may_change core at part) ≡ true
    → Fits (moved core (event.Change number at part))
change_keeps core fits number at part allowed =
    let f = found core number (may.may_change core at part) allowed in
    let seat = f.seat in
    let Kept : Seat → Type 0 = λ new. Fits (core_with core core.entries core.now
    (slice_set core.seats (number - 1) new)) in
    subst (λ found. Fits (core_with core core.entries core.now (elim found as (λ x. List Seat) [
      | None ↦ core.seats
      | Some seat ↦ slice_set core.seats (number - 1) (does.seat_after_change core number part seat)
    ]))) (sym f.seat_is)
    (of_change core number at part f
    (λ transaction asked.
    session_at core.now.sessions number ≡ Some (session_of transaction asked f.session.writes f.session.last)
    → Kept (does.seat_after_change core number part seat))
    (λ active asked here kind fresh goes is.
    let session = session_of (state.Open active) (Some asked) f.session.writes f.session.last in
    let linked = (fits.sit (number - 1) session seat here f.seat_there).links.1 goes in
    subst Kept
    (sym (ap (λ found. elim found as (λ x. Seat) [
      | None ↦ seat
      | Some live ↦ elim (conflict core number live.start part) as (λ x. Seat) [
        | None ↦ record seat { made = part ∷ seat.made }
        | Some refusal ↦ record seat { found = Some refusal }
      ]
    ]) linked))
    (change_by core fits number active asked f.session.writes f.session.last seat part f.above is here f.seat_there
    fresh (least_where (is_unseen core number active.start part.table) (changed_ids part)) refl))
    f.session_is)

-- an entry of one session makes no difference to what was so since another's call
was_so_still : (test : Machine → Bool) (core : Core) (number : ℕ) (entry : Entry) → is_call_of number entry ≡ false
    → was_since_call test core.opened number core.entries ≡ true
    → was_since_call test core.opened number (core.entries ++ entry ∷ []) ≡ true
was_so_still test core number entry other so =
    since_and_one test core.opened number core.entries entry
    ∙ or_left _ (test (next core.opened (state_after core.opened first_state core.entries) entry))
    (and_from _ _ so (ap not other))

pub still_founded : (core : Core) (number : ℕ) (entry : Entry) (refusal : Refusal) → is_call_of number entry ≡ false
    → is_founded_refusal core.opened number core.entries refusal ≡ true
    → is_founded_refusal core.opened number (core.entries ++ entry ∷ []) refusal ≡ true
still_founded core number entry (why.Conflict table row by) other so =
    was_so_still (holds core.opened number table row by) core number entry other so
still_founded core number entry (why.Exhausted numbers) other so = ⊎_elim
    (λ h. or_left (has_no_iteration (why.Exhausted numbers)) _ h)
    (λ h. or_right (has_no_iteration (why.Exhausted numbers)) _
    (was_so_still (is_spent core.opened numbers) core number entry other h))
    (or_cases (has_no_iteration (why.Exhausted numbers)) _ so)
still_founded core number entry refusal other so = refl

-- a step more keeps the list of steps and its state
pub now_more : (core : Core) → Fits core → (entry : Entry)
    → next core.opened core.now entry ≡ state_after core.opened first_state (core.entries ++ entry ∷ [])
now_more core fits entry = ap (λ now. next core.opened now entry) fits.is_now
    ∙ sym (state_and_one core.opened core.entries entry)

pub steps_more : (core : Core) → Fits core → (entry : Entry) → is_step core.opened core.entries core.now entry ≡ true
    → are_steps core.opened [] first_state (core.entries ++ entry ∷ []) ≡ true
steps_more core fits entry step =
    steps_and_one core.opened core.entries entry
    ∙ and_from _ _ fits.steps (subst (λ now. is_step core.opened core.entries now entry ≡ true) fits.is_now step)

-- an entry that moves one session and commits nothing
pub entry_moved : (core : Core) → Fits core → (number : ℕ) (entry : Entry) (begun : ℕ) (session session' : Session)
    (seat new : Seat) → 0 < number
    → slice_get core.now.sessions (number - 1) ≡ Some session → slice_get core.seats (number - 1) ≡ Some seat
    → ((k : ℕ) → (k ≡ number - 1 → ⊥) → is_call_of (k + 1) entry ≡ false)
    → ((k : ℕ) (other : Seat) (live : Snapshot) (table row : ℕ) → (k ≡ number - 1 → ⊥)
    → slice_get core.seats k ≡ Some other
    → other.live ≡ Some live → live.commit ≡ None → Has other table row → (n : ℕ) → writer_in table row new ≡ Some n
    → ⊥)
    → (now : Machine) → now.commits ≡ core.now.commits
    → now.sessions ≡ slice_set core.now.sessions (number - 1) session'
    → Sits core.opened (core.entries ++ entry ∷ []) now (slice_set core.seats (number - 1) new)
    (number - 1) session' new
    → Moved core (core.entries ++ entry ∷ []) now (slice_set core.seats (number - 1) new) (number - 1) session' new
entry_moved core fits number entry begun session session' seat new above at there apart_call free now commits sessions
    own = record {
      more = [];
      grown = commits ∙ sym (append-nil core.now.commits);
      sessions_at = λ k s is. set_place core.now.sessions (number - 1) session' k s
          (subst (λ list. slice_get list k ≡ Some s) sessions is);
      seats_at = λ k t is. set_place core.seats (number - 1) new k t is;
      own = own;
      others = λ k other live table row apart where_is is none has.
          (free k other live table row apart where_is is none has, λ i commit at_none has_it. cc);
      since = λ k refusal apart so. still_founded core (k + 1) entry refusal (apart_call k apart) so;
    }

call_apart : (number : ℕ) (asked : Asked) → 0 < number → (k : ℕ) → (k ≡ number - 1 → ⊥) → (number == k + 1) ≡ false
call_apart number asked above k apart =
    not_so (number == k + 1) (λ same. apart (let e = eqb-true number (k + 1) same in omega (arith, e, above)))

-- a session keeps what it kept before its call
called_keeps : (table row : ℕ) (transaction : Transaction) (before : Option Asked) (asked : Asked)
    (touched : Option WriteSet) (past : Option LastTransaction)
    → is_none before ≡ true → has_pending_write table row (session_of transaction (Some asked) touched None) ≡ true
    → has_pending_write table row (session_of transaction before touched past) ≡ true
called_keeps table row transaction (Some other) asked touched past none has = absurd (false≢true none)
called_keeps table row state.Outside None asked touched past none has = has
called_keeps table row state.Aborted None asked touched past none has = has
called_keeps table row (state.Open active) None asked touched past none has =
    and_from _ _ (and_parts (net_has active.net table row) _ has).0 refl

call_links : (commits : ℕ) (seat : Seat) (transaction : Transaction) (asked : Asked) (touched : Option WriteSet)
    (past : Option LastTransaction)
    → Links commits seat (session_of transaction None touched past) transaction
    → Links commits (record seat { found = None }) (session_of transaction (Some asked) touched None) transaction
call_links commits seat state.Outside asked touched past links = tt
call_links commits seat state.Aborted asked touched past links = tt
call_links commits seat (state.Open active) asked touched past links = (links.0, λ goes. links.1 refl)

gone : (found : Option Snapshot) (live : Snapshot) → found ≡ Some live → (false || is_none found) ≡ true → ⊥
gone None live is e = cc
gone (Some other) live is e = false≢true e

pub untouched_row : (table row : ℕ) → writes_row None table row ≡ true → ⊥
untouched_row table row has = false≢true has

not_open : (a b : Bool) → (a || b) ≡ true → a ≡ false → b ≡ true
not_open true b either off = absurd (true≢false off)
not_open false b either off = either

-- before the call its session's transaction is open, or has no snapshot
call_claims : (core : Core) (now : Machine) (seat : Seat) (live : Snapshot) (table row : ℕ)
    (transaction : Transaction) (asked : Asked) (touched : Option WriteSet) (past : Option LastTransaction)
    → now.commits ≡ core.now.commits
    → (may.is_open (session_of transaction None touched past) || is_none seat.live) ≡ true → seat.live ≡ Some live
    → Claims core.opened core.now (session_of transaction None touched past) seat live table row
    → Claims core.opened now (session_of transaction (Some asked) touched None) (record seat { found = None }) live
    table row
call_claims core now seat live table row state.Outside asked touched past commits may_be is claims =
    absurd (gone seat.live live is may_be)
call_claims core now seat live table row state.Aborted asked touched past commits may_be is claims =
    absurd (gone seat.live live is may_be)
call_claims core now seat live table row (state.Open active) asked touched past commits may_be is claims = (
  claims.0,
  claims.1,
  claims.2,
  claims.3,
  (λ made. absurd (untouched_row table row (claims.4 made))),
  subst (λ list. row < committed_count core.opened list active table) (sym commits) claims.5,
)

call_own : (core : Core) → Fits core → (now : Machine) (number : ℕ) (asked : Asked) (transaction : Transaction)
    (before : Option Asked) (touched : Option WriteSet) (past : Option LastTransaction) (seat : Seat) → 0 < number
    → slice_get core.now.sessions (number - 1) ≡ Some (session_of transaction before touched past)
    → slice_get core.seats (number - 1) ≡ Some seat
    → now.commits ≡ core.now.commits
    → may.may_call asked (session_of transaction before touched past) seat ≡ true
    → Sits core.opened (core.entries ++ history.Call number asked ∷ []) now
    (slice_set core.seats (number - 1) (record seat { found = None })) (number - 1)
    (session_of transaction (Some asked) touched None) (record seat { found = None })
call_own core fits now number asked transaction (Some other) touched past seat above at there commits passes =
    absurd (false≢true (and_parts false (is_lawful_call asked)
    (and_parts (is_none (Some other) && is_lawful_call asked)
    (may.is_open (session_of transaction (Some other) touched past) || is_none seat.live) passes).0).0)
call_own core fits now number asked transaction None touched past seat above at there commits passes =
    let place = number - 1 in
    let sits = fits.sit place (session_of transaction None touched past) seat at there in
    let stands =
    (and_parts _ (may.is_open (session_of transaction None touched past) || is_none seat.live) passes).1 in
    let new : Seat = record seat { found = None } in
    record {
      links = subst (λ list. Links (length list) new (session_of transaction (Some asked) touched None) transaction)
          (sym commits)
          (call_links (length core.now.commits) seat transaction asked touched past sits.links);
      lawful = sits.lawful;
      kept = λ table row has. sits.kept table row
          (called_keeps table row transaction None asked touched past refl has);
      claimed = λ live table row is has. call_claims core now seat live table row transaction asked touched past
          commits stands is (sits.claimed live table row is has);
      free = λ live table row is none has. subst
          (λ list. Alone list (slice_set core.seats place new) place live.start table row) (sym commits)
          (alone_but core.now.commits core.seats place live.start table row new
          (sits.free live table row is none has));
      quiet = λ closed asks. is_none_of seat.live
          (not_open (may.is_open (session_of transaction None touched past)) (is_none seat.live) stands closed);
      found = λ refusal is. cc;
    }

pub next_call : (core : Core) (number : ℕ) (asked : Asked) (session : Session)
    → session_at core.now.sessions number ≡ Some session
    → after_call core.now number asked session ≡ next core.opened core.now (history.Call number asked)
next_call core number asked session is =
    sym (ap (λ found. elim found as
    (λ x. Machine) [ None ↦ core.now | Some before ↦ after_call core.now number asked before ]) is)

call_found : (core : Core) → Fits core → (number : ℕ) (asked : Asked) (session : Session) (seat : Seat) → 0 < number
    → session_at core.now.sessions number ≡ Some session
    → slice_get core.now.sessions (number - 1) ≡ Some session → slice_get core.seats (number - 1) ≡ Some seat
    → may.may_call asked session seat ≡ true
    → is_step core.opened core.entries core.now (history.Call number asked) ≡ true
    → stands_well core (core.entries ++ history.Call number asked ∷ []) ≡ true
    → Fits (core_with core (core.entries ++ history.Call number asked ∷ []) (after_call core.now number asked session)
    (slice_set core.seats (number - 1) (record seat { found = None })))
call_found core fits number asked session seat above is at there passes step well =
    let entry = history.Call number asked in
    let now = after_call core.now number asked session in
    let session' = session_of session.transaction (Some asked) session.writes None in
    let new : Seat = record seat { found = None } in
    stays core (core.entries ++ entry ∷ []) now (slice_set core.seats (number - 1) new) (number - 1) session' new fits
    (entry_moved core fits number entry 0 session session' seat new above at there (call_apart number asked above)
    (conflict_free core fits (number - 1) session seat new at there (λ table row n w. w)) now refl refl
    (call_own core fits now number asked session.transaction session.asked session.writes session.last seat above at
    there refl passes))
    (next_call core number asked session is ∙ now_more core fits entry) (steps_more core fits entry step) well
    fits.numbers
    (set_length core.seats (number - 1) new ∙ (fits.even ∙ sym (set_length core.now.sessions (number - 1) session')))
    (set_length core.seats (number - 1) new ∙ fits.count)

-- a Call keeps what fits
pub call_keeps : (core : Core) → Fits core → (number : ℕ) (asked : Asked)
    → allows_so core (event.Call number asked) ≡ true
    → Fits (moved core (event.Call number asked))
call_keeps core fits number asked allowed =
    let h = and_parts (may.at_session core number (may.may_call asked)) _ allowed in
    let f = found core number (may.may_call asked) h.0 in
    let entry = history.Call number asked in
    subst (λ now. Fits
    (core_with core (core.entries ++ entry ∷ []) now (does.seats_after core (event.Call number asked))))
    (next_call core number asked f.session f.session_is)
    (subst (λ found. Fits
    (core_with core (core.entries ++ entry ∷ []) (after_call core.now number asked f.session)
    (elim found as (λ x. List Seat) [
      | None ↦ core.seats
      | Some seat ↦ slice_set core.seats (number - 1) (record seat { found = None })
    ]))) (sym f.seat_is)
    (call_found core fits number asked f.session f.seat f.above f.session_is f.session_there f.seat_there f.passes
    (call_step core number asked h.0) h.1))

-- a transaction begins
fresh_own : (core : Core) (number : ℕ) (entries : List Entry) (session : Session)
    → Sits core.opened entries (after_begin core.now number core.now.begun (length core.now.commits) session)
    (slice_set core.seats (number - 1) (record no_seat { live = Some (in_core.next_snapshot core.now) })) (number - 1)
    (record session {
      transaction =
          state.Open (record { number = core.now.begun; start = length core.now.commits; net = []; fresh = true });
    })
    (record no_seat { live = Some (in_core.next_snapshot core.now) })
fresh_own core number entries session = record {
  links = (omega arith, λ goes. refl);
  lawful = (refl, refl);
  kept = λ table row has. absurd (false≢true has);
  claimed = λ live table row is has. absurd (false≢true has);
  free = λ live table row is none has. absurd (false≢true has);
  quiet = λ closed asks. absurd (true≢false closed);
  found = λ refusal is. cc;
}

next_within : (n : ℕ) (b : Bool) → nat_lt n MAX_TRANSACTIONS ≡ b → n ≤ MAX_TRANSACTIONS
    → (if b then n + 1 else n) ≤ MAX_TRANSACTIONS
next_within n true below within = let less = ltb-true n MAX_TRANSACTIONS below in omega (arith, less)
next_within n false below within = within

pub next_begun : (core : Core) (number transaction start : ℕ) (session : Session)
    → session_at core.now.sessions number ≡ Some session
    → after_begin core.now number transaction start session ≡ next core.opened core.now
    (history.Begun number transaction start)
next_begun core number transaction start session is =
    sym (ap (λ found. elim found as
    (λ x. Machine) [ None ↦ core.now | Some before ↦ after_begin core.now number transaction start before ]) is)

nothing_written : (n k : ℕ) → (if false then Some n else None) ≡ Some k → ⊥
nothing_written n k e = cc

begin_found : (core : Core) → Fits core → (number : ℕ) (session : Session) (seat : Seat) → 0 < number
    → session_at core.now.sessions number ≡ Some session
    → slice_get core.now.sessions (number - 1) ≡ Some session → slice_get core.seats (number - 1) ≡ Some seat
    → is_step core.opened core.entries core.now (history.Begun number core.now.begun (length core.now.commits)) ≡ true
    → stands_well core (core.entries ++ history.Begun number core.now.begun (length core.now.commits) ∷ []) ≡ true
    → Fits (core_with core (core.entries ++ history.Begun number core.now.begun (length core.now.commits) ∷ [])
    (after_begin core.now number core.now.begun (length core.now.commits) session)
    (slice_set core.seats (number - 1) (record no_seat { live = Some (in_core.next_snapshot core.now) })))
begin_found core fits number session seat above is at there step well =
    let start = length core.now.commits in
    let entry = history.Begun number core.now.begun start in
    let now = after_begin core.now number core.now.begun start session in
    let session' : Session =
    record session
    { transaction = state.Open (record { number = core.now.begun; start = start; net = []; fresh = true }) } in
    let new : Seat = record no_seat { live = Some (in_core.next_snapshot core.now) } in
    stays core (core.entries ++ entry ∷ []) now (slice_set core.seats (number - 1) new) (number - 1) session' new fits
    (entry_moved core fits number entry 0 session session' seat new above at there (λ k apart. refl)
    (λ k other live table row apart where_is here none has n w. nothing_written core.now.begun n w) now refl refl
    (fresh_own core number (core.entries ++ entry ∷ []) session))
    (next_begun core number core.now.begun start session is ∙ now_more core fits entry)
    (steps_more core fits entry step) well
    (next_within core.now.begun (nat_lt core.now.begun MAX_TRANSACTIONS) refl fits.numbers)
    (set_length core.seats (number - 1) new ∙ (fits.even ∙ sym (set_length core.now.sessions (number - 1) session')))
    (set_length core.seats (number - 1) new ∙ fits.count)

no_more_at : {T : Type 0} → (test : T → Bool) (x : T) (xs : List T) (b : Bool) → length (filter test xs) ≤ length xs
    → length (if b then x ∷ filter test xs else filter test xs) ≤ suc (length xs)
no_more_at test x xs true le = omega (arith, le)
no_more_at test x xs false le = omega (arith, le)

no_more : {T : Type 0} → (test : T → Bool) (xs : List T) → length (filter test xs) ≤ length xs
no_more test [] = omega arith
no_more test (x ∷ xs) = no_more_at test x xs (test x) (no_more test xs)

fewer_first : {T : Type 0} → (test : T → Bool) (y : T) (xs : List T) (b : Bool) → b ≡ false
    → length (filter test xs) ≤ length xs
    → length (if b then y ∷ filter test xs else filter test xs) < suc (length xs)
fewer_first test y xs true fails le = absurd (true≢false fails)
fewer_first test y xs false fails le = omega (arith, le)

fewer_later : {T : Type 0} → (test : T → Bool) (y : T) (xs : List T) (b : Bool) → length (filter test xs) < length xs
    → length (if b then y ∷ filter test xs else filter test xs) < suc (length xs)
fewer_later test y xs true less = omega (arith, less)
fewer_later test y xs false less = omega (arith, less)

-- fewer pass a test than there are, where one fails it
fewer : {T : Type 0} → (test : T → Bool) (xs : List T) (k : ℕ) (x : T) → slice_get xs k ≡ Some x → test x ≡ false
    → length (filter test xs) < length xs
fewer test [] k x at fails = cc
fewer test (y ∷ xs) zero x at fails = let same : y ≡ x = cc in fewer_first test y xs (test y) (ap test same ∙ fails)
    (no_more test xs)
fewer test (y ∷ xs) (suc k) x at fails = fewer_later test y xs (test y) (fewer test xs k x at fails)

more_rows : (rows lives : ℕ) → lives < 32 → MAX_ROWS < rows + OPEN_ROWS * (lives + 1)
    → nat_lt MAX_ROWS (rows + SPARE_ROWS) ≡ true
more_rows rows lives few less = lt-ltb MAX_ROWS (rows + SPARE_ROWS) (omega (arith, few, less))

full_spent : (begun rows lives : ℕ) → lives < 32
    → (begun == MAX_TRANSACTIONS || nat_lt MAX_ROWS (rows + OPEN_ROWS * (lives + 1))) ≡ true
    → (begun == MAX_TRANSACTIONS || nat_lt MAX_ROWS (rows + SPARE_ROWS)) ≡ true
full_spent begun rows lives few full = ⊎_elim
    (λ h. or_left (begun == MAX_TRANSACTIONS) _ h)
    (λ h. or_right (begun == MAX_TRANSACTIONS) _
    (let less = ltb-true MAX_ROWS (rows + OPEN_ROWS * (lives + 1)) h in more_rows rows lives few less))
    (or_cases (begun == MAX_TRANSACTIONS) (nat_lt MAX_ROWS (rows + OPEN_ROWS * (lives + 1))) full)

-- where no transaction can begin, that is so
spent_now : (core : Core) → Fits core → (place : ℕ) (seat : Seat) → slice_get core.seats place ≡ Some seat
    → seat.live ≡ None → is_full core ≡ true
    → is_spent core.opened (spent_numbers core) core.now ≡ true
spent_now core fits place seat there none full =
    let few = fewer has_live core.seats place seat there (ap (λ live. is_some live) none) in
    let lives = length (filter has_live core.seats) in
    let rows = committed_rows core.opened core.now.commits in
    and_from _ _
    (full_spent core.now.begun rows lives (subst (λ n. lives < n) fits.count few) full)
    (and_from true _ refl
    (and_from _ _ (eq-eqb core.now.begun core.now.begun refl) (eq-eqb (cap rows) (cap rows) refl)))

full_links : (commits : ℕ) (seat : Seat) (refusal : Refusal) (session : Session) (transaction : Transaction)
    → Links commits seat session transaction
    → Links commits (record seat { found = Some refusal }) session transaction
full_links commits seat refusal session state.Outside links = tt
full_links commits seat refusal session state.Aborted links = tt
full_links commits seat refusal session (state.Open active) links = links

pub not_there : (live : Snapshot) → None ≡ Some live → ⊥
not_there live e = cc

full_claims : (opened : List Table) (machine : Machine) (session : Session) (seat : Seat) (refusal : Refusal)
    (live : Snapshot) (table row : ℕ)
    → (none : seat.live ≡ None) → seat.live ≡ Some live
    → Claims opened machine session (record seat { found = Some refusal }) live table row
full_claims opened machine session seat refusal live table row none is = absurd (not_there live (sym none ∙ is))

begin_full : (core : Core) → Fits core → (number : ℕ) (session : Session) (seat : Seat) (asked : Asked) → 0 < number
    → slice_get core.now.sessions (number - 1) ≡ Some session → slice_get core.seats (number - 1) ≡ Some seat
    → session.asked ≡ Some asked → seat.live ≡ None → is_full core ≡ true
    → Fits (core_with core core.entries core.now
    (slice_set core.seats (number - 1) (record seat { found = Some (why.Exhausted (spent_numbers core)) })))
begin_full core fits number session seat asked above at there is none full =
    let place = number - 1 in
    let refusal = why.Exhausted (spent_numbers core) in
    let new : Seat = record seat { found = Some refusal } in
    let sits = fits.sit place session seat at there in
    let same : number ≡ place + 1 = omega (arith, above) in
    stays core core.entries core.now (slice_set core.seats place new) place session new fits
    (unmoved core fits place session seat new at there
    (conflict_free core fits place session seat new at there (λ table row n w. w))
    (record {
      links = full_links (length core.now.commits) seat refusal session session.transaction sits.links;
      lawful = sits.lawful;
      kept = sits.kept;
      claimed = λ live table row here has. full_claims core.opened core.now session seat refusal live table row none
          here;
      free = λ live table row here un has. absurd (not_there live (sym none ∙ here));
      quiet = sits.quiet;
      found = λ other e. subst (λ r. is_founded_refusal core.opened (place + 1) core.entries r ≡ true)
          (some_refusal refusal other e)
          (or_right (has_no_iteration refusal) _
          (founded_now core fits (place + 1) (is_spent core.opened (spent_numbers core))
          (in_flight core fits place session asked at is)
          (spent_now core fits place seat there none full)));
    }))
    fits.is_now fits.steps fits.whole fits.numbers (set_length core.seats place new ∙ fits.even)
    (set_length core.seats place new ∙ fits.count)

pub asked_of : (test : Kind → Bool) (asked : Option Asked) → asks_for test asked ≡ true
    → (call : Asked) × (asked ≡ Some call)
asked_of test None asks = absurd (false≢true asks)
asked_of test (Some call) asks = (call, refl)

begin_by : (core : Core) → Fits core → (number : ℕ) (full : Bool) (session : Session) (seat : Seat) → 0 < number
    → is_full core ≡ full
    → session_at core.now.sessions number ≡ Some session
    → slice_get core.now.sessions (number - 1) ≡ Some session → slice_get core.seats (number - 1) ≡ Some seat
    → may.may_begin session seat ≡ true
    → may.at_session core number may.may_begin ≡ true
    → stands_well core
    (in_entries.with_entry core.entries
    (if full then None else Some (history.Begun number core.now.begun (length core.now.commits)))) ≡ true
    → Fits (core_with core
    (in_entries.with_entry core.entries
    (if full then None else Some (history.Begun number core.now.begun (length core.now.commits))))
    (in_entries.state_with core
    (if full then None else Some (history.Begun number core.now.begun (length core.now.commits))))
    (slice_set core.seats (number - 1)
    (if full then record seat { found = Some (why.Exhausted (spent_numbers core)) } else record no_seat
    { live = Some (in_core.next_snapshot core.now) })))
begin_by core fits number true session seat above full is at there passes allowed well =
    let h = and_parts (asks_for begins_one session.asked && is_outside session.transaction) _ passes in
    let a = asked_of begins_one session.asked (and_parts (asks_for begins_one session.asked) _ h.0).0 in
    begin_full core fits number session seat a.0 above at there a.1
    (is_none_of seat.live (and_parts (is_none seat.live) _ h.1).0) full
begin_by core fits number false session seat above full is at there passes allowed well =
    subst (λ now. Fits
    (core_with core (core.entries ++ history.Begun number core.now.begun (length core.now.commits) ∷ []) now
    (slice_set core.seats (number - 1) (record no_seat { live = Some (in_core.next_snapshot core.now) }))))
    (next_begun core number core.now.begun (length core.now.commits) session is)
    (begin_found core fits number session seat above is at there (begin_step core number fits allowed full) well)

-- a Begin keeps what fits
pub begin_keeps : (core : Core) → Fits core → (number : ℕ) → allows_so core (event.Begin number) ≡ true
    → Fits (moved core (event.Begin number))
begin_keeps core fits number allowed =
    let h = and_parts (may.at_session core number may.may_begin) _ allowed in
    let f = found core number may.may_begin h.0 in
    subst (λ found. Fits
    (core_with core (in_entries.entries_after core (event.Begin number))
    (in_entries.state_with core (in_entries.entry_of core (event.Begin number)))
    (elim found as
    (λ x. List Seat)
    [ None ↦ core.seats | Some seat ↦ slice_set core.seats (number - 1) (does.seat_after_begin core seat) ])))
    (sym f.seat_is)
    (begin_by core fits number (is_full core) f.session f.seat f.above refl f.session_is f.session_there f.seat_there
    f.passes h.0 h.1)
