-- Events that change a seat alone keep what fits.
use Rattle.dk_si.proofs.PlaceLemmas.{set_length}
use Rattle.dk_core.specs.Allows as may
use Rattle.dk_core.specs.Step as does
use Rattle.std.proofs.Common.{arith, ◌≡◌, ⊎_elim, ℕ, zero, suc, ◌-◌, Bool, true, false, List, [], ◌∷◌, take, length, Some, None, ap, ◌∙◌, sym, refl, subst, slice_get, slice_set}
use Rattle.std.specs.Prelude.{◌&&◌, not, is_some, ◌==◌}
use Rattle.std.specs.List.{list_any}
use Rattle.std.proofs.lemmas.Bool.{true≢false, false≢true, and_parts, or_cases, or_left, or_right}
use Rattle.dk_values.specs.declared.value.Value.{Value}
use Rattle.dk_types.specs.declared.net.TableNet.{TableNet}
use Rattle.dk_si.specs.declared.database.Table.{Table}
use Rattle.dk_si.specs.declared.machine.Transaction.{Transaction}
use Rattle.dk_si.specs.declared.machine.Session.{Session}
use Rattle.dk_si.specs.declared.machine.Machine.{Machine}
use Rattle.dk_si.specs.Nets.{net_has, part_has}
use Rattle.dk_si.specs.HeldRows.{has_pending_write}
use Rattle.dk_core.specs.declared.seat.Snapshot.{Snapshot}
use Rattle.dk_core.specs.declared.seat.Seat.{Seat}
use Rattle.dk_core.specs.Core.{Core, seat_at}
use Rattle.dk_core.proofs.Invariant.{with_change, core_with, moved, Has, Links, Fits, ClaimsBy}
use Rattle.dk_core.proofs.StepLemmas.{Found, found, writes_is, live_of, made_has, keeps_goes}
use Rattle.dk_core.proofs.MoveLemmas.{stays}
use Rattle.dk_core.proofs.ChangeLemmas.{unmoved, alone_but}
use Rattle.dk_core.proofs.HolderLemmas.{writes_parts, has_parts}
use Rattle.dk_core.proofs.CallLemmas.{not_there}
use Rattle.dk_si.specs.declared.machine.Transaction.TheVariants as state
use Rattle.dk_core.specs.declared.event.Event.TheVariants as event
use Rattle.std.proofs.lemmas.List.Folds.{list_any-append}
use Rattle.std.proofs.lemmas.Bool.{not-true}

pub versions_has : (seat : Seat) (table row : ℕ) → net_has seat.versions table row ≡ true → Has seat table row
versions_has seat table row has =
    let test : TableNet → Bool = λ part. part.table == table && part_has part row in
    list_any-append test seat.made seat.versions
    ∙ or_right (list_any test seat.made) (list_any test seat.versions) has

-- a seat that has less than another, with its snapshot
pub record Less (seat new : Seat) : Type 0 where
  pub live : new.live ≡ seat.live
  pub found : new.found ≡ seat.found
  pub made : (table row : ℕ) → net_has new.made table row ≡ true → net_has seat.made table row ≡ true
  pub versions : (table row : ℕ) → net_has new.versions table row ≡ true → net_has seat.versions table row ≡ true

less_has : (seat new : Seat) → Less seat new → (table row : ℕ) → Has new table row → Has seat table row
less_has seat new less table row has = ⊎_elim
    (λ h. made_has seat table row (less.made table row h))
    (λ h. versions_has seat table row (less.versions table row h))
    (has_parts new table row has)

less_links : (commits : ℕ) (seat new : Seat) (session : Session) (transaction : Transaction) → new.live ≡ seat.live
    → Links commits seat session transaction → Links commits new session transaction
less_links commits seat new session state.Outside same links = tt
less_links commits seat new session state.Aborted same links = tt
less_links commits seat new session (state.Open active) same links = (links.0, λ goes. same ∙ links.1 goes)

less_claims : (opened : List Table) (machine : Machine) (session : Session) (seat new : Seat) (live : Snapshot)
    (table row : ℕ) (transaction : Transaction) → Less seat new
    → ClaimsBy opened machine session seat live table row transaction
    → ClaimsBy opened machine session new live table row transaction
less_claims opened machine session seat new live table row state.Outside less claims = claims
less_claims opened machine session seat new live table row state.Aborted less claims = claims
less_claims opened machine session seat new live table row (state.Open active) less claims = (
  claims.0,
  claims.1,
  claims.2,
  (λ h. claims.3 (less.versions table row h)),
  (λ h. claims.4 (less.made table row h)),
  claims.5,
)

-- a seat that has less keeps what fits, where what the session keeps is still there
pub less_keeps : (core : Core) → Fits core → (place : ℕ) (session : Session) (seat new : Seat)
    → slice_get core.now.sessions place ≡ Some session → slice_get core.seats place ≡ Some seat
    → Less seat new → ((table row : ℕ) → has_pending_write table row session ≡ true → Has new table row)
    → Fits (core_with core core.entries core.now (slice_set core.seats place new))
less_keeps core fits place session seat new at there less kept =
    let sits = fits.sit place session seat at there in
    stays core core.entries core.now (slice_set core.seats place new) place session new fits
    (unmoved core fits place session seat new at there
    (λ k other live table row apart where_is is none has n w.
    let p = writes_parts table row n new new.live refl w in
    (sits.free p.live table row (sym less.live ∙ p.is) p.commits (less_has seat new less table row p.has)).alone k other
    live.number apart where_is (writes_is table row other live is none has))
    (record {
      links = less_links (length core.now.commits) seat new session session.transaction less.live sits.links;
      lawful = sits.lawful;
      kept = kept;
      claimed = λ live table row is has. less_claims core.opened core.now session seat new live table row
          session.transaction less
          (sits.claimed live table row (sym less.live ∙ is) (less_has seat new less table row has));
      free = λ live table row is none has. alone_but core.now.commits core.seats place live.start table row new
          (sits.free live table row (sym less.live ∙ is) none (less_has seat new less table row has));
      quiet = λ closed asks. less.live ∙ sits.quiet closed asks;
      found = λ refusal is. sits.found refusal (sym less.found ∙ is);
    }))
    fits.is_now fits.steps fits.whole fits.numbers (set_length core.seats place new ∙ fits.even)
    (set_length core.seats place new ∙ fits.count)

gone_links : (commits : ℕ) (new : Seat) (session : Session) (transaction : Transaction) (before : ℕ) (seat : Seat)
    → (may.is_active session ≡ true → ⊥)
    → Links before seat session transaction → before ≡ commits → Links commits new session transaction
gone_links commits new session state.Outside before seat stops links same = tt
gone_links commits new session state.Aborted before seat stops links same = tt
gone_links commits new session (state.Open active) before seat stops links same =
    (omega (arith, links.0, same), λ goes. absurd (stops goes))

-- a snapshot ends
pub gone_keeps : (core : Core) → Fits core → (place : ℕ) (session : Session) (seat new : Seat)
    → slice_get core.now.sessions place ≡ Some session → slice_get core.seats place ≡ Some seat
    → new.live ≡ None → new.found ≡ seat.found → (may.is_active session ≡ true → ⊥)
    → Fits (core_with core core.entries core.now (slice_set core.seats place new))
gone_keeps core fits place session seat new at there gone found stops =
    let sits = fits.sit place session seat at there in
    stays core core.entries core.now (slice_set core.seats place new) place session new fits
    (unmoved core fits place session seat new at there
    (λ k other live table row apart where_is is none has n w.
    let p = writes_parts table row n new new.live refl w in absurd (not_there p.live (sym gone ∙ p.is)))
    (record {
      links = gone_links (length core.now.commits) new session session.transaction (length core.now.commits) seat
          stops sits.links refl;
      lawful = sits.lawful;
      kept = λ table row has. absurd
          (stops (keeps_goes table row session.transaction session.asked session.writes session.last has));
      claimed = λ live table row is has. absurd (not_there live (sym gone ∙ is));
      free = λ live table row is none has. absurd (not_there live (sym gone ∙ is));
      quiet = λ closed asks. gone;
      found = λ refusal is. sits.found refusal (sym found ∙ is);
    }))
    fits.is_now fits.steps fits.whole fits.numbers (set_length core.seats place new ∙ fits.even)
    (set_length core.seats place new ∙ fits.count)

-- an open transaction that goes on has no commit
pub goes_uncommitted : (core : Core) → Fits core → (place : ℕ) (session : Session) (seat : Seat)
    → slice_get core.now.sessions place ≡ Some session → slice_get core.seats place ≡ Some seat
    → may.is_committed seat ≡ true → may.is_active session ≡ true → ⊥
goes_uncommitted core fits place session seat at there committed goes =
    let sits = fits.sit place session seat at there in
    let l = live_of (length core.now.commits) seat session.transaction session.asked session.writes session.last
    sits.links goes in
    let e : may.is_committed seat ≡ false =
    ap (λ found. elim found as (λ x. Bool) [ None ↦ false | Some live ↦ is_some live.commit ]) l.1
    ∙ ap (λ commit. is_some commit) l.2 in
    true≢false (sym committed ∙ e)

pub tail_has : (parts : List TableNet) (table row : ℕ) → net_has (does.without_newest parts) table row ≡ true
    → net_has parts table row ≡ true
tail_has [] table row has = has
tail_has (part ∷ parts) table row has = or_right (part.table == table && part_has part row) _ has

pub take_has : (n : ℕ) (parts : List TableNet) (table row : ℕ) → net_has (take n parts) table row ≡ true
    → net_has parts table row ≡ true
take_has zero [] table row has = has
take_has (suc n) [] table row has = has
take_has zero (part ∷ parts) table row has = absurd (false≢true has)
take_has (suc n) (part ∷ parts) table row has = ⊎_elim
    (λ h. or_left (part.table == table && part_has part row) _ h)
    (λ h. or_right (part.table == table && part_has part row) _ (take_has n parts table row h))
    (or_cases (part.table == table && part_has part row) (net_has (take n parts) table row) has)

-- a step that makes no entry and changes the seat of its session
pub seat_step : (core : Core) (number : ℕ) (seat : Seat) (change : Seat → Seat)
    → seat_at core.seats number ≡ Some seat
    → Fits (core_with core core.entries core.now (slice_set core.seats (number - 1) (change seat)))
    → Fits (core_with core core.entries core.now (with_change core number change))
seat_step core number seat change is fits =
    subst (λ found. Fits (core_with core core.entries core.now (elim found as (λ x. List Seat) [
      | None ↦ core.seats
      | Some seat ↦ slice_set core.seats (number - 1) (change seat)
    ]))) (sym is) fits

-- some versions are let go of a transaction that is active no longer
versions_step : (core : Core) → Fits core → (number : ℕ) → {test : Session → Seat → Bool} → (f : Found core number test)
    → (change : List TableNet → List TableNet)
    → ((table row : ℕ) → net_has (change f.seat.versions) table row ≡ true → net_has f.seat.versions table row ≡ true)
    → (may.is_active f.session ≡ true → ⊥)
    → Fits (core_with core core.entries core.now
    (with_change core number (λ seat. record seat { versions = change seat.versions })))
versions_step core fits number f change less stops =
    let s = f.session in
    seat_step core number f.seat (λ seat. record seat { versions = change seat.versions }) f.seat_is
    (less_keeps core fits (number - 1) s f.seat (record f.seat { versions = change f.seat.versions }) f.session_there
    f.seat_there (record { live = refl; found = refl; made = λ table row has. has; versions = less })
    (λ table row has. absurd (stops (keeps_goes table row s.transaction s.asked s.writes s.last has))))

-- and its snapshot
gone_step : (core : Core) → Fits core → (number : ℕ) → {test : Session → Seat → Bool} → (f : Found core number test)
    → (may.is_active f.session ≡ true → ⊥)
    → Fits (core_with core core.entries core.now (with_change core number (λ seat. record seat { live = None })))
gone_step core fits number f stops =
    seat_step core number f.seat (λ seat. record seat { live = None }) f.seat_is
    (gone_keeps core fits (number - 1) f.session f.seat (record f.seat { live = None }) f.session_there f.seat_there
    refl refl stops)

-- a transaction that is committed is active no longer
committed_stops : (core : Core) → Fits core → (number : ℕ) → {test : Session → Seat → Bool} → (f : Found core number test)
    → may.is_committed f.seat ≡ true → may.is_active f.session ≡ true → ⊥
committed_stops core fits number f committed =
    goes_uncommitted core fits (number - 1) f.session f.seat f.session_there f.seat_there committed

-- a transaction that goes back is active no longer
gone_back : (session : Session) (seat : Seat) (also : Bool) → (may.may_go_back session seat && also) ≡ true
    → may.is_active session ≡ true → ⊥
gone_back session seat also passes goes =
    let off = (and_parts (is_some seat.live && not (may.is_committed seat)) (not (may.is_active session))
    (and_parts (may.may_go_back session seat) also passes).0).1 in
    false≢true (sym (not-true (may.is_active session) off) ∙ goes)

pub stamp_keeps : (core : Core) → Fits core → (number : ℕ) → may.at_session core number may.may_stamp ≡ true
    → Fits (moved core (event.Stamp number))
stamp_keeps core fits number allowed =
    let f = found core number may.may_stamp allowed in
    versions_step core fits number f does.without_oldest
    (λ table row has. take_has (length f.seat.versions - 1) f.seat.versions table row has)
    (committed_stops core fits number f (and_parts (may.is_committed f.seat) _ f.passes).0)

pub finish_keeps : (core : Core) → Fits core → (number : ℕ) → may.at_session core number may.may_finish ≡ true
    → Fits (moved core (event.Finish number))
finish_keeps core fits number allowed =
    let f = found core number may.may_finish allowed in
    gone_step core fits number f (committed_stops core fits number f (and_parts (may.is_committed f.seat) _ f.passes).0)

pub leave_keeps : (core : Core) → Fits core → (number : ℕ) → may.at_session core number may.may_leave ≡ true
    → Fits (moved core (event.Leave number))
leave_keeps core fits number allowed =
    let f = found core number may.may_leave allowed in
    gone_step core fits number f (gone_back f.session f.seat _ f.passes)

pub undo_keeps : (core : Core) → Fits core → (number : ℕ) → may.at_session core number may.may_undo ≡ true
    → Fits (moved core (event.Undo number))
undo_keeps core fits number allowed =
    let f = found core number may.may_undo allowed in
    versions_step core fits number f does.without_newest (λ table row has. tail_has f.seat.versions table row has)
    (gone_back f.session f.seat _ f.passes)

none_appended : (own table row : ℕ) (rows : List (List Value))
    → ((does.appended_part own rows).table == table && part_has (does.appended_part own rows) row) ≡ true → ⊥
none_appended own table row rows has = false≢true (and_parts (own == table) false has).1

pub append_made : (seat : Seat) (own : ℕ) (rows : List (List Value)) (table row : ℕ)
    → net_has (does.appended_part own rows ∷ seat.made) table row ≡ true → net_has seat.made table row ≡ true
append_made seat own rows table row has = ⊎_elim
    (λ h. absurd (none_appended own table row rows h))
    (λ h. h)
    (or_cases ((does.appended_part own rows).table == table && part_has (does.appended_part own rows) row)
    (net_has seat.made table row) has)

-- own rows are put into a group
pub placing_keeps : (core : Core) → Fits core
    → (number table : ℕ) (rows : List (List Value)) (test : Session → Seat → Bool)
    → may.at_session core number test ≡ true
    → Fits (core_with core core.entries core.now (with_change core number (does.seat_after_placing table rows)))
placing_keeps core fits number table rows test allowed =
    let f = found core number test allowed in
    let sits = fits.sit (number - 1) f.session f.seat f.session_there f.seat_there in
    seat_step core number f.seat (does.seat_after_placing table rows) f.seat_is
    (less_keeps core fits (number - 1) f.session f.seat (does.seat_after_placing table rows f.seat) f.session_there
    f.seat_there
    (record {
      live = refl;
      found = refl;
      made = λ t row has. append_made f.seat table rows t row has;
      versions =
          λ t row has. has;
    })
    (λ t row has. or_right
    ((does.appended_part table rows).table == t && part_has (does.appended_part table rows) row) _
    (sits.kept t row has)))
