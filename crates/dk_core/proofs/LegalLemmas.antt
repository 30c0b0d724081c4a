-- Every list of events that the core allows gives a legal history.
use Rattle.dk_core.specs.Allows as may
use Rattle.dk_core.specs.Commits.{may_append, may_adopt, may_point}
use Rattle.dk_core.specs.Entries.{entry_of, with_entry, standing_with, stands_with}
use Rattle.dk_core.specs.Step.{step, layout_after}
use Rattle.std.proofs.Common.{arith, ◌≡◌, ℕ, true, List, [], ◌∷◌, Option, Some, None, ap, ◌∙◌, sym, refl, subst}
use Rattle.std.proofs.lemmas.Bool.{false≢true, and_from, and_parts}
use Rattle.dk_si.specs.declared.database.Table.{Table}
use Rattle.dk_si.specs.declared.machine.Session.{Session}
use Rattle.dk_si.specs.declared.limits.TheConstants.{SESSIONS}
use Rattle.dk_si.specs.Machine.{idle}
use Rattle.dk_si.specs.declared.history.Entry.{Entry}
use Rattle.dk_si.specs.IsLegal.{is_legal}
use Rattle.dk_si.specs.Standing.{FullStanding, stands_on, standing_and, standing_after}
use Rattle.dk_si.proofs.StandingLemmas.{standing_and_one}
use Rattle.dk_si.proofs.StandingLemmas.{stands_well as stands_well_and_one}
use Rattle.dk_si.proofs.PlaceLemmas.{same_copies}
use Rattle.dk_core.specs.declared.event.Event.{Event}
use Rattle.dk_core.specs.declared.seat.Seat.{Seat}
use Rattle.dk_core.specs.Core.{Core, no_seat, first_core}
use Rattle.dk_core.specs.Laws.{core_after, all_allowed, LegalOverEveryList}
use Rattle.dk_core.proofs.Invariant.{Fits, Sits, moved, allows_so, stands_well}
use Rattle.dk_core.proofs.CallLemmas.{call_keeps, begin_keeps, change_keeps}
use Rattle.dk_core.proofs.SeatLemmas.{placing_keeps, stamp_keeps, finish_keeps, undo_keeps, leave_keeps}
use Rattle.dk_core.proofs.ReplyLemmas.{NetsGrow, nets_grow, reply_keeps}
use Rattle.dk_core.proofs.PointLemmas.{point_keeps}
use Rattle.dk_core.specs.declared.event.Event.TheVariants as event

-- each event that is allowed keeps the invariant
pub event_keeps : NetsGrow → (core : Core) → Fits core → (event : Event) → allows_so core event ≡ true
    → Fits (moved core event)
event_keeps grow core fits (event.Call number asked) allowed = call_keeps core fits number asked allowed
event_keeps grow core fits (event.Begin number) allowed = begin_keeps core fits number allowed
event_keeps grow core fits (event.Change number at part) allowed =
    change_keeps core fits number at part
    (and_parts (may.at_session core number (may.may_change core at part)) _ allowed).0
event_keeps grow core fits (event.Append number table group first rows) allowed =
    let test = may_append core table group first rows in
    placing_keeps core fits number table rows test
    (and_parts (may.at_session core number test) _
    (and_parts (may.allows_locally core (event.Append number table group first rows)) _ allowed).0).0
event_keeps grow core fits (event.Adopt number table group first rows) allowed =
    let test = may_adopt core table group first rows in
    placing_keeps core fits number table rows test
    (and_parts (may.at_session core number test) _
    (and_parts (may.allows_locally core (event.Adopt number table group first rows)) _ allowed).0).0
event_keeps grow core fits (event.Point number what moment) allowed =
    let h = and_parts (may.allows_locally core (event.Point number what moment)) _ allowed in
    point_keeps grow core fits number what moment
    (and_parts (may.at_session core number (may_point core what moment)) _ h.0).0 h.1
event_keeps grow core fits (event.Stamp number) allowed =
    stamp_keeps core fits number (and_parts (may.allows_locally core (event.Stamp number)) _ allowed).0
event_keeps grow core fits (event.Finish number) allowed = finish_keeps core fits number
    (and_parts (may.allows_locally core (event.Finish number)) _ allowed).0
event_keeps grow core fits (event.Undo number) allowed =
    undo_keeps core fits number (and_parts (may.allows_locally core (event.Undo number)) _ allowed).0
event_keeps grow core fits (event.Drop at bound) allowed = fits
event_keeps grow core fits (event.Settle table group root) allowed = fits
event_keeps grow core fits (event.Reply number reply) allowed = reply_keeps grow core fits number reply allowed
event_keeps grow core fits (event.Mark number) allowed = fits
event_keeps grow core fits (event.Leave number) allowed =
    leave_keeps core fits number (and_parts (may.allows_locally core (event.Leave number)) _ allowed).0

-- the invariant, and what stands of stops and iterations is carried along
pub record Sound (core : Core) : Type 0 where
  pub fits : Fits core
  pub carried : core.standing ≡ standing_after core.iteration core.entries

-- the invariant asks nothing of what is carried beside, and of where rows stand
refit : (core : Core) (standing : FullStanding) (layout : List (List ℕ)) → Fits core
    → Fits (record core { standing = standing; layout = layout })
refit core standing layout fits = record {
  is_now = fits.is_now;
  steps = fits.steps;
  whole = fits.whole;
  numbers = fits.numbers;
  even = fits.even;
  count = fits.count;
  sit = fits.sit;
}

-- what is carried decides as the whole list does
stands_so : (core : Core) → Sound core → (entry : Option Entry) → stands_with core entry ≡ true
    → stands_well core (with_entry core.entries entry) ≡ true
stands_so core sound None stands = sound.fits.whole
stands_so core sound (Some entry) stands =
    stands_well_and_one core.iteration core.entries entry
    ∙ and_from _ _ sound.fits.whole (ap (λ standing. stands_on core.iteration standing entry) (sym sound.carried)
    ∙ stands)

carried_with : (core : Core) → Sound core → (entry : Option Entry)
    → standing_with core entry ≡ standing_after core.iteration (with_entry core.entries entry)
carried_with core sound None = sound.carried
carried_with core sound (Some entry) =
    ap (λ standing. standing_and core.iteration standing entry) sound.carried
    ∙ sym (standing_and_one core.iteration core.entries entry)

pub step_keeps : (core : Core) → Sound core → (event : Event) → may.allows core event ≡ true → Sound (step core event)
step_keeps core sound event allowed =
    let h = and_parts (may.allows_locally core event) _ allowed in
    record {
      fits = refit (moved core event) (standing_with core (entry_of core event)) (layout_after core event)
          (event_keeps nets_grow core sound.fits event
          (and_from _ _ h.0 (stands_so core sound (entry_of core event) h.1)));
      carried = carried_with core sound (entry_of core event);
    }

first_sits : (opened : List Table) (iteration sessions place : ℕ) (session : Session) (seat : Seat) → idle ≡ session
    → no_seat ≡ seat
    → Sits opened [] (first_core opened iteration sessions).now (first_core opened iteration sessions).seats place
    session seat
first_sits opened iteration sessions place session seat same there =
    let core = first_core opened iteration sessions in
    subst (λ s. Sits opened [] core.now core.seats place s seat) same
    (subst (λ t. Sits opened [] core.now core.seats place idle t) there
    (record {
      links = tt;
      lawful = tt;
      kept = λ table row has. absurd (false≢true has);
      claimed = λ live table row is has. absurd (false≢true has);
      free = λ live table row is none has. absurd (false≢true has);
      quiet = λ closed asks. refl;
      found = λ refusal is. cc;
    }))

pub first_sound : (opened : List Table) (iteration sessions : ℕ) → Sound (first_core opened iteration sessions)
first_sound opened iteration sessions = record {
  fits = record {
    is_now = refl;
    steps = refl;
    whole = refl;
    numbers = omega arith;
    even = refl;
    count = refl;
    sit = λ place session seat at there. first_sits opened iteration sessions place session seat
        (same_copies SESSIONS place idle session at)
        (same_copies SESSIONS place no_seat seat there);
  };
  carried = refl;
}

pub all_keep : (core : Core) → Sound core → (events : List Event) → all_allowed core events ≡ true
    → Sound (core_after core events)
all_keep core sound [] allowed = sound
all_keep core sound (event ∷ events) allowed =
    let h = and_parts (may.allows core event) _ allowed in
    all_keep (step core event) (step_keeps core sound event h.0) events h.1

core_same : (core : Core) (events : List Event)
    → ((core_after core events).opened ≡ core.opened) × ((core_after core events).iteration ≡ core.iteration)
core_same core [] = (refl, refl)
core_same core (event ∷ events) = core_same (step core event) events

pub legal_over_every_list : LegalOverEveryList
legal_over_every_list opened iteration sessions events allowed =
    let first = first_core opened iteration sessions in
    let last = core_after first events in
    let fits = (all_keep first (first_sound opened iteration sessions) events allowed).fits in
    let same = core_same first events in
    subst (λ tables. is_legal tables iteration last.entries ≡ true) same.0
    (subst (λ n. is_legal last.opened n last.entries ≡ true) same.1
    (and_from _ _ fits.steps fits.whole))
