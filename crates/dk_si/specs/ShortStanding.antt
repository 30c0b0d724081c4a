-- What runs of a standing: of the iterations that were answered and of what is needed only that which may still be
-- asked
-- for. It answers as the full one does.
use Rattle.std.specs.List.{filter, flat_map, fold, list_all, list_any}
use Rattle.std.specs.Prelude.{false, [], None, Bool, true, ◌&&◌, ℕ, List, ◌∷◌, ◌==◌, if◌then◌else◌, Option, Some}
use Rattle.std.specs.Prelude.{nat_lt, ◌||◌, not, ◌++◌, ◌+◌, ◌-◌, ◌≡◌, ◌≤◌, length}
use Rattle.dk_types.specs.declared.reply.Reply.{Reply}
use Rattle.dk_si.specs.declared.database.Table.{Table}
use Rattle.dk_si.specs.declared.history.Entry.{Entry}
use Rattle.dk_si.specs.declared.history.Entry.TheVariants as entry
use Rattle.dk_si.specs.declared.limits.TheConstants.{MAX_ITERATION, SESSIONS}
use Rattle.dk_si.specs.declared.standing.Cause.{Cause}
use Rattle.dk_si.specs.declared.standing.Cause.TheVariants.{Stop, Iteration}
use Rattle.dk_si.specs.declared.standing.Flight.{Flight}
use Rattle.dk_si.specs.declared.standing.Need.{Need}
use Rattle.dk_si.specs.declared.standing.Standing.{Standing}
use Rattle.dk_si.specs.declared.standing.Written.{Written}
use Rattle.dk_si.specs.Exchanges.{exchanges}
use Rattle.dk_si.specs.IsLegal.{stops_well, iterates_well}
use Rattle.dk_si.specs.IsStep.{are_steps}
use Rattle.dk_si.specs.Machine.{first_state}
use Rattle.dk_si.specs.ReplyTests.{iteration_of}
use Rattle.dk_si.specs.Standing.{FullStanding, are_payable, is_of, may_end_all, needs_by, pays, standing_after}
use Rattle.dk_si.specs.Standing.{standing_and, stands_on}

-- as a full one that has these lists
abbrev pub as_full : Standing → FullStanding
as_full short = record {
  place = short.place;
  stop = short.stop;
  stopped = short.stopped;
  flights = short.flights;
  written = short.written;
  needs = short.needs;
}

-- before the first entry
abbrev pub first_short : Standing
first_short = record {
  place = 0;
  well = true;
  stop = None;
  stopped = false;
  flights = [];
  greatest = 0;
  spent = false;
  written = [];
  needs = [];
}

-- stops and iterations stand well no longer, whatever comes
abbrev pub fallen : ℕ → Standing
fallen place = record first_short { place = place; well = false }

-- a CHECKPOINT that is in flight was called before that iteration was answered
abbrev pub is_beside : List Flight → Written → Bool
is_beside flights written = list_any (λ flight. flight.checkpoint && not (nat_lt written.place flight.place)) flights

abbrev pub greater : ℕ → ℕ → ℕ
greater a b = if nat_lt a b then b else a

-- the greatest of this number and of the iterations that were answered before each CHECKPOINT in flight was called
abbrev pub greatest_past : List Flight → ℕ → List Written → ℕ
greatest_past flights greatest [] = greatest
greatest_past flights greatest (written ∷ more) =
    greatest_past flights (if is_beside flights written then greatest else greater greatest written.iteration) more

abbrev pub is_last : Written → Bool
is_last written = written.iteration == MAX_ITERATION

-- what was settled by an iteration that is kept in no list
abbrev pub is_passed : Standing → Cause → Bool
is_passed short Stop = false
is_passed short (Iteration iteration) = if iteration == MAX_ITERATION then short.spent else short.greatest == iteration

abbrev pub is_same_cause : Cause → Cause → Bool
is_same_cause Stop Stop = true
is_same_cause Stop (Iteration second) = false
is_same_cause (Iteration first) Stop = false
is_same_cause (Iteration first) (Iteration second) = first == second

-- of the needs of one cause the earliest
abbrev pub add_need : List Need → Need → List Need
add_need needs need =
    if list_any (λ other. is_same_cause other.cause need.cause) needs then needs else needs ++ need ∷ []

abbrev pub with_needs : List Need → List Need → List Need
with_needs needs [] = needs
with_needs needs (need ∷ more) = with_needs (add_need needs need) more

-- the needs that the reply does not settle
abbrev pub unpaid : Standing → ℕ → Reply → List Need
unpaid short session reply = filter (λ need. not (list_any (pays session reply need) short.flights)) short.needs

-- what the reply to this call needs, and is not settled yet
abbrev pub short_needs_by : ℕ → Standing → ℕ → Reply → Flight → List Need
short_needs_by opened short session reply flight =
    filter (λ need. not (is_passed short need.cause)) (needs_by opened (as_full short) session reply flight)

abbrev pub short_needs_after : ℕ → Standing → ℕ → Reply → List Need
short_needs_after opened short session reply =
    with_needs (unpaid short session reply) (flat_map (short_needs_by opened short session reply) short.flights)

-- what is kept behind a reply that stands well
abbrev pub reply_behind : ℕ → Standing → ℕ → Reply → Standing
reply_behind opened short session reply =
    let full = standing_and opened (as_full short) (entry.Reply session reply) in record {
      place = full.place;
      well = true;
      stop = full.stop;
      stopped = full.stopped;
      flights = full.flights;
      greatest = greatest_past full.flights short.greatest full.written;
      spent = short.spent || list_any is_last full.written;
      written = filter (is_beside full.flights) full.written;
      needs = short_needs_after opened short session reply;
    }

abbrev pub is_above : ℕ → Option ℕ → Bool
is_above greatest None = true
is_above greatest (Some iteration) = nat_lt greatest iteration

-- the reply to this call, if it is a CHECKPOINT, says an iteration above the greatest one
abbrev pub rises : Standing → ℕ → Reply → Flight → Bool
rises short session reply flight =
    not (is_of session flight && flight.checkpoint) || is_above short.greatest (iteration_of reply)

abbrev pub rises_all : Standing → ℕ → Reply → Bool
rises_all short session reply = list_all (rises short session reply) short.flights

-- stops and iterations stand well behind this entry too
abbrev pub short_stands_on : ℕ → Standing → Entry → Bool
short_stands_on opened short (entry.Call session asked) = short.well
short_stands_on opened short (entry.Begun session number start) = short.well
short_stands_on opened short (entry.Reply session reply) =
    short.well && ((may_end_all opened (as_full short) session reply && rises_all short session reply)
    && are_payable (as_full (reply_behind opened short session reply)))

-- what is kept behind an entry that stands well
abbrev pub short_behind : ℕ → Standing → Entry → Standing
short_behind opened short (entry.Call session asked) =
    let full = standing_and opened (as_full short) (entry.Call session asked) in
    record short { place = full.place; flights = full.flights }
short_behind opened short (entry.Begun session number start) = record short { place = short.place + 1 }
short_behind opened short (entry.Reply session reply) = reply_behind opened short session reply

abbrev pub short_and : ℕ → Standing → Entry → Standing
short_and opened short entry =
    if short_stands_on opened short entry then short_behind opened short entry else fallen (short.place + 1)

-- what is kept behind these entries
abbrev pub short_after : ℕ → List Entry → Standing
short_after opened entries = fold (short_and opened) first_short entries

-- it is what is kept behind these entries
abbrev pub IsBehind : ℕ → List Entry → Standing → Type 0
IsBehind opened entries short = short ≡ short_after opened entries

-- stops and iterations stand well over the list
abbrev pub stand_well : ℕ → List Entry → Bool
stand_well opened entries = stops_well (exchanges entries) && iterates_well opened (exchanges entries)

-- behind whatever list it stands, it decides whether stops and iterations stand well with one more entry
abbrev pub DecidesBehind : ℕ → Entry → Standing → Bool → Type 0
DecidesBehind opened entry short stands =
    (entries : List Entry) → IsBehind opened entries short → stands ≡ stand_well opened (entries ++ entry ∷ [])

-- behind whatever list the one stands, the other stands behind that with one more entry
abbrev pub StepsOn : ℕ → Entry → Standing → Standing → Type 0
StepsOn opened entry short after =
    (entries : List Entry) → IsBehind opened entries short → IsBehind opened (entries ++ entry ∷ []) after

-- what is kept decides, with each entry, whether stops and iterations stand well over the whole list
abbrev pub ShortStandsWell : Type 0
ShortStandsWell = (opened : ℕ) (entries : List Entry) (entry : Entry)
    → stand_well opened (entries ++ entry ∷ []) ≡ short_stands_on opened (short_after opened entries) entry

-- behind a list that stands well it decides as the full standing does
abbrev pub ShortAnswersAlike : Type 0
ShortAnswersAlike = (opened : ℕ) (entries : List Entry) (entry : Entry) → stand_well opened entries ≡ true
    → short_stands_on opened (short_after opened entries) entry ≡ stands_on opened (standing_after opened entries) entry

-- what is kept behind one more entry is told by what was kept before it
abbrev pub ShortAndOne : Type 0
ShortAndOne = (opened : ℕ) (entries : List Entry) (entry : Entry)
    → short_after opened (entries ++ entry ∷ []) ≡ short_and opened (short_after opened entries) entry

-- the place of the first of these calls, or this one where there is none
abbrev pub first_place : ℕ → List Flight → ℕ
first_place place [] = place
first_place place (flight ∷ flights) =
    let later = first_place place flights in if nat_lt flight.place later then flight.place else later

abbrev pub checkpoints : List Flight → List Flight
checkpoints flights = filter (λ flight. flight.checkpoint) flights

-- a call in flight for each session at most; of the iterations no more than entries have come since the first
-- CHECKPOINT
-- in flight was called, and of the needs no more than since the first call in flight
pub record IsShort (short : Standing) : Type 0 where
  pub flights : length short.flights ≤ SESSIONS
  pub written : length short.written ≤ short.place - first_place short.place (checkpoints short.flights)
  pub needs : length short.needs ≤ short.place - first_place short.place short.flights

-- what is kept behind a list of steps is short
abbrev pub StandingIsShort : Type 0
StandingIsShort = (opened : List Table) (iteration : ℕ) (entries : List Entry)
    → are_steps opened [] first_state entries ≡ true → IsShort (short_after iteration entries)

-- behind a list of steps no more calls are in flight than there are sessions
abbrev pub FlightsAreFew : Type 0
FlightsAreFew = (opened : List Table) (iteration : ℕ) (entries : List Entry)
    → are_steps opened [] first_state entries ≡ true → length (standing_after iteration entries).flights ≤ SESSIONS
