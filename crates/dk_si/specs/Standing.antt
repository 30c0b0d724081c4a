-- How stops and iterations stand behind a list of entries: a state that each entry carries on, and that decides whether
-- the next one may come.
use Rattle.std.specs.List.{list_all, list_any, flat_map, filter}
use Rattle.std.specs.Prelude.{false, [], None, Bool, true, ◌&&◌, ℕ, List, ◌∷◌, ◌==◌, if◌then◌else◌, ◌-◌, Option, Some, nat_lt, ◌||◌, not, is_some, ◌++◌, map, ◌+◌, ◌≡◌}
use Rattle.dk_types.specs.declared.reply.Refusal.{Refusal}
use Rattle.dk_types.specs.declared.reply.Refusal.TheVariants as refusal
use Rattle.dk_types.specs.declared.reply.Reply.{Reply}
use Rattle.dk_types.specs.declared.reply.Reply.TheVariants as reply
use Rattle.dk_si.specs.declared.history.Entry.{Entry}
use Rattle.dk_si.specs.declared.history.Entry.TheVariants as entry
use Rattle.dk_si.specs.declared.limits.TheConstants.{MAX_ITERATION}
use Rattle.dk_si.specs.declared.standing.Cause.{Cause}
use Rattle.dk_si.specs.declared.standing.Cause.TheVariants.{Stop, Iteration}
use Rattle.dk_si.specs.declared.standing.Flight.{Flight}
use Rattle.dk_si.specs.declared.standing.Need.{Need}
use Rattle.dk_si.specs.declared.standing.Written.{Written}
use Rattle.dk_si.specs.Exchanges.{is_checkpoint, exchanges}
use Rattle.dk_si.specs.IsLegal.{stops_well, iterates_well}
use Rattle.dk_si.specs.Machine.{asks_for}
use Rattle.dk_si.specs.ReplyTests.{is_refused, is_disk_stop, is_iteration, has_no_iteration, is_commit, iteration_of, is_stop}

-- what stops and iterations ask of the entries to come
pub record FullStanding : Type 0 where
  -- the place of the next entry
  pub place : ℕ
  -- the place of the first reply after which nothing is committed
  pub stop : Option ℕ
  -- a reply told that its call stopped the engine
  pub stopped : Bool
  -- the calls that have no reply yet
  pub flights : List Flight
  pub written : List Written
  -- what no reply has settled
  pub needs : List Need

-- before the first entry
abbrev pub first_standing : FullStanding
first_standing = record { place = 0; stop = None; stopped = false; flights = []; written = []; needs = [] }

-- a call that may still have done so
abbrev pub waits : Cause → Bool → Bool
waits Stop checkpoint = true
waits (Iteration iteration) checkpoint = checkpoint

-- a reply that says that its call did so
abbrev pub settles : Cause → Bool → Reply → Bool
settles Stop checkpoint reply = is_refused is_disk_stop reply
settles (Iteration iteration) checkpoint reply = checkpoint && is_iteration iteration reply

-- an iteration that is not the opened one was written by a call
abbrev pub owes_iteration : ℕ → ℕ → List Cause
owes_iteration opened iteration = if iteration == opened then [] else Iteration iteration ∷ []

abbrev pub owes_refused : ℕ → Bool → Refusal → List Cause
owes_refused opened checkpoint (refusal.Stopped first) = Stop ∷ []
owes_refused opened checkpoint (refusal.Exhausted numbers) =
    if checkpoint && has_no_iteration (refusal.Exhausted numbers) then owes_iteration opened MAX_ITERATION else []
owes_refused opened checkpoint other = []

-- what a reply needs of a call before it
abbrev pub owes : ℕ → Bool → Reply → List Cause
owes opened checkpoint (reply.Checkpointed iteration) = if checkpoint then owes_iteration opened (iteration - 1) else []
owes opened checkpoint (reply.Refused refusal) = owes_refused opened checkpoint refusal
owes opened checkpoint other = []

-- a reply to a call before this one told a stop
abbrev pub stop_before : Option ℕ → ℕ → Bool
stop_before None place = false
stop_before (Some first) place = nat_lt first place

abbrev pub is_of : ℕ → Flight → Bool
is_of session flight = session == flight.session

-- the reply to this call settles the need
abbrev pub pays : ℕ → Reply → Need → Flight → Bool
pays session reply need flight = is_of session flight && (nat_lt flight.place need.place && settles need.cause flight.checkpoint reply)

-- this call may still settle the need
abbrev pub may_pay : Need → Flight → Bool
may_pay need flight = nat_lt flight.place need.place && waits need.cause flight.checkpoint

-- a need that no reply settled and no call in flight may settle
abbrev pub are_payable : FullStanding → Bool
are_payable standing = list_all (λ need. list_any (may_pay need) standing.flights) standing.needs

-- an iteration is told apart from one that was answered, and is above it where that stands before the call
abbrev pub comes_after : Flight → ℕ → Written → Bool
comes_after flight iteration written =
    (written.called == flight.place || not (written.iteration == iteration))
    && (not (nat_lt written.place flight.place) || nat_lt written.iteration iteration)

-- a session has one CHECKPOINT in flight
abbrev pub is_only : ℕ → Flight → Flight → Bool
is_only session flight other = not (is_of session other && other.checkpoint) || flight.place == other.place

-- what the reply to this CHECKPOINT asks of the iterations
abbrev pub iterates : ℕ → FullStanding → ℕ → Flight → Option ℕ → Bool
iterates opened standing session flight None = true
iterates opened standing session flight (Some iteration) =
    nat_lt opened iteration && (list_all (comes_after flight iteration) standing.written && list_all (is_only session flight) standing.flights)

-- what the reply to this call asks of what stands: no commit behind a stop, and no checkpoint that is called behind one
abbrev pub may_end : ℕ → FullStanding → ℕ → Reply → Flight → Bool
may_end opened standing session reply flight =
    not ((is_some standing.stop && is_commit reply) || (stop_before standing.stop flight.place && is_some (iteration_of reply)))
    && (not flight.checkpoint || iterates opened standing session flight (iteration_of reply))

abbrev pub may_end_all : ℕ → FullStanding → ℕ → Reply → Bool
may_end_all opened standing session reply =
    list_all (λ flight. not (is_of session flight) || may_end opened standing session reply flight) standing.flights

-- the reply that stands first of those after which nothing is committed
abbrev pub first_stop : Option ℕ → ℕ → Option ℕ
first_stop None place = Some place
first_stop (Some first) place = Some first

-- the session has a call in flight
abbrev pub is_calling : FullStanding → ℕ → Bool
is_calling standing session = list_any (is_of session) standing.flights

abbrev pub written_at : ℕ → Flight → Option ℕ → List Written
written_at place flight None = []
written_at place flight (Some iteration) = record { called = flight.place; place = place; iteration = iteration } ∷ []

-- the iteration that the reply to a CHECKPOINT says
abbrev pub written_by : ℕ → ℕ → Reply → Flight → List Written
written_by session place reply flight =
    if is_of session flight then written_at place flight (if flight.checkpoint then iteration_of reply else None) else []

-- a reply has settled it
abbrev pub is_settled : Bool → List Written → Cause → Bool
is_settled stopped written Stop = stopped
is_settled stopped written (Iteration iteration) = list_any (λ other. other.iteration == iteration) written

abbrev pub stopped_after : FullStanding → ℕ → Reply → Bool
stopped_after standing session reply = (is_calling standing session && is_refused is_disk_stop reply) || standing.stopped

abbrev pub written_after : FullStanding → ℕ → Reply → List Written
written_after standing session reply = standing.written ++ flat_map (written_by session standing.place reply) standing.flights

-- what the reply to this call needs, and is not settled yet
abbrev pub needs_by : ℕ → FullStanding → ℕ → Reply → Flight → List Need
needs_by opened standing session reply flight =
    if is_of session flight then map (λ cause. record { cause = cause; place = standing.place })
    (filter (λ cause. not (is_settled (stopped_after standing session reply) (written_after standing session reply) cause)) (owes opened flight.checkpoint reply))
    else []

abbrev pub needs_after : ℕ → FullStanding → ℕ → Reply → List Need
needs_after opened standing session reply =
    filter (λ need. not (list_any (pays session reply need) standing.flights)) standing.needs
    ++ flat_map (needs_by opened standing session reply) standing.flights

-- what stands behind one more entry
abbrev pub standing_and : ℕ → FullStanding → Entry → FullStanding
standing_and opened standing (entry.Call session asked) = record standing {
  place = standing.place + 1;
  flights = standing.flights ++ record { session = session; place = standing.place; checkpoint = asks_for is_checkpoint (Some asked) } ∷ [];
}
standing_and opened standing (entry.Begun session number start) = record standing { place = standing.place + 1 }
standing_and opened standing (entry.Reply session reply) = record {
  place = standing.place + 1;
  stop = if is_calling standing session && is_stop reply then first_stop standing.stop standing.place else standing.stop;
  stopped = stopped_after standing session reply;
  flights = filter (λ flight. not (is_of session flight)) standing.flights;
  written = written_after standing session reply;
  needs = needs_after opened standing session reply;
}

-- stops and iterations stand well behind this entry too
abbrev pub stands_on : ℕ → FullStanding → Entry → Bool
stands_on opened standing (entry.Call session asked) = true
stands_on opened standing (entry.Begun session number start) = true
stands_on opened standing (entry.Reply session reply) =
    may_end_all opened standing session reply && are_payable (standing_and opened standing (entry.Reply session reply))

-- the standing behind these entries
abbrev pub standing_from : ℕ → FullStanding → List Entry → FullStanding
standing_from opened standing [] = standing
standing_from opened standing (entry ∷ entries) = standing_from opened (standing_and opened standing entry) entries

abbrev pub standing_after : ℕ → List Entry → FullStanding
standing_after opened entries = standing_from opened first_standing entries

-- the standing decides, with each entry, whether stops and iterations stand well over the whole list
abbrev pub StandsWell : Type 0
StandsWell = (opened : ℕ) (entries : List Entry) (entry : Entry)
    → (stops_well (exchanges (entries ++ entry ∷ [])) && iterates_well opened (exchanges (entries ++ entry ∷ [])))
    ≡ ((stops_well (exchanges entries) && iterates_well opened (exchanges entries)) && stands_on opened (standing_after opened entries) entry)

-- what stands behind one more entry is told by what stands before it
abbrev pub StandingAndOne : Type 0
StandingAndOne = (opened : ℕ) (entries : List Entry) (entry : Entry)
    → standing_after opened (entries ++ entry ∷ []) ≡ standing_and opened (standing_after opened entries) entry
