-- What a pass knows after each step, and after it was split or joined.
use Rattle.std.specs.Prelude.{◌≡◌, ℕ, ◌+◌, List, [], ◌∷◌, ◌++◌, map, Some, None}
use Rattle.dk_turns.specs.declared.knowledge.Event.{Event}
use Rattle.dk_turns.specs.declared.knowledge.Observation.{Observation}
use Rattle.dk_turns.specs.declared.knowledge.Knowledge.{Knowledge}
use Rattle.dk_turns.specs.Events.{LastingFact, without_places}
use Rattle.dk_turns.specs.TurnStates.{Among, without}

module _ {P N : Type 0} where
  -- a pass that has done nothing yet: its number, how many numbers were given if it gives them or 0, and the least
  -- place that it has not seen
  abbrev pub newcomer : ℕ → ℕ → ℕ → Knowledge P N
  newcomer n given seen = record {
    number = n;
    given = given;
    held = [];
    refused = [];
    events = [];
    seen = seen;
    noted = [];
    ended = [];
  }

  -- the turn t was taken, and its part shows p
  abbrev pub after_take : ℕ → P → Knowledge P N → Knowledge P N
  after_take t p v = record v { held = (t, p) ∷ v.held }

  -- words said "taken" at these turns
  abbrev pub after_refusals : List ℕ → Knowledge P N → Knowledge P N
  after_refusals ts v = record v { refused = v.refused ++ ts }

  -- the part of the turn t was seen to show p, after these events
  abbrev pub observation : ℕ → P → List (Event N) → Observation P N
  observation t p before = record { turn = t; part = p; before = before; after = [] }

  -- the turn t was released, with the part p, which the pass notes
  abbrev pub after_release : ℕ → P → Knowledge P N → Knowledge P N
  after_release t p v = record v {
    held = without t v.held;
    noted = v.noted ++ observation t p (without_places v.events) ∷ [];
  }

  -- the pass gives numbers, and gave one more
  abbrev pub after_split : Knowledge P N → Knowledge P N
  after_split v = record v { given = v.given + 1 }

  -- the pass w was joined
  abbrev pub after_join : Knowledge P N → Knowledge P N → Knowledge P N
  after_join v w = record v {
    given = v.given + w.given;
    ended = (record { number = w.number; events = w.events }) ∷ (w.ended ++ v.ended);
  }

  -- the clock was n
  abbrev pub after_look : ℕ → Knowledge P N → Knowledge P N
  after_look n v = record v { seen = n }

  -- an event of the pass's own came after what it noted
  abbrev pub with_event : Event N → Observation P N → Observation P N
  with_event e m = record m { after = m.after ++ e ∷ [] }

  abbrev pub event_under : ℕ → N → Knowledge P N → Event N
  event_under t x v = record { by = v.number; turn = Some t; note = x }

  abbrev pub event_without_turn : N → Knowledge P N → Event N
  event_without_turn x v = record { by = v.number; turn = None; note = x }

  -- an event was made at the place k, and the part of the turn t shows p, which the pass notes
  abbrev pub after_event : ℕ → P → N → ℕ → Knowledge P N → Knowledge P N
  after_event t p x k v = record v {
    held = (t, p) ∷ without t v.held;
    events = v.events ++ (k, event_under t x v) ∷ [];
    seen = k + 1;
    noted = map (with_event (event_under t x v)) v.noted
        ++ observation t p (without_places v.events ++ event_under t x v ∷ []) ∷ [];
  }

  -- an event that needs no turn was made at the place k
  abbrev pub after_free_event : N → ℕ → Knowledge P N → Knowledge P N
  after_free_event x k v = record v {
    events = v.events ++ (k, event_without_turn x v) ∷ [];
    seen = k + 1;
    noted = map (with_event (event_without_turn x v)) v.noted;
  }

  -- each lasting fact that the pass has noted of the turn t holds of the part p
  abbrev pub NotedFactsHold : LastingFact P N → Knowledge P N → ℕ → P → Type 0
  NotedFactsHold lasts v t p = (m : Observation P N) → Among v.noted m → m.turn ≡ t
      → lasts v.number m.before m.after t m.part p

  -- the turn t was taken, after its word had said "taken" at some steps
  abbrev pub AfterWait : ℕ → P → Knowledge P N → Knowledge P N → Type 0
  AfterWait t p v w = (times : List ℕ) × (w ≡ after_take t p (after_refusals times v))
