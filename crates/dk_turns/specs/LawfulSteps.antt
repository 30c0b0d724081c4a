-- What a pass may take for granted at a step, and what its step must keep to be lawful.
use Rattle.std.specs.Prelude.{◌≡◌, ◌≢◌, ℕ, ◌<◌, ◌≤◌, List, [], ◌∷◌, ◌++◌, length, slice_set, Option, Some, None}
use mathlib.Core.Option.{some}
use lib.ListN.{get_elem?}
use Rattle.dk_turns.specs.declared.layout.TheConstants.{TURNS}
use Rattle.dk_turns.specs.declared.knowledge.Event.{Event}
use Rattle.dk_turns.specs.declared.knowledge.Observation.{Observation}
use Rattle.dk_turns.specs.declared.knowledge.Knowledge.{Knowledge}
use Rattle.dk_turns.specs.Events.{Fact, LastingFact, SplitsEvents, events_of, without_places}
use Rattle.dk_turns.specs.PassViews.{HeldView}
use Rattle.dk_turns.specs.TurnStates.{Among, Holds, TurnState, turn_held_by}

module _ {P N : Type 0} (holds : Fact P N) (lasts : LastingFact P N) where
  -- what the pass knows of the history so far, and of the turns
  pub record Premises (v : Knowledge P N) (log : List (Event N)) (states : List (TurnState P)) : Type 0 where
    pub kept : holds log states
    pub wide : length states ≡ TURNS
    pub held : (t : ℕ) (p : P) → Holds v.held t p → get_elem? states t ≡ some (turn_held_by v.number p)
    pub mine : v.events ≡ events_of v.number log
    pub seen : v.seen ≤ length log
    pub since : (m : Observation P N) → Among v.noted m → m.before ++ m.after ≡ without_places v.events
    pub noted : (m : Observation P N) → Among v.noted m → (d : TurnState P)
        → get_elem? states m.turn ≡ some d → lasts v.number m.before m.after m.turn m.part d.part

  -- What an event e under the turn t keeps, which makes its part show q in place of p:
  -- the fact, the lasting facts of others on that turn, those of its own pass on every turn, and the new one
  pub record EventKeeps (v : Knowledge P N) (t : ℕ) (p : P) (e : Event N) (q : P) (log : List (Event N))
      (states : List (TurnState P)) : Type 0 where
    pub kept : holds (log ++ e ∷ []) (slice_set states t (turn_held_by v.number q))
    pub others : (n : ℕ) (before after : List (Event N)) (x : P) → n ≢ v.number
        → SplitsEvents n log before after → lasts n before after t x p → lasts n before after t x q
    pub here : (before after : List (Event N)) (x : P) → SplitsEvents v.number log before after
        → lasts v.number before after t x p → lasts v.number before (after ++ e ∷ []) t x q
    pub besides : (u : ℕ) (before after : List (Event N)) (x : P) (d : TurnState P) → u ≢ t
        → get_elem? states u ≡ some d
        → SplitsEvents v.number log before after
        → lasts v.number before after u x d.part → lasts v.number before (after ++ e ∷ []) u x d.part
    pub noted : lasts v.number (without_places v.events ++ e ∷ []) [] t q q

  -- The part q and the note x make one step: whatever the history was, the event keeps the fact and the lasting facts
  abbrev pub IsLawfulEvent : Knowledge P N → ℕ → P → N → P → Type 0
  IsLawfulEvent v t p x q = (log : List (Event N)) (states : List (TurnState P)) → Premises v log states
      → EventKeeps v t p (record { by = v.number; turn = Some t; note = x }) q log states

  -- what an event e that needs no turn keeps
  pub record FreeEventKeeps (v : Knowledge P N) (e : Event N) (log : List (Event N))
      (states : List (TurnState P)) : Type 0 where
    pub kept : holds (log ++ e ∷ []) states
    pub each : (u : ℕ) (before after : List (Event N)) (x : P) (d : TurnState P) → get_elem? states u ≡ some d
        → SplitsEvents v.number log before after
        → lasts v.number before after u x d.part → lasts v.number before (after ++ e ∷ []) u x d.part

  abbrev pub IsLawfulFreeEvent : Knowledge P N → N → Type 0
  IsLawfulFreeEvent v x = (log : List (Event N)) (states : List (TurnState P)) → Premises v log states
      → FreeEventKeeps v (record { by = v.number; turn = None; note = x }) log states

  -- what putting the part q back under the turn t keeps, which shows p: the fact, whoever takes the turn next, and the
  -- lasting facts
  pub record PutBackKeeps (v : Knowledge P N) (t : ℕ) (p q : P) (log : List (Event N))
      (states : List (TurnState P)) : Type 0 where
    pub kept : (o : Option ℕ) → holds log (slice_set states t (record { holder = o; part = q }))
    pub all : (n : ℕ) (before after : List (Event N)) (x : P) → SplitsEvents n log before after
        → lasts n before after t x p → lasts n before after t x q
    pub noted : lasts v.number (without_places v.events) [] t q q

  abbrev pub IsLawfulPutBack : Knowledge P N → ℕ → P → P → Type 0
  IsLawfulPutBack v t p q = (log : List (Event N)) (states : List (TurnState P)) → Premises v log states
      → PutBackKeeps v t p q log states

  -- the part of the held turn shows something, and that, the note x and the part make one step
  abbrev pub MayMakeEvent : Knowledge P N → HeldView P → N → Type 0
  MayMakeEvent v held x = (held.turn < TURNS) × ((shown : P) × Holds v.held held.turn shown
      × IsLawfulEvent v held.turn shown x held.part)

  -- the part of the held turn shows something, and may be put back in its place
  abbrev pub MayPutBack : Knowledge P N → HeldView P → Type 0
  MayPutBack v held = (held.turn < TURNS) × ((shown : P) × Holds v.held held.turn shown
      × IsLawfulPutBack v held.turn shown held.part)
