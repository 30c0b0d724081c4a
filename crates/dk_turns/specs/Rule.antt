-- The rule of the table that the turns lie in: a turn's word says "taken" exactly where one pass holds the turn,
-- only then is its slot empty, and each event has one place in one history.
use Rattle.std.specs.Prelude.{◌≡◌, ◌≢◌, ◌⊎◌, ℕ, ◌+◌, ◌%◌, ◌^◌, ◌<◌, ◌≤◌, List, [], ◌++◌, false, length, Option, Some, None, slice_index}
use mathlib.Core.Option as maybe
use mathlib.Core.Option.{some}
use lib.ListN.{get_elem?}
use Rattle.atomic_table.specs.Table.{State}
use Rattle.dk_turns.specs.declared.layout.TheConstants.{TURNS, WORDS, CLOCK, FREE, TAKEN}
use Rattle.dk_turns.specs.declared.knowledge.Event.{Event}
use Rattle.dk_turns.specs.declared.knowledge.Observation.{Observation}
use Rattle.dk_turns.specs.declared.knowledge.EndedPass.{EndedPass}
use Rattle.dk_turns.specs.declared.knowledge.MidStep.{MidStep}
use Rattle.dk_turns.specs.Events.{Fact, LastingFact, events_of, without_places}
use Rattle.dk_turns.specs.TurnStates.{Among, Holds, TurnState, held_slot, turn_held_by}

-- the words and slots of the turns, and what each pass knows between two steps
abbrev pub TableState : Type 0 → Type 0 → Type 0
TableState P N = State (Option P) (MidStep P N)

-- the slots of the turns: a slot that no pass has in its hand is at home, with its part or empty
abbrev pub Slots : Type 0 → Type 0
Slots P = List (maybe.Option (Option P))

-- the pass with the number n holds the turn t, whose part shows p
pub record TurnHolder {P N : Type 0} (views : List (MidStep P N)) (n t : ℕ) (p : P) : Type 0 where
  pub id : ℕ
  pub view : MidStep P N
  pub at : get_elem? views id ≡ some view
  pub here : view.spent ≡ false
  pub is : view.knowledge.number ≡ n
  pub holds : Holds view.knowledge.held t p

-- what a turn's word and slot are: free, with its part in the slot, or taken, and one pass holds it
module _ {P N : Type 0} (words : List ℕ) (homes : Slots P) (views : List (MidStep P N)) (t : ℕ) (p : P) where
  abbrev pub MatchesHolder : Option ℕ → Type 0
  MatchesHolder None = (slice_index words (t + 1) ≡ FREE) × (get_elem? homes t ≡ some (some (Some p)))
  MatchesHolder (Some n) = (slice_index words (t + 1) ≡ TAKEN) × TurnHolder views n t p

-- the wider states show the same parts, and each turn that is held is held by the same pass
pub record Wider {P : Type 0} (states wider : List (TurnState P)) : Type 0 where
  pub long : length wider ≡ length states
  pub same : (t : ℕ) (d : TurnState P) → get_elem? states t ≡ some d
      → (w : TurnState P) × (get_elem? wider t ≡ some w) × (w.part ≡ d.part) × ((n : ℕ) → d.holder ≡ Some n → w ≡ d)

module _ {P N : Type 0} (holds : Fact P N) (lasts : LastingFact P N) where
  -- What holds of a pass at the seat id. `total` numbers were given, and `seat` says which seat has a number's turns
  -- and events
  pub record PassFacts (total : ℕ) (seat : ℕ → ℕ) (log : List (Event N)) (states : List (TurnState P)) (homes : Slots P)
      (id : ℕ) (v : MidStep P N) : Type 0 where
    -- its number was given, and no other pass has it
    pub numbered : v.knowledge.number < total
    pub seated : seat v.knowledge.number ≡ id
    pub giving : v.knowledge.given ≢ 0 → (v.knowledge.given ≡ total) × (seat 0 ≡ id)
    -- the passes that were joined to it have the rest of the history under their numbers
    pub joined : (e : EndedPass N) → Among v.knowledge.ended e
        → (seat e.number ≡ id) × (e.number ≢ v.knowledge.number) × (e.number < total)
        × (e.events ≡ events_of e.number log)
    -- the state of each turn that it holds names it, so that no other pass holds it; the slot is empty or in its hand
    pub holding : (t : ℕ) (p : P) → Holds v.knowledge.held t p
        → (get_elem? states t ≡ some (turn_held_by v.knowledge.number p))
        × (get_elem? homes t ≡ some (held_slot v.hand t))
    -- its events are those under its number, each with its place
    pub made : v.knowledge.events ≡ events_of v.knowledge.number log
    pub seen : v.knowledge.seen ≤ length log
    -- what it noted has all its events, before and after, and each lasting fact that it has noted holds
    pub since : (m : Observation P N) → Among v.knowledge.noted m
        → m.before ++ m.after ≡ without_places v.knowledge.events
    pub noted : (m : Observation P N) → Among v.knowledge.noted m → (d : TurnState P)
        → get_elem? states m.turn ≡ some d → lasts v.knowledge.number m.before m.after m.turn m.part d.part

  -- `log` has all events by place, and `states` what each turn's part shows and who holds it
  pub record Rule (s : TableState P N) : Type 0 where
    pub total : ℕ
    pub seat : ℕ → ℕ
    pub log : List (Event N)
    pub states : List (TurnState P)
    pub some_pass : 0 < total
    pub words_are : length s.words ≡ WORDS
    pub homes_are : length s.homes ≡ TURNS
    pub states_are : length states ≡ TURNS
    -- the clock is the number of events
    pub clock : slice_index s.words CLOCK ≡ length log % 2 ^ 64
    -- a number that was not given has no event
    pub unborn : (n : ℕ) → total ≤ n → events_of n log ≡ []
    -- the fact holds of all events and all parts, whoever takes the free turns
    pub kept : (wider : List (TurnState P)) → Wider states wider → holds log wider
    -- a turn's word says "taken" exactly where one pass holds it; its slot is empty only then
    pub each_turn : (t : ℕ) (d : TurnState P) → get_elem? states t ≡ some d
        → MatchesHolder s.words s.homes s.views t d.part d.holder
    pub each_pass : (id : ℕ) (v : MidStep P N) → get_elem? s.views id ≡ some v → v.spent ≡ false
        → PassFacts total seat log states s.homes id v

-- the pass at the seat holds the turn
pub record HoldsAt {P N : Type 0} (s : TableState P N) (t id : ℕ) : Type 0 where
  pub view : MidStep P N
  pub part : P
  pub at : get_elem? s.views id ≡ some view
  pub here : view.spent ≡ false
  pub holds : Holds view.knowledge.held t part

-- the turn's word says "taken" exactly where one pass holds it, and its slot is empty only then
pub record TakenByOne {P N : Type 0} (s : TableState P N) (t : ℕ) : Type 0 where
  pub word : (slice_index s.words (t + 1) ≡ FREE) ⊎ (slice_index s.words (t + 1) ≡ TAKEN)
  pub held : slice_index s.words (t + 1) ≡ TAKEN → (id : ℕ) × HoldsAt s t id
  pub taken : (id : ℕ) → HoldsAt s t id → slice_index s.words (t + 1) ≡ TAKEN
  pub one : (id id' : ℕ) → HoldsAt s t id → HoldsAt s t id' → id ≡ id'
  pub full : slice_index s.words (t + 1) ≡ FREE → (p : P) × (get_elem? s.homes t ≡ some (some (Some p)))

-- the pass is the last one: every number that was given is its own, or that of one that was joined to it
pub record IsLast {P N : Type 0} (v : MidStep P N) : Type 0 where
  pub live : v.spent ≡ false
  pub idle : v.knowledge.held ≡ []
  pub gives : v.knowledge.given ≢ 0
  pub all : (n : ℕ) → n < v.knowledge.given
      → (n ≡ v.knowledge.number) ⊎ ((e : EndedPass N) × Among v.knowledge.ended e × (e.number ≡ n))
