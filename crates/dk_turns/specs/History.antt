-- The one history that the passes have made in the end.
use Rattle.std.specs.Prelude.{◌≡◌, ℕ, ◌<◌, ◌≤◌, ⊤, List, [], ◌∷◌, length, map}
use mathlib.Core.Option.{some}
use lib.ListN.{get_elem?}
use Rattle.dk_turns.specs.declared.knowledge.Event.{Event}
use Rattle.dk_turns.specs.Events.{Fact, events_of}
use Rattle.dk_turns.specs.PassViews.{PassView, numbers_given}
use Rattle.dk_turns.specs.TurnStates.{Among, free_turn}

-- the places rise
abbrev pub PlacesRise : {N : Type 0} → List (ℕ × Event N) → Type 0
PlacesRise {N} [] = ⊤
PlacesRise {N} (x ∷ xs) = ((y : ℕ × Event N) → Among xs y → x.0 < y.0) × PlacesRise xs

-- the places of the events of these passes are the numbers below n, each once
pub record EachPlaceOnce {P N : Type 0} (passes : List (PassView P N)) (n : ℕ) : Type 0 where
  pub below : (p : PassView P N) → Among passes p → (k : ℕ) (e : Event N) → Among p.knowledge.events (k, e) → k < n
  pub all : (k : ℕ) → k < n → (p : PassView P N) × Among passes p × ((e : Event N) × Among p.knowledge.events (k, e))
  pub once : (p q : PassView P N) → Among passes p → Among passes q → (k : ℕ) (e f : Event N)
      → Among p.knowledge.events (k, e) → Among q.knowledge.events (k, f)
      → (p.knowledge.number ≡ q.knowledge.number) × (e ≡ f)
  pub rise : (p : PassView P N) → Among passes p → PlacesRise p.knowledge.events

-- one history has the events of these passes, each at its place, and no others, and with these parts it meets the fact
pub record History {P N : Type 0} (holds : Fact P N) (passes : List (PassView P N)) (parts : List P) : Type 0 where
  pub log : List (Event N)
  pub kept : holds log (map free_turn parts)
  pub mine : (p : PassView P N) → Among passes p → p.knowledge.events ≡ events_of p.knowledge.number log
  pub no_others : (n : ℕ) → numbers_given passes ≤ n → events_of n log ≡ []
  -- an event at the place k is the k-th of the history
  pub at_places : (p : PassView P N) → Among passes p → (k : ℕ) (e : Event N)
      → Among p.knowledge.events (k, e) → get_elem? log k ≡ some e
  -- there are as many places as events in the history
  pub places : EachPlaceOnce passes (length log)
