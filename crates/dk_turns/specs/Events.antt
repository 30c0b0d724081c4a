-- Events in the order of their places, and the facts that a user of turns states over them.
use Rattle.std.specs.Prelude.{◌≡◌, ℕ, suc, eqb, cond, List, [], ◌∷◌, ◌++◌, map}
use Rattle.dk_turns.specs.declared.knowledge.Event.{Event}
use Rattle.dk_turns.specs.TurnStates.{TurnState}

-- a fact on all events and on what the turns are like
abbrev pub Fact : Type 0 → Type 0 → Type 1
Fact P N = List (Event N) → List (TurnState P) → Type 0

-- a fact on a pass's number, its events before and after it saw what the part of a turn shows, the turn, that part,
-- and the part now
abbrev pub LastingFact : Type 0 → Type 0 → Type 1
LastingFact P N = ℕ → List (Event N) → List (Event N) → ℕ → P → P → Type 0

module _ {N : Type 0} where
  -- the events of the pass n, with their places, among events from the place k on
  abbrev pub events_from : ℕ → ℕ → List (Event N) → List (ℕ × Event N)
  events_from n k [] = []
  events_from n k (e ∷ es) = cond (eqb e.by n) ((k, e) ∷ events_from n (suc k) es) (events_from n (suc k) es)

  -- the events of the pass n in the history, with their places
  abbrev pub events_of : ℕ → List (Event N) → List (ℕ × Event N)
  events_of n log = events_from n 0 log

  -- the events themselves
  abbrev pub without_places : List (ℕ × Event N) → List (Event N)
  without_places events = map (λ x. x.1) events

  -- before and after together are the events of the pass n in the history
  abbrev pub SplitsEvents : ℕ → List (Event N) → List (Event N) → List (Event N) → Type 0
  SplitsEvents n log before after = before ++ after ≡ without_places (events_of n log)
