-- Tickets that each pass numbers from the key on, and parts that keep up with the passes.
use Rattle.std.specs.Prelude.{◌≡◌, ℕ, suc, ◌≤◌, ⊤, List, [], ◌∷◌, length}
use Rattle.dk_turns.specs.declared.knowledge.Event.{Event}
use Rattle.dk_turns.specs.Events.{Fact, LastingFact, events_of, without_places}

-- the events have the numbers from k on
abbrev pub CountsFrom : ℕ → List (Event ℕ) → Type 0
CountsFrom k [] = ⊤
CountsFrom k (e ∷ es) = (e.note ≡ k) × CountsFrom (suc k) es

-- each pass gave its events the numbers from the key on
abbrev pub IsNumbered : ℕ → Fact ℕ ℕ
IsNumbered key log states = (n : ℕ) → CountsFrom key (without_places (events_of n log))

-- a part is at least the number of events that the pass had made as it noted the part
abbrev pub KeepsUp : LastingFact ℕ ℕ
KeepsUp n before after t noted now = length before ≤ now
