-- Counters that add up to the number of events, and never fall.
use Rattle.std.specs.Prelude.{◌≡◌, ℕ, ◌+◌, ◌≤◌, List, [], ◌∷◌, length}
use Rattle.dk_turns.specs.Events.{Fact, LastingFact}
use Rattle.dk_turns.specs.TurnStates.{TurnState}

-- the sum of the parts
abbrev pub total : List (TurnState ℕ) → ℕ
total [] = 0
total (d ∷ ds) = d.part + total ds

-- the parts add up to the number of events
abbrev pub AddsUp : {N : Type 0} → Fact ℕ N
AddsUp log states = total states ≡ length log

-- a part never falls
abbrev pub NeverFalls : {N : Type 0} → LastingFact ℕ N
NeverFalls n before after t noted now = noted ≤ now
