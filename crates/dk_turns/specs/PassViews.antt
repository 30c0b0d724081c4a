-- The turns, a pass and a held turn as contracts see them.
use Rattle.std.specs.Prelude.{◌≡◌, ◌⊎◌, ℕ, ◌+◌, ◌<◌, List, [], ◌∷◌}
use Rattle.atomic_table.specs.Seated.{TableId}
use Rattle.dk_turns.specs.declared.layout.TheConstants.{TURNS, WORDS}
use Rattle.dk_turns.specs.declared.knowledge.EndedPass.{EndedPass}
use Rattle.dk_turns.specs.declared.knowledge.Knowledge.{Knowledge}
use Rattle.dk_turns.specs.declared.knowledge.MidStep.{MidStep}
use Rattle.dk_turns.specs.TurnStates.{Among}

-- the table has a word for the clock, two for each turn, and a slot for each part
abbrev pub IsTurnsTable : TableId → Type 0
IsTurnsTable id = (id.words ≡ WORDS) × (id.slots ≡ TURNS)

-- which turns they are, and the key that they were made with
pub record TurnsView (K : Type 0) : Type 0 where
  pub id : TableId
  pub key : K

-- whose turns they are, and what the pass knows
pub record PassView (P N : Type 0) : Type 0 where
  pub turns : TableId
  pub knowledge : Knowledge P N

-- a turn that is held, and its part as it is now
pub record HeldView (P : Type 0) : Type 0 where
  pub turn : ℕ
  pub part : P

-- the held turn with the part p
abbrev pub with_part : {P : Type 0} → HeldView P → P → HeldView P
with_part h p = record h { part = p }

module _ {P N : Type 0} where
  -- how many numbers these passes gave in all
  abbrev pub numbers_given : List (PassView P N) → ℕ
  numbers_given [] = 0
  numbers_given (p ∷ ps) = p.knowledge.given + numbers_given ps

  -- one of these passes has the number
  abbrev pub HasNumber : List (PassView P N) → ℕ → Type 0
  HasNumber ps n = (p : PassView P N) × Among ps p × (p.knowledge.number ≡ n)

  -- they are passes of these turns, and hold none
  abbrev pub AllIdle : TableId → List (PassView P N) → Type 0
  AllIdle turns ps = (p : PassView P N) → Among ps p → (p.turns ≡ turns) × (p.knowledge.held ≡ [])

  -- the pass that gives numbers is among them, and so is each pass that it gave one
  abbrev pub IsWhole : List (PassView P N) → Type 0
  IsWhole ps = (0 < numbers_given ps) × ((n : ℕ) → n < numbers_given ps → HasNumber ps n)

module _ {P N : Type 0} where
  -- the pass p is this one, or was joined to it
  abbrev pub IsIn : PassView P N → MidStep P N → Type 0
  IsIn p v = ((p.knowledge.number ≡ v.knowledge.number) × (p.knowledge.events ≡ v.knowledge.events))
      ⊎ ((e : EndedPass N) × Among v.knowledge.ended e × (e.number ≡ p.knowledge.number)
      × (e.events ≡ p.knowledge.events))

  -- these passes became one, which gave as many numbers as they
  abbrev pub JoinsAll : List (PassView P N) → MidStep P N → Type 0
  JoinsAll ps v = (v.knowledge.given ≡ numbers_given ps) × ((p : PassView P N) → Among ps p → IsIn p v)
