-- What a turn is like: who holds it, and what its part shows.
use Rattle.std.specs.Prelude.{◌≡◌, ◌⊎◌, ℕ, suc, eqb, cond, List, [], ◌∷◌, Option, Some, None}
use mathlib.Core.Option as maybe
use mathlib.Core.Option.{none, some}

-- who holds a turn, by the pass's number, and what its part shows
pub record TurnState (P : Type 0) : Type 0 where
  pub holder : Option ℕ
  pub part : P

module _ {P : Type 0} where
  abbrev pub free_turn : P → TurnState P
  free_turn p = record { holder = None; part = p }

  abbrev pub turn_held_by : ℕ → P → TurnState P
  turn_held_by n p = record { holder = Some n; part = p }

  -- the turn t is among those that are held, and its part shows p
  abbrev pub Holds : List (ℕ × P) → ℕ → P → Type 0
  Holds [] t p = ⊥
  Holds (h ∷ hs) t p = ((h.0 ≡ t) × (h.1 ≡ p)) ⊎ Holds hs t p

  -- those that are held, without the turn t
  abbrev pub without : ℕ → List (ℕ × P) → List (ℕ × P)
  without t [] = []
  without t (h ∷ hs) = cond (eqb h.0 t) (without t hs) (h ∷ without t hs)

  -- the slot of a turn that is held: empty, and out with its pass while that has it in its hand
  abbrev pub held_slot : ℕ → ℕ → maybe.Option (Option P)
  held_slot hand t = cond (eqb hand (suc t)) none (some None)

-- x is one of these
abbrev pub Among : {A : Type 0} → List A → A → Type 0
Among [] x = ⊥
Among (y ∷ ys) x = (y ≡ x) ⊎ Among ys x
