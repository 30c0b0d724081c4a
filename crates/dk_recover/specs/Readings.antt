-- Readings of the main file one after the other, up to the first thing that is wrong.
use Rattle.std.specs.Prelude.{ℕ, List, [], ◌∷◌, ◌++◌, Result, Ok, Err}
use Rattle.dk_types.specs.declared.damage.Damage.{Damage}
use Rattle.dk_types.specs.declared.damage.Damage.TheVariants.{Malformed}
use Rattle.dk_types.specs.declared.damage.Part as the
use Rattle.dk_strings.specs.Chains.{◌>>=◌}

-- what the bytes of a part of the files stand for, or the place of the first that is not in its grammar
abbrev pub meaning : {A : Type 0} → the.Part → Result A ℕ → Result A Damage
meaning part (Ok x) = Ok x
meaning part (Err at) = Err (Malformed part at)

-- a step for each of these things, from what the steps before it left
abbrev pub each : {S A : Type 0} → (S → A → Result S Damage) → S → List A → Result S Damage
each step state [] = Ok state
each step state (x ∷ xs) = step state x >>= λ next. each step next xs

-- what was read, and the blocks that are used once it is: those that were used before, and its own
pub record Reached (A : Type 0) : Type 0 where
  pub it : A
  pub used : List ℕ

-- one more thing behind those that were read
abbrev pub next_read : {A B : Type 0} → (A → List ℕ → List ℕ → Result (Reached B) Damage) → List ℕ
    → Reached (List B) → A → Result (Reached (List B)) Damage
next_read read main before x = do
  next ← read x before.used main
  Ok (record { it = before.it ++ next.it ∷ []; used = next.used })

-- each of these things is read, where blocks are used before; a block has one use
abbrev pub all_read : {A B : Type 0} → (A → List ℕ → List ℕ → Result (Reached B) Damage) → List A → List ℕ → List ℕ
    → Result (Reached (List B)) Damage
all_read read xs used main = each (next_read read main) (record { it = []; used = used }) xs
