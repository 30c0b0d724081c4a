-- An ascending list around a key.
use Rattle.std.specs.Prelude.{ℕ, List, [], ◌∷◌, ◌==◌, nat_lt, if◌then◌else◌}

-- the items in front whose keys are below
abbrev pub below : {T : Type 0} → (T → ℕ) → ℕ → List T → List T
below key bound [] = []
below key bound (item ∷ items) = if nat_lt (key item) bound then item ∷ below key bound items else []

-- the items behind these, without one of that key itself
abbrev pub behind : {T : Type 0} → (T → ℕ) → ℕ → List T → List T
behind key bound [] = []
behind key bound (item ∷ items) =
    if nat_lt (key item) bound then behind key bound items
    else (if bound == key item then items else item ∷ items)
