-- A sort that keeps the order of those that tie.
use Rattle.std.specs.Prelude.{Bool, List, [], ◌∷◌, if◌then◌else◌}

-- one goes in before the first that isn't below it
abbrev pub put_in : {T : Type 0} → (T → T → Bool) → T → List T → List T
put_in below x [] = x ∷ []
put_in below x (y ∷ ys) = if below y x then y ∷ put_in below x ys else x ∷ y ∷ ys

-- all in ascending order, those that tie in the order that they had
abbrev pub sorted : {T : Type 0} → (T → T → Bool) → List T → List T
sorted below [] = []
sorted below (x ∷ xs) = put_in below x (sorted below xs)
