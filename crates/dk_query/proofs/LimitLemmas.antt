-- The first lines that a limit lets through.
use Rattle.std.proofs.Common.{◌≡◌, ℕ, List, length, map, take, Option, Some, None, refl, sym, ap, ◌∙◌, arith}
use Rattle.std.proofs.lemmas.List.{take_min, take_all, take-map}
use Rattle.dk_query.specs.Selected.{limited, within_limit}

pub limited_is : {T : Type 0} (limit : Option ℕ) (xs : List T) → take (within_limit limit (length xs)) xs ≡ limited limit xs
limited_is None xs = take_all (length xs) xs (omega arith)
limited_is (Some most) xs = take_min most xs

map_limited : {S T : Type 0} (f : S → T) (limit : Option ℕ) (xs : List S) → map f (limited limit xs) ≡ limited limit (map f xs)
map_limited f None xs = refl
map_limited f (Some most) xs = sym (take-map f most xs)

pub shown_is : {S T : Type 0} (f : S → T) (limit : Option ℕ) (xs : List S)
    → map f (take (within_limit limit (length xs)) xs) ≡ limited limit (map f xs)
shown_is f limit xs = ap (map f) (limited_is limit xs) ∙ map_limited f limit xs
