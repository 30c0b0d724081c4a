-- The extreme of a list by an order: an element that all others do not beat.
use Rattle.std.specs.Prelude.{◌≡◌, ℕ, ℤ, negsuc, ◌-ℤ◌, Bool, false, cond, List, [], ◌∷◌, Option, Some, None}
use Rattle.std.specs.List.{All, Contains, best_of}
use Rattle.std.specs.Int.{int_min}
use Rattle.std.specs.Ordering.{nat_cmp, is_lt}
use Rattle.std.specs.Cmp.Lexicographic.{slice_cmp}
use Rattle.dk_scans.specs.declared.extremes.Extreme.{Extreme}
use Rattle.dk_scans.specs.declared.extremes.Extreme.TheVariants as extremes

-- the first goes before the second: it is less where the least is asked for, else greater
abbrev pub beats : {T : Type 0} → (T → T → Bool) → Extreme → T → T → Bool
beats less extremes.Least x y = less x y
beats less extremes.Greatest x y = less y x

-- by bytes: the first that differs decides, and the front of a text is less than the text
abbrev pub text_less : List ℕ → List ℕ → Bool
text_less x y = is_lt (slice_cmp nat_cmp x y)

-- the best of all items, each of which may take the place of the best before it
abbrev pub extreme_of : {T : Type 0} → (T → T → Bool) → List T → Option T
extreme_of goes_before [] = None
extreme_of goes_before (item ∷ items) = Some (best_of goes_before item items)

-- an item that none goes before, if there are any items
abbrev pub IsExtreme : {T : Type 0} → (T → T → Bool) → List T → Option T → Type 0
IsExtreme goes_before items None = items ≡ []
IsExtreme goes_before items (Some best) = Contains items best × All (λ item. goes_before item best ≡ false) items

-- the better of two, if there are any
abbrev pub better : {T : Type 0} → (T → T → Bool) → Option T → Option T → Option T
better goes_before None item = item
better goes_before (Some best) None = Some best
better goes_before (Some best) (Some item) = Some (cond (goes_before item best) item best)

abbrev pub first : {T : Type 0} → List T → Option T
first [] = None
first (item ∷ items) = Some item

-- a number that is the lower, the nearer a number is to the extreme
abbrev pub number_key : Extreme → ℤ → ℤ
number_key extremes.Least number = number
number_key extremes.Greatest number = negsuc 0 -ℤ number

-- the lower of a key and the key of a number
abbrev pub lower_key : Extreme → ℤ → ℤ → ℤ
lower_key extreme lowest number = int_min lowest (number_key extreme number)
