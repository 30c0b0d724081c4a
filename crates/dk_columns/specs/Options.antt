-- Items that may be missing, as items with flags.
use Rattle.std.specs.Prelude.{◌≡◌, ℤ, pos, Bool, true, false, List, [], ◌∷◌, Option, Some, None, ⊤}

abbrev pub option_if : {T : Type 0} → Bool → T → Option T
option_if true item = Some item
option_if false item = None

-- each item, where its flag is set
abbrev pub options : {T : Type 0} → List Bool → List T → List (Option T)
options [] items = []
options (b ∷ bs) [] = []
options (b ∷ bs) (item ∷ items) = option_if b item ∷ options bs items

-- 0 stands where no number is there
abbrev pub Stands : Bool → ℤ → Type 0
Stands true n = ⊤
Stands false n = n ≡ pos 0

-- as many flags as numbers, and 0 where a flag is not set
abbrev pub AllStand : List Bool → List ℤ → Type 0
AllStand [] [] = ⊤
AllStand [] (n ∷ ns) = ⊥
AllStand (b ∷ bs) [] = ⊥
AllStand (b ∷ bs) (n ∷ ns) = Stands b n × AllStand bs ns

abbrev pub number_or_zero : Option ℤ → ℤ
number_or_zero None = pos 0
number_or_zero (Some n) = n
