-- A list cut at ends: how texts lie in one string of bytes, and rows in one list of values.
use Rattle.std.specs.Prelude.{◌≡◌, ℕ, zero, suc, ◌-◌, ◌<◌, ◌≤◌, ◌^◌, List, [], ◌∷◌, length, take, drop}

-- the parts between a place and their ends
abbrev pub parts : {T : Type 0} → ℕ → List T → List ℕ → List (List T)
parts from items [] = []
parts from items (e ∷ ends) = take (e - from) (drop from items) ∷ parts e items ends

-- the ends do not descend, and the last one is that of the items
abbrev pub AreEnds : {T : Type 0} → ℕ → List T → List ℕ → Type 0
AreEnds from items [] = from ≡ length items
AreEnds from items (e ∷ ends) = (from ≤ e) × (e ≤ length items) × AreEnds e items ends

-- where part i begins
abbrev pub start_of : ℕ → ℕ → List ℕ → ℕ
start_of from i [] = from
start_of from zero (e ∷ ends) = from
start_of from (suc i) (e ∷ ends) = start_of e i ends

-- two places in their order within a list
pub record LiesIn (start end len : ℕ) : Type 0 where
  pub order : start ≤ end
  pub within : end ≤ len
  pub fits : end < 2 ^ 64
