-- Flags in words of 64 bits, the least bit first.
use Rattle.std.specs.Prelude.{ℕ, zero, suc, ◌-◌, ◌+◌, ◌*◌, length, slice_get, Some, ◌<◌, ◌≤◌, ◌≡◌, true, ◌/◌, ◌%◌, ◌^◌, ◌==◌, Bool, List, [], ◌∷◌, ◌++◌, get_or}
use Rattle.std.specs.Int.{bit_at}

-- flag i; behind the words all flags are set
abbrev pub flag : List ℕ → ℕ → Bool
flag words i = bit_at (get_or words (i / 64) (2 ^ 64 - 1)) (i % 64) == 1

-- the first n flags
abbrev pub flags : ℕ → List ℕ → List Bool
flags zero words = []
flags (suc n) words = flags n words ++ flag words n ∷ []

-- a word has the flags from the k-th 64 on, as far as there are flags
abbrev pub IsWord : ℕ → ℕ → List Bool → Type 0
IsWord k word all = (j : ℕ) → j < 64 → 64 * k + j < length all → slice_get all (64 * k + j) ≡ Some (bit_at word j == 1)

-- the flags from one to before another are set, and all others stay
pub record Widened (old new : List ℕ) (from to : ℕ) : Type 0 where
  pub here : (j : ℕ) → from ≤ j → j < to → flag new j ≡ true
  pub below : (j : ℕ) → j < from → flag new j ≡ flag old j
  pub behind : (j : ℕ) → to ≤ j → flag new j ≡ flag old j
