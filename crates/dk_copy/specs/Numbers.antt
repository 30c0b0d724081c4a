-- The number that a field spells: `-` at most once and digits.
use Rattle.std.specs.Prelude.{ℕ, ◌+◌, ◌-◌, ◌*◌, ◌^◌, ◌≤◌, ℤ, pos, neg_ℤ, Bool, true, false, ◌&&◌, List, [], ◌∷◌, nat_le, ◌==◌, Option, Some, None, if◌then◌else◌}
use Rattle.std.specs.List.{list_all}

abbrev pub is_digit : ℕ → Bool
is_digit b = nat_le 48 b && nat_le b 57

-- the number that digits spell behind those of n
abbrev pub value_from : ℕ → List ℕ → ℕ
value_from n [] = n
value_from n (d ∷ digits) = value_from (10 * n + (d - 48)) digits

-- the number that bytes spell without a sign: at least one digit, and nothing else
abbrev pub digits_value : List ℕ → Option ℕ
digits_value [] = None
digits_value (d ∷ digits) = if list_all is_digit (d ∷ digits) then Some (value_from 0 (d ∷ digits)) else None

-- a number from -most - 1 to most: with `-` down to the one, without up to the other
abbrev pub signed : ℕ → Bool → Option ℕ → Option ℤ
signed most minus None = None
signed most true (Some n) = if nat_le n (most + 1) then Some (neg_ℤ (pos n)) else None
signed most false (Some n) = if nat_le n most then Some (pos n) else None

-- the number that bytes spell, if it lies from -most - 1 to most
abbrev pub number_in : ℕ → List ℕ → Option ℤ
number_in most [] = None
number_in most (b ∷ bytes) =
    if b == 45 then signed most true (digits_value bytes) else signed most false (digits_value (b ∷ bytes))

-- no number, or one that 64 bits don't hold
abbrev pub IsOver : Option ℕ → Type 0
IsOver None = Unit {0}
IsOver (Some n) = 2 ^ 64 ≤ n
