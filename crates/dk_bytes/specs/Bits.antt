-- Numbers of one width in a string of bytes: number i stands in bits w i to w i + w - 1, the least bit first.
use Rattle.std.specs.Prelude.{◌≡◌, ℕ, ◌+◌, ◌-◌, ◌*◌, ◌/◌, ◌%◌, ◌^◌, ◌==◌, List, ◌∷◌, ◌++◌, length, Option, Some, None, if◌then◌else◌}
use Rattle.std.specs.Int.{w64, leading_zeros}
use Rattle.std.specs.Simd.Lanes.{number_l, digits_l}

-- bits that wait for their word, as a number, and how many they are
pub record Pending : Type 0 where
  pub number : ℕ
  pub count : ℕ

-- the least width of a number
unfoldable pub bit_width : ℕ → ℕ
bit_width n = 64 - leading_zeros w64 n

-- how many bytes hold that many bits
abbrev pub byte_count : ℕ → ℕ
byte_count bits = (bits + 7) / 8

-- the bytes of the pending bits and, behind them, of numbers of that width; the last byte is filled with zeros
abbrev pub packed_behind : ℕ → ℕ → ℕ → List ℕ → List ℕ
packed_behind pending count width numbers =
    digits_l 256 (byte_count (count + width * length numbers)) (pending + 2 ^ count * number_l (2 ^ width) numbers)

-- a number of that width was put behind the pending bits, where some bytes were appended: whatever numbers are to come
abbrev pub PutsBehind : List ℕ → List ℕ → Pending → Pending → ℕ → ℕ → Type 0
PutsBehind out out' pending pending' width number =
    (numbers : List ℕ) → out' ++ packed_behind pending'.number pending'.count width numbers
    ≡ out ++ packed_behind pending.number pending.count width (number ∷ numbers)

-- the bytes of numbers of that width: the number that they make as digits, the first the lowest, as digits to the
-- base 256
abbrev pub packed : ℕ → List ℕ → List ℕ
packed width numbers = digits_l 256 (byte_count (width * length numbers)) (number_l (2 ^ width) numbers)

-- the first n numbers of that width in a string of bytes
abbrev pub unpacked : ℕ → ℕ → List ℕ → List ℕ
unpacked width n bytes = digits_l (2 ^ width) n (number_l 256 bytes)

-- number i of that width in a string of bytes
abbrev pub number_in : ℕ → ℕ → List ℕ → ℕ
number_in width i bytes = number_l 256 bytes / 2 ^ (width * i) % 2 ^ width

-- those numbers, where no bit behind them is 1
abbrev pub numbers_in : ℕ → ℕ → List ℕ → Option (List ℕ)
numbers_in width n bytes = if number_l 256 bytes / 2 ^ (width * n) == 0 then Some (unpacked width n bytes) else None
