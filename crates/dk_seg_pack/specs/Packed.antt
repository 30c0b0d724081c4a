-- The bodies of segments whose values are numbers of few bits above the least one.
use Rattle.std.specs.Prelude.{ℕ, ℤ, pos, negsuc, ◌+◌, ◌-◌, ◌*◌, ◌<◌, ◌^◌, ◌%◌, Bool, true, false, ◌&&◌, ◌||◌, not, min, max, fold, map, List, [], ◌∷◌, ◌++◌, length, Option, Some, None, Result, Ok, Err, ◌==◌, nat_lt, nat_le, if◌then◌else◌}
use Rattle.std.specs.List.{AllByRecursion, list_any}
use Rattle.std.specs.Int.{w8, w64, to_le_bytes}
use Rattle.dk_values.specs.declared.value.ColType.{ColType}
use Rattle.dk_values.specs.declared.value.ColType.TheVariants as types
use Rattle.dk_values.specs.declared.value.Value.{Value}
use Rattle.dk_values.specs.declared.value.Value.TheVariants as values
use Rattle.dk_bytes.specs.Fields.{Place, bytes_at, number_at}
use Rattle.dk_bytes.specs.PlainValue.{IsPlain, bit_byte}
use Rattle.dk_bytes.specs.Reading.{◌>>=◌, start, whole, or_fault}
use Rattle.dk_bytes.specs.Bits.{bit_width, byte_count, packed, numbers_in}
use Rattle.dk_seg_body.specs.Grammar.{Grammar}

-- how far a number stands above the least one of 64 bits
abbrev pub rank : ℤ → ℕ
rank (pos n) = 2 ^ 63 + n
rank (negsuc n) = 2 ^ 63 - 1 - n

-- the number that stands so far above it
abbrev pub number_of_rank : ℕ → ℤ
number_of_rank r = if nat_lt r (2 ^ 63) then negsuc (2 ^ 63 - 1 - r) else pos (r - 2 ^ 63)

-- a truth value counts as 0 or 1
abbrev pub rank_of : Value → ℕ
rank_of (values.Bool b) = 2 ^ 63 + bit_byte b
rank_of (values.Int n) = rank n
rank_of (values.Big n) = rank n
rank_of value = 0

-- the value of the type whose number has that rank
abbrev pub value_of_rank : ColType → ℕ → Option Value
value_of_rank types.Bool r = if r == 2 ^ 63 then Some (values.Bool false)
    else (if r == 2 ^ 63 + 1 then Some (values.Bool true) else None)
value_of_rank types.Int r = if nat_le (2 ^ 63 - 2 ^ 31) r
    && nat_lt r (2 ^ 63 + 2 ^ 31) then Some (values.Int (number_of_rank r)) else None
value_of_rank types.Big r = if nat_lt r (2 ^ 64) then Some (values.Big (number_of_rank r)) else None
value_of_rank types.Text r = None

-- two's complement in 64 bits of the number of that rank, and back
abbrev pub half_turned : ℕ → ℕ
half_turned r = (r + 2 ^ 63) % 2 ^ 64

abbrev pub least : List ℕ → ℕ
least ranks = fold min (2 ^ 64 - 1) ranks

abbrev pub greatest : List ℕ → ℕ
greatest ranks = fold max 0 ranks

-- the width of the greatest difference to the least
abbrev pub width_of : List ℕ → ℕ
width_of ranks = bit_width (greatest ranks - least ranks)

abbrev pub differences : List ℕ → List ℕ
differences ranks = map (λ r. r - least ranks) ranks

-- the least number, the width, and the differences
abbrev pub fields : ℕ → ℕ → List ℕ → List ℕ
fields base width differences = to_le_bytes w64 (half_turned base) ++ (width ∷ packed width differences)

abbrev pub body_of : List ℕ → List ℕ
body_of ranks = fields (least ranks) (width_of ranks) (differences ranks)

abbrev pub packed_bytes : List Value → List ℕ
packed_bytes values = body_of (map rank_of values)

abbrev pub IsNumeric : ColType → Type 0
IsNumeric types.Text = ⊥
IsNumeric kind = Unit {0}

-- at least one value, and all are numbers of the type
pub record IsPacked (kind : ColType) (values : List Value) : Type 0 where
  pub numeric : IsNumeric kind
  pub some : 0 < length values
  pub plain : AllByRecursion (IsPlain kind) values

abbrev pub with_value : Option Value → Option (List Value) → Option (List Value)
with_value None values = None
with_value (Some value) None = None
with_value (Some value) (Some values) = Some (value ∷ values)

-- the values so far above that rank, if all are of the type
abbrev pub values_above : ColType → ℕ → List ℕ → Option (List Value)
values_above kind base [] = Some []
values_above kind base (d ∷ ds) = with_value (value_of_rank kind (base + d)) (values_above kind base ds)

-- the least one occurs, the width is the least that holds the greatest difference, and all values are of the type
abbrev pub values_of : ColType → ℕ → ℕ → Option (List ℕ) → Option (List Value)
values_of kind base width None = None
values_of kind base width (Some ds) =
    if list_any (λ d. d == 0) ds && (bit_width (greatest ds) == width) then values_above kind base ds else None

-- the differences and what follows them; every fault of theirs is charged to their first byte
unfoldable pub differences_at : ColType → ℕ → ℕ → ℕ → Place → Result (List Value × Place) ℕ
differences_at kind count base width place = do
  bytes ← bytes_at (byte_count (width * count)) place
  values ← or_fault place.at (values_of kind base width (numbers_in width count bytes.0))
  Ok (values, bytes.1)

-- the least number, the width and the differences
unfoldable pub numbers_at : ColType → ℕ → Place → Result (List Value × Place) ℕ
numbers_at kind count place = do
  base ← number_at w64 place
  width ← number_at w8 base.1
  fitting ← if nat_lt 64 width.0 then Err base.1.at else Ok width
  differences_at kind count (half_turned base.0) fitting.0 fitting.1

abbrev pub is_numeric : ColType → Bool
is_numeric types.Text = false
is_numeric kind = true

-- so many values that a body stands for, or its first fault; no body has no values or texts
unfoldable pub packed_at : ColType → ℕ → List ℕ → Result (List Value) ℕ
packed_at kind count bytes =
    if (count == 0) || not (is_numeric kind) then Err 0 else whole (numbers_at kind count (start bytes))

abbrev pub packed_grammar : Grammar
packed_grammar = record { Is = IsPacked; spell = packed_bytes; at = packed_at }
