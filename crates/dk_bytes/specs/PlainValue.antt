-- The plain bytes of the values of each type.
use Rattle.std.specs.Prelude.{ℕ, ◌<◌, ◌^◌, Bool, true, false, List, [], ◌∷◌, ◌++◌, length, filter, Result, Ok, Err, FitsSigned, IsUtf8, nat_lt, ◌==◌, if◌then◌else◌}
use Rattle.std.specs.Str.{is_utf8, bytes_eq}
use Rattle.std.specs.Ordering.{int_eq}
use Rattle.std.specs.Int.{w8, w16, w32, w64, to_le_bytes, cast_signed, cast_unsigned}
use Rattle.dk_values.specs.declared.value.ColType.{ColType}
use Rattle.dk_values.specs.declared.value.ColType.TheVariants as types
use Rattle.dk_values.specs.declared.value.Value.{Value}
use Rattle.dk_values.specs.declared.value.Value.TheVariants as values
use Rattle.dk_bytes.specs.Fields.{Place, bytes_at, number_at}
use Rattle.dk_bytes.specs.Reading.{◌>>=◌}

-- a value that a column of the type stores and that is not null
abbrev pub IsPlain : ColType → Value → Type 0
IsPlain types.Bool (values.Bool b) = Unit {0}
IsPlain types.Int (values.Int n) = FitsSigned w32 n
IsPlain types.Big (values.Big n) = FitsSigned w64 n
IsPlain types.Text (values.Text text) = (length text < 2 ^ 16) × IsUtf8 text
IsPlain kind value = ⊥

abbrev pub is_present : Value → Bool
is_present values.Null = false
is_present value = true

-- the values that are not null
abbrev pub present : List Value → List Value
present values = filter is_present values

abbrev pub bit_byte : Bool → ℕ
bit_byte false = 0
bit_byte true = 1

-- whether two values are one
abbrev pub same : Value → Value → Bool
same values.Null values.Null = true
same (values.Bool a) (values.Bool b) = bit_byte a == bit_byte b
same (values.Int m) (values.Int n) = int_eq m n
same (values.Big m) (values.Big n) = int_eq m n
same (values.Text s) (values.Text t) = bytes_eq s t
same (values.Huge m) (values.Huge n) = int_eq m n
same a b = false

-- a byte 0 or 1; two's complement in four or eight bytes; a text behind its length in two bytes
abbrev pub plain_bytes : Value → List ℕ
plain_bytes (values.Bool b) = bit_byte b ∷ []
plain_bytes (values.Int n) = to_le_bytes w32 (cast_unsigned w32 n)
plain_bytes (values.Big n) = to_le_bytes w64 (cast_unsigned w64 n)
plain_bytes (values.Text text) = to_le_bytes w16 (length text) ++ text
plain_bytes value = []

unfoldable pub bool_at : Place → Result (Value × Place) ℕ
bool_at place = do
  n ← number_at w8 place
  if nat_lt n.0 2 then Ok (values.Bool (n.0 == 1), n.1) else Err place.at

unfoldable pub int_at : Place → Result (Value × Place) ℕ
int_at place = do
  n ← number_at w32 place
  Ok (values.Int (cast_signed w32 n.0), n.1)

unfoldable pub big_at : Place → Result (Value × Place) ℕ
big_at place = do
  n ← number_at w64 place
  Ok (values.Big (cast_signed w64 n.0), n.1)

-- the length is one field and the text another
unfoldable pub text_at : Place → Result (Value × Place) ℕ
text_at place = do
  n ← number_at w16 place
  text ← bytes_at n.0 n.1
  if is_utf8 text.0 then Ok (values.Text text.0, text.1) else Err n.1.at

-- the value of the type whose bytes stand next, or the place of the first field that is short or stands for none
abbrev pub value_at : ColType → Place → Result (Value × Place) ℕ
value_at types.Bool place = bool_at place
value_at types.Int place = int_at place
value_at types.Big place = big_at place
value_at types.Text place = text_at place
