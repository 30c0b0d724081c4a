-- Which bytes are a segment, and of which values.
use Rattle.std.specs.Prelude.{◌≡◌, ℕ, ◌+◌, ◌*◌, ◌≤◌, ◌&&◌, ◌||◌, List, [], ◌∷◌, ◌++◌, length, map, count_by, Option, Some, None, Result, Ok, Err, ◌==◌, nat_lt, nat_le, if◌then◌else◌}
use Rattle.dk_bytes.specs.RowFields.{IsCell}
use Rattle.std.specs.List.{AllByRecursion, list_all, list_any}
use Rattle.std.specs.Int.{w8, w32, to_le_bytes}
use Rattle.dk_values.specs.declared.value.ColType.{ColType}
use Rattle.dk_values.specs.declared.value.Value.{Value}
use Rattle.dk_values.specs.declared.value.Value.TheVariants as cell
use Rattle.dk_bytes.specs.Fields.{Place, bytes_at, number_at}
use Rattle.dk_bytes.specs.PlainValue.{is_present, present}
use Rattle.dk_bytes.specs.Reading.{◌>>=◌, start, or_fault}
use Rattle.dk_bytes.specs.Bits.{byte_count, packed, numbers_in}
use Rattle.dk_segment.specs.declared.encoding.Encoding.{Encoding}
use Rattle.dk_segment.specs.declared.present.TheConstants.{MAX_VALUES}
use Rattle.dk_segment.specs.Bodies.{Holds, body_of, body_at, code_of, encoding_of, is_plain}

-- ---- values with nulls among them

-- what a segment can hold: 1 to 2,048 values, each null or of the type
pub record IsColumn (kind : ColType) (values : List Value) : Type 0 where
  pub some : 1 ≤ length values
  pub few : length values ≤ MAX_VALUES
  pub cells : AllByRecursion (IsCell kind) values

-- bit i of the mask: 1 where value i is present
abbrev pub flag_of : Value → ℕ
flag_of value = if is_present value then 1 else 0

abbrev pub flags_of : List Value → List ℕ
flags_of values = map flag_of values

-- how many are present
abbrev pub ones : List ℕ → ℕ
ones flags = count_by (λ flag. flag == 1) flags

abbrev pub placed : List Value → (List Value → List Value) → List Value
placed [] others = cell.Null ∷ others []
placed (value ∷ values) others = value ∷ others values

-- the present values at their places, and nulls between them
abbrev pub with_nulls : List ℕ → List Value → List Value
with_nulls [] values = []
with_nulls (flag ∷ flags) values = if flag == 1 then placed values (with_nulls flags)
    else cell.Null ∷ with_nulls flags values

-- the value that a flag stands for, if these are the present values from its place on
abbrev pub cell_if : ℕ → List Value → Value
cell_if flag [] = cell.Null
cell_if flag (value ∷ values) = if flag == 1 then value else cell.Null

-- how many present values a flag stands for
abbrev pub step_of : ℕ → ℕ
step_of flag = if flag == 1 then 1 else 0

-- ---- the bytes

abbrev pub mask_flag : List Value → ℕ
mask_flag values = if list_all is_present values then 0 else 1

abbrev pub mask_bytes : List Value → List ℕ
mask_bytes values = if list_all is_present values then [] else packed 1 (flags_of values)

-- the encoding, whether a mask follows, the number of values, the mask, and the body of the present values
abbrev pub segment_bytes : Encoding → List Value → List ℕ
segment_bytes encoding values =
    code_of encoding ∷ mask_flag values
    ∷ (to_le_bytes w32 (length values) ++ (mask_bytes values ++ body_of encoding (present values)))

-- the bytes are a segment of the type, and stand for these values
pub record IsSegment (kind : ColType) (encoding : Encoding) (values : List Value) (bytes : List ℕ) : Type 0 where
  pub some : 1 ≤ length values
  pub few : length values ≤ MAX_VALUES
  pub holds : Holds encoding kind (present values)
  pub spelled : bytes ≡ segment_bytes encoding values

-- ---- reading, up to the first fault

unfoldable pub encoding_at : ColType → Place → Result (Encoding × Place) ℕ
encoding_at kind place = do
  code ← number_at w8 place
  encoding ← or_fault place.at (encoding_of kind code.0)
  Ok (encoding, code.1)

unfoldable pub flag_at : Place → Result (ℕ × Place) ℕ
flag_at place = do
  flag ← number_at w8 place
  if nat_lt flag.0 2 then Ok flag else Err place.at

unfoldable pub count_at : Place → Result (ℕ × Place) ℕ
count_at place = do
  count ← number_at w32 place
  if nat_le 1 count.0 && nat_le count.0 MAX_VALUES then Ok count else Err place.at

-- a mask has a null, and a present value unless the encoding is plain
abbrev pub mask_of : Encoding → Option (List ℕ) → Option (List ℕ)
mask_of encoding None = None
mask_of encoding (Some flags) = if list_any (λ flag. flag == 0) flags
    && (is_plain encoding || list_any (λ flag. flag == 1) flags) then Some flags else None

unfoldable pub flags_at : Encoding → ℕ → Place → Result (List ℕ × Place) ℕ
flags_at encoding count place = do
  bytes ← bytes_at (byte_count (1 * count)) place
  flags ← or_fault place.at (mask_of encoding (numbers_in 1 count bytes.0))
  Ok (flags, bytes.1)

-- a reading that begins so many bytes behind the start
abbrev pub moved : {A : Type 0} → ℕ → Result A ℕ → Result A ℕ
moved n (Ok x) = Ok x
moved n (Err at) = Err (n + at)

unfoldable pub masked_at : Encoding → ColType → ℕ → Place → Result (List Value) ℕ
masked_at encoding kind count place = do
  flags ← flags_at encoding count place
  values ← moved flags.1.at (body_at encoding kind (ones flags.0) flags.1.rest)
  Ok (with_nulls flags.0 values)

abbrev pub values_at : Encoding → ColType → ℕ → ℕ × Place → Result (List Value) ℕ
values_at encoding kind flag count =
    if flag == 0 then moved count.1.at (body_at encoding kind count.0 count.1.rest)
    else masked_at encoding kind count.0 count.1

-- the values that the bytes stand for as a segment of the type, or the place of the first fault
unfoldable pub segment_at : ColType → List ℕ → Result (List Value) ℕ
segment_at kind bytes = do
  encoding ← encoding_at kind (start bytes)
  flag ← flag_at encoding.1
  count ← count_at flag.1
  values_at encoding.0 kind flag.0 count
