-- Values as the columns that take them hold them.
use Rattle.std.specs.Prelude.{ℕ, ◌+◌, ◌-◌, ◌^◌, ℤ, pos, negsuc, int_le, ◌&&◌, nat_lt, length, List, [], ◌∷◌, Option, Some, None, Result, Ok, Err, if◌then◌else◌}
use Rattle.std.specs.Str.{is_utf8}
use Rattle.dk_values.specs.declared.column.Column.{Column}
use Rattle.dk_values.specs.declared.value.ColType.{ColType}
use Rattle.dk_values.specs.declared.value.ColType.TheVariants as type
use Rattle.dk_values.specs.declared.value.Value.{Value}
use Rattle.dk_values.specs.declared.value.Value.TheVariants as value
use Rattle.dk_eval.specs.Values.{within}
use Rattle.dk_query.specs.Kept.{behind, both}

-- the value of an INTEGER, if 32 bits hold it
abbrev pub within_integer : ℤ → Option Value
within_integer z =
    if int_le (negsuc (2 ^ 31 - 1)) z && int_le z (pos (2 ^ 31 - 1)) then Some (value.Int z) else None

-- a number as its column holds it
abbrev pub stored_number : ColType → ℤ → Option Value
stored_number type.Int z = within_integer z
stored_number type.Big z = within z
stored_number other z = None

abbrev pub stored_truth : ColType → Value → Option Value
stored_truth type.Bool v = Some v
stored_truth other v = None

-- a text has at most 65,535 bytes, of UTF-8
abbrev pub stored_text : ColType → List ℕ → Option Value
stored_text type.Text bytes = if is_utf8 bytes && nat_lt (length bytes) (2 ^ 16) then Some (value.Text bytes) else None
stored_text other bytes = None

-- what a column of that type holds of a value, if it fits: NULL in every column, a number in the column's width
abbrev pub stored : ColType → Value → Option Value
stored type value.Null = Some value.Null
stored type (value.Bool truth) = stored_truth type (value.Bool truth)
stored type (value.Int n) = stored_number type n
stored type (value.Big n) = stored_number type n
stored type (value.Huge n) = stored_number type n
stored type (value.Text bytes) = stored_text type bytes

-- a row with one value for each column, as they hold it, if each fits
abbrev pub stored_row : List Column → List Value → Option (List Value)
stored_row [] [] = Some []
stored_row (column ∷ columns) (v ∷ row) = both (stored column.kind v) (stored_row columns row)
stored_row columns row = None

-- a row before what comes of the rows behind it
abbrev pub with_row : Option (List Value) → ℕ → Result (List (List Value)) ℕ → Result (List (List Value)) ℕ
with_row None n others = Err n
with_row (Some row) n others = behind (row ∷ []) others

-- rows as the columns hold them, or the first that doesn't fit, counted on from this number
abbrev pub stored_rows : List Column → ℕ → List (List Value) → Result (List (List Value)) ℕ
stored_rows columns n [] = Ok []
stored_rows columns n (row ∷ rows) = with_row (stored_row columns row) n (stored_rows columns (n + 1) rows)
