-- The fields of a table's columns: names, types, and lists of columns.
use Rattle.std.specs.Prelude.{◌≡◌, ℕ, Bool, true, ◌&&◌, List, [], ◌++◌, length, Option, Some, None, Result, Ok, Err, nat_lt, nat_le, ◌==◌, if◌then◌else◌}
use Rattle.std.specs.List.{flat_map}
use Rattle.std.specs.Int.{w8, w16, to_le_bytes}
use Rattle.dk_values.specs.Names.{is_name}
use Rattle.dk_values.specs.Columns.{is_among}
use Rattle.dk_values.specs.declared.column.TheConstants.{MAX_COLUMNS, MAX_NAME}
use Rattle.dk_values.specs.declared.column.Column.{Column}
use Rattle.dk_values.specs.declared.value.ColType.{ColType}
use Rattle.dk_values.specs.declared.value.ColType.TheVariants as types
use Rattle.dk_bytes.specs.Fields.{Place, bytes_at, number_at}
use Rattle.dk_bytes.specs.Reading.{◌>>=◌, or_fault, list_at}

abbrev pub IsName : List ℕ → Type 0
IsName name = is_name name ≡ true

-- a length of 1 to 63 in one byte, and that many bytes
abbrev pub name_bytes : List ℕ → List ℕ
name_bytes name = to_le_bytes w8 (length name) ++ name

-- the length is one field and the bytes another
unfoldable pub name_at : Place → Result (List ℕ × Place) ℕ
name_at place = do
  n ← number_at w8 place
  len ← if nat_lt 0 n.0 && nat_le n.0 MAX_NAME then Ok n else Err place.at
  bytes_at len.0 len.1

abbrev pub type_byte : ColType → ℕ
type_byte types.Bool = 0
type_byte types.Int = 1
type_byte types.Big = 2
type_byte types.Text = 3

-- each type has its byte
abbrev pub IsType : ColType → Type 0
IsType kind = Unit {0}

abbrev pub type_bytes : ColType → List ℕ
type_bytes kind = to_le_bytes w8 (type_byte kind)

-- the type that a byte names
abbrev pub type_of : ℕ → Option ColType
type_of n =
    if n == 0 then Some types.Bool
    else (if n == 1 then Some types.Int
    else (if n == 2 then Some types.Big
    else (if n == 3 then Some types.Text else None)))

unfoldable pub type_at : Place → Result (ColType × Place) ℕ
type_at place = do
  n ← number_at w8 place
  kind ← or_fault place.at (type_of n.0)
  Ok (kind, n.1)

abbrev pub IsColumn : Column → Type 0
IsColumn column = IsName column.name

-- the type and the name
abbrev pub column_bytes : Column → List ℕ
column_bytes column = type_bytes column.kind ++ name_bytes column.name

-- the columns one behind the other
abbrev pub each_column : List Column → List ℕ
each_column columns = flat_map column_bytes columns

-- their number in two bytes, and the columns
abbrev pub columns_bytes : List Column → List ℕ
columns_bytes columns = to_le_bytes w16 (length columns) ++ each_column columns

-- the column that stands next, behind these; a name that stands earlier is charged to its own first byte
unfoldable pub column_at : List Column → Place → Result (Column × Place) ℕ
column_at earlier place = do
  kind ← type_at place
  name ← name_at kind.1
  if is_among earlier name.0 then Err kind.1.at else Ok (record { name = name.0; kind = kind.0 }, name.1)

-- a table has at least one column and at most 64
abbrev pub is_column_count : ℕ → Bool
is_column_count n = nat_lt 0 n && nat_le n MAX_COLUMNS

unfoldable pub columns_at : Place → Result (List Column × Place) ℕ
columns_at place = do
  n ← number_at w16 place
  count ← if is_column_count n.0 then Ok n else Err place.at
  list_at column_at count.0 [] count.1
