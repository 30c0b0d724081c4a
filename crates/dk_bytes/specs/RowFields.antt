-- The fields of a row: its cells.
use Rattle.std.specs.Prelude.{ℕ, List, [], ◌∷◌, Result, Ok, Err, nat_lt, ◌==◌, if◌then◌else◌}
use Rattle.std.specs.List.{flat_map}
use Rattle.std.specs.Int.{w8}
use Rattle.dk_values.specs.declared.column.Column.{Column}
use Rattle.dk_values.specs.declared.value.ColType.{ColType}
use Rattle.dk_values.specs.declared.value.Value.{Value}
use Rattle.dk_values.specs.declared.value.Value.TheVariants as values
use Rattle.dk_bytes.specs.Fields.{Place, number_at}
use Rattle.dk_bytes.specs.PlainValue.{IsPlain, plain_bytes, value_at}
use Rattle.dk_bytes.specs.Reading.{◌>>=◌}

-- null, or a value of the type
abbrev pub IsCell : ColType → Value → Type 0
IsCell kind values.Null = Unit {0}
IsCell kind value = IsPlain kind value

-- 0 for null, or 1 and the plain bytes of the value
abbrev pub cell_bytes : Value → List ℕ
cell_bytes values.Null = 0 ∷ []
cell_bytes value = 1 ∷ plain_bytes value

abbrev pub present_at : ColType → ℕ × Place → Result (Value × Place) ℕ
present_at kind flag = if flag.0 == 0 then Ok (values.Null, flag.1) else value_at kind flag.1

unfoldable pub cell_at : ColType → Place → Result (Value × Place) ℕ
cell_at kind place = do
  n ← number_at w8 place
  flag ← if nat_lt n.0 2 then Ok n else Err place.at
  present_at kind flag

-- one cell per column
abbrev pub IsRow : List Column → List Value → Type 0
IsRow [] [] = Unit {0}
IsRow (column ∷ columns) (value ∷ row) = IsCell column.kind value × IsRow columns row
IsRow columns row = ⊥

-- the cells one behind the other
abbrev pub row_bytes : List Value → List ℕ
row_bytes row = flat_map cell_bytes row

abbrev pub row_at : List Column → Place → Result (List Value × Place) ℕ
row_at [] place = Ok ([], place)
row_at (column ∷ columns) place = do
  value ← cell_at column.kind place
  others ← row_at columns value.1
  Ok (value.0 ∷ others.0, others.1)
