-- How the values of a column are kept.
use Rattle.std.specs.Prelude.{◌≡◌, ◌⊎◌, ℕ, ℤ, pos, List, map, Option, Some, None, FitsSigned, ⊤}
use Rattle.std.specs.List.{All}
use Rattle.std.specs.Ordering.{int_eq}
use Rattle.std.specs.Int.{w32, w64}
use Rattle.dk_values.specs.declared.value.ColType.{ColType}
use Rattle.dk_values.specs.declared.value.ColType.TheVariants as types
use Rattle.dk_values.specs.declared.value.Value.{Value}
use Rattle.dk_values.specs.declared.value.Value.TheVariants as values
use Rattle.dk_columns.specs.declared.cells.Storage.{Storage}
use Rattle.dk_columns.specs.declared.cells.Storage.TheVariants as storage
use Rattle.dk_columns.specs.Columns.{Column}

-- the value that a number stands for
abbrev pub number_value : ColType → Option ℤ → Value
number_value kind None = values.Null
number_value types.Bool (Some n) = values.Bool (int_eq n (pos 1))
number_value types.Int (Some n) = values.Int n
number_value types.Big (Some n) = values.Big n
number_value types.Text (Some n) = values.Null

abbrev pub text_value : Option (List ℕ) → Value
text_value None = values.Null
text_value (Some text) = values.Text text

-- a number that stands for a value of the type
abbrev pub IsNumber : ColType → Option ℤ → Type 0
IsNumber kind None = ⊤
IsNumber types.Bool (Some n) = (n ≡ pos 0) ⊎ (n ≡ pos 1)
IsNumber types.Int (Some n) = FitsSigned w32 n
IsNumber types.Big (Some n) = FitsSigned w64 n
IsNumber types.Text (Some n) = ⊥

-- a type whose values are kept as numbers
abbrev pub IsNumeric : ColType → Type 0
IsNumeric types.Bool = ⊤
IsNumeric types.Int = ⊤
IsNumeric types.Big = ⊤
IsNumeric types.Text = ⊥

abbrev pub values_in : ColType → Storage → List Value
values_in kind (storage.Numbers numbers) = map (number_value kind) numbers
values_in kind (storage.Texts texts) = map text_value texts

abbrev pub column : ColType → Storage → Column
column kind stored = record { kind = kind; values = values_in kind stored }

-- each type is kept in its own way
abbrev pub IsStored : ColType → Storage → Type 0
IsStored kind (storage.Numbers numbers) = IsNumeric kind × All (IsNumber kind) numbers
IsStored kind (storage.Texts texts) = kind ≡ types.Text
