-- Rows that may be missing, kept as columns and flags.
use Rattle.std.specs.Prelude.{◌≡◌, ◌⊎◌, ◌≤◌, ◌<◌, ℕ, zero, suc, Bool, List, [], ◌∷◌, ◌++◌, length, map, get_or, slice_get, slice_set, take, Option, Some, None, ⊤}
use Rattle.std.specs.List.{All}
use Rattle.dk_values.specs.declared.value.ColType.{ColType}
use Rattle.dk_values.specs.declared.value.Value.{Value}
use Rattle.dk_values.specs.declared.value.Value.TheVariants as values
use Rattle.dk_columns.specs.Options.{option_if}
use Rattle.dk_columns.specs.Columns.{Column, IsOfKind, with_front}

-- rows that may be missing: the types of their columns, and the rows
pub record OptionTable : Type 0 where
  pub kinds : List ColType
  pub rows : List (Option (List Value))

-- a row has a value for each column, and it is of the column's type
abbrev pub FitsKinds : List ColType → List Value → Type 0
FitsKinds [] [] = ⊤
FitsKinds [] (value ∷ row) = ⊥
FitsKinds (kind ∷ kinds) [] = ⊥
FitsKinds (kind ∷ kinds) (value ∷ row) = IsOfKind kind value × FitsKinds kinds row

-- a row that fits, or none
abbrev pub FitsIfThere : List ColType → Option (List Value) → Type 0
FitsIfThere kinds None = ⊤
FitsIfThere kinds (Some row) = FitsKinds kinds row

-- a row more at the end
abbrev pub with_row : Option (List Value) → OptionTable → OptionTable
with_row row table = record { kinds = table.kinds; rows = table.rows ++ row ∷ [] }

-- rows more at the end
abbrev pub with_rows : List (Option (List Value)) → OptionTable → OptionTable
with_rows rows table = record { kinds = table.kinds; rows = table.rows ++ rows }

-- another row at a place
abbrev pub with_row_set : ℕ → Option (List Value) → OptionTable → OptionTable
with_row_set i row table = record { kinds = table.kinds; rows = slice_set table.rows i row }

-- the first n rows
abbrev pub with_rows_front : ℕ → OptionTable → OptionTable
with_rows_front n table = record { kinds = table.kinds; rows = take n table.rows }

-- as before, or without the i-th row
abbrev pub IsKeptOrMissing : ℕ → OptionTable → OptionTable → Type 0
IsKeptOrMissing i old new = (new ≡ old) ⊎ (new ≡ with_row_set i None old)

-- the i-th value of each column
abbrev pub row_at : ℕ → List Column → List Value
row_at i [] = []
row_at i (column ∷ columns) = get_or column.values i values.Null ∷ row_at i columns

-- the rows from the i-th on, one for each flag
abbrev pub rows_from : ℕ → List Bool → List Column → List (Option (List Value))
rows_from i [] columns = []
rows_from i (b ∷ bs) columns = option_if b (row_at i columns) ∷ rows_from (suc i) bs columns

abbrev pub kinds_of : List Column → List ColType
kinds_of columns = map (λ column. column.kind) columns

-- the rows that flags and columns stand for
abbrev pub table_of : List Bool → List Column → OptionTable
table_of present columns = record { kinds = kinds_of columns; rows = rows_from 0 present columns }

-- a column has n values at least, all of its type
pub record IsLong (n : ℕ) (column : Column) : Type 0 where
  pub long : n ≤ length column.values
  pub kinds : All (IsOfKind column.kind) column.values

-- each column has n values at least, all of its type
abbrev pub AreLong : ℕ → List Column → Type 0
AreLong n [] = ⊤
AreLong n (column ∷ columns) = IsLong n column × AreLong n columns

-- values with another one at a place, or behind them
abbrev pub put_at : ℕ → Value → List Value → List Value
put_at zero value [] = value ∷ []
put_at zero value (v ∷ vs) = value ∷ vs
put_at (suc i) value [] = value ∷ []
put_at (suc i) value (v ∷ vs) = v ∷ put_at i value vs

abbrev pub with_put : ℕ → Value → Column → Column
with_put i value column = record { kind = column.kind; values = put_at i value column.values }

-- each column with the value of a row at a place, as far as the row goes
abbrev pub with_row_put : ℕ → List Value → List Column → List Column
with_row_put i [] columns = columns
with_row_put i (value ∷ row) [] = []
with_row_put i (value ∷ row) (column ∷ columns) = with_put i value column ∷ with_row_put i row columns

-- the first columns with the values of a row at a place
pub record IsFrontPut (i : ℕ) (row : List Value) (old new : List Column) : Type 0 where
  pub count : ℕ
  pub put : new ≡ with_row_put i (take count row) old

-- the value is of the j-th type
abbrev pub IsKindAt : ℕ → List ColType → Value → Type 0
IsKindAt j [] value = ⊥
IsKindAt zero (kind ∷ kinds) value = IsOfKind kind value
IsKindAt (suc j) (kind ∷ kinds) value = IsKindAt j kinds value

-- the j-th column with a value at a place
abbrev pub with_cell_put : ℕ → ℕ → Value → List Column → List Column
with_cell_put j i value [] = []
with_cell_put zero i value (column ∷ columns) = with_put i value column ∷ columns
with_cell_put (suc j) i value (column ∷ columns) = column ∷ with_cell_put j i value columns

-- the i-th row of others stands at the end
abbrev pub IsNext : ℕ → List (Option (List Value)) → OptionTable → OptionTable → Type 0
IsNext i rows old new = (row : Option (List Value)) × (slice_get rows i ≡ Some row) × (new ≡ with_row row old)

-- a column without values
abbrev pub empty_column : ColType → Column
empty_column kind = record { kind = kind; values = [] }

-- a column as before, or cut behind its first n values
abbrev pub IsCut : ℕ → Column → Column → Type 0
IsCut n old new = (new ≡ old) ⊎ (new ≡ with_front n old)

-- columns of the same types that have the same first n rows
pub record SameFront (n : ℕ) (old new : List Column) : Type 0 where
  pub kinds : kinds_of new ≡ kinds_of old
  pub long : AreLong n new
  pub rows : (k : ℕ) → k < n → row_at k new ≡ row_at k old
