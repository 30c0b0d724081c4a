-- Columns of values of one type.
use Rattle.std.specs.Prelude.{ℕ, ℤ, pos, Bool, true, false, List, [], ◌∷◌, ◌++◌, take, slice_set, ⊤}
use Rattle.dk_values.specs.declared.value.ColType.{ColType}
use Rattle.dk_values.specs.declared.value.ColType.TheVariants as types
use Rattle.dk_values.specs.declared.value.Value.{Value}
use Rattle.dk_values.specs.declared.value.Value.TheVariants as values

-- a column: the type of its values, and the values
pub record Column : Type 0 where
  pub kind : ColType
  pub values : List Value

-- a value that a column of the type may have
abbrev pub IsOfKind : ColType → Value → Type 0
IsOfKind kind values.Null = ⊤
IsOfKind types.Bool (values.Bool truth) = ⊤
IsOfKind types.Int (values.Int number) = ⊤
IsOfKind types.Big (values.Big number) = ⊤
IsOfKind types.Text (values.Text text) = ⊤
IsOfKind kind value = ⊥

-- a column of the type without values
abbrev pub no_values : ColType → Column
no_values kind = record { kind = kind; values = [] }

-- a value more at the end
abbrev pub with_value : Value → Column → Column
with_value value column = record { kind = column.kind; values = column.values ++ value ∷ [] }

-- values more at the end
abbrev pub with_values : List Value → Column → Column
with_values values column = record { kind = column.kind; values = column.values ++ values }

-- another value at a place
abbrev pub with_set : ℕ → Value → Column → Column
with_set i value column = record { kind = column.kind; values = slice_set column.values i value }

-- the first n values
abbrev pub with_front : ℕ → Column → Column
with_front n column = record { kind = column.kind; values = take n column.values }

abbrev pub is_present : Value → Bool
is_present values.Null = false
is_present value = true

-- the number of a value: 1 for true, 0 where it has none
abbrev pub number_of : Value → ℤ
number_of (values.Bool true) = pos 1
number_of (values.Int number) = number
number_of (values.Big number) = number
number_of value = pos 0
