-- Numbers as the values of a type of truth or numbers.
use Rattle.std.specs.Prelude.{ℕ, ℤ, List, Some, map}
use Rattle.std.specs.List.{AllByRecursion}
use Rattle.dk_values.specs.declared.value.ColType.{ColType}
use Rattle.dk_values.specs.declared.value.ColType.TheVariants as types
use Rattle.dk_values.specs.declared.value.Value.{Value}
use Rattle.dk_columns.specs.Stored.{IsNumber, number_value}

-- a number that stands for a value of the type
abbrev pub StandsFor : ColType → ℤ → Type 0
StandsFor kind number = IsNumber kind (Some number)

-- numbers that stand for values of the type
abbrev pub AllStandFor : ColType → List ℤ → Type 0
AllStandFor kind numbers = AllByRecursion (StandsFor kind) numbers

-- the value that a number stands for
abbrev pub value_for : ColType → ℤ → Value
value_for kind number = number_value kind (Some number)

-- the values that numbers stand for
abbrev pub values_for : ColType → List ℤ → List Value
values_for kind numbers = map (value_for kind) numbers

-- how many bytes each value of the type has; texts have no such length
abbrev pub number_len : ColType → ℕ
number_len types.Bool = 1
number_len types.Int = 4
number_len types.Big = 8
number_len types.Text = 0
