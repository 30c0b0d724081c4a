-- Rows of a vector written anew.
use Rattle.std.specs.Prelude.{◌≡◌, ◌<◌, ℕ, true, List, map, length, Option, Some, None}
use Rattle.std.specs.List.{All}
use Rattle.dk_values.specs.declared.value.Value.{Value}
use Rattle.dk_columns.specs.OptionTables.{OptionTable}
use Rattle.dk_chain.specs.declared.node.Node.{Node}
use Rattle.dk_chain.specs.Nodes.{nodes_at, old_in}
use Rattle.dk_vector.specs.Stacks.{Stack, updated}
use Rattle.dk_vector.specs.Vectors.{IsRow, all_stand, base_at, or_base}

-- the values of some rows as they were written last
abbrev pub rows_of : OptionTable → List ℕ → List (List Value)
rows_of base rows = map (λ row. base_at row base) rows

abbrev pub AreBelow : ℕ → List ℕ → Type 0
AreBelow count rows = All (λ row. row < count) rows

-- each of some rows has its values of a list, the first ones where it is named twice, and all others stay
pub record IsWritten (offsets : List ℕ) (values : List (List Value)) (old new : OptionTable) : Type 0 where
  pub kinds : new.kinds ≡ old.kinds
  pub count : length new.rows ≡ length old.rows
  pub rows : All (IsRow old.kinds) old.rows → All (IsRow new.kinds) new.rows
  pub each : (row : ℕ) → base_at row new ≡ or_base (base_at row old) (old_in row offsets values)

-- no node that was undone is kept
abbrev pub NoneUndone : List Node → Type 0
NoneUndone nodes = (row : ℕ) → all_stand (nodes_at row nodes) ≡ true

-- an update of a row, if there are values for it
abbrev pub updated_if : ℕ → Option (List Value) → Stack → Stack
updated_if id None stack = stack
updated_if id (Some values) stack = updated id values stack
