-- The rows of one vector with their versions, as they are kept and as stacks.
use Rattle.std.specs.Prelude.{◌≡◌, ℕ, Bool, true, not, ◌||◌, ◌==◌, List, [], ◌∷◌, Option, Some, None, slice_get, if◌then◌else◌, length, ◌<◌, ◌≢◌}
use Rattle.std.specs.List.{filter, list_all, list_any, All}
use Rattle.dk_values.specs.declared.value.ColType.{ColType}
use Rattle.dk_values.specs.declared.value.Value.{Value}
use Rattle.dk_columns.specs.OptionTables.{OptionTable, FitsKinds}
use Rattle.dk_stamp.specs.declared.snapshot.TheConstants.{NEVER}
use Rattle.dk_chain.specs.declared.node.Node.{Node}
use Rattle.dk_chain.specs.Nodes.{RowNode, nodes_at, put_back, row_has_stamp}
use Rattle.dk_version.specs.declared.stamps.Stamp.{Stamp}
use Rattle.dk_version.specs.Rows.{VectorStamps, with_deleted}
use Rattle.dk_vector.specs.Stacks.{Stack, absent, is_there, blocker}
use Rattle.dk_vector.specs.declared.vector.Blocked.{Blocked}

-- the rows as they were written last, the nodes, oldest first, those that were undone among them, and the stamps
pub record VectorRows : Type 0 where
  pub base : OptionTable
  pub nodes : List Node
  pub stamps : VectorStamps

abbrev pub vector_of : OptionTable → List Node → VectorStamps → VectorRows
vector_of base nodes stamps = record { base = base; nodes = nodes; stamps = stamps }

-- a node with this stamp was not undone
abbrev pub stands : ℕ → Bool
stands stamp = not (stamp == NEVER)

abbrev pub standing : List RowNode → List RowNode
standing nodes = filter (λ node. stands node.stamp) nodes

abbrev pub all_stand : List RowNode → Bool
all_stand nodes = list_all (λ node. stands node.stamp) nodes

-- on each row those that were undone are the newest
abbrev pub undone_first : List RowNode → Bool
undone_first [] = true
undone_first (node ∷ older) = if stands node.stamp then all_stand older else undone_first older

abbrev pub UndoneFirst : List Node → Type 0
UndoneFirst nodes = (row : ℕ) → undone_first (nodes_at row nodes) ≡ true

-- a row that is there, with a value of each column's type
abbrev pub IsRow : List ColType → Option (List Value) → Type 0
IsRow kinds None = ⊥
IsRow kinds (Some values) = FitsKinds kinds values

-- a change of some of the first rows, with the values that each had before
pub record IsNodeOf (kinds : List ColType) (count : ℕ) (node : Node) : Type 0 where
  pub even : length node.old ≡ length node.offsets.items
  pub below : All (λ row. row < count) node.offsets.items
  pub fits : All (FitsKinds kinds) node.old

-- each row has values and stamps, the nodes fit the rows, and those that were undone are the newest
pub record IsVector (base : OptionTable) (chain : List Node) (stamps : VectorStamps) : Type 0 where
  pub even : length base.rows ≡ length stamps.rows
  pub rows : All (IsRow base.kinds) base.rows
  pub nodes : All (IsNodeOf base.kinds (length base.rows)) chain
  pub first : UndoneFirst chain

abbrev pub values_or_none : Option (Option (List Value)) → List Value
values_or_none None = []
values_or_none (Some None) = []
values_or_none (Some (Some values)) = values

-- the values of a row as they were written last
abbrev pub base_at : ℕ → OptionTable → List Value
base_at row base = values_or_none (slice_get base.rows row)

-- a row by its stamps: a spare one is not there; what was undone is put back
abbrev pub stack_of : Stamp → List Value → List RowNode → Stack
stack_of stamp base nodes = if stamp.inserted == NEVER then absent else record {
  base = put_back stands base nodes;
  nodes = standing nodes;
  inserted = stamp.inserted;
  deleted = stamp.deleted;
}

abbrev pub stack_if : Option Stamp → List Value → List RowNode → Stack
stack_if None base nodes = absent
stack_if (Some stamp) base nodes = stack_of stamp base nodes

abbrev pub stack_at : VectorRows → ℕ → Stack
stack_at vector row = stack_if (slice_get vector.stamps.rows row) (base_at row vector.base) (nodes_at row vector.nodes)

-- a transaction's nodes of a row are the newest of those that stand
abbrev pub is_on_top : ℕ → List RowNode → Bool
is_on_top id [] = true
is_on_top id (node ∷ older) =
    if node.stamp == id || node.stamp == NEVER then is_on_top id older else not (row_has_stamp id older)

-- and so on each row: its changes can be undone, the newest first
abbrev pub IsOnTop : ℕ → List Node → Type 0
IsOnTop id nodes = (row : ℕ) → is_on_top id (nodes_at row nodes) ≡ true

-- the old values of a row, or else those of its base
abbrev pub or_base : List Value → Option (List Value) → List Value
or_base base None = base
or_base base (Some old) = old

-- rows that exist and that the reader finds there
abbrev pub AreThere : (ℕ → Bool) → VectorRows → List ℕ → Type 0
AreThere sees vector rows = All (λ row. (row < length vector.stamps.rows) × (is_there sees (stack_at vector row) ≡ true)) rows

-- the first row that something stands against, with the stamp of it
abbrev pub first_blocked : (ℕ → Option ℕ) → List ℕ → Option Blocked
first_blocked against [] = None
first_blocked against (row ∷ rows) = elim (against row) [
  | Some stamp ↦ Some (record { row = row; stamp = stamp })
  | None ↦ first_blocked against rows
]

-- what stands against a change of a row of the vector
abbrev pub against_in : (ℕ → Bool) → VectorRows → ℕ → Option ℕ
against_in sees vector row = blocker sees (stack_at vector row)

-- rows with a delete stamp of their own
abbrev pub erased_rows : ℕ → List ℕ → List Stamp → List Stamp
erased_rows id [] rows = rows
erased_rows id (row ∷ others) rows = erased_rows id others (with_deleted row id rows)

abbrev pub has_row : ℕ → List ℕ → Bool
has_row row rows = list_any (λ other. other == row) rows

-- rows that exist and are not spare
abbrev pub ArePlaced : List ℕ → VectorRows → Type 0
ArePlaced rows vector = All (λ row. (row < length vector.stamps.rows) × ((stack_at vector row).inserted ≢ NEVER)) rows
