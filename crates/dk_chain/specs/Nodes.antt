-- The nodes of a row, and what a reader sees of the row.
use Rattle.std.specs.Prelude.{ℕ, Bool, false, not, ◌||◌, ◌==◌, nat_lt, List, [], ◌∷◌, Option, Some, None, is_some, is_none, if◌then◌else◌}
use Rattle.std.specs.List.{filter, list_any}
use Rattle.dk_values.specs.declared.value.Value.{Value}
use Rattle.dk_stamp.specs.declared.snapshot.TheConstants.{NEVER}
use Rattle.dk_chain.specs.declared.node.Node.{Node}

-- what one change replaced in one row
pub record RowNode : Type 0 where
  pub stamp : ℕ
  pub old : List Value

-- the old row at the first place with that offset
abbrev pub old_in : ℕ → List ℕ → List (List Value) → Option (List Value)
old_in row [] olds = None
old_in row (offset ∷ offsets) [] = None
old_in row (offset ∷ offsets) (old ∷ olds) = if offset == row then Some old else old_in row offsets olds

-- what a change replaced in a row, if it has the row
abbrev pub old_of : ℕ → Node → Option (List Value)
old_of row node = old_in row node.offsets.items node.old

abbrev pub row_node : ℕ → List Value → RowNode
row_node stamp old = record { stamp = stamp; old = old }

-- a change put on the older nodes of a row, if it has the row
abbrev pub put_on : ℕ → Option (List Value) → List RowNode → List RowNode
put_on stamp None older = older
put_on stamp (Some old) older = row_node stamp old ∷ older

abbrev pub with_node : ℕ → Node → List RowNode → List RowNode
with_node row node older = put_on node.stamp (old_of row node) older

-- nodes, oldest first, each put on the older ones of a row
abbrev pub nodes_on : ℕ → List RowNode → List Node → List RowNode
nodes_on row older [] = older
nodes_on row older (node ∷ newer) = nodes_on row (with_node row node older) newer

-- the nodes of a row, newest first
abbrev pub nodes_at : ℕ → List Node → List RowNode
nodes_at row nodes = nodes_on row [] nodes

-- the old row of each unseen node put back, the newest first
abbrev pub put_back : (ℕ → Bool) → List Value → List RowNode → List Value
put_back sees row [] = row
put_back sees row (node ∷ older) = put_back sees (if sees node.stamp then row else node.old) older

-- the old row of the oldest unseen node
abbrev pub oldest_unseen : (ℕ → Bool) → List RowNode → Option (List Value)
oldest_unseen sees [] = None
oldest_unseen sees (node ∷ older) = elim (oldest_unseen sees older) [
  | Some old ↦ Some old
  | None ↦ if sees node.stamp then None else Some node.old
]

-- the stamp of the newest node that was not undone
abbrev pub newest_stamp : List RowNode → Option ℕ
newest_stamp [] = None
newest_stamp (node ∷ older) = if node.stamp == NEVER then newest_stamp older else Some node.stamp

-- what a node that is not seen replaced in a row, if it has the row
abbrev pub unseen_in : (ℕ → Bool) → ℕ → Node → Option (List Value)
unseen_in sees row node = if sees node.stamp then None else old_of row node

-- the stamp of a node that has a row, if it was not undone
abbrev pub stamp_in : ℕ → Node → Option ℕ
stamp_in row node = if node.stamp == NEVER || is_none (old_of row node) then None else Some node.stamp

-- a node with another stamp
abbrev pub restamped : ℕ → Node → Node
restamped to node = record node { stamp = to }

abbrev pub row_restamped : ℕ → RowNode → RowNode
row_restamped to node = record node { stamp = to }

abbrev pub has_stamp : ℕ → List Node → Bool
has_stamp stamp nodes = list_any (λ node. node.stamp == stamp) nodes

abbrev pub row_has_stamp : ℕ → List RowNode → Bool
row_has_stamp stamp nodes = list_any (λ node. node.stamp == stamp) nodes

-- nodes, oldest first: the oldest of a stamp gets another one
abbrev pub oldest_restamped : ℕ → ℕ → List Node → List Node
oldest_restamped from to [] = []
oldest_restamped from to (node ∷ newer) =
    if node.stamp == from then restamped to node ∷ newer else node ∷ oldest_restamped from to newer

-- nodes, oldest first: the newest of a stamp gets another one
abbrev pub newest_restamped : ℕ → ℕ → List Node → List Node
newest_restamped from to [] = []
newest_restamped from to (node ∷ newer) =
    if has_stamp from newer then node ∷ newest_restamped from to newer
    else if node.stamp == from then restamped to node ∷ newer else node ∷ newer

-- a row's nodes, newest first: the oldest of a stamp gets another one
abbrev pub last_restamped : ℕ → ℕ → List RowNode → List RowNode
last_restamped from to [] = []
last_restamped from to (node ∷ older) =
    if row_has_stamp from older then node ∷ last_restamped from to older
    else if node.stamp == from then row_restamped to node ∷ older else node ∷ older

-- a row's nodes, newest first: the newest of a stamp gets another one
abbrev pub first_restamped : ℕ → ℕ → List RowNode → List RowNode
first_restamped from to [] = []
first_restamped from to (node ∷ older) =
    if node.stamp == from then row_restamped to node ∷ older else node ∷ first_restamped from to older

-- whether the oldest node of a stamp has the row
abbrev pub oldest_has : ℕ → ℕ → List Node → Bool
oldest_has row stamp [] = false
oldest_has row stamp (node ∷ newer) =
    if node.stamp == stamp then is_some (old_of row node) else oldest_has row stamp newer

-- whether the newest node of a stamp has the row
abbrev pub newest_has : ℕ → ℕ → List Node → Bool
newest_has row stamp [] = false
newest_has row stamp (node ∷ newer) =
    if has_stamp stamp newer then newest_has row stamp newer
    else if node.stamp == stamp then is_some (old_of row node) else false

-- the nodes above a bound
abbrev pub above : ℕ → List Node → List Node
above bound nodes = filter (λ node. nat_lt bound node.stamp) nodes

abbrev pub row_above : ℕ → List RowNode → List RowNode
row_above bound nodes = filter (λ node. nat_lt bound node.stamp) nodes

-- the nodes that were not undone
abbrev pub done : List Node → List Node
done nodes = filter (λ node. not (node.stamp == NEVER)) nodes

abbrev pub row_done : List RowNode → List RowNode
row_done nodes = filter (λ node. not (node.stamp == NEVER)) nodes
