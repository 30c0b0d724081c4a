-- A row of a group with its versions: what a reader sees of it, and what each call makes of it.
use Rattle.std.specs.Prelude.{ℕ, Bool, ◌&&◌, not, ◌==◌, List, [], ◌∷◌, Option, Some, None, if◌then◌else◌}
use Rattle.dk_values.specs.declared.value.Value.{Value}
use Rattle.dk_stamp.specs.declared.snapshot.TheConstants.{NEVER}
use Rattle.dk_chain.specs.Nodes.{RowNode, row_node, put_back, last_restamped, row_above}

-- the newest values of a row, its nodes, newest first, and its two stamps
pub record Stack : Type 0 where
  pub base : List Value
  pub nodes : List RowNode
  pub inserted : ℕ
  pub deleted : ℕ

-- a row that no group has
abbrev pub absent : Stack
absent = record { base = []; nodes = []; inserted = NEVER; deleted = NEVER }

-- a row is there where its insert stamp is seen and its delete stamp is not
abbrev pub is_there : (ℕ → Bool) → Stack → Bool
is_there sees stack = sees stack.inserted && not (sees stack.deleted)

-- its values are the newest with the old values of each unseen node put back, newest node first
abbrev pub read : (ℕ → Bool) → Stack → Option (List Value)
read sees stack = if is_there sees stack then Some (put_back sees stack.base stack.nodes) else None

-- the newest stamp: that of the deletion, else that of the newest node, else that of the insertion
abbrev pub newest : Stack → ℕ
newest stack = if stack.deleted == NEVER then elim stack.nodes [ [] ↦ stack.inserted | node ∷ older ↦ node.stamp ] else stack.deleted

-- an update, a deletion and an append
abbrev pub updated : ℕ → List Value → Stack → Stack
updated id values stack = record stack { base = values; nodes = row_node id stack.base ∷ stack.nodes }

abbrev pub erased : ℕ → Stack → Stack
erased id stack = record stack { deleted = id }

abbrev pub placed : ℕ → List Value → Stack
placed id values = record { base = values; nodes = []; inserted = id; deleted = NEVER }

-- the newest node is undone
abbrev pub undone_on : Stack → List RowNode → Stack
undone_on stack [] = stack
undone_on stack (node ∷ older) = record stack { base = node.old; nodes = older }

abbrev pub undone : Stack → Stack
undone stack = undone_on stack stack.nodes

-- the deletion is undone
abbrev pub restored : Stack → Stack
restored stack = record stack { deleted = NEVER }

-- the oldest node, the deletion and the append of a transaction get its commit's number
abbrev pub stamped : ℕ → ℕ → Stack → Stack
stamped id number stack = record stack { nodes = last_restamped id number stack.nodes }

abbrev pub erased_stamped : ℕ → Stack → Stack
erased_stamped number stack = record stack { deleted = number }

abbrev pub placed_stamped : ℕ → Stack → Stack
placed_stamped number stack = record stack { inserted = number }

-- the nodes up to a bound are dropped
abbrev pub pruned : ℕ → Stack → Stack
pruned bound stack = record stack { nodes = row_above bound stack.nodes }

-- a stamp that the reader doesn't see
abbrev pub unseen_stamp : (ℕ → Bool) → Option ℕ → Option ℕ
unseen_stamp sees None = None
unseen_stamp sees (Some stamp) = if sees stamp then None else Some stamp

abbrev pub newest_node : List RowNode → Option ℕ
newest_node [] = None
newest_node (node ∷ older) = Some node.stamp

abbrev pub unseen_deletion : (ℕ → Bool) → ℕ → Option ℕ
unseen_deletion sees deleted = if deleted == NEVER then None else (if sees deleted then None else Some deleted)

-- what stands against a change of the row: an unseen deletion, else an unseen newest node
abbrev pub stamp_against : Option ℕ → Option ℕ → Option ℕ
stamp_against (Some deleted) newer = Some deleted
stamp_against None newer = newer

abbrev pub blocker : (ℕ → Bool) → Stack → Option ℕ
blocker sees stack = stamp_against (unseen_deletion sees stack.deleted) (unseen_stamp sees (newest_node stack.nodes))
