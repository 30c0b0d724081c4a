-- What a call on a row leaves of what a reader sees of it.
use Rattle.std.specs.Prelude.{◌≡◌, ◌≤◌, ℕ, Bool, true, false, List, [], ◌∷◌, Some, ⊤}
use Rattle.dk_values.specs.declared.value.Value.{Value}
use Rattle.dk_stamp.specs.declared.snapshot.TheConstants.{NEVER}
use Rattle.dk_chain.specs.Nodes.{RowNode}
use Rattle.dk_vector.specs.Stacks.{Stack, absent, is_there, read, updated, erased, placed, undone, restored, stamped, erased_stamped, placed_stamped, pruned}

-- two readers see the nodes of a row alike
abbrev pub AgreeOn : (ℕ → Bool) → (ℕ → Bool) → List RowNode → Type 0
AgreeOn a b [] = ⊤
AgreeOn a b (node ∷ older) = (a node.stamp ≡ b node.stamp) × AgreeOn a b older

-- a reader sees all nodes of a row
abbrev pub AllSeen : (ℕ → Bool) → List RowNode → Type 0
AllSeen sees [] = ⊤
AllSeen sees (node ∷ older) = (sees node.stamp ≡ true) × AllSeen sees older

-- two readers see the stamps that are there alike
pub record Agree (a b : ℕ → Bool) (stack : Stack) : Type 0 where
  pub inserted : a stack.inserted ≡ b stack.inserted
  pub deleted : a stack.deleted ≡ b stack.deleted
  pub nodes : AgreeOn a b stack.nodes

-- so they read alike
abbrev pub ReadersAgree : Type 0
ReadersAgree = (a b : ℕ → Bool) (stack : Stack) → Agree a b stack → read a stack ≡ read b stack

-- a change, a deletion and an append by a transaction that the reader doesn't see
abbrev pub UpdateIsHidden : Type 0
UpdateIsHidden =
    (sees : ℕ → Bool) (id : ℕ) (values : List Value) (stack : Stack)
    → sees id ≡ false → read sees (updated id values stack) ≡ read sees stack

abbrev pub DeletionIsHidden : Type 0
DeletionIsHidden =
    (sees : ℕ → Bool) (id : ℕ) (stack : Stack)
    → sees id ≡ false → sees stack.deleted ≡ false → read sees (erased id stack) ≡ read sees stack

abbrev pub AppendIsHidden : Type 0
AppendIsHidden =
    (sees : ℕ → Bool) (id : ℕ) (values : List Value)
    → sees id ≡ false → sees NEVER ≡ false → read sees (placed id values) ≡ read sees absent

-- a transaction that sees its own stamp reads its own update, where it read the row
abbrev pub OwnUpdateIsRead : Type 0
OwnUpdateIsRead =
    (sees : ℕ → Bool) (id : ℕ) (values : List Value) (stack : Stack)
    → AllSeen sees stack.nodes → is_there sees stack ≡ true → sees id ≡ true → read sees (updated id values stack) ≡ Some values

-- undoing what the reader doesn't see: the newest node, a deletion and an append
abbrev pub UndoIsHidden : Type 0
UndoIsHidden =
    (sees : ℕ → Bool) (node : RowNode) (older : List RowNode) (stack : Stack)
    → stack.nodes ≡ node ∷ older → sees node.stamp ≡ false → read sees (undone stack) ≡ read sees stack

abbrev pub UndoOfDeletionIsHidden : Type 0
UndoOfDeletionIsHidden =
    (sees : ℕ → Bool) (stack : Stack)
    → sees NEVER ≡ false → sees stack.deleted ≡ false → read sees (restored stack) ≡ read sees stack

abbrev pub UndoOfAppendIsHidden : Type 0
UndoOfAppendIsHidden =
    (sees : ℕ → Bool) (stack : Stack)
    → sees NEVER ≡ false → sees stack.inserted ≡ false → read sees absent ≡ read sees stack

-- stamping where the identifier and the number are seen alike
abbrev pub StampingIsHidden : Type 0
StampingIsHidden =
    (sees : ℕ → Bool) (id number : ℕ) (stack : Stack)
    → sees id ≡ sees number → read sees (stamped id number stack) ≡ read sees stack

abbrev pub StampingOfDeletionIsHidden : Type 0
StampingOfDeletionIsHidden =
    (sees : ℕ → Bool) (number : ℕ) (stack : Stack)
    → sees stack.deleted ≡ sees number → read sees (erased_stamped number stack) ≡ read sees stack

abbrev pub StampingOfAppendIsHidden : Type 0
StampingOfAppendIsHidden =
    (sees : ℕ → Bool) (number : ℕ) (stack : Stack)
    → sees stack.inserted ≡ sees number → read sees (placed_stamped number stack) ≡ read sees stack

-- dropping where all stamps up to the bound are seen
abbrev pub DropIsHidden : Type 0
DropIsHidden =
    (sees : ℕ → Bool) (bound : ℕ) (stack : Stack)
    → ((stamp : ℕ) → stamp ≤ bound → sees stamp ≡ true) → read sees (pruned bound stack) ≡ read sees stack
