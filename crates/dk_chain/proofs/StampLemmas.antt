-- What another stamp of a node, and a bound, make of the nodes of a row.
use Rattle.std.proofs.Common.{ℕ, zero, suc, ◌+◌, ◌<◌, ◌≤◌, ◌≡◌, Bool, true, false, List, [], ◌∷◌, ◌++◌, length, drop, take, get_or, set, Option, Some, None, refl, ap, sym, ◌∙◌, cond, eqb, ltb, arith}
use Rattle.std.specs.Prelude.{not, ◌||◌, ◌==◌, is_some}
use Rattle.std.specs.List.{filter}
use Rattle.std.proofs.lemmas.Bool.Decides.{Decides-eqb}
use Rattle.std.proofs.lemmas.List.{take_all}
use Rattle.std.proofs.lemmas.Option.{slice_get-get_or, get_or_from_slice_get}
use Rattle.dk_values.specs.declared.value.Value.{Value}
use Rattle.dk_stamp.specs.declared.snapshot.TheConstants.{NEVER}
use Rattle.dk_chain.specs.declared.node.Node.{Node}
use Rattle.dk_chain.specs.Nodes.{RowNode, old_of, row_node, put_on, with_node, nodes_on, nodes_at, restamped, row_restamped, has_stamp, row_has_stamp, oldest_restamped, newest_restamped, last_restamped, first_restamped, oldest_has, newest_has, above, row_above, done, row_done}

-- newer nodes stand before the older ones of a row
put_on-split : (stamp : ℕ) (old : Option (List Value)) (older : List RowNode) → put_on stamp old older ≡ put_on stamp old [] ++ older
put_on-split stamp None older = refl
put_on-split stamp (Some old) older = refl

assoc : (a b c : List RowNode) → (a ++ b) ++ c ≡ a ++ (b ++ c)
assoc [] b c = refl
assoc (x ∷ a) b c = ap (λ l. x ∷ l) (assoc a b c)

pub split : (row : ℕ) (older : List RowNode) (nodes : List Node) → nodes_on row older nodes ≡ nodes_at row nodes ++ older
split row older [] = refl
split row older (node ∷ nodes) =
    split row (with_node row node older) nodes
    ∙ ap (λ l. nodes_at row nodes ++ l) (put_on-split node.stamp (old_of row node) older)
    ∙ sym (assoc (nodes_at row nodes) (put_on node.stamp (old_of row node) []) older)
    ∙ ap (λ l. l ++ older) (sym (split row (with_node row node []) nodes))

either_false : (a b : Bool) → (a || b) ≡ false → (a ≡ false) × (b ≡ false)
either_false true b e = (e, absurd cc)
either_false false b e = (refl, e)

-- a row's nodes: one that has the stamp
has_in : (stamp : ℕ) (front : List RowNode) (node : RowNode) (older : List RowNode) → eqb node.stamp stamp ≡ true → row_has_stamp stamp (front ++ node ∷ older) ≡ true
has_in stamp [] node older e = ap (λ b. b || row_has_stamp stamp older) e
has_in stamp (n ∷ front) node older e = so (n.stamp == stamp) (has_in stamp front node older e)
  where
    so : (b : Bool) → row_has_stamp stamp (front ++ node ∷ older) ≡ true → (b || row_has_stamp stamp (front ++ node ∷ older)) ≡ true
    so true e = refl
    so false e = e

last_in : (from to : ℕ) (front : List RowNode) (node : RowNode) (older : List RowNode) → eqb node.stamp from ≡ true → row_has_stamp from older ≡ false
    → last_restamped from to (front ++ node ∷ older) ≡ front ++ row_restamped to node ∷ older
last_in from to [] node older e none =
    ap (λ b. cond b (node ∷ last_restamped from to older) (cond (node.stamp == from) (row_restamped to node ∷ older) (node ∷ older))) none
    ∙ ap (λ b. cond b (row_restamped to node ∷ older) (node ∷ older)) e
last_in from to (n ∷ front) node older e none =
    ap (λ b. cond b (n ∷ last_restamped from to (front ++ node ∷ older)) (cond (n.stamp == from) (row_restamped to n ∷ (front ++ node ∷ older)) (n ∷ (front ++ node ∷ older)))) (has_in from front node older e)
    ∙ ap (λ l. n ∷ l) (last_in from to front node older e none)

first_in : (from to : ℕ) (front : List RowNode) (node : RowNode) (older : List RowNode) → eqb node.stamp from ≡ true → row_has_stamp from front ≡ false
    → first_restamped from to (front ++ node ∷ older) ≡ front ++ row_restamped to node ∷ older
first_in from to [] node older e none = ap (λ b. cond b (row_restamped to node ∷ older) (node ∷ first_restamped from to older)) e
first_in from to (n ∷ front) node older e none =
    let parts = either_false (n.stamp == from) (row_has_stamp from front) none in
    ap (λ b. cond b (row_restamped to n ∷ (front ++ node ∷ older)) (n ∷ first_restamped from to (front ++ node ∷ older))) parts.0
    ∙ ap (λ l. n ∷ l) (first_in from to front node older e parts.1)

-- no node of a row has a stamp that none of the vector has
has_not_put : (stamp s : ℕ) (old : Option (List Value)) (older : List RowNode) → eqb s stamp ≡ false → row_has_stamp stamp older ≡ false → row_has_stamp stamp (put_on s old older) ≡ false
has_not_put stamp s None older e none = none
has_not_put stamp s (Some old) older e none = ap (λ b. b || row_has_stamp stamp older) e ∙ none

has_not : (row stamp : ℕ) (older : List RowNode) (nodes : List Node) → has_stamp stamp nodes ≡ false → row_has_stamp stamp older ≡ false → row_has_stamp stamp (nodes_on row older nodes) ≡ false
has_not row stamp older [] e none = none
has_not row stamp older (node ∷ nodes) e none =
    let parts = either_false (node.stamp == stamp) (has_stamp stamp nodes) e in
    has_not row stamp (with_node row node older) nodes parts.1 (has_not_put stamp node.stamp (old_of row node) older parts.0 none)

module _ (row from to : ℕ) where
  abbrev StampsOn : List RowNode → List Node → Type 0
  StampsOn older nodes =
      nodes_on row older (oldest_restamped from to nodes)
      ≡ cond (oldest_has row from nodes) (last_restamped from to (nodes_on row older nodes)) (nodes_on row older nodes)

  stamp_this : (node : Node) (older : List RowNode) (nodes : List Node) (o : Option (List Value)) → eqb node.stamp from ≡ true → row_has_stamp from older ≡ false
      → nodes_on row (put_on to o older) nodes ≡ cond (is_some o) (last_restamped from to (nodes_on row (put_on node.stamp o older) nodes)) (nodes_on row (put_on node.stamp o older) nodes)
  stamp_this node older nodes None e none = refl
  stamp_this node older nodes (Some old) e none =
      split row (row_node to old ∷ older) nodes
      ∙ sym (last_in from to (nodes_at row nodes) (row_node node.stamp old) older e none)
      ∙ ap (last_restamped from to) (sym (split row (row_node node.stamp old ∷ older) nodes))

  stamps_on : (older : List RowNode) (nodes : List Node) → row_has_stamp from older ≡ false → StampsOn older nodes
  stamps_on older [] none = refl
  stamps_on older (node ∷ nodes) none = so (node.stamp == from) refl (λ e. stamps_on (with_node row node older) nodes (has_not_put from node.stamp (old_of row node) older e none))
    where
      so : (b : Bool) → (node.stamp == from) ≡ b → ((node.stamp == from) ≡ false → StampsOn (with_node row node older) nodes)
          → nodes_on row older (cond b (restamped to node ∷ nodes) (node ∷ oldest_restamped from to nodes))
          ≡ cond (cond b (is_some (old_of row node)) (oldest_has row from nodes)) (last_restamped from to (nodes_on row older (node ∷ nodes))) (nodes_on row older (node ∷ nodes))
      so true e rest = stamp_this node older nodes (old_of row node) e none
      so false e rest = rest e

  pub stamps : (nodes : List Node) → StampsOn [] nodes
  stamps nodes = stamps_on [] nodes refl

  abbrev UndoesOn : List RowNode → List Node → Type 0
  UndoesOn older nodes =
      nodes_on row older (newest_restamped from to nodes)
      ≡ cond (newest_has row from nodes) (first_restamped from to (nodes_on row older nodes)) (nodes_on row older nodes)

  undo_this : (node : Node) (older : List RowNode) (nodes : List Node) (o : Option (List Value)) → eqb node.stamp from ≡ true → has_stamp from nodes ≡ false
      → nodes_on row (put_on to o older) nodes ≡ cond (is_some o) (first_restamped from to (nodes_on row (put_on node.stamp o older) nodes)) (nodes_on row (put_on node.stamp o older) nodes)
  undo_this node older nodes None e none = refl
  undo_this node older nodes (Some old) e none =
      split row (row_node to old ∷ older) nodes
      ∙ sym (first_in from to (nodes_at row nodes) (row_node node.stamp old) older e (has_not row from [] nodes none refl))
      ∙ ap (first_restamped from to) (sym (split row (row_node node.stamp old ∷ older) nodes))

  undoes_on : (older : List RowNode) (nodes : List Node) → UndoesOn older nodes
  undoes_on older [] = refl
  undoes_on older (node ∷ nodes) = so (has_stamp from nodes) refl (undoes_on (with_node row node older) nodes)
    where
      this : (b : Bool) → (node.stamp == from) ≡ b → has_stamp from nodes ≡ false
          → nodes_on row older (cond b (restamped to node ∷ nodes) (node ∷ nodes))
          ≡ cond (cond b (is_some (old_of row node)) false) (first_restamped from to (nodes_on row older (node ∷ nodes))) (nodes_on row older (node ∷ nodes))
      this true e none = undo_this node older nodes (old_of row node) e none
      this false e none = refl

      so : (b : Bool) → has_stamp from nodes ≡ b → UndoesOn (with_node row node older) nodes
          → nodes_on row older (cond b (node ∷ newest_restamped from to nodes) (cond (node.stamp == from) (restamped to node ∷ nodes) (node ∷ nodes)))
          ≡ cond (cond b (newest_has row from nodes) (cond (node.stamp == from) (is_some (old_of row node)) false)) (first_restamped from to (nodes_on row older (node ∷ nodes))) (nodes_on row older (node ∷ nodes))
      so true e rest = rest
      so false e rest = this (node.stamp == from) refl e

  pub undoes : (nodes : List Node) → UndoesOn [] nodes
  undoes nodes = undoes_on [] nodes

-- a bound
-- nodes whose stamp meets a test
module _ (keep : ℕ → Bool) where
  abbrev row_kept : List RowNode → List RowNode
  row_kept nodes = filter (λ node. keep node.stamp) nodes

  abbrev kept : List Node → List Node
  kept nodes = filter (λ node. keep node.stamp) nodes

  kept_put : (s : ℕ) (o : Option (List Value)) (older : List RowNode) → row_kept (put_on s o older) ≡ cond (keep s) (put_on s o (row_kept older)) (row_kept older)
  kept_put s None older = so (keep s)
    where
      so : (b : Bool) → row_kept older ≡ cond b (row_kept older) (row_kept older)
      so true = refl
      so false = refl
  kept_put s (Some old) older = refl

  pub kept_on : (row : ℕ) (older : List RowNode) (nodes : List Node) → nodes_on row (row_kept older) (kept nodes) ≡ row_kept (nodes_on row older nodes)
  kept_on row older [] = refl
  kept_on row older (node ∷ nodes) =
      so (keep node.stamp) (kept_put node.stamp (old_of row node) older) ∙ kept_on row (with_node row node older) nodes
    where
      so : (b : Bool) → row_kept (with_node row node older) ≡ cond b (put_on node.stamp (old_of row node) (row_kept older)) (row_kept older)
          → nodes_on row (row_kept older) (cond b (node ∷ kept nodes) (kept nodes)) ≡ nodes_on row (row_kept (with_node row node older)) (kept nodes)
      so true e = ap (λ l. nodes_on row l (kept nodes)) (sym e)
      so false e = ap (λ l. nodes_on row l (kept nodes)) (sym e)

pub drops : (row bound : ℕ) (nodes : List Node) → nodes_at row (above bound nodes) ≡ row_above bound (nodes_at row nodes)
drops row bound nodes = kept_on (ltb bound) row [] nodes

pub clears : (row : ℕ) (nodes : List Node) → nodes_at row (done nodes) ≡ row_done (nodes_at row nodes)
clears row nodes = kept_on (λ stamp. not (stamp == NEVER)) row [] nodes

-- which node gets another stamp
has_at : (stamp i : ℕ) (nodes : List Node) (node : Node) → i < length nodes → node ≡ get_or nodes i node → eqb node.stamp stamp ≡ true → has_stamp stamp nodes ≡ true
has_at stamp i [] node within is e = absurd (let no_place : i < 0 = within in omega (arith, no_place))
has_at stamp zero (n ∷ nodes) node within is e = ap (λ b. b || has_stamp stamp nodes) (ap (λ (n : Node). n.stamp == stamp) (sym is) ∙ e)
has_at stamp (suc i) (n ∷ nodes) node within is e = so (n.stamp == stamp) (has_at stamp i nodes node (omega (arith, within)) is e)
  where
    so : (b : Bool) → has_stamp stamp nodes ≡ true → (b || has_stamp stamp nodes) ≡ true
    so true e = refl
    so false e = e

pub oldest_set : (from to i : ℕ) (nodes : List Node) (node : Node) → i < length nodes → node ≡ get_or nodes i node → eqb node.stamp from ≡ true → has_stamp from (take i nodes) ≡ false
    → set nodes i (restamped to node) ≡ oldest_restamped from to nodes
oldest_set from to i [] node within is e none = absurd (let no_place : i < 0 = within in omega (arith, no_place))
oldest_set from to zero (n ∷ nodes) node within is e none =
    ap (λ (n : Node). restamped to n ∷ nodes) is
    ∙ sym (ap (λ b. cond b (restamped to n ∷ nodes) (n ∷ oldest_restamped from to nodes)) (ap (λ (n : Node). n.stamp == from) (sym is) ∙ e))
oldest_set from to (suc i) (n ∷ nodes) node within is e none =
    let parts = either_false (n.stamp == from) (has_stamp from (take i nodes)) none in
    ap (λ l. n ∷ l) (oldest_set from to i nodes node (omega (arith, within)) is e parts.1)
    ∙ sym (ap (λ b. cond b (restamped to n ∷ nodes) (n ∷ oldest_restamped from to nodes)) parts.0)

pub oldest_none : (from to : ℕ) (nodes : List Node) → has_stamp from nodes ≡ false → oldest_restamped from to nodes ≡ nodes
oldest_none from to [] none = refl
oldest_none from to (n ∷ nodes) none =
    let parts = either_false (n.stamp == from) (has_stamp from nodes) none in
    ap (λ b. cond b (restamped to n ∷ nodes) (n ∷ oldest_restamped from to nodes)) parts.0 ∙ ap (λ l. n ∷ l) (oldest_none from to nodes parts.1)

newest_is : (from to : ℕ) (n : Node) (nodes : List Node) → has_stamp from nodes ≡ true → newest_restamped from to (n ∷ nodes) ≡ n ∷ newest_restamped from to nodes
newest_is from to n nodes e = ap (λ b. cond b (n ∷ newest_restamped from to nodes) (cond (n.stamp == from) (restamped to n ∷ nodes) (n ∷ nodes))) e

pub newest_set : (from to i j : ℕ) (nodes : List Node) (node : Node) → j ≡ i + 1 → i < length nodes → node ≡ get_or nodes i node → eqb node.stamp from ≡ true → has_stamp from (drop j nodes) ≡ false
    → set nodes i (restamped to node) ≡ newest_restamped from to nodes
newest_set from to i j [] node next within is e none = absurd (let no_place : i < 0 = within in omega (arith, no_place))
newest_set from to zero j (n ∷ nodes) node next within is e none =
    let rest : has_stamp from nodes ≡ false = ap (λ j. has_stamp from (drop j (n ∷ nodes))) (sym next) ∙ none in
    ap (λ (n : Node). restamped to n ∷ nodes) is
    ∙ sym (ap (λ b. cond b (n ∷ newest_restamped from to nodes) (cond (n.stamp == from) (restamped to n ∷ nodes) (n ∷ nodes))) rest
    ∙ ap (λ b. cond b (restamped to n ∷ nodes) (n ∷ nodes)) (ap (λ (n : Node). n.stamp == from) (sym is) ∙ e))
newest_set from to (suc i) j (n ∷ nodes) node next within is e none =
    let inside : i < length nodes = omega (arith, within) in
    let after : j ≡ suc (i + 1) = omega (arith, next) in
    ap (λ l. n ∷ l) (newest_set from to i (i + 1) nodes node refl inside is e (ap (λ j. has_stamp from (drop j (n ∷ nodes))) (sym after) ∙ none))
    ∙ sym (newest_is from to n nodes (has_at from i nodes node inside is e))

pub newest_none : (from to : ℕ) (nodes : List Node) → has_stamp from nodes ≡ false → newest_restamped from to nodes ≡ nodes
newest_none from to [] none = refl
newest_none from to (n ∷ nodes) none =
    let parts = either_false (n.stamp == from) (has_stamp from nodes) none in
    ap (λ b. cond b (n ∷ newest_restamped from to nodes) (cond (n.stamp == from) (restamped to n ∷ nodes) (n ∷ nodes))) parts.1
    ∙ ap (λ b. cond b (restamped to n ∷ nodes) (n ∷ nodes)) parts.0

is_equal : (a b : ℕ) → a ≡ b → eqb a b ≡ true
is_equal a b e = (Decides-eqb a b).1 e

same_item : (nodes : List Node) (i : ℕ) (a b : Node) → i < length nodes → a ≡ get_or nodes i a → b ≡ get_or nodes i b → a ≡ b
same_item nodes i a b within is also = is ∙ get_or_from_slice_get nodes i (get_or nodes i b) a (slice_get-get_or nodes i b within) ∙ sym also

-- the walk from the oldest node on has come to one with the stamp
pub oldest_found : (from to i : ℕ) (nodes old : List Node) (a b : Node) → (nodes ≡ old) × (has_stamp from (take i nodes) ≡ false) → i < length nodes
    → a ≡ get_or nodes i a → b ≡ get_or nodes i b → a.stamp ≡ from → set nodes i (restamped to b) ≡ oldest_restamped from to old
oldest_found from to i nodes old a b kept within is also e =
    oldest_set from to i nodes b within also (ap (λ (n : Node). eqb n.stamp from) (sym (same_item nodes i a b within is also)) ∙ is_equal _ _ e) kept.1
    ∙ ap (oldest_restamped from to) kept.0

-- the walk has come to the end
pub oldest_ended : (from to i : ℕ) (nodes old : List Node) → (nodes ≡ old) × (has_stamp from (take i nodes) ≡ false) → length nodes ≤ i → nodes ≡ oldest_restamped from to old
oldest_ended from to i nodes old kept end =
    sym (oldest_none from to nodes (ap (has_stamp from) (sym (take_all i nodes end)) ∙ kept.1)) ∙ ap (oldest_restamped from to) kept.0

-- the walk from the newest node on has come to one with the stamp
pub newest_found : (from to i j : ℕ) (nodes old : List Node) (a b : Node) → (nodes ≡ old) × (has_stamp from (drop j nodes) ≡ false) → j ≡ i + 1 → i < length nodes
    → a ≡ get_or nodes i a → b ≡ get_or nodes i b → a.stamp ≡ from → set nodes i (restamped to b) ≡ newest_restamped from to old
newest_found from to i j nodes old a b kept next within is also e =
    newest_set from to i j nodes b next within also (ap (λ (n : Node). eqb n.stamp from) (sym (same_item nodes i a b within is also)) ∙ is_equal _ _ e) kept.1
    ∙ ap (newest_restamped from to) kept.0

pub newest_ended : (from to j : ℕ) (nodes old : List Node) → (nodes ≡ old) × (has_stamp from (drop j nodes) ≡ false) → j ≡ 0 → nodes ≡ newest_restamped from to old
newest_ended from to j nodes old kept end =
    sym (newest_none from to nodes (ap (λ j. has_stamp from (drop j nodes)) (sym end) ∙ kept.1)) ∙ ap (newest_restamped from to) kept.0
