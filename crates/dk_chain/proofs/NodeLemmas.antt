-- What one more node does to the nodes of a row, and walks over the nodes.
use Rattle.std.proofs.Common.{ℕ, ◌+◌, ◌<◌, ◌≡◌, Bool, true, false, List, [], ◌∷◌, ◌++◌, length, drop, take, get_or, Option, Some, None, refl, ap, sym, ◌∙◌, cond}
use Rattle.std.specs.Prelude.{◌||◌, ◌==◌, is_none}
use Rattle.std.proofs.lemmas.List.{drop_more, take_more}
use Rattle.dk_values.specs.declared.value.Value.{Value}
use Rattle.dk_stamp.specs.declared.snapshot.TheConstants.{NEVER}
use Rattle.dk_chain.specs.declared.node.Node.{Node}
use Rattle.dk_chain.specs.Nodes.{RowNode, old_of, put_on, with_node, nodes_on, nodes_at, oldest_unseen, newest_stamp, unseen_in, stamp_in}

on_push : (row : ℕ) (older : List RowNode) (nodes : List Node) (node : Node) → nodes_on row older (nodes ++ node ∷ []) ≡ with_node row node (nodes_on row older nodes)
on_push row older [] node = refl
on_push row older (n ∷ nodes) node = on_push row (with_node row n older) nodes node

pub nodes_push : (row : ℕ) (nodes : List Node) (node : Node) → nodes_at row (nodes ++ node ∷ []) ≡ with_node row node (nodes_at row nodes)
nodes_push row nodes node = on_push row [] nodes node

-- what a node on top adds to the oldest unseen one
abbrev unseen_on : (ℕ → Bool) → ℕ → Option (List Value) → Option (List Value) → Option (List Value)
unseen_on sees stamp old (Some oldest) = Some oldest
unseen_on sees stamp None None = None
unseen_on sees stamp (Some old) None = cond (sees stamp) None (Some old)

abbrev or_else : Option (List Value) → Option (List Value) → Option (List Value)
or_else (Some oldest) newer = Some oldest
or_else None newer = newer

unseen_put : (sees : ℕ → Bool) (stamp : ℕ) (old : Option (List Value)) (older : List RowNode) → oldest_unseen sees (put_on stamp old older) ≡ unseen_on sees stamp old (oldest_unseen sees older)
unseen_put sees stamp None older = keep (oldest_unseen sees older)
  where
    keep : (o : Option (List Value)) → o ≡ unseen_on sees stamp None o
    keep None = refl
    keep (Some o) = refl
unseen_put sees stamp (Some old) older = pick (oldest_unseen sees older)
  where
    pick : (o : Option (List Value)) → (elim o [ Some old ↦ Some old | None ↦ cond (sees stamp) None (Some old) ]) ≡ unseen_on sees stamp (Some old) o
    pick None = refl
    pick (Some o) = refl

-- the oldest unseen one of older nodes goes before
unseen_from : (sees : ℕ → Bool) (row : ℕ) (older : List RowNode) (nodes : List Node) → oldest_unseen sees (nodes_on row older nodes) ≡ or_else (oldest_unseen sees older) (oldest_unseen sees (nodes_at row nodes))
unseen_from sees row older [] = none (oldest_unseen sees older)
  where
    none : (o : Option (List Value)) → o ≡ or_else o None
    none None = refl
    none (Some o) = refl
unseen_from sees row older (node ∷ nodes) =
    let old = old_of row node in
    unseen_from sees row (with_node row node older) nodes
    ∙ ap (λ o. or_else o (oldest_unseen sees (nodes_at row nodes))) (unseen_put sees node.stamp old older)
    ∙ both (oldest_unseen sees older) old (oldest_unseen sees (nodes_at row nodes))
    ∙ ap (or_else (oldest_unseen sees older)) (sym (unseen_from sees row (with_node row node []) nodes ∙ ap (λ o. or_else o (oldest_unseen sees (nodes_at row nodes))) (unseen_put sees node.stamp old [])))
  where
    both : (o p q : Option (List Value)) → or_else (unseen_on sees node.stamp p o) q ≡ or_else o (or_else (unseen_on sees node.stamp p None) q)
    both None p q = refl
    both (Some o) p q = refl

unseen_on-is : (sees : ℕ → Bool) (row : ℕ) (node : Node) → unseen_on sees node.stamp (old_of row node) None ≡ unseen_in sees row node
unseen_on-is sees row node = so (sees node.stamp) (old_of row node)
  where
    so : (b : Bool) (o : Option (List Value)) → unseen_on (λ _. b) 0 o None ≡ cond b None o
    so true None = refl
    so true (Some o) = refl
    so false None = refl
    so false (Some o) = refl

unseen_step : (sees : ℕ → Bool) (row i : ℕ) (nodes : List Node) (node : Node) → i < length nodes → get_or nodes i node ≡ node
    → oldest_unseen sees (nodes_at row (drop i nodes)) ≡ or_else (unseen_in sees row node) (oldest_unseen sees (nodes_at row (drop (i + 1) nodes)))
unseen_step sees row i nodes node within is =
    ap (λ nodes. oldest_unseen sees (nodes_at row nodes)) (drop_more nodes i node within ∙ ap (λ n. n ∷ drop (i + 1) nodes) is)
    ∙ unseen_from sees row (with_node row node []) (drop (i + 1) nodes)
    ∙ ap (λ o. or_else o (oldest_unseen sees (nodes_at row (drop (i + 1) nodes)))) (unseen_put sees node.stamp (old_of row node) [] ∙ unseen_on-is sees row node)

-- the oldest node is seen, or doesn't have the row
pub unseen_next : (sees : ℕ → Bool) (row i : ℕ) (nodes : List Node) (node : Node) → i < length nodes → node ≡ get_or nodes i node → None ≡ unseen_in sees row node
    → oldest_unseen sees (nodes_at row (drop i nodes)) ≡ oldest_unseen sees (nodes_at row (drop (i + 1) nodes))
unseen_next sees row i nodes node within is none =
    unseen_step sees row i nodes node within (sym is) ∙ ap (λ o. or_else o (oldest_unseen sees (nodes_at row (drop (i + 1) nodes)))) (sym none)

-- the oldest node is unseen, and has the row
pub unseen_here : (sees : ℕ → Bool) (row i : ℕ) (nodes : List Node) (node : Node) (old : List Value) → i < length nodes → node ≡ get_or nodes i node → Some old ≡ unseen_in sees row node
    → oldest_unseen sees (nodes_at row (drop i nodes)) ≡ Some old
unseen_here sees row i nodes node old within is some =
    unseen_step sees row i nodes node within (sym is) ∙ ap (λ o. or_else o (oldest_unseen sees (nodes_at row (drop (i + 1) nodes)))) (sym some)

abbrev stamp_or : Option ℕ → Option ℕ → Option ℕ
stamp_or (Some stamp) older = Some stamp
stamp_or None older = older

newest_on : (row : ℕ) (node : Node) (older : List RowNode) → newest_stamp (with_node row node older) ≡ stamp_or (stamp_in row node) (newest_stamp older)
newest_on row node older = so (old_of row node) (node.stamp == NEVER) refl
  where
    so : (o : Option (List Value)) (b : Bool) → b ≡ (node.stamp == NEVER) → newest_stamp (put_on node.stamp o older) ≡ stamp_or (cond (b || is_none o) None (Some node.stamp)) (newest_stamp older)
    so None true e = refl
    so None false e = refl
    so (Some o) true e = ap (λ b. cond b (newest_stamp older) (Some node.stamp)) (sym e)
    so (Some o) false e = ap (λ b. cond b (newest_stamp older) (Some node.stamp)) (sym e)

newest_step : (row i : ℕ) (nodes : List Node) (node : Node) → i < length nodes → get_or nodes i node ≡ node
    → newest_stamp (nodes_at row (take (i + 1) nodes)) ≡ stamp_or (stamp_in row node) (newest_stamp (nodes_at row (take i nodes)))
newest_step row i nodes node within is =
    ap (λ nodes. newest_stamp (nodes_at row nodes)) (take_more nodes i node within ∙ ap (λ n. take i nodes ++ n ∷ []) is)
    ∙ ap newest_stamp (nodes_push row (take i nodes) node) ∙ newest_on row node (nodes_at row (take i nodes))

-- the newest node was undone, or doesn't have the row
pub newest_next : (row i j : ℕ) (nodes : List Node) (node : Node) → j ≡ i + 1 → i < length nodes → node ≡ get_or nodes i node → None ≡ stamp_in row node
    → newest_stamp (nodes_at row (take j nodes)) ≡ newest_stamp (nodes_at row (take i nodes))
newest_next row i j nodes node next within is none =
    ap (λ j. newest_stamp (nodes_at row (take j nodes))) next
    ∙ newest_step row i nodes node within (sym is) ∙ ap (λ o. stamp_or o (newest_stamp (nodes_at row (take i nodes)))) (sym none)

-- the newest node has the row, and was not undone
pub newest_here : (row i j : ℕ) (nodes : List Node) (node : Node) (stamp : ℕ) → j ≡ i + 1 → i < length nodes → node ≡ get_or nodes i node → Some stamp ≡ stamp_in row node
    → newest_stamp (nodes_at row (take j nodes)) ≡ Some stamp
newest_here row i j nodes node stamp next within is some =
    ap (λ j. newest_stamp (nodes_at row (take j nodes))) next
    ∙ newest_step row i nodes node within (sym is) ∙ ap (λ o. stamp_or o (newest_stamp (nodes_at row (take i nodes)))) (sym some)
