-- The changes of a transaction that are the newest on each row, through the calls on a vector.
use Rattle.std.proofs.Common.{ℕ, ◌≡◌, Bool, true, false, List, [], ◌∷◌, Option, Some, None, refl, ap, sym, ◌∙◌, cond}
use Rattle.std.specs.Prelude.{◌||◌, ◌==◌, ◌≢◌, not, is_some}
use Rattle.std.specs.List.{filter}
use Rattle.std.proofs.lemmas.Bool.{eqb-true, ne_eqb, false≢true}
use Rattle.std.proofs.lemmas.Bool.Decides.{Decides-eqb}
use Rattle.dk_values.specs.declared.value.Value.{Value}
use Rattle.dk_stamp.specs.declared.snapshot.TheConstants.{NEVER}
use Rattle.dk_chain.specs.declared.node.Node.{Node}
use Rattle.dk_chain.specs.Nodes.{RowNode, put_on, old_of, with_node, nodes_on, nodes_at, row_has_stamp, has_stamp, newest_has, newest_stamp, first_restamped, row_restamped}
use Rattle.dk_vector.specs.Vectors.{is_on_top, IsOnTop}

or_true : (a : Bool) → (a || true) ≡ true
or_true true = refl
or_true false = refl

-- a node that is put on the others
has_put : (id stamp : ℕ) (o : Option (List Value)) (older : List RowNode) → row_has_stamp id older ≡ true → row_has_stamp id (put_on stamp o older) ≡ true
has_put id stamp None older h = h
has_put id stamp (Some old) older h = ap (λ b. (stamp == id) || b) h ∙ or_true (stamp == id)

has_on : (id row : ℕ) (older : List RowNode) (newer : List Node) → row_has_stamp id older ≡ true → row_has_stamp id (nodes_on row older newer) ≡ true
has_on id row older [] h = h
has_on id row older (node ∷ newer) h = has_on id row (with_node row node older) newer (has_put id node.stamp (old_of row node) older h)

put_has : (id stamp : ℕ) (o : Option (List Value)) (older : List RowNode) → (stamp == id) ≡ true → is_some o ≡ true → row_has_stamp id (put_on stamp o older) ≡ true
put_has id stamp None older e some = absurd (false≢true some)
put_has id stamp (Some old) older e some = ap (λ b. b || row_has_stamp id older) e

has_newest : (id row : ℕ) (older : List RowNode) (nodes : List Node) → newest_has row id nodes ≡ true → row_has_stamp id (nodes_on row older nodes) ≡ true
has_newest id row older [] h = absurd (false≢true h)
has_newest id row older (node ∷ newer) h = so (has_stamp id newer) (node.stamp == id) refl h (has_newest id row (with_node row node older) newer)
  where
    so : (newer_has here : Bool) → (node.stamp == id) ≡ here
        → cond newer_has (newest_has row id newer) (cond here (is_some (old_of row node)) false) ≡ true
        → (newest_has row id newer ≡ true → row_has_stamp id (nodes_on row (with_node row node older) newer) ≡ true)
        → row_has_stamp id (nodes_on row (with_node row node older) newer) ≡ true
    so true here e h rest = rest h
    so false true e h rest = has_on id row (with_node row node older) newer (put_has id node.stamp (old_of row node) older e h)
    so false false e h rest = absurd (false≢true h)

module _ (id : ℕ) (other : id ≢ NEVER) where
  top_newest : (nodes : List RowNode) → is_on_top id nodes ≡ true → row_has_stamp id nodes ≡ true → newest_stamp nodes ≡ Some id
  top_newest [] top has = absurd (false≢true has)
  top_newest (node ∷ older) top has = so (node.stamp == NEVER) (node.stamp == id) refl refl top has (top_newest older)
    where
      so : (undone own : Bool) → (node.stamp == NEVER) ≡ undone → (node.stamp == id) ≡ own
          → cond (own || undone) (is_on_top id older) (not (row_has_stamp id older)) ≡ true → (own || row_has_stamp id older) ≡ true
          → (is_on_top id older ≡ true → row_has_stamp id older ≡ true → newest_stamp older ≡ Some id)
          → cond undone (newest_stamp older) (Some node.stamp) ≡ Some id
      so true true e f top has rest = absurd (other (sym (eqb-true node.stamp id f) ∙ eqb-true node.stamp NEVER e))
      so true false e f top has rest = rest top has
      so false true e f top has rest = ap (λ s. Some s) (eqb-true node.stamp id f)
      so false false e f top has rest = absurd (false≢true (sym (ap not has) ∙ top))

  -- the newest change of the transaction is the newest that stands on each of its rows
  pub top_of : (nodes : List Node) → IsOnTop id nodes → (row : ℕ) → newest_has row id nodes ≡ true → newest_stamp (nodes_at row nodes) ≡ Some id
  top_of nodes top row has = top_newest (nodes_at row nodes) (top row) (has_newest id row [] nodes has)

  -- one change more
  top_put : (o : Option (List Value)) (older : List RowNode) → is_on_top id older ≡ true → is_on_top id (put_on id o older) ≡ true
  top_put None older top = top
  top_put (Some old) older top = ap (λ b. cond (b || (id == NEVER)) (is_on_top id older) (not (row_has_stamp id older))) ((Decides-eqb id id).1 refl) ∙ top

  pub top_changed : (node : Node) (new older : List RowNode) (row : ℕ) → node.stamp ≡ id → new ≡ with_node row node older → is_on_top id older ≡ true → is_on_top id new ≡ true
  top_changed node new older row stamp is top = ap (is_on_top id) (is ∙ ap (λ s. put_on s (old_of row node) older) stamp) ∙ top_put (old_of row node) older top

  -- the newest change undone
  none_undone : (nodes : List RowNode) → row_has_stamp id nodes ≡ false → row_has_stamp id (first_restamped id NEVER nodes) ≡ false
  none_undone [] h = refl
  none_undone (node ∷ older) h = so (node.stamp == id) refl h (none_undone older)
    where
      so : (own : Bool) → (node.stamp == id) ≡ own → (own || row_has_stamp id older) ≡ false
          → (row_has_stamp id older ≡ false → row_has_stamp id (first_restamped id NEVER older) ≡ false)
          → row_has_stamp id (cond own (row_restamped NEVER node ∷ older) (node ∷ first_restamped id NEVER older)) ≡ false
      so true e h rest = absurd (false≢true (sym h))
      so false e h rest = ap (λ b. b || row_has_stamp id (first_restamped id NEVER older)) e ∙ rest h

  never_first : (older : List RowNode) (node : RowNode) → is_on_top id (row_restamped NEVER node ∷ older) ≡ is_on_top id older
  never_first older node =
      ap (λ b. cond (b || (NEVER == NEVER)) (is_on_top id older) (not (row_has_stamp id older))) (ne_eqb NEVER id (λ same. other (sym same)))

  top_undone : (nodes : List RowNode) → is_on_top id nodes ≡ true → is_on_top id (first_restamped id NEVER nodes) ≡ true
  top_undone [] top = refl
  top_undone (node ∷ older) top = so (node.stamp == id) (node.stamp == NEVER) refl refl top (top_undone older)
    where
      so : (own undone : Bool) → (node.stamp == id) ≡ own → (node.stamp == NEVER) ≡ undone
          → cond (own || undone) (is_on_top id older) (not (row_has_stamp id older)) ≡ true
          → (is_on_top id older ≡ true → is_on_top id (first_restamped id NEVER older) ≡ true)
          → is_on_top id (cond own (row_restamped NEVER node ∷ older) (node ∷ first_restamped id NEVER older)) ≡ true
      so true undone e f top rest = never_first older node ∙ top
      so false true e f top rest =
          ap (λ b. cond (b || (node.stamp == NEVER)) (is_on_top id (first_restamped id NEVER older)) (not (row_has_stamp id (first_restamped id NEVER older)))) e
          ∙ ap (λ b. cond b (is_on_top id (first_restamped id NEVER older)) (not (row_has_stamp id (first_restamped id NEVER older)))) f
          ∙ rest top
      so false false e f top rest =
          ap (λ b. cond (b || (node.stamp == NEVER)) (is_on_top id (first_restamped id NEVER older)) (not (row_has_stamp id (first_restamped id NEVER older)))) e
          ∙ ap (λ b. cond b (is_on_top id (first_restamped id NEVER older)) (not (row_has_stamp id (first_restamped id NEVER older)))) f
          ∙ ap not (none_undone older (not_true (row_has_stamp id older) top))
        where
          not_true : (b : Bool) → not b ≡ true → b ≡ false
          not_true true h = absurd (false≢true h)
          not_true false h = refl

  pub top_after_undo : (new old : List RowNode) (has : Bool) → new ≡ cond has (first_restamped id NEVER old) old → is_on_top id old ≡ true → is_on_top id new ≡ true
  top_after_undo new old has is top = ap (is_on_top id) is ∙ so has
    where
      so : (has : Bool) → is_on_top id (cond has (first_restamped id NEVER old) old) ≡ true
      so true = top_undone old top
      so false = top

-- some nodes taken away
module _ (id : ℕ) (keep : RowNode → Bool) where
  none_kept : (nodes : List RowNode) → row_has_stamp id nodes ≡ false → row_has_stamp id (filter keep nodes) ≡ false
  none_kept [] h = refl
  none_kept (node ∷ older) h = so (keep node) (node.stamp == id) refl h (none_kept older)
    where
      so : (kept own : Bool) → (node.stamp == id) ≡ own → (own || row_has_stamp id older) ≡ false
          → (row_has_stamp id older ≡ false → row_has_stamp id (filter keep older) ≡ false)
          → row_has_stamp id (cond kept (node ∷ filter keep older) (filter keep older)) ≡ false
      so kept true e h rest = absurd (false≢true (sym h))
      so true false e h rest = ap (λ b. b || row_has_stamp id (filter keep older)) e ∙ rest h
      so false false e h rest = rest h

  none_top : (nodes : List RowNode) → row_has_stamp id nodes ≡ false → is_on_top id nodes ≡ true
  none_top [] h = refl
  none_top (node ∷ older) h = so (node.stamp == id) (node.stamp == NEVER) h (none_top older)
    where
      so : (own undone : Bool) → (own || row_has_stamp id older) ≡ false → (row_has_stamp id older ≡ false → is_on_top id older ≡ true)
          → cond (own || undone) (is_on_top id older) (not (row_has_stamp id older)) ≡ true
      so true undone h rest = absurd (false≢true (sym h))
      so false true h rest = rest h
      so false false h rest = ap not h

  pub top_kept : (nodes : List RowNode) → is_on_top id nodes ≡ true → is_on_top id (filter keep nodes) ≡ true
  top_kept [] top = refl
  top_kept (node ∷ older) top = so (keep node) (node.stamp == id) (node.stamp == NEVER) refl refl top (top_kept older)
    where
      not_true : (b : Bool) → not b ≡ true → b ≡ false
      not_true true h = absurd (false≢true h)
      not_true false h = refl

      so : (kept own undone : Bool) → (node.stamp == id) ≡ own → (node.stamp == NEVER) ≡ undone
          → cond (own || undone) (is_on_top id older) (not (row_has_stamp id older)) ≡ true
          → (is_on_top id older ≡ true → is_on_top id (filter keep older) ≡ true)
          → is_on_top id (cond kept (node ∷ filter keep older) (filter keep older)) ≡ true
      so true true undone e f top rest = ap (λ b. cond (b || (node.stamp == NEVER)) (is_on_top id (filter keep older)) (not (row_has_stamp id (filter keep older)))) e ∙ rest top
      so true false true e f top rest =
          ap (λ b. cond (b || (node.stamp == NEVER)) (is_on_top id (filter keep older)) (not (row_has_stamp id (filter keep older)))) e
          ∙ ap (λ b. cond b (is_on_top id (filter keep older)) (not (row_has_stamp id (filter keep older)))) f ∙ rest top
      so true false false e f top rest =
          ap (λ b. cond (b || (node.stamp == NEVER)) (is_on_top id (filter keep older)) (not (row_has_stamp id (filter keep older)))) e
          ∙ ap (λ b. cond b (is_on_top id (filter keep older)) (not (row_has_stamp id (filter keep older)))) f
          ∙ ap not (none_kept older (not_true (row_has_stamp id older) top))
      so false true undone e f top rest = rest top
      so false false true e f top rest = rest top
      so false false false e f top rest = none_top (filter keep older) (none_kept older (not_true (row_has_stamp id older) top))

  pub top_after_filter : (new old : List RowNode) → new ≡ filter keep old → is_on_top id old ≡ true → is_on_top id new ≡ true
  top_after_filter new old is top = ap (is_on_top id) is ∙ top_kept old top
