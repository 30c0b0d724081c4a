-- Each row of a vector through a change of some rows.
use Rattle.std.proofs.Common.{ℕ, ◌≡◌, Bool, true, false, List, [], ◌∷◌, length, Option, Some, None, refl, ap, sym, ◌∙◌, cond, arith}
use Rattle.std.specs.Prelude.{◌&&◌, ◌||◌, ◌==◌, ◌≢◌, slice_get, option_map}
use Rattle.std.proofs.lemmas.Bool.{eqb-true}
use Rattle.dk_values.specs.declared.value.Value.{Value}
use Rattle.dk_columns.specs.OptionTables.{OptionTable}
use Rattle.dk_stamp.specs.declared.snapshot.TheConstants.{NEVER}
use Rattle.dk_chain.specs.declared.node.Node.{Node}
use Rattle.dk_chain.specs.Nodes.{RowNode, row_node, put_on, put_back, old_in, nodes_at, old_of, with_node}
use Rattle.dk_version.specs.declared.stamps.Stamp.{Stamp}
use Rattle.dk_vector.specs.Stacks.{Stack, absent, updated}
use Rattle.dk_vector.specs.Vectors.{VectorRows, stands, standing, all_stand, stack_of, stack_if, stack_at, base_at, or_base, has_row, ArePlaced}
use Rattle.dk_vector.specs.Changes.{rows_of, IsWritten, NoneUndone, updated_if}
use Rattle.dk_vector.proofs.EraseLemmas.{placed_at}
use Rattle.dk_vector.proofs.StandingLemmas.{stands_true, all_put_back}

-- the old rows of a change stand where the new ones do
old_is : (row : ℕ) (base : OptionTable) (rows : List ℕ) (values : List (List Value)) → length values ≡ length rows
    → old_in row rows (rows_of base rows) ≡ option_map (λ v. base_at row base) (old_in row rows values)
old_is row base [] values e = refl
old_is row base (r ∷ rows) [] e = absurd (omega (arith, e))
old_is row base (r ∷ rows) (v ∷ values) e = so (r == row) refl (old_is row base rows values (omega (arith, e)))
  where
    so : (b : Bool) → (r == row) ≡ b → old_in row rows (rows_of base rows) ≡ option_map (λ v. base_at row base) (old_in row rows values)
        → cond b (Some (base_at r base)) (old_in row rows (rows_of base rows)) ≡ option_map (λ v. base_at row base) (cond b (Some v) (old_in row rows values))
    so true is rest = ap (λ r. Some (base_at r base)) (eqb-true r row is)
    so false is rest = rest

has_old : (row : ℕ) (rows : List ℕ) (values : List (List Value)) (v : List Value) → old_in row rows values ≡ Some v → has_row row rows ≡ true
has_old row [] values v e = absurd (let no_row : ◌≡◌ {A = Option (List Value)} None (Some v) = e in cc)
has_old row (r ∷ rows) [] v e = absurd (let no_row : ◌≡◌ {A = Option (List Value)} None (Some v) = e in cc)
has_old row (r ∷ rows) (w ∷ values) v e = so (r == row) e (has_old row rows values v)
  where
    so : (b : Bool) → cond b (Some w) (old_in row rows values) ≡ Some v → (old_in row rows values ≡ Some v → has_row row rows ≡ true) → (b || has_row row rows) ≡ true
    so true e rest = refl
    so false e rest = rest e

abbrev row_if : Bool → Stamp → List Value → List RowNode → Stack
row_if spare stamp base nodes = cond spare absent (record { base = base; nodes = nodes; inserted = stamp.inserted; deleted = stamp.deleted })

module _ (id : ℕ) (other : id ≢ NEVER) where
  -- a node on nodes that stand
  top_put_back : (values old : List Value) (older : List RowNode) → all_stand older ≡ true → put_back stands values (row_node id old ∷ older) ≡ values
  top_put_back values old older all = ap (λ b. put_back stands (cond b values old) older) (stands_true id other) ∙ all_put_back values older all

  top_standing : (old : List Value) (older : List RowNode) → standing (row_node id old ∷ older) ≡ row_node id old ∷ standing older
  top_standing old older = ap (λ b. cond b (row_node id old ∷ standing older) (standing older)) (stands_true id other)

  updated_stack : (stamp : Stamp) (base values : List Value) (older : List RowNode) → all_stand older ≡ true → (stack_of stamp base older).inserted ≢ NEVER
      → stack_of stamp values (row_node id base ∷ older) ≡ updated id values (stack_of stamp base older)
  updated_stack stamp base values older all placed = so (stamp.inserted == NEVER) refl
    where
      so : (spare : Bool) → (stamp.inserted == NEVER) ≡ spare → stack_of stamp values (row_node id base ∷ older) ≡ updated id values (stack_of stamp base older)
      so true e = absurd (placed (ap (λ b. (row_if b stamp (put_back stands base older) (standing older)).inserted) e))
      so false e =
          ap (λ b. row_if b stamp (put_back stands values (row_node id base ∷ older)) (standing (row_node id base ∷ older))) e
          ∙ ap (λ v. row_if false stamp v (standing (row_node id base ∷ older))) (top_put_back values base older all)
          ∙ ap (row_if false stamp values) (top_standing base older)
          ∙ ap (λ v. row_if false stamp values (row_node id v ∷ standing older)) (sym (all_put_back base older all))
          ∙ sym (ap (λ b. updated id values (row_if b stamp (put_back stands base older) (standing older))) e)

  change_stack : (s : Option Stamp) (base : List Value) (o : Option (List Value)) (older : List RowNode) → all_stand older ≡ true
      → ((v : List Value) → o ≡ Some v → (stack_if s base older).inserted ≢ NEVER)
      → stack_if s (or_base base o) (put_on id (option_map (λ v. base) o) older) ≡ updated_if id o (stack_if s base older)
  change_stack s base None older all placed = refl
  change_stack None base (Some v) older all placed = absurd (placed v refl refl)
  change_stack (Some stamp) base (Some v) older all placed = updated_stack stamp base v older all (placed v refl)

  change_first : (o : Option (List Value)) (older : List RowNode) → all_stand older ≡ true → all_stand (put_on id o older) ≡ true
  change_first None older all = all
  change_first (Some old) older all = ap (λ b. b && all_stand older) (stands_true id other) ∙ all

  -- the nodes of each row
  pub change_nodes : (row : ℕ) (node : Node) (base : OptionTable) (rows : List ℕ) (values : List (List Value)) (older : List RowNode)
      → node.stamp ≡ id → node.offsets.items ≡ rows → node.old ≡ rows_of base rows → length values ≡ length rows
      → with_node row node older ≡ put_on id (option_map (λ v. base_at row base) (old_in row rows values)) older
  change_nodes row node base rows values older stamp offsets old count =
      ap (λ s. put_on s (old_of row node) older) stamp
      ∙ ap (λ rows. put_on id (old_in row rows node.old) older) offsets
      ∙ ap (λ olds. put_on id (old_in row rows olds) older) old
      ∙ ap (λ o. put_on id o older) (old_is row base rows values count)

  pub change_stands : (row : ℕ) (node : Node) (new older : List RowNode) → node.stamp ≡ id → new ≡ with_node row node older → all_stand older ≡ true → all_stand new ≡ true
  change_stands row node new older stamp is all = ap all_stand (is ∙ ap (λ s. put_on s (old_of row node) older) stamp) ∙ change_first (old_of row node) older all

  pub change_at : (row : ℕ) (node : Node) (rows : List ℕ) (values : List (List Value)) (vector : VectorRows) (base : OptionTable) (new : List RowNode)
      → node.stamp ≡ id → node.offsets.items ≡ rows → node.old ≡ rows_of vector.base rows → length values ≡ length rows
      → new ≡ with_node row node (nodes_at row vector.nodes) → IsWritten rows values vector.base base
      → NoneUndone vector.nodes → ArePlaced rows vector
      → stack_if (slice_get vector.stamps.rows row) (base_at row base) new ≡ updated_if id (old_in row rows values) (stack_at vector row)
  change_at row node rows values vector base new stamp offsets old count is written none placed =
      ap (stack_if (slice_get vector.stamps.rows row) (base_at row base)) (is ∙ change_nodes row node vector.base rows values (nodes_at row vector.nodes) stamp offsets old count)
      ∙ ap (λ b. stack_if (slice_get vector.stamps.rows row) b (put_on id (option_map (λ v. base_at row vector.base) (old_in row rows values)) (nodes_at row vector.nodes))) (written.each row)
      ∙ change_stack (slice_get vector.stamps.rows row) (base_at row vector.base) (old_in row rows values) (nodes_at row vector.nodes) (none row)
      (λ v e. placed_at rows vector placed row (has_old row rows values v e))
