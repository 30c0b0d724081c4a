-- The newest node that stands on a row, undone.
use Rattle.std.proofs.Common.{ℕ, ◌≡◌, Bool, true, false, List, [], ◌∷◌, Option, Some, None, refl, ap, sym, ◌∙◌, cond}
use Rattle.std.specs.Prelude.{not, ◌==◌, ◌≢◌}
use Rattle.std.proofs.lemmas.Bool.{eqb-true, ne_eqb}
use Rattle.std.proofs.lemmas.Bool.Decides.{Decides-eqb}
use Rattle.dk_values.specs.declared.value.Value.{Value}
use Rattle.dk_stamp.specs.declared.snapshot.TheConstants.{NEVER}
use Rattle.dk_chain.specs.Nodes.{RowNode, put_back, newest_stamp, first_restamped, row_restamped}
use Rattle.dk_vector.specs.Stacks.{Stack, undone_on}
use Rattle.dk_vector.specs.Vectors.{stands, standing, all_stand, undone_first}
use Rattle.dk_vector.proofs.StandingLemmas.{all_put_back, all_first}

abbrev stack : ℕ → ℕ → List Value → List RowNode → Stack
stack inserted deleted base nodes = record { base = base; nodes = nodes; inserted = inserted; deleted = deleted }

some_is : (a b : ℕ) → Some a ≡ Some b → a ≡ b
some_is a b e = ap (λ o. elim o as (λ x. ℕ) [ None ↦ a | Some c ↦ c ]) e

module _ (id : ℕ) (other : id ≢ NEVER) where
  -- a node that was undone is another transaction's
  never_is : (node : RowNode) → (node.stamp == NEVER) ≡ true → (node.stamp == id) ≡ false
  never_is node e = ne_eqb node.stamp id (λ same. other (sym same ∙ eqb-true node.stamp NEVER e))

  -- the newest that stands is of the transaction
  is_id : (node : RowNode) (older : List RowNode) → (node.stamp == NEVER) ≡ false → newest_stamp (node ∷ older) ≡ Some id → node.stamp ≡ id
  is_id node older e top = some_is node.stamp id (sym (ap (λ b. cond b (newest_stamp older) (Some node.stamp)) e) ∙ top)

  first_is : (node : RowNode) (older : List RowNode) → node.stamp ≡ id → first_restamped id NEVER (node ∷ older) ≡ row_restamped NEVER node ∷ older
  first_is node older e = ap (λ b. cond b (row_restamped NEVER node ∷ older) (node ∷ first_restamped id NEVER older)) ((Decides-eqb node.stamp id).1 e)

  first_not : (node : RowNode) (older : List RowNode) → (node.stamp == NEVER) ≡ true → first_restamped id NEVER (node ∷ older) ≡ node ∷ first_restamped id NEVER older
  first_not node older e = ap (λ b. cond b (row_restamped NEVER node ∷ older) (node ∷ first_restamped id NEVER older)) (never_is node e)

  newest_below : (node : RowNode) (older : List RowNode) → (node.stamp == NEVER) ≡ true → newest_stamp (node ∷ older) ≡ newest_stamp older
  newest_below node older e = ap (λ b. cond b (newest_stamp older) (Some node.stamp)) e

  first_below : (node : RowNode) (older : List RowNode) → (node.stamp == NEVER) ≡ true → undone_first (node ∷ older) ≡ undone_first older
  first_below node older e = ap (λ b. cond (not b) (all_stand older) (undone_first older)) e

  first_top : (node : RowNode) (older : List RowNode) → (node.stamp == NEVER) ≡ false → undone_first (node ∷ older) ≡ all_stand older
  first_top node older e = ap (λ b. cond (not b) (all_stand older) (undone_first older)) e

  -- those that were undone stay the newest
  pub undo_keeps_first : (nodes : List RowNode) → newest_stamp nodes ≡ Some id → undone_first nodes ≡ true → undone_first (first_restamped id NEVER nodes) ≡ true
  undo_keeps_first [] top first = refl
  undo_keeps_first (node ∷ older) top first = so (node.stamp == NEVER) refl (undo_keeps_first older)
    where
      so : (b : Bool) → (node.stamp == NEVER) ≡ b → (newest_stamp older ≡ Some id → undone_first older ≡ true → undone_first (first_restamped id NEVER older) ≡ true)
          → undone_first (first_restamped id NEVER (node ∷ older)) ≡ true
      so true e rest =
          ap undone_first (first_not node older e) ∙ first_below node (first_restamped id NEVER older) e
          ∙ rest (sym (newest_below node older e) ∙ top) (sym (first_below node older e) ∙ first)
      so false e rest = ap undone_first (first_is node older (is_id node older e top)) ∙ all_first older (sym (first_top node older e) ∙ first)

  module _ (inserted deleted : ℕ) where
    abbrev Undoes : List Value → List RowNode → Type 0
    Undoes base nodes =
        stack inserted deleted (put_back stands base (first_restamped id NEVER nodes)) (standing (first_restamped id NEVER nodes))
        ≡ undone_on (stack inserted deleted (put_back stands base nodes) (standing nodes)) (standing nodes)

    abbrev both : List Value → List RowNode → Stack
    both base nodes = stack inserted deleted (put_back stands base nodes) (standing nodes)

    abbrev undone_both : List Value → List RowNode → Stack
    undone_both base nodes = undone_on (both base nodes) (standing nodes)

    both_below : (base : List Value) (node : RowNode) (older : List RowNode) → (node.stamp == NEVER) ≡ true → both base (node ∷ older) ≡ both node.old older
    both_below base node older e = ap (λ b. stack inserted deleted (put_back stands (cond (not b) base node.old) older) (cond (not b) (node ∷ standing older) (standing older))) e

    undone_below : (base : List Value) (node : RowNode) (older : List RowNode) → (node.stamp == NEVER) ≡ true → undone_both base (node ∷ older) ≡ undone_both node.old older
    undone_below base node older e =
        ap (λ b. undone_on (stack inserted deleted (put_back stands (cond (not b) base node.old) older) (cond (not b) (node ∷ standing older) (standing older))) (cond (not b) (node ∷ standing older) (standing older))) e

    undone_top : (base : List Value) (node : RowNode) (older : List RowNode) → (node.stamp == NEVER) ≡ false → undone_both base (node ∷ older) ≡ stack inserted deleted node.old (standing older)
    undone_top base node older e =
        ap (λ b. undone_on (stack inserted deleted (put_back stands (cond (not b) base node.old) older) (cond (not b) (node ∷ standing older) (standing older))) (cond (not b) (node ∷ standing older) (standing older))) e

    pub undoes : (base : List Value) (nodes : List RowNode) → newest_stamp nodes ≡ Some id → undone_first nodes ≡ true → Undoes base nodes
    undoes base [] top first = absurd (let no_node : ◌≡◌ {A = Option ℕ} None (Some id) = top in cc)
    undoes base (node ∷ older) top first = so (node.stamp == NEVER) refl (undoes node.old older)
      where
        so : (b : Bool) → (node.stamp == NEVER) ≡ b → (newest_stamp older ≡ Some id → undone_first older ≡ true → Undoes node.old older) → Undoes base (node ∷ older)
        so true e rest =
            ap (both base) (first_not node older e) ∙ both_below base node (first_restamped id NEVER older) e
            ∙ rest (sym (newest_below node older e) ∙ top) (sym (first_below node older e) ∙ first)
            ∙ sym (undone_below base node older e)
        so false e rest =
            ap (both base) (first_is node older (is_id node older e top))
            ∙ ap (λ values. stack inserted deleted values (standing older)) (all_put_back node.old older (sym (first_top node older e) ∙ first))
            ∙ sym (undone_top base node older e)
