-- The nodes of a row that stand, and those that were undone on top of them, through stamping, undoing and dropping.
use Rattle.std.proofs.Common.{ℕ, ◌≡◌, Bool, true, false, List, [], ◌∷◌, refl, ap, sym, ◌∙◌, cond, ltb}
use Rattle.std.specs.Prelude.{◌&&◌, ◌||◌, not, ◌==◌, ◌≢◌}
use Rattle.std.proofs.lemmas.Bool.{eqb-true, ne_eqb, false≢true, and_parts}
use Rattle.dk_values.specs.declared.value.Value.{Value}
use Rattle.dk_stamp.specs.declared.snapshot.TheConstants.{NEVER}
use Rattle.dk_chain.specs.Nodes.{RowNode, put_back, last_restamped, row_above, row_has_stamp, row_restamped}
use Rattle.dk_vector.specs.Vectors.{stands, standing, all_stand, undone_first}

pub stands_true : (stamp : ℕ) → stamp ≢ NEVER → stands stamp ≡ true
stands_true stamp other = ap not (ne_eqb stamp NEVER other)

-- all nodes that stand
pub all_put_back : (base : List Value) (nodes : List RowNode) → all_stand nodes ≡ true → put_back stands base nodes ≡ base
all_put_back base [] h = refl
all_put_back base (node ∷ older) h =
    let parts = and_parts (stands node.stamp) (all_stand older) h in
    ap (λ b. put_back stands (cond b base node.old) older) parts.0 ∙ all_put_back base older parts.1

pub all_first : (nodes : List RowNode) → all_stand nodes ≡ true → undone_first nodes ≡ true
all_first [] h = refl
all_first (node ∷ older) h =
    let parts = and_parts (stands node.stamp) (all_stand older) h in
    ap (λ b. cond b (all_stand older) (undone_first older)) parts.0 ∙ parts.1

and_true : (a b : Bool) → a ≡ true → b ≡ true → (a && b) ≡ true
and_true a b e f = ap (λ a. a && b) e ∙ f

-- stamping
module _ (id number : ℕ) (id_stands : stands id ≡ true) (number_stands : stands number ≡ true) where
  stamp_of : (node : RowNode) → (node.stamp == id) ≡ true → stands node.stamp ≡ true
  stamp_of node e = ap stands (eqb-true node.stamp id e) ∙ id_stands

  last_none : (nodes : List RowNode) → row_has_stamp id nodes ≡ false → last_restamped id number nodes ≡ nodes
  last_none [] h = refl
  last_none (node ∷ older) h = so (node.stamp == id) h
    where
      so : (b : Bool) → (b || row_has_stamp id older) ≡ false
          → cond (row_has_stamp id older) (node ∷ last_restamped id number older) (cond b (row_restamped number node ∷ older) (node ∷ older)) ≡ node ∷ older
      so true e = absurd (false≢true (sym e))
      so false e = ap (λ t. cond t (node ∷ last_restamped id number older) (node ∷ older)) e

  has_standing : (nodes : List RowNode) → row_has_stamp id (standing nodes) ≡ row_has_stamp id nodes
  has_standing [] = refl
  has_standing (node ∷ older) = so (stands node.stamp) refl (has_standing older)
    where
      so : (b : Bool) → stands node.stamp ≡ b → row_has_stamp id (standing older) ≡ row_has_stamp id older
          → row_has_stamp id (cond b (node ∷ standing older) (standing older)) ≡ ((node.stamp == id) || row_has_stamp id older)
      so true e rest = ap (λ t. (node.stamp == id) || t) rest
      so false e rest = rest ∙ sym (ap (λ t. t || row_has_stamp id older) (not_it (node.stamp == id) refl))
        where
          not_it : (b : Bool) → (node.stamp == id) ≡ b → (node.stamp == id) ≡ false
          not_it false h = h
          not_it true h = absurd (false≢true (sym e ∙ stamp_of node h))

  pub standing_stamped : (nodes : List RowNode) → standing (last_restamped id number nodes) ≡ last_restamped id number (standing nodes)
  standing_stamped [] = refl
  standing_stamped (node ∷ older) = so (row_has_stamp id older) refl (standing_stamped older)
    where
      kept : (b : Bool) → row_has_stamp id older ≡ true → standing (last_restamped id number older) ≡ last_restamped id number (standing older)
          → cond b (node ∷ standing (last_restamped id number older)) (standing (last_restamped id number older)) ≡ last_restamped id number (cond b (node ∷ standing older) (standing older))
      kept true has rest =
          ap (λ l. node ∷ l) rest
          ∙ sym (ap (λ t. cond t (node ∷ last_restamped id number (standing older)) (cond (node.stamp == id) (row_restamped number node ∷ standing older) (node ∷ standing older))) (has_standing older ∙ has))
      kept false has rest = rest

      last_here : (t : Bool) → (node.stamp == id) ≡ t → row_has_stamp id older ≡ false
          → last_restamped id number (node ∷ standing older) ≡ cond t (row_restamped number node ∷ standing older) (node ∷ standing older)
      last_here t e none =
          ap (λ t. cond t (node ∷ last_restamped id number (standing older)) (cond (node.stamp == id) (row_restamped number node ∷ standing older) (node ∷ standing older))) (has_standing older ∙ none)
          ∙ ap (λ t. cond t (row_restamped number node ∷ standing older) (node ∷ standing older)) e

      other : (b : Bool) → (node.stamp == id) ≡ false → row_has_stamp id older ≡ false
          → cond b (node ∷ standing older) (standing older) ≡ last_restamped id number (cond b (node ∷ standing older) (standing older))
      other true e none = sym (last_here false e none)
      other false e none = sym (last_none (standing older) (has_standing older ∙ none))

      this : (t : Bool) → (node.stamp == id) ≡ t → row_has_stamp id older ≡ false
          → standing (cond t (row_restamped number node ∷ older) (node ∷ older)) ≡ last_restamped id number (standing (node ∷ older))
      this true e none =
          ap (λ b. cond b (row_restamped number node ∷ standing older) (standing older)) number_stands
          ∙ sym (last_here true e none)
          ∙ sym (ap (λ b. last_restamped id number (cond b (node ∷ standing older) (standing older))) (stamp_of node e))
      this false e none = other (stands node.stamp) e none

      so : (h : Bool) → row_has_stamp id older ≡ h → standing (last_restamped id number older) ≡ last_restamped id number (standing older)
          → standing (cond h (node ∷ last_restamped id number older) (cond (node.stamp == id) (row_restamped number node ∷ older) (node ∷ older))) ≡ last_restamped id number (standing (node ∷ older))
      so true has rest = kept (stands node.stamp) has rest
      so false none rest = this (node.stamp == id) refl none

  all_stamped : (nodes : List RowNode) → all_stand nodes ≡ true → all_stand (last_restamped id number nodes) ≡ true
  all_stamped [] h = refl
  all_stamped (node ∷ older) h =
      let parts = and_parts (stands node.stamp) (all_stand older) h in
      so (row_has_stamp id older) (node.stamp == id) parts.0 parts.1 (all_stamped older parts.1)
    where
      so : (has here : Bool) → stands node.stamp ≡ true → all_stand older ≡ true → all_stand (last_restamped id number older) ≡ true
          → all_stand (cond has (node ∷ last_restamped id number older) (cond here (row_restamped number node ∷ older) (node ∷ older))) ≡ true
      so true here e rest stamped = and_true (stands node.stamp) (all_stand (last_restamped id number older)) e stamped
      so false true e rest stamped = and_true (stands number) (all_stand older) number_stands rest
      so false false e rest stamped = and_true (stands node.stamp) (all_stand older) e rest

  abbrev first_if : RowNode → List RowNode → Bool → Bool
  first_if node older b = cond b (all_stand older) (undone_first older)

  pub first_stamped : (nodes : List RowNode) → undone_first nodes ≡ true → undone_first (last_restamped id number nodes) ≡ true
  first_stamped [] h = refl
  first_stamped (node ∷ older) h = so (row_has_stamp id older) (node.stamp == id) (stands node.stamp) refl refl h (first_stamped older)
    where
      so : (has here up : Bool) → (node.stamp == id) ≡ here → stands node.stamp ≡ up → first_if node older up ≡ true
          → (undone_first older ≡ true → undone_first (last_restamped id number older) ≡ true)
          → undone_first (cond has (node ∷ last_restamped id number older) (cond here (row_restamped number node ∷ older) (node ∷ older))) ≡ true
      so true here true e f h rest = ap (first_if node (last_restamped id number older)) f ∙ all_stamped older h
      so true here false e f h rest = ap (first_if node (last_restamped id number older)) f ∙ rest h
      so false true true e f h rest = ap (first_if node older) number_stands ∙ h
      so false true false e f h rest = absurd (false≢true (sym f ∙ stamp_of node e))
      so false false up e f h rest = ap (first_if node older) f ∙ h

-- dropping
module _ (bound : ℕ) where
  pub standing_above : (nodes : List RowNode) → standing (row_above bound nodes) ≡ row_above bound (standing nodes)
  standing_above [] = refl
  standing_above (node ∷ older) = so (ltb bound node.stamp) (stands node.stamp) refl refl (standing_above older)
    where
      so : (a b : Bool) → ltb bound node.stamp ≡ a → stands node.stamp ≡ b → standing (row_above bound older) ≡ row_above bound (standing older)
          → standing (cond a (node ∷ row_above bound older) (row_above bound older)) ≡ row_above bound (cond b (node ∷ standing older) (standing older))
      so true true e f rest = ap (λ b. cond b (node ∷ standing (row_above bound older)) (standing (row_above bound older))) f ∙ ap (λ l. node ∷ l) rest ∙ sym (ap (λ a. cond a (node ∷ row_above bound (standing older)) (row_above bound (standing older))) e)
      so true false e f rest = ap (λ b. cond b (node ∷ standing (row_above bound older)) (standing (row_above bound older))) f ∙ rest
      so false true e f rest = rest ∙ sym (ap (λ a. cond a (node ∷ row_above bound (standing older)) (row_above bound (standing older))) e)
      so false false e f rest = rest

  all_above : (nodes : List RowNode) → all_stand nodes ≡ true → all_stand (row_above bound nodes) ≡ true
  all_above [] h = refl
  all_above (node ∷ older) h =
      let parts = and_parts (stands node.stamp) (all_stand older) h in
      so (ltb bound node.stamp) parts.0 (all_above older parts.1)
    where
      so : (a : Bool) → stands node.stamp ≡ true → all_stand (row_above bound older) ≡ true → all_stand (cond a (node ∷ row_above bound older) (row_above bound older)) ≡ true
      so true e rest = and_true (stands node.stamp) (all_stand (row_above bound older)) e rest
      so false e rest = rest

  pub first_above : (nodes : List RowNode) → undone_first nodes ≡ true → undone_first (row_above bound nodes) ≡ true
  first_above [] h = refl
  first_above (node ∷ older) h = so (ltb bound node.stamp) (stands node.stamp) refl h (first_above older)
    where
      so : (a b : Bool) → stands node.stamp ≡ b → cond b (all_stand older) (undone_first older) ≡ true → (undone_first older ≡ true → undone_first (row_above bound older) ≡ true)
          → undone_first (cond a (node ∷ row_above bound older) (row_above bound older)) ≡ true
      so true true e h rest = ap (λ b. cond b (all_stand (row_above bound older)) (undone_first (row_above bound older))) e ∙ all_above older h
      so true false e h rest = ap (λ b. cond b (all_stand (row_above bound older)) (undone_first (row_above bound older))) e ∙ rest h
      so false true e h rest = rest (all_first older h)
      so false false e h rest = rest h
