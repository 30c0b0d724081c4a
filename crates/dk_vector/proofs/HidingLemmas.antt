-- What a call on a row leaves of what a reader sees of it.
use Rattle.std.proofs.Common.{ℕ, ◌≡◌, ◌≤◌, Bool, true, false, List, [], ◌∷◌, Option, Some, None, refl, ap, sym, ◌∙◌, cond, ltb}
use Rattle.std.specs.Prelude.{◌&&◌, not, ◌==◌}
use Rattle.std.proofs.lemmas.Bool.{eqb-true, ltb-false}
use Rattle.dk_values.specs.declared.value.Value.{Value}
use Rattle.dk_stamp.specs.declared.snapshot.TheConstants.{NEVER}
use Rattle.dk_chain.specs.Nodes.{RowNode, put_back, last_restamped, row_above, row_has_stamp, row_restamped}
use Rattle.dk_vector.specs.Stacks.{Stack, read, undone_on}
use Rattle.dk_vector.specs.HidingLaws.{AgreeOn, AllSeen, ReadersAgree, UpdateIsHidden, DeletionIsHidden, AppendIsHidden, OwnUpdateIsRead, UndoIsHidden, UndoOfDeletionIsHidden, UndoOfAppendIsHidden, StampingIsHidden, StampingOfDeletionIsHidden, StampingOfAppendIsHidden, DropIsHidden}

-- what is read, by whether the two stamps are seen and by the values
abbrev shown : Bool → Bool → List Value → Option (List Value)
shown inserted deleted values = cond (inserted && not deleted) (Some values) None

agree_on : (a b : ℕ → Bool) (row : List Value) (nodes : List RowNode) → AgreeOn a b nodes → put_back a row nodes ≡ put_back b row nodes
agree_on a b row [] h = refl
agree_on a b row (node ∷ older) h =
    ap (λ t. put_back a (cond t row node.old) older) h.0 ∙ agree_on a b (cond (b node.stamp) row node.old) older h.1

pub readers_agree : ReadersAgree
readers_agree a b stack h =
    ap (λ i. shown i (a stack.deleted) (put_back a stack.base stack.nodes)) h.inserted
    ∙ ap (λ d. shown (b stack.inserted) d (put_back a stack.base stack.nodes)) h.deleted
    ∙ ap (shown (b stack.inserted) (b stack.deleted)) (agree_on a b stack.base stack.nodes h.nodes)

pub update_is_hidden : UpdateIsHidden
update_is_hidden sees id values stack unseen =
    ap (λ t. shown (sees stack.inserted) (sees stack.deleted) (put_back sees (cond t values stack.base) stack.nodes)) unseen

pub deletion_is_hidden : DeletionIsHidden
deletion_is_hidden sees id stack unseen not_deleted =
    ap (λ d. shown (sees stack.inserted) d (put_back sees stack.base stack.nodes)) (unseen ∙ sym not_deleted)

pub append_is_hidden : AppendIsHidden
append_is_hidden sees id values unseen never =
    ap (λ i. shown i (sees NEVER) values) unseen ∙ sym (ap (λ i. shown i (sees NEVER) []) never)

all_seen : (sees : ℕ → Bool) (row : List Value) (nodes : List RowNode) → AllSeen sees nodes → put_back sees row nodes ≡ row
all_seen sees row [] h = refl
all_seen sees row (node ∷ older) h = ap (λ t. put_back sees (cond t row node.old) older) h.0 ∙ all_seen sees row older h.1

pub own_update_is_read : OwnUpdateIsRead
own_update_is_read sees id values stack all there own =
    ap (λ t. cond t (Some (put_back sees (cond (sees id) values stack.base) stack.nodes)) None) there
    ∙ ap (λ t. Some (put_back sees (cond t values stack.base) stack.nodes)) own
    ∙ ap (λ (row : List Value). Some row) (all_seen sees values stack.nodes all)

undone_from : (sees : ℕ → Bool) (stack : Stack) (node : RowNode) (older : List RowNode) → sees node.stamp ≡ false
    → read sees (undone_on stack (node ∷ older)) ≡ shown (sees stack.inserted) (sees stack.deleted) (put_back sees stack.base (node ∷ older))
undone_from sees stack node older unseen =
    sym (ap (λ t. shown (sees stack.inserted) (sees stack.deleted) (put_back sees (cond t stack.base node.old) older)) unseen)

pub undo_is_hidden : UndoIsHidden
undo_is_hidden sees node older stack is unseen =
    ap (λ nodes. read sees (undone_on stack nodes)) is ∙ undone_from sees stack node older unseen
    ∙ sym (ap (λ nodes. shown (sees stack.inserted) (sees stack.deleted) (put_back sees stack.base nodes)) is)

pub undo_of_deletion_is_hidden : UndoOfDeletionIsHidden
undo_of_deletion_is_hidden sees stack never unseen =
    ap (λ d. shown (sees stack.inserted) d (put_back sees stack.base stack.nodes)) (never ∙ sym unseen)

pub undo_of_append_is_hidden : UndoOfAppendIsHidden
undo_of_append_is_hidden sees stack never unseen =
    ap (λ i. shown i (sees NEVER) []) never ∙ sym (ap (λ i. shown i (sees stack.deleted) (put_back sees stack.base stack.nodes)) unseen)

module _ (sees : ℕ → Bool) (id number : ℕ) (alike : sees id ≡ sees number) where
  stamping_this : (row : List Value) (node : RowNode) (older : List RowNode) (b : Bool) → (node.stamp == id) ≡ b
      → put_back sees row (cond b (row_restamped number node ∷ older) (node ∷ older)) ≡ put_back sees row (node ∷ older)
  stamping_this row node older false e = refl
  stamping_this row node older true e =
      ap (λ t. put_back sees (cond t row node.old) older) (sym alike ∙ ap sees (sym (eqb-true node.stamp id e)))

  pub stamping_on : (row : List Value) (nodes : List RowNode) → put_back sees row (last_restamped id number nodes) ≡ put_back sees row nodes
  stamping_on row [] = refl
  stamping_on row (node ∷ older) = so (row_has_stamp id older) (stamping_on (cond (sees node.stamp) row node.old) older)
    where
      so : (b : Bool)
          → put_back sees (cond (sees node.stamp) row node.old) (last_restamped id number older) ≡ put_back sees (cond (sees node.stamp) row node.old) older
          → put_back sees row (cond b (node ∷ last_restamped id number older) (cond (node.stamp == id) (row_restamped number node ∷ older) (node ∷ older))) ≡ put_back sees row (node ∷ older)
      so true rest = rest
      so false rest = stamping_this row node older (node.stamp == id) refl

pub stamping_is_hidden : StampingIsHidden
stamping_is_hidden sees id number stack alike =
    ap (shown (sees stack.inserted) (sees stack.deleted)) (stamping_on sees id number alike stack.base stack.nodes)

pub stamping_of_deletion_is_hidden : StampingOfDeletionIsHidden
stamping_of_deletion_is_hidden sees number stack alike =
    ap (λ d. shown (sees stack.inserted) d (put_back sees stack.base stack.nodes)) (sym alike)

pub stamping_of_append_is_hidden : StampingOfAppendIsHidden
stamping_of_append_is_hidden sees number stack alike =
    ap (λ i. shown i (sees stack.deleted) (put_back sees stack.base stack.nodes)) (sym alike)

module _ (sees : ℕ → Bool) (bound : ℕ) (seen : (stamp : ℕ) → stamp ≤ bound → sees stamp ≡ true) where
  pub drop_on : (row : List Value) (nodes : List RowNode) → put_back sees row (row_above bound nodes) ≡ put_back sees row nodes
  drop_on row [] = refl
  drop_on row (node ∷ older) = so (ltb bound node.stamp) refl (drop_on row older) (drop_on (cond (sees node.stamp) row node.old) older)
    where
      so : (b : Bool) → ltb bound node.stamp ≡ b
          → put_back sees row (row_above bound older) ≡ put_back sees row older
          → put_back sees (cond (sees node.stamp) row node.old) (row_above bound older) ≡ put_back sees (cond (sees node.stamp) row node.old) older
          → put_back sees row (cond b (node ∷ row_above bound older) (row_above bound older)) ≡ put_back sees row (node ∷ older)
      so true e dropped kept = kept
      so false e dropped kept = dropped ∙ sym (ap (λ t. put_back sees (cond t row node.old) older) (seen node.stamp (ltb-false bound node.stamp e)))

pub drop_is_hidden : DropIsHidden
drop_is_hidden sees bound stack seen =
    ap (shown (sees stack.inserted) (sees stack.deleted)) (drop_on sees bound seen stack.base stack.nodes)
