-- What a reader sees of a row, from what is kept of it.
use Rattle.std.proofs.Common.{ℕ, ◌≡◌, Bool, true, false, List, [], ◌∷◌, Option, Some, None, refl, ap, sym, ◌∙◌, cond}
use Rattle.std.specs.Prelude.{◌&&◌, not, ◌==◌}
use Rattle.std.proofs.lemmas.Bool.{eqb-true, false≢true, and_parts}
use Rattle.dk_values.specs.declared.value.Value.{Value}
use Rattle.dk_stamp.specs.declared.snapshot.TheConstants.{NEVER}
use Rattle.dk_chain.specs.Nodes.{RowNode, put_back, oldest_unseen, newest_stamp}
use Rattle.dk_version.specs.declared.stamps.Stamp.{Stamp}
use Rattle.dk_version.specs.Rows.{is_there as is_row_there}
use Rattle.dk_vector.specs.Stacks.{Stack, absent, is_there, read, unseen_stamp, newest_node, unseen_deletion, stamp_against, blocker}
use Rattle.dk_vector.specs.Vectors.{stands, standing, all_stand, undone_first, stack_of, stack_if, or_base}
use Rattle.dk_vector.proofs.StandingLemmas.{all_put_back}

-- the nodes put back are the old row of the oldest unseen one
pub put_back_is : (sees : ℕ → Bool) (base : List Value) (nodes : List RowNode) → put_back sees base nodes ≡ or_base base (oldest_unseen sees nodes)
put_back_is sees base [] = refl
put_back_is sees base (node ∷ older) = put_back_is sees (cond (sees node.stamp) base node.old) older ∙ so (oldest_unseen sees older) (sees node.stamp)
  where
    so : (o : Option (List Value)) (b : Bool) → or_base (cond b base node.old) o ≡ or_base base (elim o as (λ x. Option (List Value)) [ Some old ↦ Some old | None ↦ cond b None (Some node.old) ])
    so (Some old) b = refl
    so None true = refl
    so None false = refl

pub standing_all : (nodes : List RowNode) → all_stand nodes ≡ true → standing nodes ≡ nodes
standing_all [] h = refl
standing_all (node ∷ older) h =
    let parts = and_parts (stands node.stamp) (all_stand older) h in
    ap (λ b. cond b (node ∷ standing older) (standing older)) parts.0 ∙ ap (λ l. node ∷ l) (standing_all older parts.1)

-- what was undone is put back for every reader
put_back_standing : (sees : ℕ → Bool) → sees NEVER ≡ false → (base : List Value) (nodes : List RowNode) → undone_first nodes ≡ true
    → put_back sees (put_back stands base nodes) (standing nodes) ≡ put_back sees base nodes
put_back_standing sees never base [] first = refl
put_back_standing sees never base (node ∷ older) first = so (node.stamp == NEVER) refl first (put_back_standing sees never node.old older)
  where
    so : (b : Bool) → (node.stamp == NEVER) ≡ b → cond (not b) (all_stand older) (undone_first older) ≡ true
        → (undone_first older ≡ true → put_back sees (put_back stands node.old older) (standing older) ≡ put_back sees node.old older)
        → put_back sees (put_back stands (cond (not (node.stamp == NEVER)) base node.old) older) (cond (not (node.stamp == NEVER)) (node ∷ standing older) (standing older)) ≡ put_back sees (cond (sees node.stamp) base node.old) older
    so true e first rest =
        ap (λ b. put_back sees (put_back stands (cond (not b) base node.old) older) (cond (not b) (node ∷ standing older) (standing older))) e
        ∙ rest first
        ∙ sym (ap (λ b. put_back sees (cond b base node.old) older) (ap sees (eqb-true node.stamp NEVER e) ∙ never))
    so false e first rest =
        ap (λ b. put_back sees (put_back stands (cond (not b) base node.old) older) (cond (not b) (node ∷ standing older) (standing older))) e
        ∙ ap (λ values. put_back sees values (node ∷ standing older)) (all_put_back base older first)
        ∙ ap (λ l. put_back sees (cond (sees node.stamp) base node.old) l) (standing_all older first)

module _ (sees : ℕ → Bool) (never : sees NEVER ≡ false) (stamp : Stamp) (base : List Value) (nodes : List RowNode) where
  abbrev row_if : Bool → Option (List Value)
  row_if spare = read sees (cond spare absent (record { base = put_back stands base nodes; nodes = standing nodes; inserted = stamp.inserted; deleted = stamp.deleted }))

  absent_unread : read sees absent ≡ None
  absent_unread = ap (λ b. cond (b && not (sees NEVER)) (Some []) None) never

  -- the row is not there
  pub read_none : false ≡ is_row_there sees stamp → read sees (stack_of stamp base nodes) ≡ None
  read_none not_there = so (stamp.inserted == NEVER)
    where
      so : (spare : Bool) → row_if spare ≡ None
      so true = absent_unread
      so false = ap (λ b. cond b (Some (put_back sees (put_back stands base nodes) (standing nodes))) None) (sym not_there)

  -- the row is there
  pub read_some : true ≡ is_row_there sees stamp → undone_first nodes ≡ true → read sees (stack_of stamp base nodes) ≡ Some (or_base base (oldest_unseen sees nodes))
  read_some there first = so (stamp.inserted == NEVER) refl
    where
      so : (spare : Bool) → (stamp.inserted == NEVER) ≡ spare → row_if spare ≡ Some (or_base base (oldest_unseen sees nodes))
      so true e =
          let seen : sees stamp.inserted ≡ true = (and_parts (sees stamp.inserted) (not (sees stamp.deleted)) (sym there)).0 in
          absurd (false≢true (sym never ∙ ap sees (sym (eqb-true stamp.inserted NEVER e)) ∙ seen))
      so false e =
          ap (λ b. cond b (Some (put_back sees (put_back stands base nodes) (standing nodes))) None) (sym there)
          ∙ ap (λ (row : List Value). Some row) (put_back_standing sees never base nodes first ∙ put_back_is sees base nodes)

pub read_there : (sees : ℕ → Bool) (stamp : Stamp) (s : Option Stamp) (base values : List Value) (nodes : List RowNode) → sees NEVER ≡ false
    → s ≡ Some stamp → true ≡ is_row_there sees stamp → undone_first nodes ≡ true → values ≡ or_base base (oldest_unseen sees nodes)
    → Some values ≡ read sees (stack_if s base nodes)
read_there sees stamp s base values nodes never is there first e =
    ap (λ (row : List Value). Some row) e ∙ sym (read_some sees never stamp base nodes there first) ∙ ap (λ s. read sees (stack_if s base nodes)) (sym is)

-- the newest node that stands
newest_standing : (nodes : List RowNode) → newest_node (standing nodes) ≡ newest_stamp nodes
newest_standing [] = refl
newest_standing (node ∷ older) = so (node.stamp == NEVER) (newest_standing older)
  where
    so : (b : Bool) → newest_node (standing older) ≡ newest_stamp older → newest_node (cond (not b) (node ∷ standing older) (standing older)) ≡ cond b (newest_stamp older) (Some node.stamp)
    so true rest = rest
    so false rest = refl

abbrev kept_row : Bool → Stamp → List Value → List RowNode → Stack
kept_row spare stamp base nodes = cond spare absent (record { base = put_back stands base nodes; nodes = standing nodes; inserted = stamp.inserted; deleted = stamp.deleted })

blocker_of : (sees : ℕ → Bool) (stamp : Stamp) (base : List Value) (nodes : List RowNode) → sees NEVER ≡ false → is_there sees (stack_of stamp base nodes) ≡ true
    → blocker sees (stack_of stamp base nodes) ≡ stamp_against (unseen_deletion sees stamp.deleted) (unseen_stamp sees (newest_stamp nodes))
blocker_of sees stamp base nodes never there = so (stamp.inserted == NEVER) there
  where
    so : (spare : Bool) → is_there sees (kept_row spare stamp base nodes) ≡ true → blocker sees (kept_row spare stamp base nodes) ≡ stamp_against (unseen_deletion sees stamp.deleted) (unseen_stamp sees (newest_stamp nodes))
    so true there = absurd (false≢true (sym (ap (λ b. b && not (sees NEVER)) never) ∙ there))
    so false there = ap (λ o. stamp_against (unseen_deletion sees stamp.deleted) (unseen_stamp sees o)) (newest_standing nodes)

pub blocker_is : (sees : ℕ → Bool) (stamp : Stamp) (s : Option Stamp) (base : List Value) (nodes : List RowNode) (blocked : Option ℕ) → sees NEVER ≡ false
    → s ≡ Some stamp → is_there sees (stack_if s base nodes) ≡ true
    → blocked ≡ stamp_against (unseen_deletion sees stamp.deleted) (unseen_stamp sees (newest_stamp nodes))
    → blocked ≡ blocker sees (stack_if s base nodes)
blocker_is sees stamp s base nodes blocked never is there e =
    e ∙ sym (blocker_of sees stamp base nodes never (sym (ap (λ s. is_there sees (stack_if s base nodes)) is) ∙ there))
    ∙ ap (λ s. blocker sees (stack_if s base nodes)) (sym is)
