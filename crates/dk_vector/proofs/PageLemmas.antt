-- Walks that write old values back, and hide rows that are not there.
use Rattle.std.proofs.Common.{ℕ, zero, suc, ◌+◌, ◌≡◌, ◌<◌, ◌≤◌, Bool, true, false, List, [], ◌∷◌, ◌++◌, length, take, get_or, set, Option, Some, None, refl, ap, sym, ◌∙◌, ◌⊎◌, inl, inr, cond, arith, length-set, subst}
use Rattle.std.specs.Prelude.{◌&&◌, not, ◌==◌, slice_get}
use Rattle.std.specs.List.{All, list_all}
use Rattle.std.proofs.lemmas.Bool.{cases_lt, and_parts}
use Rattle.std.proofs.lemmas.List.{take_more, take_all}
use Rattle.std.proofs.lemmas.List.Elements.{All-same, All-filter}
use Rattle.std.proofs.lemmas.Option.{slice_get-get_or, get_or_from_slice_get, slice_get_within}
use Rattle.dk_values.specs.declared.value.ColType.{ColType}
use Rattle.dk_values.specs.declared.value.Value.{Value}
use Rattle.dk_columns.specs.OptionTables.{OptionTable, with_row_set}
use Rattle.dk_stamp.specs.declared.snapshot.TheConstants.{NEVER}
use Rattle.dk_chain.specs.declared.node.Node.{Node}
use Rattle.dk_chain.specs.Nodes.{RowNode, old_of, put_on, with_node, nodes_on, nodes_at, put_back, done, row_done}
use Rattle.dk_version.specs.declared.stamps.Stamp.{Stamp}
use Rattle.dk_version.specs.Rows.{VectorStamps, spare_row, is_there}
use Rattle.dk_vector.specs.Stacks.{Stack, absent, read}
use Rattle.dk_vector.specs.Vectors.{IsRow, IsNodeOf, IsVector, vector_of, undone_first, stands, standing, all_stand, stack_of, stack_if, stack_at, values_or_none, base_at, or_base}
use Rattle.dk_vector.specs.Changes.{IsWritten}
use Rattle.dk_vector.specs.Pages.{IsNodeBack, IsPutBack, IsHidden, IsPage, is_there_at}
use Rattle.dk_vector.proofs.PlaceLemmas.{at_same, at_other}
use Rattle.dk_vector.proofs.StandingLemmas.{all_put_back}
use Rattle.dk_vector.proofs.ReadLemmas.{put_back_is, read_some, read_none, standing_all}

-- one more node on the others of a row
on_push : (row : ℕ) (older : List RowNode) (nodes : List Node) (node : Node) → nodes_on row older (nodes ++ node ∷ []) ≡ with_node row node (nodes_on row older nodes)
on_push row older [] node = refl
on_push row older (n ∷ nodes) node = on_push row (with_node row n older) nodes node

module _ (seen : ℕ → Bool) where
  put_node : (base : List Value) (stamp : ℕ) (old : Option (List Value)) (older : List RowNode)
      → put_back seen base (put_on stamp old older) ≡ put_back seen (or_base base (cond (seen stamp) None old)) older
  put_node base stamp None older = so (seen stamp)
    where
      so : (b : Bool) → put_back seen base older ≡ put_back seen (or_base base (cond b None None)) older
      so true = refl
      so false = refl
  put_node base stamp (Some old) older = so (seen stamp)
    where
      so : (b : Bool) → put_back seen (cond b base old) older ≡ put_back seen (or_base base (cond b None (Some old))) older
      so true = refl
      so false = refl

  pub node_seen : (node : Node) (table : OptionTable) → true ≡ seen node.stamp → IsNodeBack seen node table table
  node_seen node table e = record {
    kinds = refl;
    count = refl;
    rows = λ all. all;
    each = λ row. ap (λ b. or_base (base_at row table) (cond b None (old_of row node))) e;
  }

  pub node_unseen : (node : Node) (offsets : List ℕ) (old new : OptionTable) → false ≡ seen node.stamp → node.offsets.items ≡ offsets → IsWritten offsets node.old old new → IsNodeBack seen node old new
  node_unseen node offsets old new e is written =
      let own : IsWritten node.offsets.items node.old old new = subst (λ (l : List ℕ). IsWritten l node.old old new) (sym is) written in
      record {
        kinds = own.kinds;
        count = own.count;
        rows = own.rows;
        each = λ row. own.each row ∙ ap (λ b. or_base (base_at row old) (cond b None (old_of row node))) e;
      }

  pub back_start : (nodes : List Node) (n : ℕ) (table : OptionTable) → length nodes ≤ n → IsPutBack seen nodes (take n nodes) table table
  back_start nodes n table end = record {
    kinds = refl;
    count = refl;
    rows = λ all. all;
    each = λ row. ap (λ l. put_back seen (base_at row table) (nodes_at row l)) (take_all n nodes end);
  }

  pub back_next : (nodes : List Node) (i j : ℕ) (node : Node) (old now new : OptionTable) → j ≡ i + 1 → slice_get nodes i ≡ Some node
      → IsNodeBack seen node now new → IsPutBack seen nodes (take j nodes) old now → IsPutBack seen nodes (take i nodes) old new
  back_next nodes i j node old now new next is back so_far = record {
    kinds = back.kinds ∙ so_far.kinds;
    count = back.count ∙ so_far.count;
    rows = λ all. back.rows (so_far.rows all);
    each = λ row.
        ap (λ b. put_back seen b (nodes_at row (take i nodes))) (back.each row)
        ∙ sym (put_node (base_at row now) node.stamp (old_of row node) (nodes_at row (take i nodes)))
        ∙ ap (put_back seen (base_at row now)) (sym (on_push row [] (take i nodes) node))
        ∙ ap (λ l. put_back seen (base_at row now) (nodes_at row l))
        (sym (ap (λ j. take j nodes) next ∙ take_more nodes i node (slice_get_within nodes i node is) ∙ ap (λ n. take i nodes ++ n ∷ []) (get_or_from_slice_get nodes i node node is)))
        ∙ so_far.each row;
  }

  pub back_end : (nodes : List Node) (n : ℕ) (old new : OptionTable) → n ≡ 0 → IsPutBack seen nodes (take n nodes) old new → IsPutBack seen nodes [] old new
  back_end nodes n old new end back = subst (λ (n : ℕ). IsPutBack seen nodes (take n nodes) old new) end back

pub node_fits : (kinds now : List ColType) (n m : ℕ) (nodes : List Node) (i : ℕ) (node : Node) → All (IsNodeOf kinds n) nodes → now ≡ kinds → m ≡ n → slice_get nodes i ≡ Some node → IsNodeOf now m node
node_fits kinds now n m nodes i node all same count is =
    subst (λ (k : List ColType). IsNodeOf k m node) (sym same) (subst (λ (m : ℕ). IsNodeOf kinds m node) (sym count)
    (subst (IsNodeOf kinds n) (get_or_from_slice_get nodes i node node is) (all i node (slice_get_within nodes i node is))))

-- the first rows that are not there are missing
pub record IsHiddenTo (seen : ℕ → Bool) (stamps : List Stamp) (i : ℕ) (old new : OptionTable) : Type 0 where
  pub kinds : new.kinds ≡ old.kinds
  pub count : length new.rows ≡ length old.rows
  pub done : (row : ℕ) → row < i → slice_get new.rows row ≡ cond (is_there_at seen (slice_get stamps row)) (slice_get old.rows row) (Some None)
  pub rest : (row : ℕ) → i ≤ row → slice_get new.rows row ≡ slice_get old.rows row

module _ (seen : ℕ → Bool) (stamps : List Stamp) where
  pub hide_start : (table : OptionTable) → IsHiddenTo seen stamps 0 table table
  hide_start table = record { kinds = refl; count = refl; done = λ row below. absurd (omega (arith, below)); rest = λ row from. refl }

  here_or : (i row : ℕ) → row < i + 1 → (row < i) ⊎ (row ≡ i)
  here_or i row below = so (cases_lt row i)
    where
      so : ((row < i) ⊎ (i ≤ row)) → (row < i) ⊎ (row ≡ i)
      so (inl less) = inl less
      so (inr more) = inr (omega (arith, below, more))

  hide_there : (i : ℕ) (stamp : Stamp) (old now : OptionTable) → slice_get stamps i ≡ Some stamp → true ≡ is_there seen stamp
      → IsHiddenTo seen stamps i old now → IsHiddenTo seen stamps (i + 1) old now
  hide_there i stamp old now is there h = record {
    kinds = h.kinds;
    count = h.count;
    done = λ row below. so row (here_or i row below);
    rest = λ row from. h.rest row (omega (arith, from));
  }
    where
      so : (row : ℕ) → ((row < i) ⊎ (row ≡ i)) → slice_get now.rows row ≡ cond (is_there_at seen (slice_get stamps row)) (slice_get old.rows row) (Some None)
      so row (inl less) = h.done row less
      so row (inr same) =
          h.rest row (omega (arith, same))
          ∙ ap (λ b. cond b (slice_get old.rows row) (Some None)) (there ∙ sym (ap (is_there_at seen) (ap (slice_get stamps) same ∙ is)))

  hide_missing : (i : ℕ) (stamp : Stamp) (old now new : OptionTable) → slice_get stamps i ≡ Some stamp → false ≡ is_there seen stamp → i < length now.rows
      → new ≡ with_row_set i None now → IsHiddenTo seen stamps i old now → IsHiddenTo seen stamps (i + 1) old new
  hide_missing i stamp old now new is gone within e h = record {
    kinds = ap (λ (t : OptionTable). t.kinds) e ∙ h.kinds;
    count = ap (λ (t : OptionTable). length t.rows) e ∙ length-set now.rows i None ∙ h.count;
    done = λ row below. so row (here_or i row below);
    rest = λ row from.
        ap (λ (t : OptionTable). slice_get t.rows row) e ∙ at_other now.rows i row None (λ same. omega (arith, same, from)) ∙ h.rest row (omega (arith, from));
  }
    where
      so : (row : ℕ) → ((row < i) ⊎ (row ≡ i)) → slice_get new.rows row ≡ cond (is_there_at seen (slice_get stamps row)) (slice_get old.rows row) (Some None)
      so row (inl less) =
          ap (λ (t : OptionTable). slice_get t.rows row) e ∙ at_other now.rows i row None (λ same. omega (arith, same, less)) ∙ h.done row less
      so row (inr same) =
          ap (λ (t : OptionTable). slice_get t.rows row) e ∙ ap (slice_get (set now.rows i None)) same ∙ at_same now.rows i None within
          ∙ ap (λ b. cond b (slice_get old.rows row) (Some None)) (gone ∙ sym (ap (is_there_at seen) (ap (slice_get stamps) same ∙ is)))

  pub hide_next : (i : ℕ) (stamp : Stamp) (old now new : OptionTable) → slice_get stamps i ≡ Some stamp → i < length now.rows
      → new ≡ cond (is_there seen stamp) now (with_row_set i None now) → IsHiddenTo seen stamps i old now → IsHiddenTo seen stamps (i + 1) old new
  hide_next i stamp old now new is within e h = so (is_there seen stamp) refl e
    where
      so : (b : Bool) → is_there seen stamp ≡ b → new ≡ cond b now (with_row_set i None now) → IsHiddenTo seen stamps (i + 1) old new
      so true there e = subst (λ (t : OptionTable). IsHiddenTo seen stamps (i + 1) old t) (sym e) (hide_there i stamp old now is (sym there) h)
      so false gone e = hide_missing i stamp old now new is (sym gone) within e h

  pub hide_end : (i : ℕ) (old new : OptionTable) → length stamps ≤ i → IsHiddenTo seen stamps i old new → IsHidden seen stamps old new
  hide_end i old new end h = record { kinds = h.kinds; count = h.count; each = λ row within. h.done row (omega (arith, within, end)) }

all_there : (seen : ℕ → Bool) (stamps : List Stamp) (row : ℕ) → list_all (is_there seen) stamps ≡ true → is_there_at seen (slice_get stamps row) ≡ true
all_there seen [] row h = refl
all_there seen (stamp ∷ stamps) zero h = (and_parts (is_there seen stamp) (list_all (is_there seen) stamps) h).0
all_there seen (stamp ∷ stamps) (suc row) h = all_there seen stamps row (and_parts (is_there seen stamp) (list_all (is_there seen) stamps) h).1

-- nothing is hidden
pub none_hidden : (seen : ℕ → Bool) (stamps : List Stamp) (table : OptionTable) → true ≡ list_all (is_there seen) stamps → IsHidden seen stamps table table
none_hidden seen stamps table h = record {
  kinds = refl;
  count = refl;
  each = λ row within. sym (ap (λ b. cond b (slice_get table.rows row) (Some None)) (all_there seen stamps row (sym h)));
}

-- the page of a vector
module _ (seen : ℕ → Bool) (never : seen NEVER ≡ false) where
  row_is : (table : OptionTable) (row : ℕ) → All (IsRow table.kinds) table.rows → row < length table.rows → slice_get table.rows row ≡ Some (Some (base_at row table))
  row_is table row all within =
      let is = slice_get-get_or table.rows row None within in
      is ∙ so (get_or table.rows row None) (all row None within) ∙ ap (λ (o : Option (Option (List Value))). Some (Some (values_or_none o))) (sym is)
    where
      so : (o : Option (List Value)) → IsRow table.kinds o → Some o ≡ Some (Some (values_or_none (Some o)))
      so None h = absurd h
      so (Some values) h = refl

  one_row : (stamp : Stamp) (base : List Value) (nodes : List RowNode) (back : Option (Option (List Value))) → undone_first nodes ≡ true
      → back ≡ Some (Some (put_back seen base nodes))
      → cond (is_there seen stamp) back (Some None) ≡ Some (read seen (stack_of stamp base nodes))
  one_row stamp base nodes back first is = so (is_there seen stamp) refl
    where
      so : (b : Bool) → is_there seen stamp ≡ b → cond b back (Some None) ≡ Some (read seen (stack_of stamp base nodes))
      so true e =
          is ∙ ap (λ (values : List Value). Some (Some values)) (put_back_is seen base nodes)
          ∙ ap (λ (o : Option (List Value)). Some o) (sym (read_some seen never stamp base nodes (sym e) first))
      so false e = ap (λ (o : Option (List Value)). Some o) (sym (read_none seen never stamp base nodes (sym e)))

  pub page_is : (base back page : OptionTable) (chain : List Node) (stamps : VectorStamps) → IsVector base chain stamps
      → IsPutBack seen chain [] base back → IsHidden seen stamps.rows back page → IsPage seen (vector_of base chain stamps) page
  page_is base back page chain stamps vector written hidden = record {
    kinds = hidden.kinds ∙ written.kinds;
    count = hidden.count ∙ written.count ∙ vector.even;
    each = λ row within.
        hidden.each row within ∙ at row (slice_get-get_or stamps.rows row spare_row within)
        (row_is back row (written.rows vector.rows) (omega (arith, within, vector.even, written.count)) ∙ ap (λ (values : List Value). Some (Some values)) (written.each row));
  }
    where
      at : (row : ℕ) → slice_get stamps.rows row ≡ Some (get_or stamps.rows row spare_row)
          → slice_get back.rows row ≡ Some (Some (put_back seen (base_at row base) (nodes_at row chain)))
          → cond (is_there_at seen (slice_get stamps.rows row)) (slice_get back.rows row) (Some None) ≡ Some (read seen (stack_at (vector_of base chain stamps) row))
      at row is there =
          ap (λ s. cond (is_there_at seen s) (slice_get back.rows row) (Some None)) is
          ∙ one_row (get_or stamps.rows row spare_row) (base_at row base) (nodes_at row chain) (slice_get back.rows row) (vector.first row) there
          ∙ ap (λ s. Some (read seen (stack_if s (base_at row base) (nodes_at row chain)))) (sym is)

-- the nodes that were undone are taken away
all_standing : (nodes : List RowNode) → all_stand (standing nodes) ≡ true
all_standing [] = refl
all_standing (node ∷ older) = so (stands node.stamp) refl (all_standing older)
  where
    so : (b : Bool) → stands node.stamp ≡ b → all_stand (standing older) ≡ true → all_stand (cond b (node ∷ standing older) (standing older)) ≡ true
    so true e rest = ap (λ b. b && all_stand (standing older)) e ∙ rest
    so false e rest = rest

pub clean_stands : (new old : List RowNode) → new ≡ row_done old → all_stand new ≡ true
clean_stands new old e = ap all_stand e ∙ all_standing old

abbrev kept_stack : Stamp → List Value → List RowNode → Stack
kept_stack stamp values nodes = record { base = values; nodes = nodes; inserted = stamp.inserted; deleted = stamp.deleted }

pub clean_stack : (s : Option Stamp) (base back : List Value) (new old : List RowNode) → back ≡ put_back stands base old → new ≡ row_done old
    → stack_if s back new ≡ stack_if s base old
clean_stack None base back new old is e = refl
clean_stack (Some stamp) base back new old is e =
    ap (stack_of stamp back) e ∙ so (stamp.inserted == NEVER)
  where
    so : (spare : Bool)
        → cond spare absent (record { base = put_back stands back (standing old); nodes = standing (standing old); inserted = stamp.inserted; deleted = stamp.deleted })
        ≡ cond spare absent (record { base = put_back stands base old; nodes = standing old; inserted = stamp.inserted; deleted = stamp.deleted })
    so true = refl
    so false =
        ap (λ (values : List Value). kept_stack stamp values (standing (standing old))) (all_put_back back (standing old) (all_standing old) ∙ is)
        ∙ ap (kept_stack stamp (put_back stands base old)) (standing_all (standing old) (all_standing old))

pub clean_fits : (base back : OptionTable) (nodes new : List Node) → new ≡ done nodes → back.kinds ≡ base.kinds → length back.rows ≡ length base.rows
    → All (IsNodeOf base.kinds (length base.rows)) nodes → All (IsNodeOf back.kinds (length back.rows)) new
clean_fits base back nodes new e kinds count all =
    subst (λ (k : List ColType). All (IsNodeOf k (length back.rows)) new) (sym kinds)
    (subst (λ (n : ℕ). All (IsNodeOf base.kinds n) new) (sym count)
    (All-same (IsNodeOf base.kinds (length base.rows)) new (done nodes) e (All-filter (λ (node : Node). not (node.stamp == NEVER)) (IsNodeOf base.kinds (length base.rows)) nodes all)))
