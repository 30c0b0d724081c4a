-- Spare rows that are taken away.
use Rattle.std.proofs.Common.{ℕ, ◌-◌, zero, suc, ◌≡◌, ◌<◌, ◌≤◌, Bool, true, false, List, [], ◌∷◌, length, get_or, take, Option, Some, None, refl, ap, sym, ◌∙◌, ◌⊎◌, inl, inr, cond, arith, subst}
use Rattle.std.specs.Prelude.{◌==◌, ◌||◌, not, is_some, slice_get}
use Rattle.std.specs.List.{All}
use Rattle.std.proofs.lemmas.Bool.{cases_lt, false≢true, and_parts}
use Rattle.std.proofs.lemmas.Bool.Decides.{Decides-eqb}
use Rattle.std.proofs.lemmas.List.Elements.{All-head, All-tail, All-nil, All-cons, All-take}
use Rattle.std.proofs.lemmas.List.{length-take-le, get_or-take}
use Rattle.std.proofs.lemmas.Option.{slice_get-get_or, slice_get_past}
use Rattle.dk_values.specs.declared.value.ColType.{ColType}
use Rattle.dk_values.specs.declared.value.Value.{Value}
use Rattle.dk_columns.specs.OptionTables.{OptionTable, with_rows_front}
use Rattle.dk_stamp.specs.declared.snapshot.TheConstants.{NEVER}
use Rattle.dk_chain.specs.declared.node.Node.{Node}
use Rattle.dk_chain.specs.Nodes.{RowNode, old_in, old_of, put_on, with_node, nodes_on, nodes_at, newest_stamp, put_back}
use Rattle.dk_version.specs.declared.stamps.Stamp.{Stamp}
use Rattle.dk_version.specs.Rows.{VectorStamps, stamps_of}
use Rattle.dk_vector.specs.Stacks.{absent}
use Rattle.dk_vector.specs.Vectors.{VectorRows, IsVector, IsRow, IsNodeOf, stands, standing, all_stand, vector_of, stack_if, stack_at, base_at, values_or_none}
use Rattle.dk_vector.specs.Changes.{NoneUndone}
use Rattle.dk_vector.specs.Spare.{is_spare, is_kept, last_where, kept_rows}

pub last_within : (test : ℕ → Bool) (n : ℕ) → last_where test n ≤ n
last_within test zero = omega arith
last_within test (suc n) = so (test n) (last_within test n)
  where
    so : (b : Bool) → last_where test n ≤ n → cond b (suc n) (last_where test n) ≤ suc n
    so true h = omega arith
    so false h = omega (arith, h)

-- the test fails from there on
pub last_past : (test : ℕ → Bool) (n row : ℕ) → last_where test n ≤ row → row < n → test row ≡ false
last_past test zero row past within = absurd (omega (arith, within))
last_past test (suc n) row past within = so (test n) refl past (cases_lt row n) (last_past test n row)
  where
    so : (b : Bool) → test n ≡ b → cond b (suc n) (last_where test n) ≤ row → ((row < n) ⊎ (n ≤ row)) → (last_where test n ≤ row → row < n → test row ≡ false) → test row ≡ false
    so true e past side rest = absurd (omega (arith, past, within))
    so false e past (inl below) rest = rest past below
    so false e past (inr above) rest = let same : row ≡ n = omega (arith, above, within) in ap test same ∙ e

-- a step down
pub last_next : (test : ℕ → Bool) (n m : ℕ) → m ≡ suc n → test n ≡ false → last_where test n ≡ last_where test m
last_next test n m e fails = sym (ap (last_where test) e ∙ ap (λ b. cond b (suc n) (last_where test n)) fails)

pub last_here : (test : ℕ → Bool) (n m : ℕ) → m ≡ suc n → test n ≡ true → m ≡ last_where test m
last_here test n m e holds = e ∙ sym (ap (last_where test) e ∙ ap (λ b. cond b (suc n) (last_where test n)) holds)

pub last_meets : (test : ℕ → Bool) (n : ℕ) → 0 < last_where test n → test (last_where test n - 1) ≡ true
last_meets test zero some = absurd (omega (arith, some))
last_meets test (suc n) some = so (test n) refl some (last_meets test n)
  where
    so : (b : Bool) → test n ≡ b → 0 < cond b (suc n) (last_where test n) → (0 < last_where test n → test (last_where test n - 1) ≡ true)
        → test (cond b (suc n) (last_where test n) - 1) ≡ true
    so true e some rest = let same : suc n - 1 ≡ n = omega arith in ap test same ∙ e
    so false e some rest = rest some

some_none : {T : Type 0} (x : T) {P : Type 0} → Some x ≡ None → P
some_none {T} x e = absurd (false≢true (sym (ap is_some e)))

-- nodes that stand, of which none is the newest
none_newest : (nodes : List RowNode) → all_stand nodes ≡ true → is_some (newest_stamp nodes) ≡ false → nodes ≡ []
none_newest [] stand none = refl
none_newest (node ∷ older) stand none =
    let here = (and_parts (stands node.stamp) (all_stand older) stand).0 in
    so (node.stamp == NEVER) here none
  where
    so : (b : Bool) → not b ≡ true → is_some (cond b (newest_stamp older) (Some node.stamp)) ≡ false → (node ∷ older) ≡ []
    so true h e = absurd (false≢true h)
    so false h e = absurd (false≢true (sym e))

or_parts : (a b : Bool) → (not a || b) ≡ false → (a ≡ true) × (b ≡ false)
or_parts true false e = (refl, refl)
or_parts true true e = absurd (false≢true (sym e))
or_parts false b e = absurd (false≢true (sym e))

-- a row that is not kept is spare and has no nodes
pub not_kept : (vector : VectorRows) (row : ℕ) → NoneUndone vector.nodes → is_kept vector row ≡ false
    → (is_spare (slice_get vector.stamps.rows row) ≡ true) × (nodes_at row vector.nodes ≡ [])
not_kept vector row none e =
    let parts = or_parts (is_spare (slice_get vector.stamps.rows row)) (is_some (newest_stamp (nodes_at row vector.nodes))) e in
    (parts.0, none_newest (nodes_at row vector.nodes) (none row) parts.1)

-- no node of a row
no_node : (row : ℕ) (older : List RowNode) (nodes : List Node) → nodes_on row older nodes ≡ [] → (older ≡ []) × All (λ node. old_of row node ≡ None) nodes
no_node row older [] e = (e, All-nil (λ node. old_of row node ≡ None))
no_node row older (node ∷ newer) e = so (old_of row node) refl (no_node row (with_node row node older) newer e)
  where
    so : (o : Option (List Value)) → old_of row node ≡ o → ((put_on node.stamp o older ≡ []) × All (λ node. old_of row node ≡ None) newer)
        → (older ≡ []) × All (λ node. old_of row node ≡ None) (node ∷ newer)
    so None is rest = (rest.0, All-cons (λ node. old_of row node ≡ None) node newer is rest.1)
    so (Some old) is rest = absurd (cons_none rest.0)
      where
        cons_none : {x : RowNode} {xs : List RowNode} → (x ∷ xs) ≡ [] → ⊥
        cons_none {x} {xs} e = let h : length (x ∷ xs) ≡ 0 = ap (λ (l : List RowNode). length l) e in omega (arith, h)

-- a node has an old row for each of its offsets
found : (offsets : List ℕ) (olds : List (List Value)) (i d : ℕ) → length olds ≡ length offsets → i < length offsets → old_in (get_or offsets i d) offsets olds ≡ None → ⊥
found [] olds i d even within none = absurd (omega (arith, within))
found (o ∷ os) [] i d even within none = absurd (omega (arith, even))
found (o ∷ os) (v ∷ vs) zero d even within none =
    absurd (some_none v (sym (ap (λ b. cond b (Some v) (old_in o os vs)) ((Decides-eqb o o).1 refl)) ∙ none))
found (o ∷ os) (v ∷ vs) (suc i) d even within none = so (o == get_or os i d) none (found os vs i d (omega (arith, even)) (omega (arith, within)))
  where
    so : (b : Bool) → cond b (Some v) (old_in (get_or os i d) os vs) ≡ None → (old_in (get_or os i d) os vs ≡ None → ⊥) → ⊥
    so true e rest = some_none v e
    so false e rest = rest e

-- a node below a bound that has none of the rows from a lower one on
node_below : (kinds : List ColType) (count n : ℕ) (node : Node) → IsNodeOf kinds count node → ((row : ℕ) → n ≤ row → row < count → old_of row node ≡ None) → IsNodeOf kinds n node
node_below kinds count n node is none = record {
  even = is.even;
  fits = is.fits;
  below = λ i d within.
      let low : get_or node.offsets.items i d < count = is.below i d within in
      so i d within low (cases_lt (get_or node.offsets.items i d) n);
}
  where
    so : (i d : ℕ) → i < length node.offsets.items → get_or node.offsets.items i d < count → ((get_or node.offsets.items i d < n) ⊎ (n ≤ get_or node.offsets.items i d)) → get_or node.offsets.items i d < n
    so i d within low (inl below) = below
    so i d within low (inr past) = absurd (found node.offsets.items node.old i d is.even within (none (get_or node.offsets.items i d) past low))

pub nodes_below : (kinds : List ColType) (count n : ℕ) (nodes : List Node) → All (IsNodeOf kinds count) nodes → ((row : ℕ) → n ≤ row → row < count → nodes_at row nodes ≡ []) → All (IsNodeOf kinds n) nodes
nodes_below kinds count n nodes all none =
    each nodes all (λ row past within. (no_node row [] nodes (none row past within)).1)
  where
    each : (nodes : List Node) → All (IsNodeOf kinds count) nodes → ((row : ℕ) → n ≤ row → row < count → All (λ node. old_of row node ≡ None) nodes) → All (IsNodeOf kinds n) nodes
    each [] all none = All-nil (IsNodeOf kinds n)
    each (node ∷ newer) all none =
        All-cons (IsNodeOf kinds n) node newer
        (node_below kinds count n node (All-head (IsNodeOf kinds count) node newer all) (λ row past within. All-head (λ node. old_of row node ≡ None) node newer (none row past within)))
        (each newer (All-tail (IsNodeOf kinds count) node newer all) (λ row past within. All-tail (λ node. old_of row node ≡ None) node newer (none row past within)))

-- a list without what is behind its first items
take_at : {T : Type 0} (n i : ℕ) (xs : List T) (d : T) → i < n → n ≤ length xs → slice_get (take n xs) i ≡ slice_get xs i
take_at {T} n i xs d below within =
    let front : i < length (take n xs) = omega (arith, below, length-take-le n xs within) in
    let inside : i < length xs = omega (arith, below, within) in
    slice_get-get_or (take n xs) i d front ∙ ap (λ (x : T). Some x) (get_or-take n xs i d below) ∙ sym (slice_get-get_or xs i d inside)

spare_absent : (s : Option Stamp) (base : List Value) (nodes : List RowNode) → is_spare s ≡ true → stack_if s base nodes ≡ absent
spare_absent None base nodes e = absurd (false≢true e)
spare_absent (Some stamp) base nodes e =
    ap (λ b. cond b absent (record { base = put_back stands base nodes; nodes = standing nodes; inserted = stamp.inserted; deleted = stamp.deleted })) e

module _ (base : OptionTable) (chain : List Node) (stamps : VectorStamps) (n : ℕ) (is : IsVector base chain stamps) (none : NoneUndone chain)
    (kept : n ≡ kept_rows (vector_of base chain stamps)) where
  within : n ≤ length stamps.rows
  within = let h = last_within (is_kept (vector_of base chain stamps)) (length stamps.rows) in omega (arith, kept, h)

  inside : n ≤ length base.rows
  inside = omega (arith, within, is.even)

  past : (row : ℕ) → n ≤ row → row < length stamps.rows → (is_spare (slice_get stamps.rows row) ≡ true) × (nodes_at row chain ≡ [])
  past row from below =
      let far : kept_rows (vector_of base chain stamps) ≤ row = omega (arith, kept, from) in
      not_kept (vector_of base chain stamps) row none (last_past (is_kept (vector_of base chain stamps)) (length stamps.rows) row far below)

  pub cut_count : length (take n stamps.rows) ≡ n
  cut_count = length-take-le n stamps.rows within

  pub cut_is : IsVector (with_rows_front n base) chain (stamps_of (take n stamps.rows) stamps.apart)
  cut_is =
      let count = length-take-le n base.rows inside in
      record {
        even = count ∙ sym cut_count;
        rows = All-take (IsRow base.kinds) n base.rows is.rows;
        nodes = subst (λ (m : ℕ). All (IsNodeOf base.kinds m) chain) (sym count)
            (nodes_below base.kinds (length base.rows) n chain is.nodes (λ row from below. (past row from (omega (arith, below, is.even))).1));
        first = is.first;
      }

  pub cut_row : (row : ℕ) → stack_at (vector_of (with_rows_front n base) chain (stamps_of (take n stamps.rows) stamps.apart)) row ≡ stack_at (vector_of base chain stamps) row
  cut_row row = so (cases_lt row n)
    where
      gone : slice_get (take n stamps.rows) row ≡ None → stack_at (vector_of (with_rows_front n base) chain (stamps_of (take n stamps.rows) stamps.apart)) row ≡ absent
      gone e = ap (λ s. stack_if s (base_at row (with_rows_front n base)) (nodes_at row chain)) e

      there : ((row < length stamps.rows) ⊎ (length stamps.rows ≤ row)) → n ≤ row → stack_at (vector_of base chain stamps) row ≡ absent
      there (inl below) from = spare_absent (slice_get stamps.rows row) (base_at row base) (nodes_at row chain) (past row from below).0
      there (inr above) from = ap (λ s. stack_if s (base_at row base) (nodes_at row chain)) (slice_get_past stamps.rows row above)

      so : ((row < n) ⊎ (n ≤ row)) → stack_at (vector_of (with_rows_front n base) chain (stamps_of (take n stamps.rows) stamps.apart)) row ≡ stack_at (vector_of base chain stamps) row
      so (inl below) =
          ap (λ s. stack_if s (base_at row (with_rows_front n base)) (nodes_at row chain)) (take_at n row stamps.rows (record { inserted = 0; deleted = 0 }) below within)
          ∙ ap (λ r. stack_if (slice_get stamps.rows row) (values_or_none r) (nodes_at row chain)) (take_at n row base.rows None below inside)
      so (inr from) =
          let high : length (take n stamps.rows) ≤ row = omega (arith, cut_count, from) in
          gone (slice_get_past (take n stamps.rows) row high) ∙ sym (there (cases_lt row (length stamps.rows)) from)

  pub cut_last : (now : VectorRows) → now.nodes ≡ chain → now.stamps ≡ stamps_of (take n stamps.rows) stamps.apart → 0 < n → is_kept now (n - 1) ≡ true
  cut_last now nodes stamped some =
      let test = is_kept (vector_of base chain stamps) in
      let below : n - 1 < n = omega (arith, some) in
      let holds : 0 < kept_rows (vector_of base chain stamps) = omega (arith, kept, some) in
      let same : n - 1 ≡ kept_rows (vector_of base chain stamps) - 1 = omega (arith, kept) in
      ap (λ (s : VectorStamps). not (is_spare (slice_get s.rows (n - 1))) || is_some (newest_stamp (nodes_at (n - 1) now.nodes))) stamped
      ∙ ap (λ (l : List Node). not (is_spare (slice_get (take n stamps.rows) (n - 1))) || is_some (newest_stamp (nodes_at (n - 1) l))) nodes
      ∙ ap (λ s. not (is_spare s) || is_some (newest_stamp (nodes_at (n - 1) chain))) (take_at n (n - 1) stamps.rows (record { inserted = 0; deleted = 0 }) below within)
      ∙ ap test same ∙ last_meets test (length stamps.rows) holds
