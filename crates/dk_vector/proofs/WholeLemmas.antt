-- What each vector keeps: rows that fit, and nodes that fit them.
use Rattle.std.proofs.Common.{ℕ, ◌≡◌, ◌<◌, ◌≤◌, Bool, true, false, List, [], ◌∷◌, ◌++◌, length, get_or, Option, Some, None, sym, ap, ◌∙◌, cond, arith, subst}
use Rattle.std.specs.Prelude.{◌==◌}
use Rattle.std.specs.List.{All}
use Rattle.std.proofs.lemmas.List.{length-map}
use Rattle.std.proofs.lemmas.List.Elements.{All-nil, All-head, All-tail, All-cons, All-append}
use Rattle.std.proofs.lemmas.Option.{slice_get-get_or}
use Rattle.dk_values.specs.declared.value.ColType.{ColType}
use Rattle.dk_values.specs.declared.value.Value.{Value}
use Rattle.dk_columns.specs.OptionTables.{OptionTable, FitsKinds}
use Rattle.dk_chain.specs.declared.node.Node.{Node}
use Rattle.dk_chain.specs.Nodes.{restamped, has_stamp, oldest_restamped, newest_restamped}
use Rattle.dk_version.specs.Rows.{VectorStamps}
use Rattle.dk_vector.specs.Vectors.{IsRow, IsNodeOf, IsVector, ArePlaced, vector_of, values_or_none, base_at}
use Rattle.dk_vector.specs.Changes.{rows_of, AreBelow}

module _ (kinds : List ColType) (count : ℕ) where
  one_restamped : (to : ℕ) (node : Node) → IsNodeOf kinds count node → IsNodeOf kinds count (restamped to node)
  one_restamped to node h = record { even = h.even; below = h.below; fits = h.fits }

  -- nodes with other stamps fit too
  pub oldest_kept : (from to : ℕ) (nodes : List Node) → All (IsNodeOf kinds count) nodes → All (IsNodeOf kinds count) (oldest_restamped from to nodes)
  oldest_kept from to [] h = h
  oldest_kept from to (node ∷ newer) h =
      let tail = All-tail (IsNodeOf kinds count) node newer h in
      so (node.stamp == from) (All-head (IsNodeOf kinds count) node newer h) tail (oldest_kept from to newer tail)
    where
      so : (b : Bool) → IsNodeOf kinds count node → All (IsNodeOf kinds count) newer → All (IsNodeOf kinds count) (oldest_restamped from to newer)
          → All (IsNodeOf kinds count) (cond b (restamped to node ∷ newer) (node ∷ oldest_restamped from to newer))
      so true one tail rest = All-cons (IsNodeOf kinds count) (restamped to node) newer (one_restamped to node one) tail
      so false one tail rest = All-cons (IsNodeOf kinds count) node (oldest_restamped from to newer) one rest

  pub newest_kept : (from to : ℕ) (nodes : List Node) → All (IsNodeOf kinds count) nodes → All (IsNodeOf kinds count) (newest_restamped from to nodes)
  newest_kept from to [] h = h
  newest_kept from to (node ∷ newer) h =
      let tail = All-tail (IsNodeOf kinds count) node newer h in
      so (has_stamp from newer) (node.stamp == from) (All-head (IsNodeOf kinds count) node newer h) tail (newest_kept from to newer tail)
    where
      so : (has b : Bool) → IsNodeOf kinds count node → All (IsNodeOf kinds count) newer → All (IsNodeOf kinds count) (newest_restamped from to newer)
          → All (IsNodeOf kinds count) (cond has (node ∷ newest_restamped from to newer) (cond b (restamped to node ∷ newer) (node ∷ newer)))
      so true b one tail rest = All-cons (IsNodeOf kinds count) node (newest_restamped from to newer) one rest
      so false true one tail rest = All-cons (IsNodeOf kinds count) (restamped to node) newer (one_restamped to node one) tail
      so false false one tail rest = All-cons (IsNodeOf kinds count) node newer one tail

-- as many stamps
pub with_stamps : (base : OptionTable) (chain : List Node) (old new : VectorStamps) → IsVector base chain old → length new.rows ≡ length old.rows → IsVector base chain new
with_stamps base chain old new h count = record { even = h.even ∙ sym count; rows = h.rows; nodes = h.nodes; first = h.first }

-- nodes fit more rows
pub nodes_below : (kinds : List ColType) (n m : ℕ) (nodes : List Node) → n ≤ m → All (IsNodeOf kinds n) nodes → All (IsNodeOf kinds m) nodes
nodes_below kinds n m nodes more all = λ i d within.
    let h = all i d within in
    record { even = h.even; below = λ j e inside. (let low = h.below j e inside in omega (arith, low, more)); fits = h.fits }

-- a row of the base fits
pub base_fits : (base : OptionTable) (row : ℕ) → All (IsRow base.kinds) base.rows → row < length base.rows → FitsKinds base.kinds (base_at row base)
base_fits base row all within =
    subst (λ o. FitsKinds base.kinds (values_or_none o)) (sym (slice_get-get_or base.rows row None within)) (so _ (all row None within))
  where
    so : (o : Option (List Value)) → IsRow base.kinds o → FitsKinds base.kinds (values_or_none (Some o))
    so None h = absurd h
    so (Some values) h = h

pub rows_fit : (base : OptionTable) (rows : List ℕ) → All (IsRow base.kinds) base.rows → AreBelow (length base.rows) rows → All (FitsKinds base.kinds) (rows_of base rows)
rows_fit base [] all below = All-nil (FitsKinds base.kinds)
rows_fit base (row ∷ rows) all below =
    All-cons (FitsKinds base.kinds) (base_at row base) (rows_of base rows)
    (base_fits base row all (All-head (λ row. row < length base.rows) row rows below))
    (rows_fit base rows all (All-tail (λ row. row < length base.rows) row rows below))

-- a change on the others
pub change_fits : (base new : OptionTable) (nodes : List Node) (node : Node) (rows : List ℕ) → All (IsRow base.kinds) base.rows → AreBelow (length base.rows) rows
    → node.offsets.items ≡ rows → node.old ≡ rows_of base rows → new.kinds ≡ base.kinds → length new.rows ≡ length base.rows
    → All (IsNodeOf base.kinds (length base.rows)) nodes → All (IsNodeOf new.kinds (length new.rows)) (nodes ++ node ∷ [])
change_fits base new nodes node rows all below offsets old kinds count fit =
    subst (λ (k : List ColType). All (IsNodeOf k (length new.rows)) (nodes ++ node ∷ [])) (sym kinds)
    (subst (λ (n : ℕ). All (IsNodeOf base.kinds n) (nodes ++ node ∷ [])) (sym count)
    (All-append (IsNodeOf base.kinds (length base.rows)) nodes (node ∷ []) fit (All-cons (IsNodeOf base.kinds (length base.rows)) node [] one (All-nil (IsNodeOf base.kinds (length base.rows))))))
  where
    one : IsNodeOf base.kinds (length base.rows) node
    one = record {
      even = ap length old ∙ length-map rows (λ row. base_at row base) ∙ sym (ap length offsets);
      below = subst (λ (l : List ℕ). All (λ row. row < length base.rows) l) (sym offsets) below;
      fits = subst (All (FitsKinds base.kinds)) (sym old) (rows_fit base rows all below);
    }

-- rows more
pub rows_more : (kinds other : List ColType) (rows more : List (Option (List Value))) → kinds ≡ other → All (IsRow kinds) rows → All (IsRow other) more → All (IsRow kinds) (rows ++ more)
rows_more kinds other rows more same all new = All-append (IsRow kinds) rows more all (subst (λ (k : List ColType). All (IsRow k) more) (sym same) new)

-- rows that are placed are below the end of the base
pub placed_below : (rows : List ℕ) (base : OptionTable) (chain : List Node) (stamps : VectorStamps) → length base.rows ≡ length stamps.rows
    → ArePlaced rows (vector_of base chain stamps) → AreBelow (length base.rows) rows
placed_below rows base chain stamps even placed = λ i d within. (let low : get_or rows i d < length stamps.rows = (placed i d within).0 in omega (arith, low, even))
