-- Rows that are spare, and are put in.
use Rattle.std.proofs.Common.{ℕ, zero, suc, ◌≡◌, ◌<◌, ◌≤◌, ◌-◌, Bool, true, false, List, [], ◌++◌, length, map, replicate, Option, Some, None, refl, ap, sym, ◌∙◌, ◌⊎◌, inl, inr, cond, arith}
use Rattle.std.specs.Prelude.{nat_le, nat_lt, ◌∷◌, ◌==◌, ◌≢◌, slice_get, option_map}
use Rattle.std.specs.List.{All}
use Rattle.std.proofs.Math.Seq.{take-append_seam}
use Rattle.std.proofs.lemmas.Bool.{ne_eqb, cases_lt, false≢true, le-leb, lt-leb, lt-ltb, le-ltb}
use Rattle.std.proofs.lemmas.List.{get_or_append_left, get_or-append_right, get_or-replicate, length-append, length-map, length-replicate}
use Rattle.std.proofs.lemmas.List.Elements.{All-head, All-tail}
use Rattle.std.proofs.lemmas.Option.{slice_get-get_or, slice_get_past, slice_get-map}
use Rattle.dk_values.specs.declared.value.ColType.{ColType}
use Rattle.dk_values.specs.declared.value.Value.{Value}
use Rattle.dk_columns.specs.OptionTables.{OptionTable, with_rows, with_rows_front}
use Rattle.dk_stamp.specs.declared.snapshot.TheConstants.{NEVER}
use Rattle.dk_chain.specs.declared.node.Node.{Node}
use Rattle.dk_chain.specs.Nodes.{RowNode, old_in, put_on, nodes_on}
use Rattle.dk_version.specs.declared.stamps.Stamp.{Stamp}
use Rattle.dk_version.specs.Rows.{spare_row, reinserted, reinserted_from}
use Rattle.dk_vector.specs.Stacks.{Stack, absent, placed}
use Rattle.dk_vector.specs.Vectors.{VectorRows, IsNodeOf, stack_of, stack_if, base_at, values_or_none}
use Rattle.dk_vector.specs.Spare.{is_spare, values_if, put_in, AreFreshFrom}

front_at : {T : Type 0} (xs ys : List T) (i : ℕ) (d : T) → i < length xs → slice_get (xs ++ ys) i ≡ slice_get xs i
front_at {T} xs ys i d within =
    let inside : i < length (xs ++ ys) = omega (arith, within, length-append xs ys) in
    slice_get-get_or (xs ++ ys) i d inside ∙ ap (λ (x : T). Some x) (get_or_append_left xs ys d i within) ∙ sym (slice_get-get_or xs i d within)

-- a spare row is not there
behind : (stamps : List Stamp) (n row : ℕ) (base : List Value) (nodes : List RowNode) → length stamps ≤ row → stack_if (slice_get (stamps ++ replicate n spare_row) row) base nodes ≡ absent
behind stamps n row base nodes past = so (cases_lt row (length (stamps ++ replicate n spare_row)))
  where
    so : ((row < length (stamps ++ replicate n spare_row)) ⊎ (length (stamps ++ replicate n spare_row) ≤ row)) → stack_if (slice_get (stamps ++ replicate n spare_row) row) base nodes ≡ absent
    so (inl within) =
        let inside : row - length stamps < n = omega (arith, within, past, length-append stamps (replicate n spare_row), length-replicate n spare_row) in
        ap (λ s. stack_if s base nodes) (slice_get-get_or (stamps ++ replicate n spare_row) row spare_row within
        ∙ ap (λ (s : Stamp). Some s) (get_or-append_right stamps (replicate n spare_row) (length stamps) row spare_row refl past ∙ get_or-replicate n (row - length stamps) spare_row spare_row inside))
    so (inr beyond) = ap (λ s. stack_if s base nodes) (slice_get_past (stamps ++ replicate n spare_row) row beyond)

pub reserve_at : (row n : ℕ) (base : OptionTable) (more : List (Option (List Value))) (stamps new : List Stamp) (nodes : List RowNode) → length base.rows ≡ length stamps
    → new ≡ stamps ++ replicate n spare_row → stack_if (slice_get new row) (base_at row (with_rows more base)) nodes ≡ stack_if (slice_get stamps row) (base_at row base) nodes
reserve_at row n base more stamps new nodes even e = ap (λ s. stack_if (slice_get s row) (base_at row (with_rows more base)) nodes) e ∙ so (cases_lt row (length stamps))
  where
    so : ((row < length stamps) ⊎ (length stamps ≤ row)) → stack_if (slice_get (stamps ++ replicate n spare_row) row) (base_at row (with_rows more base)) nodes ≡ stack_if (slice_get stamps row) (base_at row base) nodes
    so (inl within) =
        let inside : row < length base.rows = omega (arith, within, even) in
        ap (λ s. stack_if s (base_at row (with_rows more base)) nodes) (front_at stamps (replicate n spare_row) row spare_row within)
        ∙ ap (λ r. stack_if (slice_get stamps row) (values_or_none r) nodes) (front_at base.rows more row None inside)
    so (inr past) = behind stamps n row (base_at row (with_rows more base)) nodes past ∙ sym (ap (λ s. stack_if s (base_at row base) nodes) (slice_get_past stamps row past))

pub append_at : (id row : ℕ) (stamps : List Stamp) (base : List Value) (nodes : List RowNode) → id ≢ NEVER
    → (is_spare (slice_get stamps row) ≡ true → (slice_get stamps row ≡ Some spare_row) × (nodes ≡ []))
    → stack_if (slice_get (map (reinserted NEVER id) stamps) row) base nodes ≡ cond (is_spare (slice_get stamps row)) (placed id base) (stack_if (slice_get stamps row) base nodes)
append_at id row stamps base nodes other fresh = ap (λ s. stack_if s base nodes) (slice_get-map (reinserted NEVER id) stamps row) ∙ so (slice_get stamps row) fresh
  where
    so : (s : Option Stamp) → (is_spare s ≡ true → (s ≡ Some spare_row) × (nodes ≡ []))
        → stack_if (option_map (reinserted NEVER id) s) base nodes ≡ cond (is_spare s) (placed id base) (stack_if s base nodes)
    so None fresh = refl
    so (Some stamp) fresh = here (stamp.inserted == NEVER) refl
      where
        here : (b : Bool) → (stamp.inserted == NEVER) ≡ b
            → stack_of (reinserted NEVER id stamp) base nodes ≡ cond (stamp.inserted == NEVER) (placed id base) (stack_of stamp base nodes)
        here true e =
            let is = fresh e in
            ap (λ s. stack_if (option_map (reinserted NEVER id) s) base nodes) is.0
            ∙ ap (stack_of (reinserted NEVER id spare_row) base) is.1
            ∙ ap (λ t. cond t absent (placed id base)) (ne_eqb id NEVER other)
            ∙ sym (ap (λ t. cond t (placed id base) (stack_of stamp base nodes)) e)
        here false e =
            ap (λ t. stack_of (cond t (record stamp { inserted = id }) stamp) base nodes) e
            ∙ sym (ap (λ t. cond t (placed id base) (stack_of stamp base nodes)) e)

-- rows that were added are taken back
pub cut_back : (n : ℕ) (old now new : OptionTable) (more : List (Option (List Value))) → n ≡ length old.rows → now ≡ with_rows more old → new ≡ with_rows_front n now → new ≡ old
cut_back n old now new more count added cut =
    cut ∙ ap (with_rows_front n) added ∙ ap (λ n. with_rows_front n (with_rows more old)) count
    ∙ ap (λ (rows : List (Option (List Value))). record old { rows = rows }) (take-append_seam old.rows more)

-- a row behind those of all nodes has none
old_none : (count row : ℕ) (offsets : List ℕ) (olds : List (List Value)) → count ≤ row → All (λ r. r < count) offsets → old_in row offsets olds ≡ None
old_none count row [] olds past below = refl
old_none count row (offset ∷ offsets) [] past below = refl
old_none count row (offset ∷ offsets) (old ∷ olds) past below =
    let here : offset < count = All-head (λ r. r < count) offset offsets below in
    ap (λ b. cond b (Some old) (old_in row offsets olds)) (ne_eqb offset row (λ same. omega (arith, here, past, same)))
    ∙ old_none count row offsets olds past (All-tail (λ r. r < count) offset offsets below)

on_none : (kinds : List ColType) (count row : ℕ) (older : List RowNode) (nodes : List Node) → count ≤ row → All (IsNodeOf kinds count) nodes → nodes_on row older nodes ≡ older
on_none kinds count row older [] past all = refl
on_none kinds count row older (node ∷ newer) past all =
    let one = All-head (IsNodeOf kinds count) node newer all in
    ap (λ o. nodes_on row (put_on node.stamp o older) newer) (old_none count row node.offsets.items node.old past one.below)
    ∙ on_none kinds count row older newer past (All-tail (IsNodeOf kinds count) node newer all)

-- rows that were reserved are fresh
pub reserve_fresh : (kinds : List ColType) (count n : ℕ) (new : VectorRows) (old : List Stamp) → count ≡ length old → All (IsNodeOf kinds count) new.nodes
    → new.stamps.rows ≡ old ++ replicate n spare_row → AreFreshFrom (length old) new
reserve_fresh kinds count n new old same all stamps = λ row past is.
    let behind_all : count ≤ row = omega (arith, same, past) in
    (spare_behind row past is (cases_lt row (length (old ++ replicate n spare_row))), on_none kinds count row [] new.nodes behind_all all)
  where
    spare_behind : (row : ℕ) → length old ≤ row → is_spare (slice_get new.stamps.rows row) ≡ true
        → ((row < length (old ++ replicate n spare_row)) ⊎ (length (old ++ replicate n spare_row) ≤ row)) → slice_get new.stamps.rows row ≡ Some spare_row
    spare_behind row past is (inl within) =
        let inside : row - length old < n = omega (arith, within, past, length-append old (replicate n spare_row), length-replicate n spare_row) in
        ap (λ (l : List Stamp). slice_get l row) stamps ∙ slice_get-get_or (old ++ replicate n spare_row) row spare_row within
        ∙ ap (λ (s : Stamp). Some s) (get_or-append_right old (replicate n spare_row) (length old) row spare_row refl past ∙ get_or-replicate n (row - length old) spare_row spare_row inside)
    spare_behind row past is (inr beyond) =
        absurd (false≢true (sym (ap is_spare (ap (λ (l : List Stamp). slice_get l row) stamps ∙ slice_get_past (old ++ replicate n spare_row) row beyond)) ∙ is))

-- insert stamps from a place on
from_within : (start from to : ℕ) (stamps : List Stamp) (row : ℕ) → start ≤ row → slice_get (reinserted_from start from to stamps) row ≡ option_map (reinserted from to) (slice_get stamps row)
from_within zero from to stamps row past = slice_get-map (reinserted from to) stamps row
from_within (suc start) from to [] row past = refl
from_within (suc start) from to (stamp ∷ stamps) zero past = absurd (omega (arith, past))
from_within (suc start) from to (stamp ∷ stamps) (suc row) past = from_within start from to stamps row (omega (arith, past))

from_before : (start from to : ℕ) (stamps : List Stamp) (row : ℕ) → row < start → slice_get (reinserted_from start from to stamps) row ≡ slice_get stamps row
from_before zero from to stamps row below = absurd (omega (arith, below))
from_before (suc start) from to [] row below = refl
from_before (suc start) from to (stamp ∷ stamps) zero below = refl
from_before (suc start) from to (stamp ∷ stamps) (suc row) below = from_before start from to stamps row (omega (arith, below))

pub from_count : (start from to : ℕ) (stamps : List Stamp) → length (reinserted_from start from to stamps) ≡ length stamps
from_count zero from to stamps = length-map stamps (reinserted from to)
from_count (suc start) from to [] = refl
from_count (suc start) from to (stamp ∷ stamps) = ap suc (from_count start from to stamps)

pub append_from_at : (start id row : ℕ) (stamps : List Stamp) (base : List Value) (nodes : List RowNode) → id ≢ NEVER
    → (start ≤ row → is_spare (slice_get stamps row) ≡ true → (slice_get stamps row ≡ Some spare_row) × (nodes ≡ []))
    → stack_if (slice_get (reinserted_from start NEVER id stamps) row) base nodes
    ≡ cond (nat_le start row) (put_in id (cond (is_spare (slice_get stamps row)) (Some base) None) (stack_if (slice_get stamps row) base nodes)) (stack_if (slice_get stamps row) base nodes)
append_from_at start id row stamps base nodes other fresh = so (cases_lt row start)
  where
    one : (b : Bool) (s : Stack) → cond b (placed id base) s ≡ put_in id (cond b (Some base) None) s
    one true s = refl
    one false s = refl

    so : ((row < start) ⊎ (start ≤ row)) → stack_if (slice_get (reinserted_from start NEVER id stamps) row) base nodes
        ≡ cond (nat_le start row) (put_in id (cond (is_spare (slice_get stamps row)) (Some base) None) (stack_if (slice_get stamps row) base nodes)) (stack_if (slice_get stamps row) base nodes)
    so (inl below) =
        ap (λ s. stack_if s base nodes) (from_before start NEVER id stamps row below)
        ∙ sym (ap (λ b. cond b (put_in id (cond (is_spare (slice_get stamps row)) (Some base) None) (stack_if (slice_get stamps row) base nodes)) (stack_if (slice_get stamps row) base nodes)) (lt-leb start row below))
    so (inr past) =
        ap (λ s. stack_if s base nodes) (from_within start NEVER id stamps row past ∙ sym (slice_get-map (reinserted NEVER id) stamps row))
        ∙ append_at id row stamps base nodes other (fresh past)
        ∙ one (is_spare (slice_get stamps row)) (stack_if (slice_get stamps row) base nodes)
        ∙ sym (ap (λ b. cond b (put_in id (cond (is_spare (slice_get stamps row)) (Some base) None) (stack_if (slice_get stamps row) base nodes)) (stack_if (slice_get stamps row) base nodes)) (le-leb start row past))

-- an item of the second of two lists
back_at : {T : Type 0} (xs ys : List T) (i : ℕ) → length xs ≤ i → slice_get (xs ++ ys) i ≡ slice_get ys (i - length xs)
back_at {T} [] ys i past = ap (slice_get ys) (omega arith)
back_at {T} (x ∷ xs) ys zero past = absurd (omega (arith, past))
back_at {T} (x ∷ xs) ys (suc i) past = back_at xs ys i (omega (arith, past)) ∙ ap (slice_get ys) (omega arith)

-- the values of rows that were reserved
room_more : (more : List (Option (List Value))) (i : ℕ)
    → cond (is_spare (slice_get (replicate (length more) spare_row) i)) (Some (values_or_none (slice_get more i))) None ≡ values_if (slice_get more i)
room_more [] i = refl
room_more (row ∷ more) zero = refl
room_more (row ∷ more) (suc i) = room_more more i

pub reserve_room : (row : ℕ) (base new : OptionTable) (more : List (Option (List Value))) (stamps now : List Stamp) → length base.rows ≡ length stamps
    → new ≡ with_rows more base → now ≡ stamps ++ replicate (length more) spare_row
    → cond (is_spare (slice_get now row)) (Some (base_at row new)) None
    ≡ cond (nat_lt row (length stamps)) (cond (is_spare (slice_get stamps row)) (Some (base_at row base)) None) (values_if (slice_get more (row - length stamps)))
reserve_room row base new more stamps now even e f =
    ap (λ (l : List Stamp). cond (is_spare (slice_get l row)) (Some (base_at row new)) None) f
    ∙ ap (λ (t : OptionTable). cond (is_spare (slice_get (stamps ++ replicate (length more) spare_row) row)) (Some (base_at row t)) None) e
    ∙ so (cases_lt row (length stamps))
  where
    so : ((row < length stamps) ⊎ (length stamps ≤ row))
        → cond (is_spare (slice_get (stamps ++ replicate (length more) spare_row) row)) (Some (values_or_none (slice_get (base.rows ++ more) row))) None
        ≡ cond (nat_lt row (length stamps)) (cond (is_spare (slice_get stamps row)) (Some (base_at row base)) None) (values_if (slice_get more (row - length stamps)))
    so (inl within) =
        let inside : row < length base.rows = omega (arith, within, even) in
        ap (λ s. cond (is_spare s) (Some (values_or_none (slice_get (base.rows ++ more) row))) None) (front_at stamps (replicate (length more) spare_row) row spare_row within)
        ∙ ap (λ r. cond (is_spare (slice_get stamps row)) (Some (values_or_none r)) None) (front_at base.rows more row None inside)
        ∙ sym (ap (λ b. cond b (cond (is_spare (slice_get stamps row)) (Some (base_at row base)) None) (values_if (slice_get more (row - length stamps)))) (lt-ltb row (length stamps) within))
    so (inr past) =
        let far : length base.rows ≤ row = omega (arith, past, even) in
        let same : row - length base.rows ≡ row - length stamps = omega (arith, even) in
        ap (λ s. cond (is_spare s) (Some (values_or_none (slice_get (base.rows ++ more) row))) None) (back_at stamps (replicate (length more) spare_row) row past)
        ∙ ap (λ r. cond (is_spare (slice_get (replicate (length more) spare_row) (row - length stamps))) (Some (values_or_none r)) None) (back_at base.rows more row far ∙ ap (slice_get more) same)
        ∙ room_more more (row - length stamps)
        ∙ sym (ap (λ b. cond b (cond (is_spare (slice_get stamps row)) (Some (base_at row base)) None) (values_if (slice_get more (row - length stamps)))) (le-ltb row (length stamps) past))
