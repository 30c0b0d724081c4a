-- Rows that get a delete stamp.
use Rattle.std.proofs.Common.{ℕ, suc, ◌≡◌, Bool, true, false, List, [], ◌∷◌, length, drop, set, Option, Some, None, refl, ap, sym, ◌∙◌, cond, arith, subst, length-set}
use Rattle.std.specs.Prelude.{◌||◌, ◌==◌, ◌≢◌, slice_get, option_map}
use Rattle.std.proofs.lemmas.Bool.{eqb-true, eqb-false, false≢true}
use Rattle.std.proofs.lemmas.Option.{slice_get_within}
use Rattle.dk_values.specs.declared.value.Value.{Value}
use Rattle.dk_stamp.specs.declared.snapshot.TheConstants.{NEVER}
use Rattle.dk_chain.specs.Nodes.{RowNode, nodes_at, put_back}
use Rattle.dk_version.specs.declared.stamps.Stamp.{Stamp}
use Rattle.dk_version.specs.Rows.{VectorStamps, erased_by, with_deleted}
use Rattle.dk_vector.specs.Stacks.{Stack, absent, erased}
use Rattle.dk_vector.specs.Vectors.{VectorRows, stands, standing, base_at, stack_of, stack_if, stack_at, erased_rows, has_row, ArePlaced}
use Rattle.dk_vector.proofs.PlaceLemmas.{at_same, at_other}

-- the first i rows have their delete stamps
pub record ErasedSoFar (id : ℕ) (rows : List ℕ) (i : ℕ) (old new : VectorStamps) : Type 0 where
  pub apart : new.apart ≡ true
  pub count : length new.rows ≡ length old.rows
  pub rest : erased_rows id (drop i rows) new.rows ≡ erased_rows id rows old.rows

abbrev erased_if : ℕ → Bool → Option Stamp → Option Stamp
erased_if id has stamp = cond has (option_map (erased_by id) stamp) stamp

deleted_at : (id r row : ℕ) (rows : List Stamp) → slice_get (with_deleted r id rows) row ≡ erased_if id (r == row) (slice_get rows row)
deleted_at id r row rows = so (slice_get rows r) refl (r == row) refl
  where
    so : (o : Option Stamp) → slice_get rows r ≡ o → (b : Bool) → (r == row) ≡ b
        → slice_get (elim o as (λ x. List Stamp) [ None ↦ rows | Some stamp ↦ set rows r (erased_by id stamp) ]) row ≡ erased_if id b (slice_get rows row)
    so None e true h =
        let none : slice_get rows row ≡ None = ap (slice_get rows) (sym (eqb-true r row h)) ∙ e in
        none ∙ sym (ap (option_map (erased_by id)) none)
    so None e false h = refl
    so (Some stamp) e true h =
        let here = eqb-true r row h in
        let there : slice_get rows row ≡ Some stamp = ap (slice_get rows) (sym here) ∙ e in
        ap (slice_get (set rows r (erased_by id stamp))) (sym here) ∙ at_same rows r (erased_by id stamp) (slice_get_within rows r stamp e) ∙ sym (ap (option_map (erased_by id)) there)
    so (Some stamp) e false h = at_other rows r row (erased_by id stamp) (eqb-false r row h)

erased_at : (id row : ℕ) (others : List ℕ) (rows : List Stamp) → slice_get (erased_rows id others rows) row ≡ erased_if id (has_row row others) (slice_get rows row)
erased_at id row [] rows = refl
erased_at id row (r ∷ others) rows =
    erased_at id row others (with_deleted r id rows)
    ∙ ap (erased_if id (has_row row others)) (deleted_at id r row rows)
    ∙ both (has_row row others) (r == row) (slice_get rows row)
  where
    both : (h b : Bool) (g : Option Stamp) → erased_if id h (erased_if id b g) ≡ erased_if id (b || h) g
    both true true None = refl
    both true true (Some stamp) = refl
    both true false g = refl
    both false true g = refl
    both false false g = refl

pub erased_count : (id : ℕ) (others : List ℕ) (rows : List Stamp) → length (erased_rows id others rows) ≡ length rows
erased_count id [] rows = refl
erased_count id (r ∷ others) rows = erased_count id others (with_deleted r id rows) ∙ one (slice_get rows r)
  where
    one : (o : Option Stamp) → length (elim o as (λ x. List Stamp) [ None ↦ rows | Some stamp ↦ set rows r (erased_by id stamp) ]) ≡ length rows
    one None = refl
    one (Some stamp) = length-set rows r (erased_by id stamp)

abbrev row_if : Bool → Stamp → List Value → List RowNode → Stack
row_if spare stamp base nodes = cond spare absent (record { base = put_back stands base nodes; nodes = standing nodes; inserted = stamp.inserted; deleted = stamp.deleted })

erase_row : (id : ℕ) (has : Bool) (s : Option Stamp) (base : List Value) (nodes : List RowNode) → (has ≡ true → (stack_if s base nodes).inserted ≢ NEVER)
    → stack_if (erased_if id has s) base nodes ≡ cond has (erased id (stack_if s base nodes)) (stack_if s base nodes)
erase_row id false s base nodes placed = refl
erase_row id true None base nodes placed = absurd (placed refl refl)
erase_row id true (Some stamp) base nodes placed = so (stamp.inserted == NEVER) refl
  where
    so : (spare : Bool) → (stamp.inserted == NEVER) ≡ spare → stack_of (erased_by id stamp) base nodes ≡ erased id (stack_of stamp base nodes)
    so true e = absurd (placed refl (ap (λ b. (row_if b stamp base nodes).inserted) e))
    so false e = ap (λ b. row_if b (erased_by id stamp) base nodes) e ∙ sym (ap (λ b. erased id (row_if b stamp base nodes)) e)

pub placed_at : (others : List ℕ) (vector : VectorRows) → ArePlaced others vector → (row : ℕ) → has_row row others ≡ true → (stack_at vector row).inserted ≢ NEVER
placed_at [] vector h row has = absurd (false≢true has)
placed_at (r ∷ others) vector h row has = so (r == row) refl has (placed_at others vector (λ k d within. h (suc k) d (omega (arith, within))) row)
  where
    so : (b : Bool) → (r == row) ≡ b → (b || has_row row others) ≡ true → (has_row row others ≡ true → (stack_at vector row).inserted ≢ NEVER) → (stack_at vector row).inserted ≢ NEVER
    so true e has rest = subst (λ (k : ℕ). (stack_at vector k).inserted ≢ NEVER) (eqb-true r row e) (h 0 0 (omega arith)).1
    so false e has rest = rest has

-- each row of a vector
pub erase_at : (id row : ℕ) (others : List ℕ) (vector : VectorRows) (new : List Stamp) → ArePlaced others vector → new ≡ erased_rows id others vector.stamps.rows
    → stack_if (slice_get new row) (base_at row vector.base) (nodes_at row vector.nodes) ≡ cond (has_row row others) (erased id (stack_at vector row)) (stack_at vector row)
erase_at id row others vector new placed is =
    ap (λ s. stack_if s (base_at row vector.base) (nodes_at row vector.nodes)) (ap (λ (l : List Stamp). slice_get l row) is ∙ erased_at id row others vector.stamps.rows)
    ∙ erase_row id (has_row row others) (slice_get vector.stamps.rows row) (base_at row vector.base) (nodes_at row vector.nodes) (placed_at others vector placed row)
