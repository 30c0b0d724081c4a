-- Each row of a vector through each call on it.
use Rattle.std.proofs.Common.{ℕ, ◌≡◌, ◌≤◌, ◌<◌, Bool, true, false, List, map, Option, Some, None, refl, ap, sym, ◌∙◌, cond, arith}
use Rattle.std.specs.Prelude.{◌==◌, ◌≢◌, slice_get, option_map}
use Rattle.std.proofs.lemmas.Bool.{eqb-true, ne_eqb}
use Rattle.std.proofs.lemmas.Option.{slice_get-map}
use Rattle.dk_values.specs.declared.value.Value.{Value}
use Rattle.dk_stamp.specs.declared.snapshot.TheConstants.{NEVER}
use Rattle.dk_chain.specs.Nodes.{RowNode, put_back, newest_stamp, last_restamped, first_restamped, row_above}
use Rattle.dk_version.specs.declared.stamps.Stamp.{Stamp}
use Rattle.dk_version.specs.Rows.{reinserted}
use Rattle.dk_vector.specs.Stacks.{Stack, absent, undone, stamped, placed_stamped, pruned}
use Rattle.dk_vector.specs.Vectors.{stands, standing, undone_first, stack_of, stack_if}
use Rattle.dk_vector.proofs.HidingLemmas.{stamping_on, drop_on}
use Rattle.dk_vector.proofs.StandingLemmas.{stands_true, standing_stamped, first_stamped, standing_above, first_above}
use Rattle.dk_vector.proofs.UndoLemmas.{undo_keeps_first, undoes}

abbrev whole : Stamp → List Value → List RowNode → Stack
whole stamp base nodes = record { base = base; nodes = nodes; inserted = stamp.inserted; deleted = stamp.deleted }

abbrev row_of : Bool → Stamp → List Value → List RowNode → Stack
row_of spare stamp base nodes = cond spare absent (whole stamp base nodes)

-- stamping
stamp_stack : (id number : ℕ) → id ≢ NEVER → number ≢ NEVER → (s : Option Stamp) (base : List Value) (nodes : List RowNode)
    → stack_if s base (last_restamped id number nodes) ≡ stamped id number (stack_if s base nodes)
stamp_stack id number a b None base nodes = refl
stamp_stack id number a b (Some stamp) base nodes = so (stamp.inserted == NEVER)
  where
    so : (spare : Bool)
        → row_of spare stamp (put_back stands base (last_restamped id number nodes)) (standing (last_restamped id number nodes))
        ≡ stamped id number (row_of spare stamp (put_back stands base nodes) (standing nodes))
    so true = refl
    so false =
        ap (λ values. whole stamp values (standing (last_restamped id number nodes))) (stamping_on stands id number (stands_true id a ∙ sym (stands_true number b)) base nodes)
        ∙ ap (whole stamp (put_back stands base nodes)) (standing_stamped id number (stands_true id a) (stands_true number b) nodes)

pub stamp_rows : (id number : ℕ) (s : Option Stamp) (base : List Value) (new old : List RowNode) (has : Bool) → id ≢ NEVER → number ≢ NEVER
    → new ≡ cond has (last_restamped id number old) old → stack_if s base new ≡ cond has (stamped id number (stack_if s base old)) (stack_if s base old)
stamp_rows id number s base new old has a b e = ap (stack_if s base) e ∙ so has
  where
    so : (has : Bool) → stack_if s base (cond has (last_restamped id number old) old) ≡ cond has (stamped id number (stack_if s base old)) (stack_if s base old)
    so true = stamp_stack id number a b s base old
    so false = refl

-- dropping
pub drop_rows : (bound : ℕ) (s : Option Stamp) (base : List Value) (new old : List RowNode) → bound < NEVER → new ≡ row_above bound old
    → stack_if s base new ≡ pruned bound (stack_if s base old)
drop_rows bound s base new old below e = ap (stack_if s base) e ∙ so s
  where
    seen : (stamp : ℕ) → stamp ≤ bound → stands stamp ≡ true
    seen stamp within = stands_true stamp (λ same. omega (arith, within, below, same))

    each : (stamp : Stamp) (spare : Bool)
        → row_of spare stamp (put_back stands base (row_above bound old)) (standing (row_above bound old)) ≡ pruned bound (row_of spare stamp (put_back stands base old) (standing old))
    each stamp true = refl
    each stamp false =
        ap (λ values. whole stamp values (standing (row_above bound old))) (drop_on stands bound seen base old)
        ∙ ap (whole stamp (put_back stands base old)) (standing_above bound old)

    so : (s : Option Stamp) → stack_if s base (row_above bound old) ≡ pruned bound (stack_if s base old)
    so None = refl
    so (Some stamp) = each stamp (stamp.inserted == NEVER)

-- undoing
pub undo_rows : (id : ℕ) (s : Option Stamp) (base : List Value) (new old : List RowNode) (has : Bool) → id ≢ NEVER
    → (has ≡ true → newest_stamp old ≡ Some id) → undone_first old ≡ true
    → new ≡ cond has (first_restamped id NEVER old) old → stack_if s base new ≡ cond has (undone (stack_if s base old)) (stack_if s base old)
undo_rows id s base new old has other top first e = ap (stack_if s base) e ∙ so has top
  where
    each : (stamp : Stamp) (spare : Bool) → newest_stamp old ≡ Some id
        → row_of spare stamp (put_back stands base (first_restamped id NEVER old)) (standing (first_restamped id NEVER old)) ≡ undone (row_of spare stamp (put_back stands base old) (standing old))
    each stamp true top = refl
    each stamp false top = undoes id other stamp.inserted stamp.deleted base old top first

    this : (s : Option Stamp) → newest_stamp old ≡ Some id → stack_if s base (first_restamped id NEVER old) ≡ undone (stack_if s base old)
    this None top = refl
    this (Some stamp) top = each stamp (stamp.inserted == NEVER) top

    so : (has : Bool) → (has ≡ true → newest_stamp old ≡ Some id) → stack_if s base (cond has (first_restamped id NEVER old) old) ≡ cond has (undone (stack_if s base old)) (stack_if s base old)
    so true top = this s (top refl)
    so false top = refl

-- rows of a transaction that appended them
insert_stack : (id number : ℕ) → id ≢ NEVER → number ≢ NEVER → (stamp : Stamp) (base : List Value) (nodes : List RowNode)
    → stack_of (reinserted id number stamp) base nodes ≡ cond ((stack_of stamp base nodes).inserted == id) (placed_stamped number (stack_of stamp base nodes)) (stack_of stamp base nodes)
insert_stack id number a b stamp base nodes = so (stamp.inserted == id) refl
  where
    here : (spare : Bool) → (stamp.inserted == NEVER) ≡ spare → (stamp.inserted == id) ≡ true
        → row_of (number == NEVER) (record stamp { inserted = number }) (put_back stands base nodes) (standing nodes)
        ≡ cond ((row_of spare stamp (put_back stands base nodes) (standing nodes)).inserted == id) (placed_stamped number (row_of spare stamp (put_back stands base nodes) (standing nodes))) (row_of spare stamp (put_back stands base nodes) (standing nodes))
    here true e is = absurd (a (sym (eqb-true stamp.inserted id is) ∙ eqb-true stamp.inserted NEVER e))
    here false e is =
        ap (λ t. row_of t (record stamp { inserted = number }) (put_back stands base nodes) (standing nodes)) (ne_eqb number NEVER b)
        ∙ sym (ap (λ t. cond t (placed_stamped number (whole stamp (put_back stands base nodes) (standing nodes))) (whole stamp (put_back stands base nodes) (standing nodes))) is)

    there : (spare : Bool) → (stamp.inserted == id) ≡ false
        → row_of spare stamp (put_back stands base nodes) (standing nodes)
        ≡ cond ((row_of spare stamp (put_back stands base nodes) (standing nodes)).inserted == id) (placed_stamped number (row_of spare stamp (put_back stands base nodes) (standing nodes))) (row_of spare stamp (put_back stands base nodes) (standing nodes))
    there true e = sym (ap (λ t. cond t (placed_stamped number absent) absent) (ne_eqb NEVER id (λ same. a (sym same))))
    there false e = sym (ap (λ t. cond t (placed_stamped number (whole stamp (put_back stands base nodes) (standing nodes))) (whole stamp (put_back stands base nodes) (standing nodes))) e)

    so : (t : Bool) → (stamp.inserted == id) ≡ t
        → stack_of (cond t (record stamp { inserted = number }) stamp) base nodes
        ≡ cond ((stack_of stamp base nodes).inserted == id) (placed_stamped number (stack_of stamp base nodes)) (stack_of stamp base nodes)
    so true is = here (stamp.inserted == NEVER) refl is
    so false is = there (stamp.inserted == NEVER) is

pub insert_rows : (id number : ℕ) (stamps : List Stamp) (row : ℕ) (base : List Value) (nodes : List RowNode) → id ≢ NEVER → number ≢ NEVER
    → stack_if (slice_get (map (reinserted id number) stamps) row) base nodes
    ≡ cond ((stack_if (slice_get stamps row) base nodes).inserted == id) (placed_stamped number (stack_if (slice_get stamps row) base nodes)) (stack_if (slice_get stamps row) base nodes)
insert_rows id number stamps row base nodes a b = ap (λ s. stack_if s base nodes) (slice_get-map (reinserted id number) stamps row) ∙ so (slice_get stamps row)
  where
    so : (s : Option Stamp) → stack_if (option_map (reinserted id number) s) base nodes ≡ cond ((stack_if s base nodes).inserted == id) (placed_stamped number (stack_if s base nodes)) (stack_if s base nodes)
    so None = sym (ap (λ t. cond t (placed_stamped number absent) absent) (ne_eqb NEVER id (λ same. a (sym same))))
    so (Some stamp) = insert_stack id number a b stamp base nodes

-- what was undone stays on top
pub stamp_first : (id number : ℕ) (new old : List RowNode) (has : Bool) → id ≢ NEVER → number ≢ NEVER
    → new ≡ cond has (last_restamped id number old) old → undone_first old ≡ true → undone_first new ≡ true
stamp_first id number new old has a b e first = ap undone_first e ∙ so has
  where
    so : (has : Bool) → undone_first (cond has (last_restamped id number old) old) ≡ true
    so true = first_stamped id number (stands_true id a) (stands_true number b) old first
    so false = first

pub undo_first : (id : ℕ) (new old : List RowNode) (has : Bool) → id ≢ NEVER → (has ≡ true → newest_stamp old ≡ Some id)
    → new ≡ cond has (first_restamped id NEVER old) old → undone_first old ≡ true → undone_first new ≡ true
undo_first id new old has other top e first = ap undone_first e ∙ so has top
  where
    so : (has : Bool) → (has ≡ true → newest_stamp old ≡ Some id) → undone_first (cond has (first_restamped id NEVER old) old) ≡ true
    so true top = undo_keeps_first id other old (top refl) first
    so false top = first

pub drop_first : (bound : ℕ) (new old : List RowNode) → new ≡ row_above bound old → undone_first old ≡ true → undone_first new ≡ true
drop_first bound new old e first = ap undone_first e ∙ first_above bound old first
