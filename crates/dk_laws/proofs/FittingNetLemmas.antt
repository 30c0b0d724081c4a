-- What a statement changes joins a net that fits, and the net fits still.
use Rattle.std.proofs.Common.{◌≡◌, ⊎_elim, ℕ, zero, suc, ◌-◌, ◌≤◌, Bool, true, false, List, [], ◌∷◌, length}
use Rattle.std.proofs.Common.{map, Option, Some, None, ap, ◌∙◌, sym, refl, subst, arith, slice_get, slice_set}
use Rattle.std.proofs.Common.{append-nil}
use Rattle.std.specs.Prelude.{option_map, not, nat_lt, ◌==◌, if◌then◌else◌}
use Rattle.std.specs.List.{All, filter, list_all, list_any}
use Rattle.std.proofs.lemmas.Bool.{false≢true, and_from, and_parts, or_left}
use Rattle.std.proofs.lemmas.Bool.{eqb-true, eq-eqb, ltb-true, not-true}
use Rattle.std.proofs.lemmas.List.Folds.{list_all-append, list_all-map}
use Rattle.std.proofs.lemmas.List.Elements.{All-cons, All-head, All-tail, All-filter}
use Rattle.dk_values.specs.declared.value.Value.{Value}
use Rattle.dk_types.specs.declared.net.TableNet.{TableNet}
use Rattle.dk_types.specs.Nets.{changes, all_above, ascends}
use Rattle.dk_si.specs.declared.database.Table.{Table}
use Rattle.dk_si.specs.Database.{present, put_rows, clear_rows, rows_after, apply_part, apply_net}
use Rattle.dk_laws.specs.FittingNets.{fits_row, FitsTable, FitsPart, FitsNet}
use Rattle.dk_si.specs.Machine.{changed_ids}
use Rattle.dk_si.specs.Nets.{put_by, put_all, has_id, part_of, without, committed_ids}
use Rattle.dk_si.specs.Nets.{committed_updates, own_places, own_updates, merged_part, merged_updates, merged_deletes}
use Rattle.dk_si.specs.Nets.{merged_rows, merged_net}
use Rattle.dk_si.specs.RowLaws.{has_row}
use Rattle.dk_si.proofs.HolderLemmas.{not_both}
use Rattle.dk_si.proofs.MergedNetLemmas.{further_net}
use Rattle.dk_si.proofs.NetLemmas.{key_passes}
use Rattle.dk_si.proofs.PlaceLemmas.{set_apart}
use Rattle.dk_si.proofs.RisingLemmas.{all_kept, all_put_all, rises_kept, rises_put_all}
use Rattle.dk_laws.proofs.RowListLemmas.{present_pass, put_pass, clear_pass, new_pass, after_was}
use Rattle.dk_si.proofs.WriteSetLemmas.{any_put_all, updated, among, touched_part}

-- a table behind a part
abbrev pub with_rows : TableNet → Table → Table
with_rows part table = record table { rows = rows_after part table.rows }

-- what a statement changes in a table as its transaction sees it: rows that are there, with new values and new rows
-- that fit
pub record ChangesTable (table : Table) (change : TableNet) : Type 0 where
  pub there : (row : ℕ) → has_id (changed_ids change) row ≡ true → has_row table.rows row ≡ true
  pub updates_fit : list_all (λ update. fits_row table.schema update.1) change.updates ≡ true
  pub rows_fit : list_all (fits_row table.schema) change.rows ≡ true

-- a committed row that the statement changes is there, and not among the deletes
changed_there : (table : Table) (part change : TableNet) (row : ℕ) → FitsTable table part
    → ChangesTable (with_rows part table) change
    → has_id (committed_ids (length table.rows) (changed_ids change)) row ≡ true
    → (has_row table.rows row ≡ true) × (has_id part.deletes row ≡ false)
changed_there table part change row fits meant has =
    let at = key_passes (λ (id : ℕ). id) (λ id. nat_lt id (length table.rows)) (changed_ids change) row has in
    let was = after_was part table.rows row (ltb-true row (length table.rows) at.0) (meant.there row at.1) in
    (⊎_elim (λ h. fits.there row (or_left _ (has_id part.deletes row) h)) (λ h. h) was.0, was.1)

merged_apart : (table : Table) (part change : TableNet) (row : ℕ) → FitsTable table part
    → ChangesTable (with_rows part table) change
    → list_any (λ update. update.0 == row) (merged_updates (length table.rows) part change) ≡ true
    → has_id (merged_deletes (length table.rows) part change) row ≡ true → ⊥
merged_apart table part change row fits meant updates deletes =
    let count = length table.rows in
    let key : ℕ × List Value → ℕ = λ update. update.0 in
    let all = put_all key (committed_updates count change.updates) part.updates in
    let kept = key_passes key (λ id. not (has_id change.deletes id)) all row updates in
    let stays = not-true (has_id change.deletes row) kept.0 in
    let gone : has_id part.deletes row ≡ true = ⊎_elim
    (λ h. absurd (not_both (key_passes (λ (id : ℕ). id) (λ id. nat_lt id count) change.deletes row h).1 stays)) (λ h. h)
    (any_put_all (λ other. other == row) (λ id. id) (committed_ids count change.deletes) part.deletes deletes) in
    ⊎_elim
    (λ h. let ids = map key change.updates in
    let changed = among count row ids change.deletes (or_left _ _ (updated count row change.updates h)) in
    not_both gone (changed_there table part change row fits meant changed).1)
    (λ h. fits.apart row h gone)
    (any_put_all (λ update. update.0 == row) key (committed_updates count change.updates) part.updates kept.1)

own_pass : (test : List Value → Bool) (count : ℕ) (updates : List (ℕ × List Value))
    → list_all (λ update. test update.1) updates ≡ true
    → list_all (λ update. test update.1) (own_updates count updates) ≡ true
own_pass test count updates all =
    let kept = filter (λ (update : ℕ × List Value). not (nat_lt update.0 count)) updates in
    let move : ℕ × List Value → ℕ × List Value = λ update. (update.0 - count, update.1) in
    list_all-map (λ (update : ℕ × List Value). test update.1) move kept
    ∙ all_kept (λ (update : ℕ × List Value). not (nat_lt update.0 count)) (λ update. test update.1) updates all

merged_pass : (test : List Value → Bool) (count : ℕ) (part change : TableNet) → list_all test part.rows ≡ true
    → list_all (λ update. test update.1) change.updates ≡ true → list_all test change.rows ≡ true
    → list_all test (merged_rows count part change) ≡ true
merged_pass test count part change rows updates new =
    let put = put_rows (own_updates count change.updates) (map Some part.rows) in
    let left = clear_rows (own_places count change.deletes) put in
    list_all-append test (present left) change.rows
    ∙ and_from _ _
    (present_pass test left
    ∙ clear_pass test (own_places count change.deletes) put
    (put_pass test (own_updates count change.updates) (map Some part.rows)
    (own_pass test count change.updates updates) (new_pass test part.rows rows)))
    new

-- a part fits behind what a statement changes
pub merged_fits : (table : Table) (part change : TableNet) → FitsTable table part
    → ChangesTable (with_rows part table) change
    → FitsTable table (merged_part (length table.rows) part change)
merged_fits table part change fits meant =
    let count = length table.rows in
    let key : ℕ × List Value → ℕ = λ update. update.0 in
    let keep : ℕ × List Value → Bool = λ update. not (has_id change.deletes update.0) in
    let all = put_all key (committed_updates count change.updates) part.updates in
    let test : ℕ × List Value → Bool = λ update. fits_row table.schema update.1 in
    record {
      updates_ascend = rises_kept key keep all
          (rises_put_all key (committed_updates count change.updates) part.updates fits.updates_ascend);
      deletes_ascend = rises_put_all (λ (id : ℕ). id)
          (committed_ids count change.deletes) part.deletes fits.deletes_ascend;
      apart = λ row updates deletes. merged_apart table part change row fits meant updates deletes;
      there = λ row has. ⊎_elim (fits.there row) (λ h. (changed_there table part change row fits meant h).0)
          (touched_part count row part change has);
      updates_fit = all_kept keep test all (all_put_all key test (committed_updates count change.updates) part.updates
          (all_kept (λ (update : ℕ × List Value). nat_lt update.0 count) test change.updates meant.updates_fit)
          fits.updates_fit);
      rows_fit = merged_pass (fits_row table.schema) count part change fits.rows_fit meant.updates_fit meant.rows_fit;
    }

-- nothing fits every table
nothing_fits : (table : Table) (place : ℕ)
    → FitsTable table (record { table = place; updates = []; deletes = []; rows = [] })
nothing_fits table place = record {
  updates_ascend = refl;
  deletes_ascend = refl;
  apart = λ row updates deletes. false≢true updates;
  there = λ row has. absurd (false≢true has);
  updates_fit = refl;
  rows_fit = refl;
}

same_table : (found : Option Table) (one other : Table) → found ≡ Some one → found ≡ Some other → one ≡ other
same_table found one other is too = cc

part_choice : (same : Bool) (tables : List Table) (place : ℕ) (table : Table) (part : TableNet) (parts : List TableNet)
    → (part.table == place) ≡ same → slice_get tables place ≡ Some table → FitsPart tables part
    → FitsTable table (part_of parts place)
    → FitsTable table (if same then part else part_of parts place)
part_choice true tables place table part parts here is fits rest =
    let at = subst (λ n. slice_get tables n ≡ Some fits.table) (eqb-true part.table place here) fits.is in
    subst (λ now. FitsTable now part) (same_table (slice_get tables place) fits.table table at is) fits.fits
part_choice false tables place table part parts here is fits rest = rest

-- what a net has of a table fits it
pub part_of_fits : (tables : List Table) (net : List TableNet) (place : ℕ) (table : Table) → All (FitsPart tables) net
    → slice_get tables place ≡ Some table → FitsTable table (part_of net place)
part_of_fits tables [] place table fits is = nothing_fits table place
part_of_fits tables (part ∷ parts) place table fits is =
    part_choice (part.table == place) tables place table part parts refl is
    (All-head (FitsPart tables) part parts fits)
    (part_of_fits tables parts place table (All-tail (FitsPart tables) part parts fits) is)

All-choice : (P : TableNet → Type 0) (less same : Bool) (item first : TableNet) (items others : List TableNet)
    → P item → P first
    → All P items → All P others
    → All P (if less then item ∷ first ∷ items else (if same then item ∷ items else first ∷ others))
All-choice P true same item first items others one two all more =
    All-cons P item (first ∷ items) one (All-cons P first items two all)
All-choice P false true item first items others one two all more = All-cons P item items one all
All-choice P false false item first items others one two all more = All-cons P first others two more

All-put : (P : TableNet → Type 0) (key : TableNet → ℕ) (item : TableNet) (items : List TableNet) → P item → All P items
    → All P (put_by key item items)
All-put P key item [] one all = All-cons P item [] one all
All-put P key item (first ∷ items) one all =
    let head = All-head P first items all in
    let tail = All-tail P first items all in
    All-choice P (nat_lt (key item) (key first)) (key item == key first) item first items
    (put_by key item items) one head tail
    (All-put P key item items one tail)

with_fits : (P : TableNet → Type 0) (full : Bool) (part : TableNet) (net : List TableNet) → P part → All P net
    → All P (if full then put_by (λ part. part.table) part net else net)
with_fits P true part net one all = All-put P (λ item. item.table) part net one all
with_fits P false part net one all = all

-- a net fits behind what a statement changes in the database as the net makes it
pub merged_net_fits : (tables : List Table) (net : List TableNet) (change : TableNet) (table : Table)
    → FitsNet tables net
    → slice_get tables change.table ≡ Some table → ChangesTable (with_rows (part_of net change.table) table) change
    → FitsNet tables (merged_net (length table.rows) net change)
merged_net_fits tables net change table fits is meant =
    let part = part_of net change.table in
    let merged = merged_part (length table.rows) part change in
    record {
      is = further_net (length table.rows) net change fits.is;
      parts = with_fits (FitsPart tables) (changes merged) merged (without net change.table)
          (record {
            table = table;
            is = is;
            fits = merged_fits table part change
                (part_of_fits tables net change.table table fits.parts is) meant;
          })
          (All-filter (λ part. not (part.table == change.table)) (FitsPart tables) net fits.parts);
    }

-- what stands at a place behind a part of that table
set_same : (tables : List Table) (place : ℕ) (found : Option Table) (part : TableNet) → slice_get tables place ≡ found
    → slice_get (elim found as (λ x. List Table) [
      | None ↦ tables
      | Some table ↦ slice_set tables place (with_rows part table)
    ]) place
    ≡ option_map (with_rows part) found
set_same tables place None part is = is
set_same tables place (Some table) part is = set_at tables place (with_rows part table) table is
  where
    set_at : (xs : List Table) (n : ℕ) (new old : Table) → slice_get xs n ≡ Some old
        → slice_get (slice_set xs n new) n ≡ Some new
    set_at [] n new old at = cc
    set_at (x ∷ xs) zero new old at = refl
    set_at (x ∷ xs) (suc n) new old at = set_at xs n new old at

set_other : (tables : List Table) (at place : ℕ) (found : Option Table) (part : TableNet) → (at ≡ place → ⊥)
    → slice_get (elim found as (λ x. List Table) [
      | None ↦ tables
      | Some table ↦ slice_set tables at (with_rows part table)
    ]) place
    ≡ slice_get tables place
set_other tables at place None part apart = refl
set_other tables at place (Some table) part apart = set_apart tables at place (with_rows part table) apart

pub part_here : (part : TableNet) (tables : List Table) (place : ℕ) → part.table ≡ place
    → slice_get (apply_part part tables) place ≡ option_map (with_rows part) (slice_get tables place)
part_here part tables place same =
    subst (λ n. slice_get (apply_part part tables) n ≡ option_map (with_rows part) (slice_get tables n)) same
    (set_same tables part.table (slice_get tables part.table) part refl)

pub part_elsewhere : (part : TableNet) (tables : List Table) (place : ℕ) → (part.table ≡ place → ⊥)
    → slice_get (apply_part part tables) place ≡ slice_get tables place
part_elsewhere part tables place apart = set_other tables part.table place (slice_get tables part.table) part apart

-- a table that no part is of
untouched : (net : List TableNet) (tables : List Table) (low place : ℕ) → all_above low net ≡ true → place ≤ low
    → slice_get (apply_net net tables) place ≡ slice_get tables place
untouched [] tables low place above le = refl
untouched (part ∷ net) tables low place above le =
    let h = and_parts _ _ above in
    let less = ltb-true low part.table h.0 in
    untouched net (apply_part part tables) low place h.1 le
    ∙ part_elsewhere part tables place (λ same. omega (arith, less, le, same))

with_nothing : (found : Option Table) (place : ℕ)
    → found ≡ option_map (with_rows (record { table = place; updates = []; deletes = []; rows = [] })) found
with_nothing None place = refl
with_nothing (Some table) place = ap (λ rows. Some (record table { rows = rows })) (sym (append-nil table.rows))

view_choice : (same : Bool) (part : TableNet) (net : List TableNet) (tables : List Table) (place : ℕ)
    → (part.table == place) ≡ same
    → all_above part.table net ≡ true
    → slice_get (apply_net net (apply_part part tables)) place
    ≡ option_map (with_rows (part_of net place)) (slice_get (apply_part part tables) place)
    → slice_get (apply_net net (apply_part part tables)) place
    ≡ option_map (with_rows (if same then part else part_of net place)) (slice_get tables place)
view_choice true part net tables place here above rest =
    let same = eqb-true part.table place here in
    untouched net (apply_part part tables) part.table place above (omega (arith, same))
    ∙ part_here part tables place same
view_choice false part net tables place here above rest =
    rest ∙ ap (option_map (with_rows (part_of net place)))
    (part_elsewhere part tables place (λ same. not_both (eq-eqb part.table place same) here))

-- a table behind a net has the rows that the net's part of it makes
pub view_at : (net : List TableNet) (tables : List Table) (place : ℕ) → ascends net ≡ true
    → slice_get (apply_net net tables) place ≡ option_map (with_rows (part_of net place)) (slice_get tables place)
view_at [] tables place up = with_nothing (slice_get tables place) place
view_at (part ∷ net) tables place up =
    let h = and_parts (all_above part.table net) (ascends net) up in
    view_choice (part.table == place) part net tables place refl h.0 (view_at net (apply_part part tables) place h.1)
