-- A row that a net deletes: it stays deleted behind a further change, and it is not there in what the transaction
-- sees.
use Rattle.std.proofs.Common.{arith, ◌≡◌, ◌⊎◌, ⊎_elim, ℕ, zero, suc, ◌+◌, ◌<◌, ◌≤◌, Bool, true, false, List, [], ◌∷◌, ◌++◌, map, length, Option, Some, None, ap, ◌∙◌, sym, refl, subst, slice_get, slice_set}
use Rattle.std.specs.Prelude.{◌&&◌, not, is_some, ◌==◌, nat_lt, if◌then◌else◌}
use Rattle.std.specs.List.{list_any}
use Rattle.std.proofs.lemmas.Bool.{true≢false, false≢true, and_from, and_parts, or_cases, or_left, or_right, cases_Bool, eqb-true, eq-eqb, ltb-true, lt-ltb}
use Rattle.std.proofs.lemmas.Option.{slice_get_within}
use Rattle.dk_values.specs.declared.value.Value.{Value}
use Rattle.dk_types.specs.declared.net.TableNet.{TableNet}
use Rattle.dk_types.specs.Nets.{changes, all_above, ascends}
use Rattle.dk_si.specs.declared.database.Table.{Table}
use Rattle.dk_si.specs.Database.{put_rows, clear_rows, rows_after, apply_part, apply_net}
use Rattle.dk_si.specs.Nets.{put_by, put_all, has_id, part_of, without, merged_net, merged_part, merged_deletes, committed_ids, row_count}
use Rattle.dk_si.specs.RowLaws.{has_row, table_has_row}
use Rattle.dk_si.proofs.PlaceLemmas.{set_length}
use Rattle.dk_si.proofs.NetLemmas.{filter_has, none_above}
use Rattle.dk_core.specs.Versions.{is_deleted_by}

-- an item that is put stands there
put_there_at : {T : Type 0} → (test : T → Bool) (item first : T) (items others : List T) (less same : Bool)
    → test item ≡ true
    → list_any test others ≡ true
    → list_any test (if less then item ∷ first ∷ items else (if same then item ∷ items else first ∷ others)) ≡ true
put_there_at test item first items others true same passes rest = or_left (test item) _ passes
put_there_at test item first items others false true passes rest = or_left (test item) _ passes
put_there_at test item first items others false false passes rest = or_right (test first) _ rest

put_there : {T : Type 0} → (test : T → Bool) (key : T → ℕ) (item : T) (items : List T) → test item ≡ true
    → list_any test (put_by key item items) ≡ true
put_there test key item [] passes = or_left (test item) _ passes
put_there test key item (first ∷ items) passes =
    put_there_at test item first items (put_by key item items) (nat_lt (key item) (key first))
    (key item == key first) passes
    (put_there test key item items passes)

-- what stands there stays, unless the item takes its place and does not pass
put_stays_at : {T : Type 0} → (test : T → Bool) (item first : T) (items others : List T) (less same : Bool)
    → (same ≡ true → test first ≡ true → test item ≡ true) → list_any test (first ∷ items) ≡ true
    → (list_any test items ≡ true → list_any test others ≡ true)
    → list_any test (if less then item ∷ first ∷ items else (if same then item ∷ items else first ∷ others)) ≡ true
put_stays_at test item first items others true same taken has rest = or_right (test item) _ has
put_stays_at test item first items others false true taken has rest = ⊎_elim
    (λ h. or_left (test item) _ (taken refl h))
    (λ h. or_right (test item) _ h)
    (or_cases (test first) (list_any test items) has)
put_stays_at test item first items others false false taken has rest = ⊎_elim
    (λ h. or_left (test first) _ h)
    (λ h. or_right (test first) _ (rest h))
    (or_cases (test first) (list_any test items) has)

put_stays : {T : Type 0} → (test : T → Bool) (key : T → ℕ) (item : T) (items : List T)
    → ((first : T) → (key item == key first) ≡ true → test first ≡ true → test item ≡ true)
    → list_any test items ≡ true
    → list_any test (put_by key item items) ≡ true
put_stays test key item [] taken has = absurd (false≢true has)
put_stays test key item (first ∷ items) taken has =
    put_stays_at test item first items (put_by key item items) (nat_lt (key item) (key first)) (key item == key first)
    (taken first) has (λ later. put_stays test key item items taken later)

-- an id stays among ids that others are put into, and those stand there
id_taken : (row id first : ℕ) → (id == first) ≡ true → (first == row) ≡ true → (id == row) ≡ true
id_taken row id first same is = eq-eqb id row (eqb-true id first same ∙ eqb-true first row is)

ids_stay : (row : ℕ) (more ids : List ℕ) → has_id ids row ≡ true → has_id (put_all (λ id. id) more ids) row ≡ true
ids_stay row [] ids has = has
ids_stay row (id ∷ more) ids has =
    ids_stay row more (put_by (λ id. id) id ids)
    (put_stays (λ (other : ℕ). other == row) (λ id. id) id ids (λ first same is. id_taken row id first same is) has)

ids_there : (row : ℕ) (more ids : List ℕ) → has_id more row ≡ true → has_id (put_all (λ id. id) more ids) row ≡ true
ids_there row [] ids has = absurd (false≢true has)
ids_there row (id ∷ more) ids has = ⊎_elim
    (λ h. ids_stay row more (put_by (λ id. id) id ids) (put_there (λ (other : ℕ). other == row) (λ id. id) id ids h))
    (λ h. ids_there row more (put_by (λ id. id) id ids) h)
    (or_cases (id == row) (has_id more row) has)

-- a part of a net deletes the row of a table
abbrev deletes_here : ℕ → ℕ → TableNet → Bool
deletes_here table row part = part.table == table && has_id part.deletes row

same_le : (table other : ℕ) → (other == table) ≡ true → table ≤ other
same_le table other same = let e = eqb-true other table same in omega (arith, e)

in_part_at : (part : TableNet) (parts : List TableNet) (table row : ℕ) (b : Bool) → (part.table == table) ≡ b
    → (deletes_here table row part ≡ true) ⊎ (is_deleted_by table row parts ≡ true)
    → ((part.table == table) ≡ true → is_deleted_by table row parts ≡ true → ⊥)
    → (is_deleted_by table row parts ≡ true → has_id (part_of parts table).deletes row ≡ true)
    → has_id (if b then part else part_of parts table).deletes row ≡ true
in_part_at part parts table row true is either none rest = ⊎_elim
    (λ p. (and_parts (part.table == table) (has_id part.deletes row) p).1)
    (λ later. absurd (none is later))
    either
in_part_at part parts table row false is either none rest = ⊎_elim
    (λ p. absurd (true≢false (sym (and_parts (part.table == table) (has_id part.deletes row) p).0 ∙ is)))
    (λ later. rest later)
    either

-- what a net deletes in a table, its part for the table deletes
in_part : (net : List TableNet) (table row : ℕ) → ascends net ≡ true → is_deleted_by table row net ≡ true
    → has_id (part_of net table).deletes row ≡ true
in_part [] table row up has = absurd (false≢true has)
in_part (part ∷ parts) table row up has =
    let h = and_parts (all_above part.table parts) (ascends parts) up in
    in_part_at part parts table row (part.table == table) refl
    (or_cases (deletes_here table row part) (is_deleted_by table row parts) has)
    (λ same later. none_above (λ part. has_id part.deletes row) parts part.table table h.0 (same_le table part.table same) later)
    (λ later. in_part parts table row h.1 later)

some_long : {T : Type 0} → (test : T → Bool) (xs : List T) → list_any test xs ≡ true → 0 < length xs
some_long test [] has = absurd (false≢true has)
some_long test (x ∷ xs) has = omega arith

long_changes : (a b c : ℕ) → 0 < b → not (a + b + c == 0) ≡ true
long_changes a b c some = grind (arith, some)

delete_changes : (part : TableNet) (row : ℕ) → has_id part.deletes row ≡ true → changes part ≡ true
delete_changes part row has =
    long_changes (length part.updates) (length part.deletes) (length part.rows)
    (some_long (λ id. id == row) part.deletes has)

with_here : (part : TableNet) (net : List TableNet) (table row : ℕ) (b : Bool) → b ≡ true
    → deletes_here table row part ≡ true
    → is_deleted_by table row (if b then put_by (λ part. part.table) part net else net) ≡ true
with_here part net table row true full has = put_there (deletes_here table row) (λ other. other.table) part net has
with_here part net table row false full has = absurd (false≢true full)

with_other : (part : TableNet) (net : List TableNet) (table row : ℕ) (b : Bool) → (part.table == table) ≡ false
    → is_deleted_by table row net ≡ true
    → is_deleted_by table row (if b then put_by (λ part. part.table) part net else net) ≡ true
with_other part net table row true other has =
    put_stays (deletes_here table row) (λ part. part.table) part net
    (λ first same is. let k = (and_parts (first.table == table) (has_id first.deletes row) is).0 in
    absurd (true≢false (sym (id_taken table part.table first.table same k) ∙ other))) has
with_other part net table row false other has = has

apart_tables : (a b c : ℕ) → (a == c) ≡ true → (b == c) ≡ false → (a == b) ≡ false
apart_tables a b c same other = grind (arith, same, other)

merged_here : (count : ℕ) (net : List TableNet) (change : TableNet) (row : ℕ)
    → has_id (merged_deletes count (part_of net change.table) change) row ≡ true
    → is_deleted_by change.table row (merged_net count net change) ≡ true
merged_here count net change row has =
    let part = merged_part count (part_of net change.table) change in
    with_here part (without net change.table) change.table row (changes part) (delete_changes part row has)
    (and_from _ _ (eq-eqb change.table change.table refl) has)

-- behind a statement a transaction still deletes what it deleted
pub delete_stays : (count : ℕ) (net : List TableNet) (change : TableNet) (table row : ℕ) → ascends net ≡ true
    → is_deleted_by table row net ≡ true → is_deleted_by table row (merged_net count net change) ≡ true
delete_stays count net change table row up has = ⊎_elim
    (λ same. let e = eqb-true change.table table same in
    subst (λ t. is_deleted_by t row (merged_net count net change) ≡ true) e
    (merged_here count net change row
    (ids_stay row (committed_ids count change.deletes) (part_of net change.table).deletes
    (in_part net change.table row up (subst (λ t. is_deleted_by t row net ≡ true) (sym e) has)))))
    (λ other. with_other (merged_part count (part_of net change.table) change) (without net change.table) table row
    (changes (merged_part count (part_of net change.table) change)) other
    (filter_has (deletes_here table row) (λ part. not (part.table == change.table)) net
    (λ part h. ap not
    (apart_tables part.table change.table table (and_parts (part.table == table) (has_id part.deletes row) h).0
    other)) has))
    (cases_Bool (change.table == table))

-- and it deletes the committed rows that the statement deletes
pub delete_gains : (count : ℕ) (net : List TableNet) (change : TableNet) (row : ℕ) → row < count
    → has_id change.deletes row ≡ true
    → is_deleted_by change.table row (merged_net count net change) ≡ true
delete_gains count net change row less has =
    merged_here count net change row
    (ids_there row (committed_ids count change.deletes) (part_of net change.table).deletes
    (filter_has (λ (id : ℕ). id == row) (λ id. nat_lt id count) change.deletes
    (λ id same. subst (λ n. nat_lt n count ≡ true) (sym (eqb-true id row same)) (lt-ltb row count less)) has))

-- items of a list one of which is set
set_here : {T : Type 0} → (xs : List T) (k : ℕ) (x : T) → k < length xs → slice_get (slice_set xs k x) k ≡ Some x
set_here [] k x less = absurd (omega (arith, less))
set_here (y ∷ xs) zero x less = refl
set_here (y ∷ xs) (suc k) x less = set_here xs k x (omega (arith, less))

less_apart : (n k : ℕ) → (suc n == suc k) ≡ false → (n == k) ≡ false
less_apart n k apart = grind (arith, apart)

pub set_other : {T : Type 0} → (xs : List T) (n k : ℕ) (x : T) → (n == k) ≡ false
    → slice_get (slice_set xs n x) k ≡ slice_get xs k
set_other [] n k x apart = refl
set_other (y ∷ xs) zero zero x apart = absurd (true≢false apart)
set_other (y ∷ xs) zero (suc k) x apart = refl
set_other (y ∷ xs) (suc n) zero x apart = refl
set_other (y ∷ xs) (suc n) (suc k) x apart = set_other xs n k x (less_apart n k apart)

-- a place that is empty stays so where rows are cleared
clear_stays : (ids : List ℕ) (rows : List (Option (List Value))) (row : ℕ) → row < length rows
    → slice_get rows row ≡ Some None
    → slice_get (clear_rows ids rows) row ≡ Some None
clear_stays [] rows row less none = none
clear_stays (id ∷ ids) rows row less none =
    clear_stays ids (slice_set rows id None) row (subst (λ n. row < n) (sym (set_length rows id None)) less)
    (⊎_elim
    (λ same. let e = eqb-true id row same in
    subst (λ n. slice_get (slice_set rows n None) row ≡ Some None) (sym e) (set_here rows row None less))
    (λ other. set_other rows id row None other ∙ none)
    (cases_Bool (id == row)))

clear_here : (ids : List ℕ) (rows : List (Option (List Value))) (row : ℕ) → row < length rows → has_id ids row ≡ true
    → slice_get (clear_rows ids rows) row ≡ Some None
clear_here [] rows row less has = absurd (false≢true has)
clear_here (id ∷ ids) rows row less has =
    let within = subst (λ n. row < n) (sym (set_length rows id None)) less in
    ⊎_elim
    (λ same. let e = eqb-true id row same in
    clear_stays ids (slice_set rows id None) row within
    (subst (λ n. slice_get (slice_set rows n None) row ≡ Some None) (sym e) (set_here rows row None less)))
    (λ later. clear_here ids (slice_set rows id None) row within later)
    (or_cases (id == row) (has_id ids row) has)

put_length : (updates : List (ℕ × List Value)) (rows : List (Option (List Value)))
    → length (put_rows updates rows) ≡ length rows
put_length [] rows = refl
put_length (update ∷ updates) rows =
    put_length updates (slice_set rows update.0 (Some update.1)) ∙ set_length rows update.0 (Some update.1)

in_front : {T : Type 0} → (xs ys : List T) (k : ℕ) (x : T) → slice_get xs k ≡ Some x → slice_get (xs ++ ys) k ≡ Some x
in_front [] ys k x at = cc
in_front (y ∷ xs) ys zero x at = at
in_front (y ∷ xs) ys (suc k) x at = in_front xs ys k x at

-- behind a part that deletes the row, it is not there
gone_here : (part : TableNet) (rows : List (Option (List Value))) (row : ℕ) → row < length rows
    → has_id part.deletes row ≡ true
    → has_row (rows_after part rows) row ≡ false
gone_here part rows row less has =
    let within = subst (λ n. row < n) (sym (put_length part.updates rows)) less in
    ap (λ found. elim found as (λ x. Bool) [ None ↦ false | Some row ↦ is_some row ])
    (in_front (clear_rows part.deletes (put_rows part.updates rows)) (map Some part.rows) row None
    (clear_here part.deletes (put_rows part.updates rows) row within has))

-- a part changes its table alone
part_other_at : (part : TableNet) (tables : List Table) (table : ℕ) (found : Option Table)
    → (part.table == table) ≡ false
    → slice_get (elim found as (λ x. List Table) [
      | None ↦ tables
      | Some own ↦ slice_set tables part.table (record own { rows = rows_after part own.rows })
    ]) table ≡ slice_get tables table
part_other_at part tables table None other = refl
part_other_at part tables table (Some own) other = set_other tables part.table table
    (record own { rows = rows_after part own.rows }) other

part_other : (part : TableNet) (tables : List Table) (table : ℕ) → (part.table == table) ≡ false
    → slice_get (apply_part part tables) table ≡ slice_get tables table
part_other part tables table other = part_other_at part tables table (slice_get tables part.table) other

above_other : (low other table : ℕ) → nat_lt low other ≡ true → table ≤ low → (other == table) ≡ false
above_other low other table less le = let h = ltb-true low other less in grind (arith, h, le)

net_other : (parts : List TableNet) (tables : List Table) (low table : ℕ) → all_above low parts ≡ true → table ≤ low
    → slice_get (apply_net parts tables) table ≡ slice_get tables table
net_other [] tables low table above le = refl
net_other (part ∷ parts) tables low table above le =
    let h = and_parts (nat_lt low part.table) (all_above low parts) above in
    net_other parts (apply_part part tables) low table h.1 le
    ∙ part_other part tables table (above_other low part.table table h.0 le)

within_tables : (tables : List Table) (table : ℕ) (found : Table) → slice_get tables table ≡ Some found
    → table < length tables
within_tables tables table found at = slice_get_within tables table found at

part_here_at : (part : TableNet) (tables : List Table) (row : ℕ) (found : Option Table)
    → slice_get tables part.table ≡ found
    → row < elim found as (λ x. ℕ) [ None ↦ 0 | Some table ↦ length table.rows ] → has_id part.deletes row ≡ true
    → elim (slice_get (elim found as (λ x. List Table) [
      | None ↦ tables
      | Some own ↦ slice_set tables part.table (record own { rows = rows_after part own.rows })
    ]) part.table) as (λ x. Bool) [ None ↦ false | Some table ↦ has_row table.rows row ] ≡ false
part_here_at part tables row None is less has = absurd (omega (arith, less))
part_here_at part tables row (Some own) is less has =
    ap (λ found. elim found as (λ x. Bool) [ None ↦ false | Some table ↦ has_row table.rows row ])
    (set_here tables part.table (record own { rows = rows_after part own.rows })
    (within_tables tables part.table own is))
    ∙ gone_here part own.rows row less has

-- a row that a net deletes is not there behind the net
pub deleted_is_gone : (net : List TableNet) (tables : List Table) (table row : ℕ) → ascends net ≡ true
    → row < row_count tables table
    → is_deleted_by table row net ≡ true → table_has_row (apply_net net tables) table row ≡ false
deleted_is_gone [] tables table row up less has = absurd (false≢true has)
deleted_is_gone (part ∷ parts) tables table row up less has =
    let h = and_parts (all_above part.table parts) (ascends parts) up in
    ⊎_elim
    (λ here. let p = and_parts (part.table == table) (has_id part.deletes row) here in
    let e = eqb-true part.table table p.0 in
    ap (λ found. elim found as (λ x. Bool) [ None ↦ false | Some table ↦ has_row table.rows row ])
    (net_other parts (apply_part part tables) part.table table h.0 (same_le table part.table p.0))
    ∙ subst (λ t. table_has_row (apply_part part tables) t row ≡ false) e
    (part_here_at part tables row (slice_get tables part.table) refl
    (subst (λ t. row < row_count tables t) (sym e) less) p.1))
    (λ later. ⊎_elim
    (λ same. absurd (none_above (λ part. has_id part.deletes row) parts part.table table h.0 (same_le table part.table same) later))
    (λ other. deleted_is_gone parts (apply_part part tables) table row h.1
    (subst (λ found. row < elim found as (λ x. ℕ) [ None ↦ 0 | Some table ↦ length table.rows ])
    (sym (part_other part tables table other)) less) later)
    (cases_Bool (part.table == table)))
    (or_cases (deletes_here table row part) (is_deleted_by table row parts) has)
