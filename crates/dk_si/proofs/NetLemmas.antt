-- A statement's net has the rows that the net had before, and those that the statement touches.
use Rattle.std.proofs.Common.{arith, ◌≡◌, ◌⊎◌, ⊎_elim, ℕ, ◌+◌, ◌<◌, ◌≤◌, Bool, true, false, List, [], ◌∷◌, map, length}
use Rattle.std.proofs.Common.{ap, ◌∙◌, sym, refl, subst}
use Rattle.std.specs.Prelude.{◌&&◌, not, ◌==◌, nat_lt, if◌then◌else◌}
use Rattle.std.specs.List.{list_any, filter}
use Rattle.std.proofs.lemmas.Bool.{true≢false, false≢true, and_from, and_parts, or_cases, or_left, or_right, cases_Bool}
use Rattle.std.proofs.lemmas.Bool.{eqb-true, eq-eqb, ltb-true, lt-ltb}
use Rattle.std.proofs.lemmas.List.Folds.{list_any-append}
use Rattle.dk_values.specs.declared.value.Value.{Value}
use Rattle.dk_types.specs.declared.net.TableNet.{TableNet}
use Rattle.dk_types.specs.Nets.{changes, all_above, ascends}
use Rattle.dk_si.specs.Nets.{put_by, put_all, has_id, part_has, net_has, part_of, without, merged_net, merged_part}
use Rattle.dk_si.specs.Nets.{merged_updates, committed_ids, committed_updates}
use Rattle.dk_si.specs.Machine.{changed_ids}

put_there_at : {T : Type 0} → (test : T → Bool) (item first : T) (items others : List T) (less same : Bool)
    → test item ≡ true → list_any test others ≡ true
    → list_any test (if less then item ∷ first ∷ items else (if same then item ∷ items else first ∷ others)) ≡ true
put_there_at test item first items others true same passes rest = or_left (test item) _ passes
put_there_at test item first items others false true passes rest = or_left (test item) _ passes
put_there_at test item first items others false false passes rest = or_right (test first) _ rest

put_stays_at : {T : Type 0} → (key : T → ℕ) (row : ℕ) (item first : T) (items others : List T) (less same : Bool)
    → (key item == key first) ≡ same
    → list_any (λ x. key x == row) (first ∷ items) ≡ true
    → (list_any (λ x. key x == row) items ≡ true → list_any (λ x. key x == row) others ≡ true)
    → list_any (λ x. key x == row)
    (if less then item ∷ first ∷ items else (if same then item ∷ items else first ∷ others)) ≡ true
put_stays_at key row item first items others true same is has rest = or_right (key item == row) _ has
put_stays_at key row item first items others false true is has rest = ⊎_elim
    (λ h. or_left (key item == row) _
    (eq-eqb (key item) row (eqb-true (key item) (key first) is ∙ eqb-true (key first) row h)))
    (λ h. or_right (key item == row) _ h)
    (or_cases (key first == row) (list_any (λ x. key x == row) items) has)
put_stays_at key row item first items others false false is has rest = ⊎_elim
    (λ h. or_left (key first == row) _ h)
    (λ h. or_right (key first == row) _ (rest h))
    (or_cases (key first == row) (list_any (λ x. key x == row) items) has)

-- an item that is put stands there
put_there : {T : Type 0} → (test : T → Bool) (key : T → ℕ) (item : T) (items : List T) → test item ≡ true
    → list_any test (put_by key item items) ≡ true
put_there test key item [] passes = or_left (test item) _ passes
put_there test key item (first ∷ items) passes =
    put_there_at test item first items (put_by key item items) (nat_lt (key item) (key first))
    (key item == key first) passes (put_there test key item items passes)

-- a key that stands there stays
put_stays : {T : Type 0} → (key : T → ℕ) (row : ℕ) (item : T) (items : List T) → list_any (λ x. key x == row) items
    ≡ true → list_any (λ x. key x == row) (put_by key item items) ≡ true
put_stays key row item [] has = absurd (false≢true has)
put_stays key row item (first ∷ items) has =
    put_stays_at key row item first items (put_by key item items) (nat_lt (key item) (key first))
    (key item == key first) refl has (λ later. put_stays key row item items later)

all_stays : {T : Type 0} → (key : T → ℕ) (row : ℕ) (more items : List T) → list_any (λ x. key x == row) items ≡ true
    → list_any (λ x. key x == row) (put_all key more items) ≡ true
all_stays key row [] items has = has
all_stays key row (x ∷ more) items has = all_stays key row more (put_by key x items) (put_stays key row x items has)

all_there : {T : Type 0} → (key : T → ℕ) (row : ℕ) (more items : List T) → list_any (λ x. key x == row) more ≡ true
    → list_any (λ x. key x == row) (put_all key more items) ≡ true
all_there key row [] items has = absurd (false≢true has)
all_there key row (x ∷ more) items has = ⊎_elim
    (λ h. all_stays key row more (put_by key x items) (put_there (λ y. key y == row) key x items h))
    (λ h. all_there key row more (put_by key x items) h)
    (or_cases (key x == row) (list_any (λ y. key y == row) more) has)

kept_if : {T : Type 0} → (test : T → Bool) (x : T) (xs : List T) (b : Bool) → list_any test xs ≡ true
    → list_any test (if b then x ∷ xs else xs) ≡ true
kept_if test x xs true has = or_right (test x) _ has
kept_if test x xs false has = has

kept_here : {T : Type 0} → (test : T → Bool) (x : T) (xs : List T) (b : Bool) → b ≡ true → test x ≡ true
    → list_any test (if b then x ∷ xs else xs) ≡ true
kept_here test x xs true keeps has = or_left (test x) _ has
kept_here test x xs false keeps has = absurd (false≢true keeps)

-- what passes a test that the filter lets through stays
pub filter_has : {T : Type 0} → (test keep : T → Bool) (xs : List T) → ((x : T) → test x ≡ true → keep x ≡ true)
    → list_any test xs ≡ true → list_any test (filter keep xs) ≡ true
filter_has test keep [] lets has = has
filter_has test keep (x ∷ xs) lets has = ⊎_elim
    (λ h. kept_here test x (filter keep xs) (keep x) (lets x h) h)
    (λ h. kept_if test x (filter keep xs) (keep x) (filter_has test keep xs lets h))
    (or_cases (test x) (list_any test xs) has)

key_passes_at : {T : Type 0} → (key : T → ℕ) (test : ℕ → Bool) (x : T) (xs : List T) (row : ℕ) (b : Bool)
    → test (key x) ≡ b
    → list_any (λ y. key y == row) (if b then x ∷ filter (λ y. test (key y)) xs else filter (λ y. test (key y)) xs)
    ≡ true
    → (list_any (λ y. key y == row) (filter (λ y. test (key y)) xs) ≡ true
    → (test row ≡ true) × (list_any (λ y. key y == row) xs ≡ true))
    → (test row ≡ true) × (list_any (λ y. key y == row) (x ∷ xs) ≡ true)
key_passes_at key test x xs row true is has rest = ⊎_elim
    (λ h. (subst (λ n. test n ≡ true) (eqb-true (key x) row h) is, or_left (key x == row) _ h))
    (λ h. let r = rest h in (r.0, or_right (key x == row) _ r.1))
    (or_cases (key x == row) (list_any (λ y. key y == row) (filter (λ y. test (key y)) xs)) has)
key_passes_at key test x xs row false is has rest = let r = rest has in (r.0, or_right (key x == row) _ r.1)

-- a key of a list of which those that pass a test are kept passes it, and stood in the list
pub key_passes : {T : Type 0} → (key : T → ℕ) (test : ℕ → Bool) (xs : List T) (row : ℕ)
    → list_any (λ y. key y == row) (filter (λ y. test (key y)) xs) ≡ true
    → (test row ≡ true) × (list_any (λ y. key y == row) xs ≡ true)
key_passes key test [] row has = absurd (false≢true has)
key_passes key test (x ∷ xs) row has =
    key_passes_at key test x xs row (test (key x)) refl has (λ later. key_passes key test xs row later)

any_key : (row : ℕ) (updates : List (ℕ × List Value)) → has_id (map (λ update. update.0) updates) row ≡ true
    → list_any (λ update. update.0 == row) updates ≡ true
any_key row [] has = has
any_key row (u ∷ updates) has =
    ⊎_elim (λ h. or_left (u.0 == row) _ h) (λ h. or_right (u.0 == row) _ (any_key row updates h))
    (or_cases (u.0 == row) (has_id (map (λ update. update.0) updates) row) has)

-- a row's update is there unless the row is deleted, and then it is among the deletes
updates_or : (count row : ℕ) (part change : TableNet) → row < count
    → list_any (λ update. update.0 == row)
    (put_all (λ update. update.0) (committed_updates count change.updates) part.updates) ≡ true
    → part_has (merged_part count part change) row ≡ true
updates_or count row part change less has = ⊎_elim
    (λ gone. or_right (list_any (λ update. update.0 == row) (merged_updates count part change)) _
    (all_there (λ (id : ℕ). id) row (committed_ids count change.deletes) part.deletes
    (filter_has (λ (id : ℕ). id == row) (λ id. nat_lt id count) change.deletes
    (λ id same. subst (λ n. nat_lt n count ≡ true) (sym (eqb-true id row same)) (lt-ltb row count less)) gone)))
    (λ stays. or_left (list_any (λ update. update.0 == row) (merged_updates count part change)) _
    (filter_has (λ (update : ℕ × List Value). update.0 == row) (λ update. not (has_id change.deletes update.0))
    (put_all (λ update. update.0) (committed_updates count change.updates) part.updates)
    (λ update same. ap not (ap (has_id change.deletes) (eqb-true update.0 row same) ∙ stays)) has))
    (cases_Bool (has_id change.deletes row))

-- what a part has, it has behind a change
part_stays : (count row : ℕ) (part change : TableNet) → row < count → part_has part row ≡ true
    → part_has (merged_part count part change) row ≡ true
part_stays count row part change less has = ⊎_elim
    (λ h. updates_or count row part change less (all_stays (λ (update : ℕ × List Value). update.0) row
    (committed_updates count change.updates) part.updates h))
    (λ h. or_right (list_any (λ update. update.0 == row) (merged_updates count part change)) _
    (all_stays (λ (id : ℕ). id) row (committed_ids count change.deletes) part.deletes h))
    (or_cases (list_any (λ update. update.0 == row) part.updates) (has_id part.deletes row) has)

-- and so what the change touches
part_gains : (count row : ℕ) (part change : TableNet) → has_id (committed_ids count (changed_ids change)) row ≡ true
    → part_has (merged_part count part change) row ≡ true
part_gains count row part change has =
    let p = key_passes (λ (id : ℕ). id) (λ id. nat_lt id count) (changed_ids change) row has in
    let less = ltb-true row count p.0 in
    ⊎_elim
    (λ h. updates_or count row part change less (all_there (λ (update : ℕ × List Value). update.0) row
    (committed_updates count change.updates) part.updates
    (filter_has (λ (update : ℕ × List Value). update.0 == row) (λ update. nat_lt update.0 count) change.updates
    (λ update same. subst (λ n. nat_lt n count ≡ true) (sym (eqb-true update.0 row same)) p.0)
    (any_key row change.updates h))))
    (λ h. or_right (list_any (λ update. update.0 == row) (merged_updates count part change)) _
    (all_there (λ (id : ℕ). id) row (committed_ids count change.deletes) part.deletes
    (filter_has (λ (id : ℕ). id == row) (λ id. nat_lt id count) change.deletes
    (λ id same. subst (λ n. nat_lt n count ≡ true) (sym (eqb-true id row same)) p.0) h)))
    (or_cases (has_id (map (λ update. update.0) change.updates) row) (has_id change.deletes row)
    (sym (list_any-append (λ (id : ℕ). id == row) (map (λ update. update.0) change.updates) change.deletes) ∙ p.1))

some_long : {T : Type 0} → (test : T → Bool) (xs : List T) → list_any test xs ≡ true → 0 < length xs
some_long test [] has = absurd (false≢true has)
some_long test (x ∷ xs) has = omega arith

long_changes : (a b c : ℕ) → 0 < a + b → not (a + b + c == 0) ≡ true
long_changes a b c some = grind (arith, some)

-- a part that has a row changes something
has_changes : (part : TableNet) (row : ℕ) → part_has part row ≡ true → changes part ≡ true
has_changes part row has = ⊎_elim
    (λ h. long_changes (length part.updates) (length part.deletes) (length part.rows)
    (let n = some_long (λ update. update.0 == row) part.updates h in omega (arith, n)))
    (λ h. long_changes (length part.updates) (length part.deletes) (length part.rows)
    (let n = some_long (λ id. id == row) part.deletes h in omega (arith, n)))
    (or_cases (list_any (λ update. update.0 == row) part.updates) (has_id part.deletes row) has)

with_here : (part : TableNet) (net : List TableNet) (table row : ℕ) (b : Bool) → b ≡ true
    → (part.table == table && part_has part row) ≡ true
    → net_has (if b then put_by (λ part. part.table) part net else net) table row ≡ true
with_here part net table row true full has =
    put_there (λ other. other.table == table && part_has other row) (λ other. other.table) part net has
with_here part net table row false full has = absurd (false≢true full)

-- no part above a table is of it
pub none_above : (also : TableNet → Bool) (parts : List TableNet) (low table : ℕ) → all_above low parts ≡ true
    → table ≤ low → list_any (λ part. part.table == table && also part) parts ≡ true → ⊥
none_above also [] low table above le has = false≢true has
none_above also (part ∷ parts) low table above le has =
    let h = and_parts (nat_lt low part.table) (all_above low parts) above in
    ⊎_elim
    (λ p. let same = eqb-true part.table table (and_parts (part.table == table) (also part) p).0 in
    let less = ltb-true low part.table h.0 in omega (arith, same, less, le))
    (λ p. none_above also parts low table h.1 le p)
    (or_cases (part.table == table && also part) (list_any (λ part. part.table == table && also part) parts) has)

same_le : (table other : ℕ) → (other == table) ≡ true → table ≤ other
same_le table other same = let e = eqb-true other table same in omega (arith, e)

in_part_at : (part : TableNet) (parts : List TableNet) (table row : ℕ) (b : Bool) → (part.table == table) ≡ b
    → ((part.table == table && part_has part row) ≡ true) ⊎ (net_has parts table row ≡ true)
    → ((part.table == table) ≡ true → net_has parts table row ≡ true → ⊥)
    → (net_has parts table row ≡ true → part_has (part_of parts table) row ≡ true)
    → part_has (if b then part else part_of parts table) row ≡ true
in_part_at part parts table row true is either none rest = ⊎_elim
    (λ p. (and_parts (part.table == table) (part_has part row) p).1)
    (λ later. absurd (none is later))
    either
in_part_at part parts table row false is either none rest = ⊎_elim
    (λ p. absurd (true≢false (sym (and_parts (part.table == table) (part_has part row) p).0 ∙ is)))
    (λ later. rest later)
    either

put_other_at : (part first : TableNet) (items others : List TableNet) (table row : ℕ) (less same : Bool)
    → (part.table == first.table) ≡ same → (part.table == table) ≡ false
    → net_has (first ∷ items) table row ≡ true → (net_has items table row ≡ true → net_has others table row ≡ true)
    → net_has (if less then part ∷ first ∷ items else (if same then part ∷ items else first ∷ others)) table row ≡ true
put_other_at part first items others table row true same is other has rest =
    or_right (part.table == table && part_has part row) _ has
put_other_at part first items others table row false true is other has rest = ⊎_elim
    (λ h. absurd (true≢false
    (sym (eq-eqb part.table table (eqb-true part.table first.table is ∙ eqb-true first.table table
    (and_parts (first.table == table) (part_has first row) h).0)) ∙ other)))
    (λ h. or_right (part.table == table && part_has part row) _ h)
    (or_cases (first.table == table && part_has first row) (net_has items table row) has)
put_other_at part first items others table row false false is other has rest = ⊎_elim
    (λ h. or_left (first.table == table && part_has first row) _ h)
    (λ h. or_right (first.table == table && part_has first row) _ (rest h))
    (or_cases (first.table == table && part_has first row) (net_has items table row) has)

put_other : (part : TableNet) (net : List TableNet) (table row : ℕ) → (part.table == table) ≡ false
    → net_has net table row ≡ true
    → net_has (put_by (λ part. part.table) part net) table row ≡ true
put_other part [] table row other has = absurd (false≢true has)
put_other part (first ∷ net) table row other has =
    put_other_at part first net (put_by (λ part. part.table) part net) table row (nat_lt part.table first.table)
    (part.table == first.table) refl other has
    (λ h. put_other part net table row other h)

with_other : (part : TableNet) (net : List TableNet) (table row : ℕ) (b : Bool) → (part.table == table) ≡ false
    → net_has net table row ≡ true
    → net_has (if b then put_by (λ part. part.table) part net else net) table row ≡ true
with_other part net table row true other has = put_other part net table row other has
with_other part net table row false other has = has

apart_tables : (a b c : ℕ) → (a == c) ≡ true → (b == c) ≡ false → (a == b) ≡ false
apart_tables a b c same other = grind (arith, same, other)

-- a row of a net is one of its part for the table
in_part : (net : List TableNet) (table row : ℕ) → ascends net ≡ true → net_has net table row ≡ true
    → part_has (part_of net table) row ≡ true
in_part [] table row up has = absurd (false≢true has)
in_part (part ∷ parts) table row up has =
    let h = and_parts (all_above part.table parts) (ascends parts) up in
    in_part_at part parts table row (part.table == table) refl
    (or_cases (part.table == table && part_has part row) (net_has parts table row) has)
    (λ same later. none_above (λ part. part_has part row) parts part.table table h.0 (same_le table part.table same) later)
    (λ later. in_part parts table row h.1 later)

-- what a net has of other tables stays
other_stays : (count : ℕ) (net : List TableNet) (change : TableNet) (table row : ℕ) → (change.table == table) ≡ false
    → net_has net table row ≡ true
    → net_has (merged_net count net change) table row ≡ true
other_stays count net change table row other has =
    with_other (merged_part count (part_of net change.table) change) (without net change.table) table row
    (changes (merged_part count (part_of net change.table) change)) other
    (filter_has (λ part. part.table == table && part_has part row) (λ part. not (part.table == change.table)) net
    (λ part h. ap not (apart_tables part.table change.table table
    (and_parts (part.table == table) (part_has part row) h).0 other)) has)

pub net_stays : (count : ℕ) (net : List TableNet) (change : TableNet) (table row : ℕ) → ascends net ≡ true
    → (change.table ≡ table → row < count) → net_has net table row ≡ true
    → net_has (merged_net count net change) table row ≡ true
net_stays count net change table row up less has = ⊎_elim
    (λ same. let e = eqb-true change.table table same in
    let p = part_stays count row (part_of net change.table) change (less e)
    (in_part net change.table row up (subst (λ t. net_has net t row ≡ true) (sym e) has)) in
    with_here (merged_part count (part_of net change.table) change) (without net change.table) table row
    (changes (merged_part count (part_of net change.table) change))
    (has_changes (merged_part count (part_of net change.table) change) row p) (and_from _ _ same p))
    (λ other. other_stays count net change table row other has)
    (cases_Bool (change.table == table))

pub net_gains : (count : ℕ) (net : List TableNet) (change : TableNet) (row : ℕ)
    → has_id (committed_ids count (changed_ids change)) row ≡ true
    → net_has (merged_net count net change) change.table row ≡ true
net_gains count net change row has =
    let p = part_gains count row (part_of net change.table) change has in
    with_here (merged_part count (part_of net change.table) change) (without net change.table) change.table row
    (changes (merged_part count (part_of net change.table) change))
    (has_changes (merged_part count (part_of net change.table) change) row p)
    (and_from _ _ (eq-eqb change.table change.table refl) p)
