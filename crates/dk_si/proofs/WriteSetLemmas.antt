-- The committed rows of a net that a statement's change joins: those that it had, and those that the statement touches.
use Rattle.std.proofs.Common.{◌≡◌, ◌⊎◌, inl, inr, ⊎_elim, ℕ, Bool, true, false, List, [], ◌∷◌, ◌++◌, map, ap, ◌∙◌, refl}
use Rattle.std.proofs.Common.{subst}
use Rattle.std.specs.Prelude.{not, nat_lt, ◌==◌, ◌&&◌, ◌||◌, if◌then◌else◌}
use Rattle.std.specs.List.{filter, list_any}
use Rattle.std.proofs.lemmas.Bool.{and_from, and_parts, or_cases, or_left, or_right, eqb-true}
use Rattle.std.proofs.lemmas.List.Elements.{filter-append}
use Rattle.std.proofs.lemmas.List.Folds.{list_any-append}
use Rattle.dk_values.specs.declared.value.Value.{Value}
use Rattle.dk_types.specs.declared.net.TableNet.{TableNet}
use Rattle.dk_types.specs.Nets.{changes}
use Rattle.dk_si.specs.Nets.{put_by, put_all, has_id, part_has, net_has, part_of, without, merged_net, merged_part}
use Rattle.dk_si.specs.Nets.{committed_ids, committed_updates, merged_updates, merged_deletes}
use Rattle.dk_si.specs.Machine.{changed_ids}

any_if : {T : Type 0} → (test : T → Bool) → (kept : Bool) → (x : T) → (xs all : List T)
    → (list_any test xs ≡ true → list_any test all ≡ true) → list_any test (if kept then x ∷ xs else xs) ≡ true
    → list_any test (x ∷ all) ≡ true
any_if test true x xs all rest any = ⊎_elim (or_left _ _) (λ e. or_right _ _ (rest e)) (or_cases _ _ any)
any_if test false x xs all rest any = or_right _ _ (rest any)

-- an item that is kept was there
any_kept : {T : Type 0} → (keep test : T → Bool) → (xs : List T) → list_any test (filter keep xs) ≡ true
    → list_any test xs ≡ true
any_kept keep test [] any = any
any_kept keep test (x ∷ xs) any = any_if test (keep x) x (filter keep xs) xs (any_kept keep test xs) any

-- the list that comes by the two tests of putting an item before, in the place of, or behind the first one
any_choice : {T : Type 0} → (test : T → Bool) → (less same : Bool) → (item first : T) → (items others : List T)
    → (list_any test others ≡ true → (test item ≡ true) ⊎ (list_any test items ≡ true))
    → list_any test (if less then item ∷ first ∷ items else (if same then item ∷ items else first ∷ others)) ≡ true
    → (test item ≡ true) ⊎ (list_any test (first ∷ items) ≡ true)
any_choice test true same item first items others more any = or_cases _ _ any
any_choice test false true item first items others more any = ⊎_elim inl (λ e. inr (or_right _ _ e)) (or_cases _ _ any)
any_choice test false false item first items others more any =
    ⊎_elim (λ e. inr (or_left _ _ e)) (λ e. ⊎_elim inl (λ e. inr (or_right _ _ e)) (more e)) (or_cases _ _ any)

any_put : {T : Type 0} → (test : T → Bool) → (key : T → ℕ) → (item : T) → (items : List T)
    → list_any test (put_by key item items) ≡ true
    → (test item ≡ true) ⊎ (list_any test items ≡ true)
any_put test key item [] any = or_cases _ _ any
any_put test key item (first ∷ items) any =
    any_choice test (nat_lt (key item) (key first)) (key item == key first) item first items (put_by key item items)
    (any_put test key item items) any

pub any_put_all : {T : Type 0} → (test : T → Bool) → (key : T → ℕ) → (more items : List T)
    → list_any test (put_all key more items) ≡ true
    → (list_any test more ≡ true) ⊎ (list_any test items ≡ true)
any_put_all test key [] items any = inr any
any_put_all test key (item ∷ more) items any =
    ⊎_elim (λ e. inl (or_right _ _ e)) (λ e. ⊎_elim (λ e. inl (or_left _ _ e)) inr (any_put test key item items e))
    (any_put_all test key more (put_by key item items) any)

updated_if : (kept : Bool) → (row : ℕ) → (update : ℕ × List Value) → (updates : List (ℕ × List Value)) → (ids : List ℕ)
    → (list_any (λ update. update.0 == row) updates ≡ true → has_id ids row ≡ true)
    → list_any (λ update. update.0 == row) (if kept then update ∷ updates else updates) ≡ true
    → has_id (if kept then update.0 ∷ ids else ids) row ≡ true
updated_if true row update updates ids rest any = ⊎_elim (or_left _ _) (λ e. or_right _ _ (rest e)) (or_cases _ _ any)
updated_if false row update updates ids rest any = rest any

-- an updated row is one of the updates' ids
pub updated : (count row : ℕ) → (updates : List (ℕ × List Value))
    → list_any (λ update. update.0 == row) (committed_updates count updates) ≡ true
    → has_id (committed_ids count (map (λ update. update.0) updates)) row ≡ true
updated count row [] any = any
updated count row (update ∷ updates) any =
    updated_if (nat_lt update.0 count) row update (committed_updates count updates)
    (committed_ids count (map (λ update. update.0) updates)) (updated count row updates) any

-- a row among some ids or others is one among both
pub among : (count row : ℕ) → (ids others : List ℕ)
    → (has_id (committed_ids count ids) row || has_id (committed_ids count others) row) ≡ true
    → has_id (committed_ids count (ids ++ others)) row ≡ true
among count row ids others any =
    ap (λ list. has_id list row) (filter-append (λ id. nat_lt id count) ids others)
    ∙ (list_any-append (λ other. other == row) (committed_ids count ids) (committed_ids count others) ∙ any)

-- an update of a committed row is one that the part had, or one of the change
touched_update : (count row : ℕ) → (part change : TableNet)
    → list_any (λ update. update.0 == row) (merged_updates count part change) ≡ true
    → (part_has part row ≡ true) ⊎ (has_id (committed_ids count (changed_ids change)) row ≡ true)
touched_update count row part change any =
    let ids = map (λ (update : ℕ × List Value). update.0) change.updates in
    let test : ℕ × List Value → Bool = λ update. update.0 == row in
    let all = put_all (λ (update : ℕ × List Value). update.0) (committed_updates count change.updates) part.updates in
    let kept = any_kept (λ update. not (has_id change.deletes update.0)) test all any in
    ⊎_elim
    (λ e. inr (among count row ids change.deletes (or_left _ _ (updated count row change.updates e))))
    (λ e. inl (or_left _ _ e))
    (any_put_all test (λ update. update.0) (committed_updates count change.updates) part.updates kept)

-- and so is a row that is deleted
touched_delete : (count row : ℕ) → (part change : TableNet) → has_id (merged_deletes count part change) row ≡ true
    → (part_has part row ≡ true) ⊎ (has_id (committed_ids count (changed_ids change)) row ≡ true)
touched_delete count row part change any =
    let ids = map (λ (update : ℕ × List Value). update.0) change.updates in
    ⊎_elim
    (λ e. inr (among count row ids change.deletes (or_right _ _ e)))
    (λ e. inl (or_right _ _ e))
    (any_put_all (λ other. other == row) (λ id. id) (committed_ids count change.deletes) part.deletes any)

pub touched_part : (count row : ℕ) → (part change : TableNet) → part_has (merged_part count part change) row ≡ true
    → (part_has part row ≡ true) ⊎ (has_id (committed_ids count (changed_ids change)) row ≡ true)
touched_part count row part change has =
    ⊎_elim (touched_update count row part change) (touched_delete count row part change) (or_cases _ _ has)

has_choice : (same : Bool) → (part : TableNet) → (parts : List TableNet) → (table row : ℕ) → (part.table == table)
    ≡ same
    → (part_has (part_of parts table) row ≡ true → net_has parts table row ≡ true)
    → part_has (if same then part else part_of parts table) row ≡ true → net_has (part ∷ parts) table row ≡ true
has_choice true part parts table row is rest has = or_left _ _ (and_from _ _ is has)
has_choice false part parts table row is rest has = or_right _ _ (rest has)

-- a row of a net's part of a table is one of the net
pub part_is_in : (net : List TableNet) → (table row : ℕ) → part_has (part_of net table) row ≡ true
    → net_has net table row ≡ true
part_is_in [] table row has = has
part_is_in (part ∷ parts) table row has =
    has_choice (part.table == table) part parts table row refl (part_is_in parts table row) has

with_choice : (full : Bool) → (part : TableNet) → (net : List TableNet) → (table row : ℕ)
    → net_has (if full then put_by (λ part. part.table) part net else net) table row ≡ true
    → ((part.table == table && part_has part row) ≡ true) ⊎ (net_has net table row ≡ true)
with_choice true part net table row has =
    any_put (λ part. part.table == table && part_has part row) (λ part. part.table) part net has
with_choice false part net table row has = inr has

-- whether a statement's change touches the row
abbrev pub Touches : ℕ → TableNet → ℕ → ℕ → Type 0
Touches count change table row = (change.table ≡ table) × (has_id (committed_ids count (changed_ids change)) row ≡ true)

touched_here : (count : ℕ) → (net : List TableNet) → (change : TableNet) → (table row : ℕ) → change.table ≡ table
    → part_has (merged_part count (part_of net change.table) change) row ≡ true
    → (net_has net table row ≡ true) ⊎ Touches count change table row
touched_here count net change table row is has =
    ⊎_elim
    (λ e. inl (subst (λ table. net_has net table row ≡ true) is (part_is_in net change.table row e)))
    (λ e. inr (is, e))
    (touched_part count row (part_of net change.table) change has)

-- a row of a net behind a statement's change is one that the net had, or one that the change touches
pub touched_rows : (count : ℕ) → (net : List TableNet) → (change : TableNet) → (table row : ℕ)
    → net_has (merged_net count net change) table row ≡ true
    → (net_has net table row ≡ true) ⊎ Touches count change table row
touched_rows count net change table row has =
    let part = merged_part count (part_of net change.table) change in
    let test : TableNet → Bool = λ other. other.table == table && part_has other row in
    ⊎_elim
    (λ e. let h = and_parts _ _ e in touched_here count net change table row (eqb-true change.table table h.0) h.1)
    (λ e. inl (any_kept (λ other. not (other.table == change.table)) test net e))
    (with_choice (changes part) part (without net change.table) table row has)
