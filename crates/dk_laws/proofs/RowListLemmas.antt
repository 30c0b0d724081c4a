-- Rows that are there, and rows that fit, behind updates, deletes and new rows.
use Rattle.std.proofs.Common.{◌≡◌, ◌⊎◌, inl, inr, ⊎_elim, ℕ, zero, suc, ◌<◌, Bool, true, false, List, [], ◌∷◌, ◌++◌}
use Rattle.std.proofs.Common.{length, map, Option, Some, None, ap, ◌∙◌, sym, refl, subst, arith, slice_set}
use Rattle.std.specs.Prelude.{is_some, ◌==◌, ◌&&◌}
use Rattle.std.specs.List.{list_all, list_any}
use Rattle.std.proofs.lemmas.Bool.{false≢true, and_from, and_parts, or_from, or_left, or_right, or_parts, cases_eq}
use Rattle.std.proofs.lemmas.Bool.{eq-eqb, ne_eqb}
use Rattle.std.proofs.lemmas.List.Folds.{list_all-append, list_all-map}
use Rattle.dk_values.specs.declared.value.Value.{Value}
use Rattle.dk_types.specs.declared.net.TableNet.{TableNet}
use Rattle.dk_si.specs.Database.{present, put_rows, clear_rows, rows_after}
use Rattle.dk_si.specs.Nets.{has_id}
use Rattle.dk_si.specs.RowLaws.{has_row}
use Rattle.dk_si.proofs.PlaceLemmas.{set_apart}

abbrev Rows : Type 0
Rows = List (Option (List Value))

pub set_long : {T : Type 0} → (xs : List T) (n : ℕ) (new : T) → length (slice_set xs n new) ≡ length xs
set_long [] n new = refl
set_long (x ∷ xs) zero new = refl
set_long (x ∷ xs) (suc n) new = ap suc (set_long xs n new)

put_long : (updates : List (ℕ × List Value)) (rows : Rows) → length (put_rows updates rows) ≡ length rows
put_long [] rows = refl
put_long (u ∷ updates) rows = put_long updates (slice_set rows u.0 (Some u.1)) ∙ set_long rows u.0 (Some u.1)

clear_long : (ids : List ℕ) (rows : Rows) → length (clear_rows ids rows) ≡ length rows
clear_long [] rows = refl
clear_long (id ∷ ids) rows = clear_long ids (slice_set rows id None) ∙ set_long rows id None

-- a row at another place is as it was
row_apart : (rows : Rows) (n id : ℕ) (new : Option (List Value)) → (n ≡ id → ⊥) → has_row (slice_set rows n new) id
    ≡ has_row rows id
row_apart rows n id new apart =
    ap (λ at. elim at as (λ x. Bool) [ None ↦ false | Some row ↦ is_some row ]) (set_apart rows n id new apart)

put_row_stays : (rows : Rows) (n id : ℕ) (row : List Value) → has_row rows id ≡ true
    → has_row (slice_set rows n (Some row)) id ≡ true
put_row_stays [] n id row has = has
put_row_stays (x ∷ rows) zero zero row has = refl
put_row_stays (x ∷ rows) zero (suc id) row has = has
put_row_stays (x ∷ rows) (suc n) zero row has = has
put_row_stays (x ∷ rows) (suc n) (suc id) row has = put_row_stays rows n id row has

put_stays : (updates : List (ℕ × List Value)) (rows : Rows) (id : ℕ) → has_row rows id ≡ true
    → has_row (put_rows updates rows) id ≡ true
put_stays [] rows id has = has
put_stays (u ∷ updates) rows id has =
    put_stays updates (slice_set rows u.0 (Some u.1)) id (put_row_stays rows u.0 id u.1 has)

put_was : (updates : List (ℕ × List Value)) (rows : Rows) (id : ℕ) → has_row (put_rows updates rows) id ≡ true
    → (list_any (λ update. update.0 == id) updates ≡ true) ⊎ (has_row rows id ≡ true)
put_was [] rows id has = inr has
put_was (u ∷ updates) rows id has =
    ⊎_elim (λ h. inl (or_right (u.0 == id) _ h))
    (λ h. ⊎_elim (λ same. inl (or_left (u.0 == id) _ (eq-eqb u.0 id same)))
    (λ apart. inr (sym (row_apart rows u.0 id (Some u.1) apart) ∙ h))
    (cases_eq u.0 id))
    (put_was updates (slice_set rows u.0 (Some u.1)) id has)

cleared : (rows : Rows) (id : ℕ) → has_row (slice_set rows id None) id ≡ false
cleared [] id = refl
cleared (x ∷ rows) zero = refl
cleared (x ∷ rows) (suc id) = cleared rows id

clear_was : (ids : List ℕ) (rows : Rows) (id : ℕ) → has_row (clear_rows ids rows) id ≡ true
    → (has_row rows id ≡ true) × (has_id ids id ≡ false)
clear_was [] rows id has = (has, refl)
clear_was (n ∷ ids) rows id has =
    let h = clear_was ids (slice_set rows n None) id has in
    ⊎_elim
    (λ same. absurd (false≢true
    (sym (cleared rows id) ∙ subst (λ m. has_row (slice_set rows m None) id ≡ true) same h.0)))
    (λ apart. (sym (row_apart rows n id None apart) ∙ h.0, or_from (n == id) (has_id ids id) (ne_eqb n id apart) h.1))
    (cases_eq n id)

clear_stays : (ids : List ℕ) (rows : Rows) (id : ℕ) → has_row rows id ≡ true → has_id ids id ≡ false
    → has_row (clear_rows ids rows) id ≡ true
clear_stays [] rows id has none = has
clear_stays (n ∷ ids) rows id has none =
    let h = or_parts (n == id) (has_id ids id) none in
    clear_stays ids (slice_set rows n None) id
    (row_apart rows n id None (λ same. false≢true (sym h.0 ∙ eq-eqb n id same)) ∙ has) h.1

front_stays : (rows others : Rows) (id : ℕ) → has_row rows id ≡ true → has_row (rows ++ others) id ≡ true
front_stays [] others id has = absurd (false≢true has)
front_stays (x ∷ rows) others zero has = has
front_stays (x ∷ rows) others (suc id) has = front_stays rows others id has

front_was : (rows others : Rows) (id : ℕ) → id < length rows → has_row (rows ++ others) id ≡ true → has_row rows id
    ≡ true
front_was [] others id less has = absurd (omega (arith, less))
front_was (x ∷ rows) others zero less has = has
front_was (x ∷ rows) others (suc id) less has = front_was rows others id (omega (arith, less)) has

-- a row that a part doesn't delete stays
pub after_stays : (part : TableNet) (rows : Rows) (id : ℕ) → has_row rows id ≡ true → has_id part.deletes id ≡ false
    → has_row (rows_after part rows) id ≡ true
after_stays part rows id has none =
    front_stays (clear_rows part.deletes (put_rows part.updates rows)) (map Some part.rows) id
    (clear_stays part.deletes (put_rows part.updates rows) id (put_stays part.updates rows id has) none)

-- a row behind a part was there or is updated, and isn't deleted
pub after_was : (part : TableNet) (rows : Rows) (id : ℕ) → id < length rows → has_row (rows_after part rows) id ≡ true
    → ((list_any (λ update. update.0 == id) part.updates ≡ true) ⊎ (has_row rows id ≡ true))
    × (has_id part.deletes id ≡ false)
after_was part rows id less has =
    let put = put_rows part.updates rows in
    let long : length (clear_rows part.deletes put) ≡ length rows = clear_long part.deletes put
    ∙ put_long part.updates rows in
    let h = clear_was part.deletes put id
    (front_was (clear_rows part.deletes put) (map Some part.rows) id (omega (arith, less, long)) has) in
    (put_was part.updates rows id h.0, h.1)

-- a place is empty, or its row passes the test
abbrev pub passes : (List Value → Bool) → Option (List Value) → Bool
passes test None = true
passes test (Some row) = test row

pub present_pass : (test : List Value → Bool) (rows : Rows) → list_all test (present rows) ≡ list_all (passes test) rows
present_pass test [] = refl
present_pass test (None ∷ rows) = present_pass test rows
present_pass test (Some row ∷ rows) = ap (λ rest. test row && rest) (present_pass test rows)

set_pass : {T : Type 0} → (test : T → Bool) (xs : List T) (n : ℕ) (new : T) → test new ≡ true → list_all test xs ≡ true
    → list_all test (slice_set xs n new) ≡ true
set_pass test [] n new one all = all
set_pass test (x ∷ xs) zero new one all = and_from _ _ one (and_parts _ _ all).1
set_pass test (x ∷ xs) (suc n) new one all =
    let h = and_parts _ _ all in and_from _ _ h.0 (set_pass test xs n new one h.1)

pub put_pass : (test : List Value → Bool) (updates : List (ℕ × List Value)) (rows : Rows)
    → list_all (λ update. test update.1) updates ≡ true
    → list_all (passes test) rows ≡ true → list_all (passes test) (put_rows updates rows) ≡ true
put_pass test [] rows some all = all
put_pass test (u ∷ updates) rows some all =
    let h = and_parts _ _ some in
    put_pass test updates (slice_set rows u.0 (Some u.1)) h.1 (set_pass (passes test) rows u.0 (Some u.1) h.0 all)

pub clear_pass : (test : List Value → Bool) (ids : List ℕ) (rows : Rows) → list_all (passes test) rows ≡ true
    → list_all (passes test) (clear_rows ids rows) ≡ true
clear_pass test [] rows all = all
clear_pass test (id ∷ ids) rows all =
    clear_pass test ids (slice_set rows id None) (set_pass (passes test) rows id None refl all)

pub new_pass : (test : List Value → Bool) (rows : List (List Value)) → list_all test rows ≡ true
    → list_all (passes test) (map Some rows) ≡ true
new_pass test rows all = list_all-map (passes test) Some rows ∙ all

-- all rows behind a part pass a test
pub after_pass : (test : List Value → Bool) (part : TableNet) (rows : Rows)
    → list_all (λ update. test update.1) part.updates ≡ true
    → list_all test part.rows ≡ true → list_all (passes test) rows ≡ true
    → list_all (passes test) (rows_after part rows) ≡ true
after_pass test part rows updates new all =
    list_all-append (passes test) (clear_rows part.deletes (put_rows part.updates rows)) (map Some part.rows)
    ∙ and_from _ _ (clear_pass test part.deletes (put_rows part.updates rows)
    (put_pass test part.updates rows updates all))
    (new_pass test part.rows new)
