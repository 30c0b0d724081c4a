-- A statement changes a table by rows that fit it, and makes a table that may be made.
use Rattle.std.proofs.Common.{◌≡◌, ℕ, zero, suc, ◌+◌, ◌^◌, ℤ, Bool, true, false, List, [], ◌∷◌, length, Option}
use Rattle.std.proofs.Common.{Some, None, ap, ◌∙◌, sym, refl, subst, slice_get, slice_set}
use Rattle.std.specs.Prelude.{◌-◌, option_map, pos, negsuc, int_le, nat_lt, ◌&&◌, if◌then◌else◌, Result, Ok, Err}
use Rattle.std.specs.List.{list_all}
use Rattle.std.specs.Str.{is_utf8}
use Rattle.std.proofs.lemmas.Bool.{false≢true, and_from, and_parts}
use Rattle.dk_values.specs.declared.column.Column.{Column}
use Rattle.dk_values.specs.declared.value.ColType.{ColType}
use Rattle.dk_values.specs.declared.value.ColType.TheVariants as type
use Rattle.dk_values.specs.declared.value.Value.{Value}
use Rattle.dk_values.specs.declared.value.Value.TheVariants as value
use Rattle.dk_types.specs.declared.bound.BoundExpr.{BoundExpr}
use Rattle.dk_types.specs.declared.bound.BoundSet.{BoundSet}
use Rattle.dk_types.specs.declared.net.TableNet.{TableNet}
use Rattle.dk_syntax.specs.declared.statement.Statement.{Statement}
use Rattle.dk_eval.specs.Values.{value_of}
use Rattle.dk_query.specs.Kept.{both, passes}
use Rattle.dk_si.specs.declared.database.Table.{Table}
use Rattle.dk_si.specs.declared.kind.Kind.{Kind}
use Rattle.dk_si.specs.declared.meaning.Meaning.{Meaning}
use Rattle.dk_si.specs.declared.meaning.Meaning.TheVariants.{Rows, Change, Create, Refused, Nothing}
use Rattle.dk_laws.specs.FittingNets.{holds_value, fits_row, fits_table, all_fit}
use Rattle.dk_si.specs.Machine.{changed_ids, kind_of}
use Rattle.dk_si.specs.Meaning.{meaning, may_create}
use Rattle.dk_si.specs.Nets.{has_id}
use Rattle.dk_si.specs.Picked.{picked, with_pick, if_kept, new_row, with_sets, set_value, stored_at}
use Rattle.dk_si.specs.RowLaws.{has_row}
use Rattle.dk_si.specs.Stored.{stored, stored_number, stored_truth, stored_text, stored_row, stored_rows, with_row}
use Rattle.dk_laws.proofs.FittingNetLemmas.{ChangesTable}
use Rattle.dk_si.proofs.MeaningCaseLemmas.{HoldsOfForms, meaning_holds}
use Rattle.dk_si.proofs.PresentLemmas.{changed_rows_are_there}
use Rattle.dk_laws.proofs.RowListLemmas.{passes as row_passes, present_pass}

-- what all items pass, the one at a place passes
pub pass_at : {T : Type 0} → (test : T → Bool) (xs : List T) (n : ℕ) (x : T) → list_all test xs ≡ true
    → slice_get xs n ≡ Some x
    → test x ≡ true
pass_at test [] n x all at = cc
pass_at test (y ∷ xs) zero x all at = let same : y ≡ x = cc in subst (λ z. test z ≡ true) same (and_parts _ _ all).0
pass_at test (y ∷ xs) (suc n) x all at = pass_at test xs n x (and_parts _ _ all).1 at

-- ---- stored values

integer_holds : (small : Bool) (z : ℤ) (v : Value) → (if small then Some (value.Int z) else None) ≡ Some v
    → holds_value type.Int v ≡ true
integer_holds true z v is = let same : value.Int z ≡ v = cc in subst (λ v. holds_value type.Int v ≡ true) same refl
integer_holds false z v is = cc

big_holds : (small : Bool) (z : ℤ) (v : Value) → (if small then Some (value.Big z) else None) ≡ Some v
    → holds_value type.Big v ≡ true
big_holds true z v is = let same : value.Big z ≡ v = cc in subst (λ v. holds_value type.Big v ≡ true) same refl
big_holds false z v is = cc

number_holds : (kind : ColType) (z : ℤ) (v : Value) → stored_number kind z ≡ Some v → holds_value kind v ≡ true
number_holds type.Int z v is = integer_holds (int_le (negsuc (2 ^ 31 - 1)) z && int_le z (pos (2 ^ 31 - 1))) z v is
number_holds type.Big z v is = big_holds (int_le (negsuc (2 ^ 63 - 1)) z && int_le z (pos (2 ^ 63 - 1))) z v is
number_holds type.Bool z v is = cc
number_holds type.Text z v is = cc

truth_holds : (kind : ColType) (truth : Bool) (v : Value) → stored_truth kind (value.Bool truth) ≡ Some v
    → holds_value kind v ≡ true
truth_holds type.Bool truth v is =
    let same : value.Bool truth ≡ v = cc in subst (λ v. holds_value type.Bool v ≡ true) same refl
truth_holds type.Int truth v is = cc
truth_holds type.Big truth v is = cc
truth_holds type.Text truth v is = cc

short_holds : (bytes : List ℕ) (short : Bool) (v : Value) → (is_utf8 bytes && nat_lt (length bytes) (2 ^ 16)) ≡ short
    → (if short then Some (value.Text bytes) else None) ≡ Some v → holds_value type.Text v ≡ true
short_holds bytes true v fits is =
    let same : value.Text bytes ≡ v = cc in subst (λ v. holds_value type.Text v ≡ true) same fits
short_holds bytes false v fits is = cc

text_holds : (kind : ColType) (bytes : List ℕ) (v : Value) → stored_text kind bytes ≡ Some v → holds_value kind v ≡ true
text_holds type.Text bytes v is = short_holds bytes (is_utf8 bytes && nat_lt (length bytes) (2 ^ 16)) v refl is
text_holds type.Bool bytes v is = cc
text_holds type.Int bytes v is = cc
text_holds type.Big bytes v is = cc

null_holds : (kind : ColType) (v : Value) → Some value.Null ≡ Some v → holds_value kind v ≡ true
null_holds kind v is = let same : value.Null ≡ v = cc in subst (λ v. holds_value kind v ≡ true) same refl

-- a column holds what it stores
stored_holds : (kind : ColType) (given v : Value) → stored kind given ≡ Some v → holds_value kind v ≡ true
stored_holds kind value.Null v is = null_holds kind v is
stored_holds kind (value.Bool truth) v is = truth_holds kind truth v is
stored_holds kind (value.Int n) v is = number_holds kind n v is
stored_holds kind (value.Big n) v is = number_holds kind n v is
stored_holds kind (value.Huge n) v is = number_holds kind n v is
stored_holds kind (value.Text bytes) v is = text_holds kind bytes v is

-- ---- stored rows

row_fits : (columns : List Column) (given row : List Value) → stored_row columns given ≡ Some row
    → fits_row columns row ≡ true
row_fits [] [] row is = let none : [] ≡ row = cc in subst (λ row. fits_row [] row ≡ true) none refl
row_fits [] (v ∷ given) row is = cc
row_fits (column ∷ columns) [] row is = cc
row_fits (column ∷ columns) (v ∷ given) row is =
    at (stored column.kind v) (stored_row columns given) refl refl is (row_fits columns given)
  where
    at : (first : Option Value) (others : Option (List Value)) → stored column.kind v ≡ first
        → stored_row columns given ≡ others → both first others ≡ Some row
        → ((row : List Value) → stored_row columns given ≡ Some row → fits_row columns row ≡ true)
        → fits_row (column ∷ columns) row ≡ true
    at None others f o is more = cc
    at (Some x) None f o is more = cc
    at (Some x) (Some xs) f o is more =
        let whole : x ∷ xs ≡ row = cc in
        subst (λ row. fits_row (column ∷ columns) row ≡ true) whole
        (and_from _ _ (stored_holds column.kind v x f) (more xs o))

rows_fit : (columns : List Column) (n : ℕ) (given rows : List (List Value)) → stored_rows columns n given ≡ Ok rows
    → list_all (fits_row columns) rows ≡ true
rows_fit columns n [] rows is = let none : [] ≡ rows = cc in subst (λ rows. list_all (fits_row columns) rows ≡ true) none refl
rows_fit columns n (row ∷ given) rows is =
    at (stored_row columns row) (stored_rows columns (n + 1) given) refl refl is (rows_fit columns (n + 1) given)
  where
    at : (first : Option (List Value)) (others : Result (List (List Value)) ℕ) → stored_row columns row ≡ first
        → stored_rows columns (n + 1) given ≡ others → with_row first n others ≡ Ok rows
        → ((rows : List (List Value)) → stored_rows columns (n + 1) given ≡ Ok rows
        → list_all (fits_row columns) rows ≡ true)
        → list_all (fits_row columns) rows ≡ true
    at None others f o is more = cc
    at (Some x) (Err m) f o is more = cc
    at (Some x) (Ok xs) f o is more =
        let whole : x ∷ xs ≡ rows = cc in
        subst (λ rows. list_all (fits_row columns) rows ≡ true) whole
        (and_from _ _ (row_fits columns row x f) (more xs o))

-- ---- updated rows

-- a row with a fitting value in a place fits
set_fits : (columns : List Column) (row : List Value) (place : ℕ) (column : Column) (v : Value)
    → slice_get columns place ≡ Some column → holds_value column.kind v ≡ true
    → fits_row columns row ≡ true → fits_row columns (slice_set row place v) ≡ true
set_fits columns [] place column v at holds all = all
set_fits [] (old ∷ row) place column v at holds all = absurd (false≢true all)
set_fits (first ∷ columns) (old ∷ row) zero column v at holds all =
    let same : first ≡ column = cc in
    and_from _ _ (subst (λ (column : Column). holds_value column.kind v ≡ true) (sym same) holds) (and_parts _ _ all).1
set_fits (first ∷ columns) (old ∷ row) (suc place) column v at holds all =
    let h = and_parts _ _ all in and_from _ _ h.0 (set_fits columns row place column v at holds h.1)

stored_fits : (columns : List Column) (row : List Value) (place : ℕ) (given v : Value)
    → stored_at columns place given ≡ Some v → fits_row columns row ≡ true
    → fits_row columns (slice_set row place v) ≡ true
stored_fits columns row place given v is all = at (slice_get columns place) refl is
  where
    at : (found : Option Column) → slice_get columns place ≡ found
        → (elim found as (λ x. Option Value) [ None ↦ None | Some column ↦ stored column.kind given ]) ≡ Some v
        → fits_row columns (slice_set row place v) ≡ true
    at None found is = cc
    at (Some column) found is = set_fits columns row place column v found (stored_holds column.kind given v is) all

value_fits : (columns : List Column) (old row : List Value) (set : BoundSet) (v : Value)
    → set_value columns old set ≡ Some v → fits_row columns row ≡ true
    → fits_row columns (slice_set row set.column v) ≡ true
value_fits columns old row set v is all = at (value_of old set.value) is
  where
    at : (found : Option Value)
        → (elim found as (λ x. Option Value) [ None ↦ None | Some given ↦ stored_at columns set.column given ]) ≡ Some v
        → fits_row columns (slice_set row set.column v) ≡ true
    at None is = cc
    at (Some given) is = stored_fits columns row set.column given v is all

sets_fit : (columns : List Column) (old : List Value) (sets : List BoundSet) (row new : List Value)
    → with_sets columns old sets row ≡ Some new → fits_row columns row ≡ true → fits_row columns new ≡ true
sets_fit columns old [] row new is all =
    let same : row ≡ new = cc in subst (λ row. fits_row columns row ≡ true) same all
sets_fit columns old (set ∷ sets) row new is all =
    at (set_value columns old set) refl is (λ row. sets_fit columns old sets row new)
  where
    at : (found : Option Value) → set_value columns old set ≡ found
        → (elim found as (λ x. Option (List Value)) [
          | None ↦ None
          | Some v ↦ with_sets columns old sets (slice_set row set.column v)
        ]) ≡ Some new
        → ((row : List Value) → with_sets columns old sets row ≡ Some new → fits_row columns row ≡ true
        → fits_row columns new ≡ true)
        → fits_row columns new ≡ true
    at None found is more = cc
    at (Some v) found is more =
        more (slice_set row set.column v) is (value_fits columns old row set v found all)

kept_fits : (columns : List Column) (keeps : Option Bool) (id : ℕ) (made : Option (List Value)) (new : ℕ × List Value)
    → ((new : List Value) → made ≡ Some new → fits_row columns new ≡ true)
    → if_kept keeps (option_map (λ new. (id, new)) made) ≡ Some (Some new) → fits_row columns new.1 ≡ true
kept_fits columns None id made new each is = cc
kept_fits columns (Some false) id made new each is = cc
kept_fits columns (Some true) id None new each is = cc
kept_fits columns (Some true) id (Some x) new each is =
    let same : (id, x) ≡ new = cc in subst (λ (new : ℕ × List Value). fits_row columns new.1 ≡ true) same (each x refl)

updates_fit : (columns : List Column) (sets : List BoundSet) (filter : Option BoundExpr) (n : ℕ)
    → (rows : List (Option (List Value))) (updates : List (ℕ × List Value))
    → picked (new_row columns sets filter) n rows ≡ Ok updates
    → list_all (row_passes (fits_row columns)) rows ≡ true
    → list_all (λ update. fits_row columns update.1) updates ≡ true
updates_fit columns sets filter n [] updates is all =
    let none : [] ≡ updates = cc in
    subst (λ updates. list_all (λ update. fits_row columns update.1) updates ≡ true) none refl
updates_fit columns sets filter n (None ∷ rows) updates is all =
    updates_fit columns sets filter (n + 1) rows updates is all
updates_fit columns sets filter n (Some row ∷ rows) updates is all =
    at (new_row columns sets filter n row) (picked (new_row columns sets filter) (n + 1) rows) refl refl is
    (λ updates made. updates_fit columns sets filter (n + 1) rows updates made (and_parts _ _ all).1)
  where
    at : (made : Option (Option (ℕ × List Value))) (others : Result (List (ℕ × List Value)) ℕ)
        → new_row columns sets filter n row ≡ made → picked (new_row columns sets filter) (n + 1) rows ≡ others
        → with_pick made n others ≡ Ok updates
        → ((updates : List (ℕ × List Value)) → picked (new_row columns sets filter) (n + 1) rows ≡ Ok updates
        → list_all (λ update. fits_row columns update.1) updates ≡ true)
        → list_all (λ update. fits_row columns update.1) updates ≡ true
    at None others m o is more = cc
    at (Some None) others m o is more = more updates (o ∙ is)
    at (Some (Some new)) (Err other) m o is more = cc
    at (Some (Some new)) (Ok xs) m o is more =
        let whole : new ∷ xs ≡ updates = cc in
        let h = and_parts _ _ all in
        subst (λ updates. list_all (λ update. fits_row columns update.1) updates ≡ true) whole
        (and_from _ _ (kept_fits columns (passes filter row) n (with_sets columns row sets row) new
        (λ new made. sets_fit columns row sets row new made h.0) m)
        (more xs o))

-- ---- meanings

-- the table of a change, and its rows fit the table
record FitsAt (tables : List Table) (part : TableNet) : Type 0 where
  table : Table
  is : slice_get tables part.table ≡ Some table
  updates : list_all (λ update. fits_row table.schema update.1) part.updates ≡ true
  rows : list_all (fits_row table.schema) part.rows ≡ true

-- a change fits its table, and a new table may be made
abbrev Fits : List Table → Kind → Meaning → Type 0
Fits tables of (Change count part) = FitsAt tables part
Fits tables of (Rows rows) = Unit {0}
Fits tables of (Create name schema) = may_create tables name schema ≡ true
Fits tables of (Refused refusal) = Unit {0}
Fits tables of Nothing = Unit {0}

forms_fit : (tables : List Table) → all_fit tables ≡ true → HoldsOfForms tables (Fits tables)
forms_fit tables all = record {
  refused = λ of refusal own same. tt;
  nothing = λ of own. tt;
  rows = λ rows. tt;
  inserts = λ place table given rows is stored. record {
    table = table;
    is = is;
    updates = refl;
    rows = rows_fit table.schema 0 given rows stored;
  };
  updates = λ place table sets filter rows is found. record {
    table = table;
    is = is;
    updates = updates_fit table.schema sets filter 0 table.rows rows found
        (sym (present_pass (fits_row table.schema) table.rows) ∙ pass_at fits_table tables place table all is);
    rows = refl;
  };
  deletes = λ place table filter ids is found. record { table = table; is = is; updates = refl; rows = refl };
  creates = λ name columns may. may;
}

meaning_fits : (tables : List Table) (statement : Statement) → all_fit tables ≡ true
    → Fits tables (kind_of statement) (meaning tables statement)
meaning_fits tables statement all = meaning_holds tables (Fits tables) (forms_fit tables all) statement

-- the table that a statement changes, as the statement sees it
pub record Changed (tables : List Table) (part : TableNet) : Type 0 where
  pub table : Table
  pub is : slice_get tables part.table ≡ Some table
  pub changes : ChangesTable table part

pub change_fits : (tables : List Table) (statement : Statement) (count : ℕ) (part : TableNet) → all_fit tables ≡ true
    → meaning tables statement ≡ Change count part → Changed tables part
change_fits tables statement count part all is =
    let fit = subst (Fits tables (kind_of statement)) is (meaning_fits tables statement all) in
    let at : (id : ℕ) → has_id (changed_ids part) id ≡ true → has_row fit.table.rows id ≡ true =
    λ id has. sym (ap (λ found. elim found as (λ x. Bool) [ None ↦ false | Some table ↦ has_row table.rows id ]) fit.is)
    ∙ changed_rows_are_there tables statement count part is id has in
    record {
      table = fit.table;
      is = fit.is;
      changes = record { there = at; updates_fit = fit.updates; rows_fit = fit.rows };
    }

-- a table that a statement makes may be made, whatever rows there are
pub creation_fits : (tables : List Table) (statement : Statement) (name : List ℕ) (schema : List Column)
    → all_fit tables ≡ true
    → meaning tables statement ≡ Create name schema → may_create tables name schema ≡ true
creation_fits tables statement name schema all is =
    subst (Fits tables (kind_of statement)) is (meaning_fits tables statement all)
