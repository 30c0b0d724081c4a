-- A statement updates and deletes rows that are there.
use Rattle.std.proofs.Common.{◌≡◌, ⊎_elim, ℕ, suc, ◌+◌, Bool, true, false, List, [], ◌∷◌, map, Option, Some, None, ap, ◌∙◌, sym, refl, subst, arith, slice_get, append-nil}
use Rattle.std.specs.Prelude.{◌==◌, option_map, Result, Ok, Err}
use Rattle.std.proofs.lemmas.Bool.{false≢true, or_cases, eqb-true}
use Rattle.dk_values.specs.declared.column.Column.{Column}
use Rattle.dk_values.specs.declared.value.Value.{Value}
use Rattle.dk_types.specs.declared.bound.BoundExpr.{BoundExpr}
use Rattle.dk_types.specs.declared.bound.BoundSet.{BoundSet}
use Rattle.dk_query.specs.Kept.{passes}
use Rattle.dk_si.specs.declared.database.Table.{Table}
use Rattle.dk_si.specs.declared.kind.Kind.{Kind}
use Rattle.dk_si.specs.declared.meaning.Meaning.{Meaning}
use Rattle.dk_si.specs.declared.meaning.Meaning.TheVariants.{Rows, Change, Create, Refused, Nothing}
use Rattle.dk_si.specs.Machine.{changed_ids, kind_of}
use Rattle.dk_si.specs.Nets.{has_id}
use Rattle.dk_si.specs.Picked.{picked, with_pick, if_kept, new_row, with_sets, gone_id}
use Rattle.dk_si.specs.RowLaws.{has_row, table_has_row, ChangedRowsAreThere}
use Rattle.dk_si.proofs.MeaningCaseLemmas.{HoldsOfForms, meaning_holds}

-- a row that is there at a place, counted on from n
record Found (n : ℕ) (rows : List (Option (List Value))) (id : ℕ) : Type 0 where
  place : ℕ
  is : n + place ≡ id
  there : has_row rows place ≡ true

behind_first : (n id : ℕ) (first : Option (List Value)) (rows : List (Option (List Value))) → Found (n + 1) rows id
    → Found n (first ∷ rows) id
behind_first n id first rows rest =
    record { place = suc rest.place; is = (let is = rest.is in omega arith); there = rest.there }

-- what comes of a row has its id
abbrev NamesRows : {T : Type 0} → (ℕ → List Value → Option (Option T)) → (T → ℕ) → Type 0
NamesRows {T} of id_of = (n : ℕ) (row : List Value) (x : T) → of n row ≡ Some (Some x) → id_of x ≡ n

module _ {T : Type 0} (of : ℕ → List Value → Option (Option T)) (id_of : T → ℕ) (names : NamesRows of id_of) (id : ℕ) where
  picked_there : (n : ℕ) (rows : List (Option (List Value))) (picks : List T) → picked of n rows ≡ Ok picks
      → has_id (map id_of picks) id ≡ true → Found n rows id
  picked_there n [] picks is has =
      let none : picks ≡ [] = cc in absurd (false≢true (ap (λ picks. has_id (map id_of picks) id) (sym none) ∙ has))
  picked_there n (None ∷ rows) picks is has = behind_first n id None rows (picked_there (n + 1) rows picks is has)
  picked_there n (Some row ∷ rows) picks is has =
      at (of n row) (picked of (n + 1) rows) refl refl is (λ picks. picked_there (n + 1) rows picks)
    where
      at : (made : Option (Option T)) (others : Result (List T) ℕ) → of n row ≡ made → picked of (n + 1) rows ≡ others
          → with_pick made n others ≡ Ok picks
          → ((picks : List T) → picked of (n + 1) rows ≡ Ok picks → has_id (map id_of picks) id ≡ true
          → Found (n + 1) rows id)
          → Found n (Some row ∷ rows) id
      at None others m rest is more = cc
      at (Some None) others m rest is more = behind_first n id (Some row) rows (more picks (rest ∙ is) has)
      at (Some (Some x)) (Err other) m rest is more = cc
      at (Some (Some x)) (Ok others) m rest is more =
          let whole : x ∷ others ≡ picks = cc in
          let named = names n row x m in
          ⊎_elim
          (λ here. record {
            place = 0;
            is = (let same = eqb-true (id_of x) id here in omega (arith, named, same));
            there = refl;
          })
          (λ there. behind_first n id (Some row) rows (more others rest there))
          (or_cases (id_of x == id) (has_id (map id_of others) id)
          (ap (λ picks. has_id (map id_of picks) id) whole ∙ has))

  picked_has : (rows : List (Option (List Value))) (picks : List T) → picked of 0 rows ≡ Ok picks
      → has_id (map id_of picks) id ≡ true → has_row rows id ≡ true
  picked_has rows picks is has =
      let at = picked_there 0 rows picks is has in
      let is = at.is in
      let place : at.place ≡ id = omega arith in
      subst (λ n. has_row rows n ≡ true) place at.there

new_rows_are_named : (columns : List Column) (sets : List BoundSet) (filter : Option BoundExpr)
    → NamesRows (new_row columns sets filter) (λ update. update.0)
new_rows_are_named columns sets filter n row x is = at (passes filter row) (with_sets columns row sets row) is
  where
    at : (keeps : Option Bool) (made : Option (List Value))
        → if_kept keeps (option_map (λ new. (n, new)) made) ≡ Some (Some x) → x.0 ≡ n
    at None made is = cc
    at (Some false) made is = cc
    at (Some true) None is = cc
    at (Some true) (Some new) is = let same : (n, new) ≡ x = cc in ap (λ (x : ℕ × List Value). x.0) (sym same)

gone_ids_are_named : (filter : Option BoundExpr) → NamesRows (gone_id filter) (λ id. id)
gone_ids_are_named filter n row x is = at (passes filter row) is
  where
    at : (keeps : Option Bool) → if_kept keeps (Some n) ≡ Some (Some x) → x ≡ n
    at None is = cc
    at (Some false) is = cc
    at (Some true) is = let same : n ≡ x = cc in sym same

in_table_at : (tables : List Table) (place : ℕ) (table : Table) (id : ℕ) → slice_get tables place ≡ Some table
    → has_row table.rows id ≡ true → table_has_row tables place id ≡ true
in_table_at tables place table id is has =
    ap (λ at. elim at as (λ x. Bool) [ None ↦ false | Some table ↦ has_row table.rows id ]) is ∙ has

-- the rows that a change names are there
abbrev AreThere : List Table → Kind → Meaning → Type 0
AreThere tables of (Change count part) = (id : ℕ) → has_id (changed_ids part) id ≡ true → table_has_row tables part.table id ≡ true
AreThere tables of (Rows rows) = Unit {0}
AreThere tables of (Create name schema) = Unit {0}
AreThere tables of (Refused refusal) = Unit {0}
AreThere tables of Nothing = Unit {0}

map_id : (ids : List ℕ) → map (λ (id : ℕ). id) ids ≡ ids
map_id [] = refl
map_id (id ∷ ids) = ap (λ ids. id ∷ ids) (map_id ids)

forms_there : (tables : List Table) → HoldsOfForms tables (AreThere tables)
forms_there tables = record {
  refused = λ of refusal own same. tt;
  nothing = λ of own. tt;
  rows = λ rows. tt;
  inserts = λ place table given rows is stored id has. absurd (false≢true has);
  updates = λ place table sets filter rows is found id has. in_table_at tables place table id is
      (picked_has (new_row table.schema sets filter) (λ update. update.0)
      (new_rows_are_named table.schema sets filter) id table.rows rows found
      (ap (λ ids. has_id ids id) (sym (append-nil (map (λ (update : ℕ × List Value). update.0) rows))) ∙ has));
  deletes = λ place table filter ids is found id has. in_table_at tables place table id is
      (picked_has (gone_id filter) (λ id. id) (gone_ids_are_named filter) id table.rows ids found
      (ap (λ ids. has_id ids id) (map_id ids) ∙ has));
  creates = λ name columns may. tt;
}

pub changed_rows_are_there : ChangedRowsAreThere
changed_rows_are_there tables statement count part is =
    subst (AreThere tables (kind_of statement)) is
    (meaning_holds tables (AreThere tables) (forms_there tables) statement)
