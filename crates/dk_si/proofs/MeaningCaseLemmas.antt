-- What holds of each meaning of a statement where it holds of the few forms that a meaning has.
use Rattle.std.proofs.Common.{◌≡◌, ◌<◌, ℕ, Bool, true, false, List, [], ◌∷◌, length, map, min, take, Option, Some, None, ap, ◌∙◌, sym, refl, arith}
use Rattle.std.specs.List.{position_or_len}
use Rattle.std.specs.Prelude.{cond, not, ◌+◌, ◌==◌, bytes_eq, is_none, nat_lt, nat_le, if◌then◌else◌, slice_get, Result, Ok, Err}
use Rattle.std.proofs.lemmas.Bool.{false≢true, and_from, eq-eqb, leb-false, lt-ltb}
use Rattle.std.proofs.lemmas.List.{length-map, length-take, take_all}
use Rattle.dk_values.specs.Columns.{schema_fault}
use Rattle.dk_values.specs.declared.column.Column.{Column}
use Rattle.dk_values.specs.declared.column.SchemaError.{SchemaError}
use Rattle.dk_values.specs.declared.column.SchemaError.TheVariants as fault
use Rattle.dk_values.specs.declared.value.Value.{Value}
use Rattle.dk_types.specs.declared.bound.Bound.{Bound}
use Rattle.dk_types.specs.declared.bound.Bound.TheVariants as bound
use Rattle.dk_types.specs.declared.bound.BoundExpr.{BoundExpr}
use Rattle.dk_types.specs.declared.bound.BoundQuery.{BoundQuery}
use Rattle.dk_types.specs.declared.bound.BoundSet.{BoundSet}
use Rattle.dk_types.specs.declared.reply.Refusal.{Refusal}
use Rattle.dk_types.specs.declared.reply.Refusal.TheVariants as refusal
use Rattle.dk_syntax.specs.declared.expression.Expr.{Expr}
use Rattle.dk_syntax.specs.declared.query.Query.{Query}
use Rattle.dk_syntax.specs.declared.query.Spot.{Spot}
use Rattle.dk_syntax.specs.declared.statement.ColumnSpot.{ColumnSpot}
use Rattle.dk_syntax.specs.declared.statement.Set.{Set}
use Rattle.dk_syntax.specs.declared.statement.Statement.{Statement}
use Rattle.dk_syntax.specs.declared.statement.Tuple.{Tuple}
use Rattle.dk_syntax.specs.declared.statement.Statement.TheVariants as ask
use Rattle.dk_pages.specs.declared.tree.TableEntry.{TableEntry}
use Rattle.dk_bind.specs.declared.statements.TheConstants.{MAX_TABLES}
use Rattle.dk_bind.specs.Laws.{is_refusal_of_binding, RefusedByBinding}
use Rattle.dk_bind.specs.Lists.{bound_from}
use Rattle.dk_bind.specs.Outcomes.{Outcome, ◌>>=◌}
use Rattle.dk_bind.specs.Queries.{bound_filter, bound_query}
use Rattle.dk_bind.specs.Statements.{bound_copy, bound_create, bound_delete, bound_insert, bound_insert_query, bound_select, bound_set, bound_statement, bound_table, bound_tuple, bound_update, columns_at, columns_of, create_by, spot_place, table_place, width_of}
use Rattle.dk_bind.proofs.RefusalLemmas.{statements_are_refused_by_binding}
use Rattle.dk_copy.specs.declared.fault.FieldPlace.{FieldPlace}
use Rattle.dk_copy.specs.Copied.{copied_rows}
use Rattle.dk_query.specs.Selected.{selected}
use Rattle.dk_si.specs.declared.database.Table.{Table}
use Rattle.dk_si.specs.declared.kind.Kind.{Kind}
use Rattle.dk_si.specs.declared.kind.Kind.TheVariants as kind
use Rattle.dk_si.specs.declared.meaning.Meaning.{Meaning}
use Rattle.dk_si.specs.declared.meaning.Meaning.TheVariants.{Rows, Create, Refused, Nothing}
use Rattle.dk_si.specs.Database.{place_of}
use Rattle.dk_si.specs.Machine.{kind_of, has_own}
use Rattle.dk_si.specs.Meaning.{is_same_refusal, meaning, meaning_by, meaning_of, meant_by, in_table, entries_of, may_create, insert, update, delete, insert_rows, copied_by, copy_rows, update_rows, delete_rows}
use Rattle.dk_si.specs.Picked.{picked, new_row, gone_id}
use Rattle.dk_si.specs.Stored.{stored_rows}

-- what holds of statements' meanings, by their kinds: of each refusal that may be replied, the rows of a query, an insertion, an update, a
-- deletion, a new table, and of nothing
pub record HoldsOfForms (tables : List Table) (P : Kind → Meaning → Type 0) : Type 0 where
  pub refused : (of : Kind) (refusal : Refusal) → has_own of ≡ true → is_same_refusal refusal refusal ≡ true
      → P of (Refused refusal)
  pub nothing : (of : Kind) → has_own of ≡ false → P of Nothing
  pub rows : (rows : List (List Value)) → P kind.Select (Rows rows)
  pub inserts : (place : ℕ) (table : Table) (given rows : List (List Value)) → slice_get tables place ≡ Some table
      → stored_rows table.schema 0 given ≡ Ok rows → P kind.Change (insert place rows)
  pub updates : (place : ℕ) (table : Table) (sets : List BoundSet) (filter : Option BoundExpr)
      → (rows : List (ℕ × List Value)) → slice_get tables place ≡ Some table
      → picked (new_row table.schema sets filter) 0 table.rows ≡ Ok rows → P kind.Change (update place rows)
  pub deletes : (place : ℕ) (table : Table) (filter : Option BoundExpr) (ids : List ℕ)
      → slice_get tables place ≡ Some table → picked (gone_id filter) 0 table.rows ≡ Ok ids
      → P kind.Change (delete place ids)
  pub creates : (name : List ℕ) (columns : List Column) → may_create tables name columns ≡ true
      → P kind.Create (Create name columns)

-- a refusal of binding may be replied
same_of : (refusal : Refusal) → is_refusal_of_binding refusal ≡ true → is_same_refusal refusal refusal ≡ true
same_of (refusal.NoTable at) so = eq-eqb at at refl
same_of (refusal.NoColumn at) so = eq-eqb at at refl
same_of (refusal.TypeMismatch at) so = eq-eqb at at refl
same_of (refusal.SameColumn at) so = eq-eqb at at refl
same_of (refusal.NotGrouped at) so = eq-eqb at at refl
same_of (refusal.TableExists at) so = eq-eqb at at refl
same_of refusal.TooManyTables so = refl
same_of other so = absurd (false≢true so)

abbrev entry_of : Table → TableEntry
entry_of table = record { name = table.name; schema = table.schema; groups = [] }

first_mapped : (name : List ℕ) (tables : List Table)
    → position_or_len (λ (entry : TableEntry). bytes_eq entry.name name) (map entry_of tables)
    ≡ position_or_len (λ (table : Table). bytes_eq table.name name) tables
first_mapped name [] = refl
first_mapped name (table ∷ tables) =
    ap (λ n. cond (not (bytes_eq table.name name)) (1 + n) 0) (first_mapped name tables)

place_mapped : (name : List ℕ) (tables : List Table)
    → table_place (map entry_of tables) name ≡ place_of (λ (table : Table). table.name) name tables
place_mapped name tables =
    ap (λ n. cond (nat_lt n (length (map entry_of tables))) (Some n) None) (first_mapped name tables)
    ∙ ap (λ all. cond (nat_lt (position_or_len (λ (table : Table). bytes_eq table.name name) tables) all)
    (Some (position_or_len (λ (table : Table). bytes_eq table.name name) tables)) None) (length-map tables entry_of)

-- where binding finds no table of a name, and less than 64 in all, one may be made
free_place : (tables : List Table) (name : List ℕ) (columns : List Column) → table_place (entries_of tables) name ≡ None
    → schema_fault columns ≡ None → nat_le MAX_TABLES (length (entries_of tables)) ≡ false
    → may_create tables name columns ≡ true
free_place tables name columns new sound few =
    and_from _ _ (ap is_none (sym (place_mapped name tables) ∙ ap (λ list. table_place (map entry_of list) name) (sym all)
    ∙ new))
    (and_from _ _ (ap is_none sound) (lt-ltb (length tables) MAX_TABLES less))
  where
    long : length (entries_of tables) ≡ min MAX_TABLES (length tables)
    long = length-map (take MAX_TABLES tables) entry_of ∙ length-take MAX_TABLES tables

    below : length (entries_of tables) < MAX_TABLES
    below = leb-false MAX_TABLES (length (entries_of tables)) few

    less : length tables < MAX_TABLES
    less = omega (arith, long, below)

    all : take MAX_TABLES tables ≡ tables
    all = take_all MAX_TABLES tables (omega (arith, less))

module _ (tables : List Table) (P : Kind → Meaning → Type 0) (holds : HoldsOfForms tables P) where
  -- what is found means something of which it holds, or is refused
  by_found : {T : Type 0} (of : Kind) (means : T → Meaning) (found : Result T ℕ) → has_own of ≡ true
      → ((x : T) → found ≡ Ok x → P of (means x)) → P of (meant_by means found)
  by_found of means (Ok x) own each = each x refl
  by_found of means (Err row) own each = holds.refused of (refusal.OutOfRange row) own (eq-eqb row row refl)

  by_table : (of : Kind) (place : ℕ) (means : Table → Meaning) → has_own of ≡ true
      → ((table : Table) → slice_get tables place ≡ Some table → P of (means table))
      → P of (in_table tables place means)
  by_table of place means own each = at (slice_get tables place) refl
    where
      at : (found : Option Table) → slice_get tables place ≡ found
          → P of (elim found as (λ x. Meaning) [ None ↦ Refused refusal.Unsupported | Some table ↦ means table ])
      at None is = holds.refused of refusal.Unsupported own refl
      at (Some table) is = each table is

  -- it holds of what a bound statement means, whose refusals are those of binding
  abbrev HoldsBy : Kind → Outcome Bound → Type 0
  HoldsBy of outcome = RefusedByBinding outcome → P of (meaning_by tables outcome)

  by_refusal : (of : Kind) (refusal : Refusal) → has_own of ≡ true → HoldsBy of (Err refusal)
  by_refusal of refusal own so = holds.refused of refusal own (same_of refusal (so refusal refl))

  -- what is bound in steps
  by_step : {A : Type 0} (of : Kind) (first : Outcome A) (more : A → Outcome Bound) → has_own of ≡ true
      → ((x : A) → HoldsBy of (more x)) → HoldsBy of (first >>= more)
  by_step of (Ok x) more own each = each x
  by_step of (Err refusal) more own each = by_refusal of refusal own

  by_choice : (of : Kind) (yes : Bool) (ours others : Outcome Bound) → HoldsBy of ours → HoldsBy of others
      → HoldsBy of (if yes then ours else others)
  by_choice of true ours others holds_ours holds_others = holds_ours
  by_choice of false ours others holds_ours holds_others = holds_others

  insert_holds : (place : ℕ) (given : List (List Value)) → P kind.Change (in_table tables place (insert_rows place given))
  insert_holds place given = by_table kind.Change place (insert_rows place given) refl (λ table is.
      by_found kind.Change (insert place) (stored_rows table.schema 0 given) refl (λ rows stored.
      holds.inserts place table given rows is stored))

  data_holds : (place : ℕ) (table : Table) (found : Result (List (List Value)) FieldPlace)
      → slice_get tables place ≡ Some table
      → P kind.Change (copied_by (λ rows. insert_rows place rows table) found)
  data_holds place table (Ok given) is =
      by_found kind.Change (insert place) (stored_rows table.schema 0 given) refl (λ rows stored.
      holds.inserts place table given rows is stored)
  data_holds place table (Err field) is =
      holds.refused kind.Change (refusal.BadField field.row field.field) refl
      (and_from _ _ (eq-eqb field.row field.row refl) (eq-eqb field.field field.field refl))

  copy_holds : (place : ℕ) (bytes : List ℕ) → P kind.Change (in_table tables place (copy_rows place bytes))
  copy_holds place bytes = by_table kind.Change place (copy_rows place bytes) refl (λ table is.
      data_holds place table (copied_rows table.schema bytes) is)

  query_holds : (place : ℕ) (query : BoundQuery) → P kind.Change (meaning_of tables (bound.InsertSelect place query))
  query_holds place query = by_table kind.Change query.table _ refl (λ source is.
      by_found kind.Change (λ rows. in_table tables place (insert_rows place rows)) (selected query source.rows) refl
      (λ rows found. insert_holds place rows))

  select_holds : (query : BoundQuery) → P kind.Select (meaning_of tables (bound.Select query))
  select_holds query = by_table kind.Select query.table _ refl (λ table is.
      by_found kind.Select Rows (selected query table.rows) refl (λ rows found. holds.rows rows))

  update_holds : (place : ℕ) (sets : List BoundSet) (filter : Option BoundExpr)
      → P kind.Change (in_table tables place (update_rows place sets filter))
  update_holds place sets filter = by_table kind.Change place _ refl (λ table is.
      by_found kind.Change (update place) (picked (new_row table.schema sets filter) 0 table.rows) refl
      (λ rows found. holds.updates place table sets filter rows is found))

  delete_holds : (place : ℕ) (filter : Option BoundExpr)
      → P kind.Change (in_table tables place (delete_rows place filter))
  delete_holds place filter = by_table kind.Change place _ refl (λ table is.
      by_found kind.Change (delete place) (picked (gone_id filter) 0 table.rows) refl
      (λ ids found. holds.deletes place table filter ids is found))

  -- ---- a new table

  created : (name : List ℕ) (spots : List ColumnSpot) → table_place (entries_of tables) name ≡ None
      → schema_fault (columns_of spots) ≡ None → (full : Bool) → nat_le MAX_TABLES (length (entries_of tables)) ≡ full
      → P kind.Create (meaning_by tables (if full then Err refusal.TooManyTables else Ok (bound.Create name (columns_of spots))))
  created name spots new sound true few = holds.refused kind.Create refusal.TooManyTables refl refl
  created name spots new sound false few = holds.creates name (columns_of spots) (free_place tables name (columns_of spots) new sound few)

  by_fault : (spot : Spot) (spots : List ColumnSpot) (found : Option SchemaError)
      → table_place (entries_of tables) spot.name ≡ None → schema_fault (columns_of spots) ≡ found
      → P kind.Create (meaning_by tables (create_by (entries_of tables) spot spots found))
  by_fault spot spots None new sound = created spot.name spots new sound (nat_le MAX_TABLES (length (entries_of tables))) refl
  by_fault spot spots (Some (fault.SameName place)) new sound =
      holds.refused kind.Create (refusal.SameColumn (spot_place spots place spot.at)) refl (eq-eqb _ _ refl)
  by_fault spot spots (Some other) new sound = holds.refused kind.Create (refusal.TypeMismatch spot.at) refl (eq-eqb _ _ refl)

  create_holds : (spot : Spot) (spots : List ColumnSpot)
      → P kind.Create (meaning_by tables (bound_create (entries_of tables) spot spots))
  create_holds spot spots = at (table_place (entries_of tables) spot.name) refl
    where
      at : (found : Option ℕ) → table_place (entries_of tables) spot.name ≡ found
          → P kind.Create (meaning_by tables (elim found as (λ x. Outcome Bound) [
            | Some place ↦ Err (refusal.TableExists spot.at)
            | None ↦ create_by (entries_of tables) spot spots (schema_fault (columns_of spots))
          ]))
      at (Some place) is = holds.refused kind.Create (refusal.TableExists spot.at) refl (eq-eqb _ _ refl)
      at None is = by_fault spot spots (schema_fault (columns_of spots)) is refl

  -- ---- statements

  insert_query : (spot : Spot) (at : ℕ) (query : Query)
      → HoldsBy kind.Change (bound_insert_query (entries_of tables) spot at query)
  unfolding bound_insert_query
  insert_query spot at query =
      let entries = entries_of tables in
      by_step kind.Change (bound_table entries spot) _ refl (λ target.
      by_step kind.Change (bound_table entries query.table) _ refl (λ source.
      by_choice kind.Change (width_of query.items (columns_at entries source) == length (columns_at entries target))
      (bound_query source (columns_at entries source) (Some (columns_at entries target)) query
      >>= λ query. Ok (bound.InsertSelect target query))
      (Err (refusal.TypeMismatch at))
      (by_step kind.Change (bound_query source (columns_at entries source) (Some (columns_at entries target)) query)
      (λ query. Ok (bound.InsertSelect target query)) refl (λ query so. query_holds target query))
      (by_refusal kind.Change (refusal.TypeMismatch at) refl)))

  update_of : (spot : Spot) (sets : List Set) (filter : Option Expr)
      → HoldsBy kind.Change (bound_update (entries_of tables) spot sets filter)
  unfolding bound_update
  update_of spot sets filter =
      let entries = entries_of tables in
      by_step kind.Change (bound_table entries spot) _ refl (λ place.
      by_step kind.Change (bound_from (bound_set (columns_at entries place) sets) 0 sets) _ refl (λ bound_sets.
      by_step kind.Change (bound_filter (columns_at entries place) filter)
      (λ bound_condition. Ok (bound.Update place bound_sets bound_condition)) refl
      (λ bound_condition so. update_holds place bound_sets bound_condition)))

  insert_of : (spot : Spot) (tuples : List Tuple) → HoldsBy kind.Change (bound_insert (entries_of tables) spot tuples)
  insert_of spot tuples =
      let entries = entries_of tables in
      by_step kind.Change (bound_table entries spot)
      (λ place. bound_from (bound_tuple (columns_at entries place)) 0 tuples >>= λ rows. Ok (bound.Insert place rows))
      refl (λ place.
      by_step kind.Change (bound_from (bound_tuple (columns_at entries place)) 0 tuples)
      (λ rows. Ok (bound.Insert place rows)) refl (λ rows so. insert_holds place rows))

  copy_of : (spot : Spot) (bytes : List ℕ) → HoldsBy kind.Change (bound_copy (entries_of tables) spot bytes)
  copy_of spot bytes =
      by_step kind.Change (bound_table (entries_of tables) spot) (λ place. Ok (bound.Copy place bytes)) refl
      (λ place so. copy_holds place bytes)

  select_of : (query : Query) → HoldsBy kind.Select (bound_select (entries_of tables) query)
  select_of query =
      let entries = entries_of tables in
      by_step kind.Select (bound_table entries query.table)
      (λ place. bound_query place (columns_at entries place) None query >>= λ query. Ok (bound.Select query)) refl
      (λ place. by_step kind.Select (bound_query place (columns_at entries place) None query)
      (λ query. Ok (bound.Select query)) refl (λ query so. select_holds query))

  delete_of : (spot : Spot) (filter : Option Expr) → HoldsBy kind.Change (bound_delete (entries_of tables) spot filter)
  delete_of spot filter =
      let entries = entries_of tables in
      by_step kind.Change (bound_table entries spot)
      (λ place. bound_filter (columns_at entries place) filter >>= λ condition. Ok (bound.Delete place condition)) refl
      (λ place. by_step kind.Change (bound_filter (columns_at entries place) filter)
      (λ condition. Ok (bound.Delete place condition)) refl (λ condition so. delete_holds place condition))

  holds_by : (statement : Statement) → HoldsBy (kind_of statement) (bound_statement (entries_of tables) statement)
  holds_by (ask.Create spot columns) = λ so. create_holds spot columns
  holds_by (ask.Insert spot tuples) = insert_of spot tuples
  holds_by (ask.InsertSelect spot at query) = insert_query spot at query
  holds_by (ask.Copy spot bytes) = copy_of spot bytes
  holds_by (ask.Select query) = select_of query
  holds_by (ask.Update spot sets filter) = update_of spot sets filter
  holds_by (ask.Delete spot filter) = delete_of spot filter
  holds_by ask.Begin = λ so. holds.nothing kind.Begin refl
  holds_by ask.Commit = λ so. holds.nothing kind.Commit refl
  holds_by ask.Rollback = λ so. holds.nothing kind.Rollback refl
  holds_by ask.Checkpoint = λ so. holds.nothing kind.Checkpoint refl

  pub meaning_holds : (statement : Statement) → P (kind_of statement) (meaning tables statement)
  meaning_holds statement = holds_by statement (statements_are_refused_by_binding (entries_of tables) statement)
