-- Statements bound to the tables of a view: the table first, and then all parts in the order of the text.
use Rattle.std.specs.Prelude.{ℕ, Bool, ◌&&◌, not, List, [], length, bytes_eq, nat_le, take, map, position, slice_get, Option, Some, None, Ok, Err, ◌==◌, if◌then◌else◌}
use Rattle.std.specs.List.{list_any}
use Rattle.dk_values.specs.declared.value.Value.{Value}
use Rattle.dk_values.specs.declared.column.Column.{Column}
use Rattle.dk_values.specs.declared.column.SchemaError.{SchemaError}
use Rattle.dk_values.specs.declared.column.SchemaError.TheVariants.{SameName}
use Rattle.dk_values.specs.Columns.{schema_fault}
use Rattle.dk_syntax.specs.Literals.{literal_of}
use Rattle.dk_syntax.specs.declared.expression.Expr.{Expr}
use Rattle.dk_syntax.specs.declared.query.Spot.{Spot}
use Rattle.dk_syntax.specs.declared.query.Item.{Item}
use Rattle.dk_syntax.specs.declared.query.Items.{Items}
use Rattle.dk_syntax.specs.declared.query.Items.TheVariants.{All, Listed}
use Rattle.dk_syntax.specs.declared.query.Query.{Query}
use Rattle.dk_syntax.specs.declared.statement.ColumnSpot.{ColumnSpot}
use Rattle.dk_syntax.specs.declared.statement.Set.{Set}
use Rattle.dk_syntax.specs.declared.statement.Tuple.{Tuple}
use Rattle.dk_syntax.specs.declared.statement.Statement.{Statement}
use Rattle.dk_syntax.specs.declared.statement.Statement.TheVariants as statement
use Rattle.dk_types.specs.declared.bound.Bound.{Bound}
use Rattle.dk_types.specs.declared.bound.Bound.TheVariants as bound
use Rattle.dk_types.specs.declared.bound.BoundSet.{BoundSet}
use Rattle.dk_types.specs.declared.reply.Refusal.{Refusal}
use Rattle.dk_types.specs.declared.reply.Refusal.TheVariants.{NoTable, TableExists, TooManyTables, SameColumn, TypeMismatch}
use Rattle.dk_pages.specs.declared.tree.TableEntry.{TableEntry}
use Rattle.dk_bind.specs.declared.statements.TheConstants.{MAX_TABLES}
use Rattle.dk_bind.specs.Outcomes.{Outcome, ◌>>=◌}
use Rattle.dk_bind.specs.Lists.{bound_from}
use Rattle.dk_bind.specs.Expressions.{fits, kind_at, kind_of_value, is_too_long, bound_column, bound_expr}
use Rattle.dk_bind.specs.Queries.{Around, bound_filter, bound_query}

-- ---- tables

-- the place of the table of that name, which is its number
abbrev pub table_place : List TableEntry → List ℕ → Option ℕ
table_place tables name = position (λ table. bytes_eq table.name name) tables

abbrev pub bound_table_at : Option ℕ → Spot → Outcome ℕ
bound_table_at None spot = Err (NoTable spot.at)
bound_table_at (Some place) spot = Ok place

abbrev pub bound_table : List TableEntry → Spot → Outcome ℕ
bound_table tables spot = bound_table_at (table_place tables spot.name) spot

-- the columns of the table of that number
abbrev pub columns_at : List TableEntry → ℕ → List Column
columns_at tables place = elim (slice_get tables place) [ None ↦ [] | Some table ↦ table.schema ]

-- ---- a new table

abbrev pub columns_of : List ColumnSpot → List Column
columns_of spots = map (λ spot. record { name = spot.column.name; kind = spot.kind }) spots

-- the place in the text of the column of that number
abbrev pub spot_place : List ColumnSpot → ℕ → ℕ → ℕ
spot_place spots place other = elim (slice_get spots place) [ None ↦ other | Some spot ↦ spot.column.at ]

-- a column whose name stands earlier is SameColumn. Columns that are no schema for another cause are written by no text,
-- and refused at the table's name
abbrev pub create_by : List TableEntry → Spot → List ColumnSpot → Option SchemaError → Outcome Bound
create_by tables table columns None =
    if nat_le MAX_TABLES (length tables) then Err TooManyTables else Ok (bound.Create table.name (columns_of columns))
create_by tables table columns (Some (SameName place)) = Err (SameColumn (spot_place columns place table.at))
create_by tables table columns (Some other) = Err (TypeMismatch table.at)

abbrev pub bound_create : List TableEntry → Spot → List ColumnSpot → Outcome Bound
bound_create tables table columns = elim (table_place tables table.name) [
  | Some place ↦ Err (TableExists table.at)
  | None ↦ create_by tables table columns (schema_fault (columns_of columns))
]

-- ---- rows

-- a literal that fits the column of its place
abbrev pub literal_by : List Column → ℕ → ℕ → Option Value → Outcome Value
literal_by columns place at None = Err (TypeMismatch at)
literal_by columns place at (Some v) =
    if not (is_too_long v) && fits (kind_at columns place) (kind_of_value v) then Ok v else Err (TypeMismatch at)

abbrev pub bound_value : List Column → ℕ → Expr → Outcome Value
bound_value columns place expr = literal_by columns place expr.at (literal_of expr)

-- a tuple's length is tested before its literals
abbrev pub bound_tuple : List Column → ℕ → Tuple → Outcome (List Value)
bound_tuple columns place tuple =
    if length tuple.values == length columns then bound_from (bound_value columns) 0 tuple.values
    else Err (TypeMismatch tuple.at)

abbrev pub bound_insert : List TableEntry → Spot → List Tuple → Outcome Bound
bound_insert tables table tuples =
    bound_table tables table >>= λ place. bound_from (bound_tuple (columns_at tables place)) 0 tuples >>= λ rows.
    Ok (bound.Insert place rows)

-- how many columns a query has
abbrev pub width_of : Items → List Column → ℕ
width_of (All at) columns = length columns
width_of (Listed items) columns = length items

abbrev pub insert_query_of : ℕ → ℕ → List Column → List Column → ℕ → Query → Outcome Bound
insert_query_of target source into columns at query =
    if width_of query.items columns == length into
    then (bound_query source columns (Some into) query >>= λ query. Ok (bound.InsertSelect target query))
    else Err (TypeMismatch at)

-- both tables, and then the width, before the parts of the query
unfoldable pub bound_insert_query : List TableEntry → Spot → ℕ → Query → Outcome Bound
bound_insert_query tables table at query = do
  target ← bound_table tables table
  source ← bound_table tables query.table
  insert_query_of target source (columns_at tables target) (columns_at tables source) at query

-- ---- changes

abbrev pub sets_column : List Set → List ℕ → Bool
sets_column sets name = list_any (λ set. bytes_eq set.column.name name) sets

-- the set at that place among the sets: its column, once, and then its expression, which fits the column
abbrev pub bound_set : List Column → List Set → ℕ → Set → Outcome BoundSet
bound_set columns sets place set = bound_column columns set.column.at set.column.name >>= λ column.
    if sets_column (take place sets) set.column.name then Err (SameColumn set.column.at)
    else (bound_expr columns set.value >>= λ typed.
    if fits (kind_at columns column) typed.kind then Ok (record { column = column; value = typed.expr })
    else Err (TypeMismatch set.value.at))

unfoldable pub bound_update : List TableEntry → Spot → List Set → Option Expr → Outcome Bound
bound_update tables table sets filter = do
  place ← bound_table tables table
  sets ← bound_from (bound_set (columns_at tables place) sets) 0 sets
  filter ← bound_filter (columns_at tables place) filter
  Ok (bound.Update place sets filter)

abbrev pub bound_delete : List TableEntry → Spot → Option Expr → Outcome Bound
bound_delete tables table filter =
    bound_table tables table >>= λ place. bound_filter (columns_at tables place) filter >>= λ filter.
    Ok (bound.Delete place filter)

abbrev pub bound_select : List TableEntry → Query → Outcome Bound
bound_select tables query =
    bound_table tables query.table >>= λ place.
    bound_query place (columns_at tables place) None query >>= λ query. Ok (bound.Select query)

abbrev pub bound_copy : List TableEntry → Spot → List ℕ → Outcome Bound
bound_copy tables table bytes = bound_table tables table >>= λ place. Ok (bound.Copy place bytes)

-- a statement bound to the tables of a view, or its first refusal
abbrev pub bound_statement : List TableEntry → Statement → Outcome Bound
bound_statement tables (statement.Create table columns) = bound_create tables table columns
bound_statement tables (statement.Insert table tuples) = bound_insert tables table tuples
bound_statement tables (statement.InsertSelect table at query) = bound_insert_query tables table at query
bound_statement tables (statement.Copy table bytes) = bound_copy tables table bytes
bound_statement tables (statement.Select query) = bound_select tables query
bound_statement tables (statement.Update table sets filter) = bound_update tables table sets filter
bound_statement tables (statement.Delete table filter) = bound_delete tables table filter
bound_statement tables other = Ok bound.Other
