-- What a statement means on a database: rows, a change, a new table or a refusal.
use Rattle.std.specs.Ordering.{int_eq}
use Rattle.std.specs.Prelude.{ℕ, Bool, true, false, not, bytes_eq, if◌then◌else◌, List, ◌&&◌, is_none, length, nat_lt, ◌==◌, [], Option, Some, None, Result, Ok, Err, map, take, slice_get}
use lib.Pointwise.{pointwise}
use Rattle.dk_values.specs.Columns.{schema_fault}
use Rattle.dk_values.specs.declared.column.Column.{Column}
use Rattle.dk_values.specs.declared.value.Value.{Value}
use Rattle.dk_values.specs.declared.value.Value.TheVariants as value
use Rattle.dk_types.specs.declared.bound.Bound.{Bound}
use Rattle.dk_types.specs.declared.bound.Bound.TheVariants as bound
use Rattle.dk_types.specs.declared.bound.BoundExpr.{BoundExpr}
use Rattle.dk_types.specs.declared.bound.BoundSet.{BoundSet}
use Rattle.dk_types.specs.declared.reply.Refusal.{Refusal}
use Rattle.dk_types.specs.declared.reply.Refusal.TheVariants as refusal
use Rattle.dk_syntax.specs.declared.statement.Statement.{Statement}
use Rattle.dk_pages.specs.declared.tree.TableEntry.{TableEntry}
use Rattle.dk_bind.specs.declared.statements.TheConstants.{MAX_TABLES}
use Rattle.dk_copy.specs.declared.fault.FieldPlace.{FieldPlace}
use Rattle.dk_copy.specs.Copied.{copied_rows}
use Rattle.dk_bind.specs.Outcomes.{Outcome}
use Rattle.dk_bind.specs.Statements.{bound_statement}
use Rattle.dk_query.specs.Selected.{selected}
use Rattle.dk_si.specs.declared.database.Table.{Table}
use Rattle.dk_si.specs.declared.meaning.Meaning.{Meaning}
use Rattle.dk_si.specs.declared.meaning.Meaning.TheVariants.{Refused, Create, Change, Rows, Nothing}
use Rattle.dk_si.specs.Database.{place_of}
use Rattle.dk_si.specs.Picked.{picked, new_row, gone_id}
use Rattle.dk_si.specs.Stored.{stored_rows}

-- a text outside the grammar is refused at its first fault
abbrev pub is_text_refusal : ℕ → Refusal → Bool
is_text_refusal at (refusal.Syntax place) = place == at
is_text_refusal at other = false

-- two refusals of a statement by its meaning or its size are the same
abbrev pub is_same_refusal : Refusal → Refusal → Bool
is_same_refusal (refusal.NoTable at) (refusal.NoTable other) = at == other
is_same_refusal (refusal.NoColumn at) (refusal.NoColumn other) = at == other
is_same_refusal (refusal.TypeMismatch at) (refusal.TypeMismatch other) = at == other
is_same_refusal (refusal.SameColumn at) (refusal.SameColumn other) = at == other
is_same_refusal (refusal.NotGrouped at) (refusal.NotGrouped other) = at == other
is_same_refusal (refusal.TableExists at) (refusal.TableExists other) = at == other
is_same_refusal refusal.TooManyTables refusal.TooManyTables = true
is_same_refusal (refusal.OutOfRange row) (refusal.OutOfRange other) = row == other
is_same_refusal (refusal.BadField row field) (refusal.BadField other_row other_field) = row == other_row && field == other_field
is_same_refusal (refusal.TooLarge bytes rows) (refusal.TooLarge other_bytes other_rows) = bytes == other_bytes && rows == other_rows
is_same_refusal refusal.Unsupported refusal.Unsupported = true
is_same_refusal refusal other = false

abbrev pub same_value : Value → Value → Bool
same_value value.Null value.Null = true
same_value (value.Bool a) (value.Bool b) = if a then b else not b
same_value (value.Int a) (value.Int b) = int_eq a b
same_value (value.Big a) (value.Big b) = int_eq a b
same_value (value.Text a) (value.Text b) = bytes_eq a b
same_value (value.Huge a) (value.Huge b) = int_eq a b
same_value a b = false

abbrev pub same_rows : List (List Value) → List (List Value) → Bool
same_rows rows others = pointwise (pointwise same_value) rows others

-- a table of that name and these columns may be made beside others: no other has its name, the columns are a schema, and
-- there are less than 64 tables
abbrev pub may_create : List Table → List ℕ → List Column → Bool
may_create tables name columns =
    is_none (place_of (λ table. table.name) name tables)
    && (is_none (schema_fault columns) && nat_lt (length tables) MAX_TABLES)

-- ---- the meaning of a bound statement

-- a change by its part for the table of that place
abbrev pub insert : ℕ → List (List Value) → Meaning
insert place rows = Change (length rows) (record { table = place; updates = []; deletes = []; rows = rows })

abbrev pub update : ℕ → List (ℕ × List Value) → Meaning
update place updates = Change (length updates) (record { table = place; updates = updates; deletes = []; rows = [] })

abbrev pub delete : ℕ → List ℕ → Meaning
delete place ids = Change (length ids) (record { table = place; updates = []; deletes = ids; rows = [] })

-- what is found means something, or a row has no value
abbrev pub meant_by : {T : Type 0} → (T → Meaning) → Result T ℕ → Meaning
meant_by means (Ok found) = means found
meant_by means (Err row) = Refused (refusal.OutOfRange row)

-- INSERT of rows, which are counted from 0, into a table
abbrev pub insert_rows : ℕ → List (List Value) → Table → Meaning
insert_rows place rows table = meant_by (insert place) (stored_rows table.schema 0 rows)

-- data hold rows that mean something, or a field that has no value in its column
abbrev pub copied_by : (List (List Value) → Meaning) → Result (List (List Value)) FieldPlace → Meaning
copied_by means (Ok rows) = means rows
copied_by means (Err place) = Refused (refusal.BadField place.row place.field)

-- COPY inserts the rows of its data into a table
abbrev pub copy_rows : ℕ → List ℕ → Table → Meaning
copy_rows place bytes table = copied_by (λ rows. insert_rows place rows table) (copied_rows table.schema bytes)

-- UPDATE and DELETE of the rows of a table that the filter keeps, all of them as they were
abbrev pub update_rows : ℕ → List BoundSet → Option BoundExpr → Table → Meaning
update_rows place sets filter table = meant_by (update place) (picked (new_row table.schema sets filter) 0 table.rows)

abbrev pub delete_rows : ℕ → Option BoundExpr → Table → Meaning
delete_rows place filter table = meant_by (delete place) (picked (gone_id filter) 0 table.rows)

-- what a statement does in the table of that place; binding finds no other place
abbrev pub in_table : List Table → ℕ → (Table → Meaning) → Meaning
in_table tables place means = elim (slice_get tables place) [ None ↦ Refused refusal.Unsupported | Some table ↦ means table ]

-- the meaning of a bound statement
abbrev pub meaning_of : List Table → Bound → Meaning
meaning_of tables (bound.Create name schema) = Create name schema
meaning_of tables (bound.Insert place rows) = in_table tables place (insert_rows place rows)
meaning_of tables (bound.InsertSelect place query) = in_table tables query.table (λ source.
    meant_by (λ rows. in_table tables place (insert_rows place rows)) (selected query source.rows))
meaning_of tables (bound.Copy place bytes) = in_table tables place (copy_rows place bytes)
meaning_of tables (bound.Select query) = in_table tables query.table (λ table. meant_by Rows (selected query table.rows))
meaning_of tables (bound.Update place sets filter) = in_table tables place (update_rows place sets filter)
meaning_of tables (bound.Delete place filter) = in_table tables place (delete_rows place filter)
meaning_of tables bound.Other = Nothing

-- ---- the meaning of a statement

-- the tables as binding sees them: a database has at most 64
abbrev pub entries_of : List Table → List TableEntry
entries_of tables = map (λ table. record { name = table.name; schema = table.schema; groups = [] }) (take MAX_TABLES tables)

abbrev pub meaning_by : List Table → Outcome Bound → Meaning
meaning_by tables (Ok bound) = meaning_of tables bound
meaning_by tables (Err refusal) = Refused refusal

-- the meaning of a statement on a database: that of what it is bound to there, or the refusal of binding
abbrev pub meaning : List Table → Statement → Meaning
meaning tables statement = meaning_by tables (bound_statement (entries_of tables) statement)
