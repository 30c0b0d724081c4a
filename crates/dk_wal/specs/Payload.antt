-- The payload of a record of the log: a commit as bytes, which commits have some, and the reading of bytes as a commit.
use Rattle.std.specs.Prelude.{◌≡◌, ℕ, ◌+◌, ◌<◌, ◌^◌, Bool, true, false, not, ◌&&◌, List, [], ◌∷◌, ◌++◌, length, slice_get, Option, Some, None, option_map, Result, Ok, Err, nat_lt, ◌==◌, bytes_eq, if◌then◌else◌}
use Rattle.std.specs.List.{list_any}
use Rattle.std.specs.Int.{w8, w16, w32, w64, to_le_bytes}
use Rattle.dk_values.specs.Columns.{IsSchema}
use Rattle.dk_values.specs.declared.column.Column.{Column}
use Rattle.dk_values.specs.declared.value.Value.{Value}
use Rattle.dk_bytes.specs.Fields.{Place, number_at}
use Rattle.dk_bytes.specs.Reading.{◌>>=◌, or_fault, start, whole}
use Rattle.dk_bytes.specs.ColumnFields.{IsName, name_bytes, name_at, columns_bytes, columns_at}
use Rattle.dk_bytes.specs.RowFields.{IsRow, row_bytes, row_at}
use Rattle.dk_pages.specs.declared.log.LogTable.{LogTable}
use Rattle.dk_pages.specs.declared.log.LogCommit.{LogCommit}
use Rattle.dk_pages.specs.declared.log.LogCommit.TheVariants.{Create, Change}
use Rattle.dk_pages.specs.declared.tree.TableEntry.{TableEntry}
use Rattle.dk_wal.specs.Counted.{counted, IsCounted, counted_at, any_number, is_behind}
use Rattle.dk_wal.specs.declared.limits.TheConstants.{CREATE_TAG, CHANGE_TAG, GROUP_ROWS, MAX_TABLES}

-- ---- bytes

-- the id of a row, and its new values
abbrev pub update_bytes : ℕ × List Value → List ℕ
update_bytes update = to_le_bytes w64 update.0 ++ row_bytes update.1

abbrev pub id_bytes : ℕ → List ℕ
id_bytes id = to_le_bytes w64 id

-- the table's number; rows that got new values, rows that went, the roots of full groups, and the other new rows
abbrev pub table_bytes : LogTable → List ℕ
table_bytes table =
    to_le_bytes w32 table.table ++
    (counted w32 update_bytes table.updates ++
    (counted w32 id_bytes table.deletes ++
    (counted w32 id_bytes table.groups ++ counted w32 row_bytes table.tail)))

-- a tag; the name and the columns of a table that was created, or the tables whose rows changed
abbrev pub payload_bytes : LogCommit → List ℕ
payload_bytes (Create name columns) = to_le_bytes w8 CREATE_TAG ++ (name_bytes name ++ columns_bytes columns)
payload_bytes (Change tables) = to_le_bytes w8 CHANGE_TAG ++ counted w16 table_bytes tables

-- ---- which commits are in the grammar, with the tables that are there

-- an id behind those before it, and a row of the table
pub record IsUpdate (columns : List Column) (earlier : List (ℕ × List Value)) (update : ℕ × List Value) : Type 0 where
  pub fits : update.0 < 2 ^ 64
  pub behind : is_behind (λ (u : ℕ × List Value). u.0) earlier update.0 ≡ true
  pub row : IsRow columns update.1

-- an id behind those before it
pub record IsDelete (earlier : List ℕ) (id : ℕ) : Type 0 where
  pub fits : id < 2 ^ 64
  pub behind : is_behind (λ (i : ℕ). i) earlier id ≡ true

-- the first block of a page
abbrev pub IsRoot : List ℕ → ℕ → Type 0
IsRoot earlier root = root < 2 ^ 64

-- a row of the table
abbrev pub IsTailRow : List Column → List (List Value) → List Value → Type 0
IsTailRow columns earlier row = IsRow columns row

-- rows that fill no group
abbrev pub is_tail : ℕ → Bool
is_tail n = nat_lt n GROUP_ROWS

-- whether a row got new values that also went
abbrev pub shares_id : List (ℕ × List Value) → List ℕ → Bool
shares_id updates deletes = list_any (λ id. list_any (λ (u : ℕ × List Value). u.0 == id) updates) deletes

-- ids behind each other, none of which got new values
pub record AreDeletes (updates : List (ℕ × List Value)) (deletes : List ℕ) : Type 0 where
  pub ids : IsCounted w32 any_number IsDelete deletes
  pub apart : shares_id updates deletes ≡ false

-- the columns of the table of this number, where it stands behind the tables before it
abbrev pub columns_of : List TableEntry → List LogTable → ℕ → Option (List Column)
columns_of tables earlier number =
    if is_behind (λ (t : LogTable). t.table) earlier number
    then option_map (λ (entry : TableEntry). entry.schema) (slice_get tables number) else None

-- it has an entry of one of the four kinds
abbrev pub has_entries : LogTable → Bool
has_entries table =
    not (length table.updates + length table.deletes + length table.groups + length table.tail == 0)

-- a table that is there, behind those before it, and what changed in it
pub record IsTable (tables : List TableEntry) (earlier : List LogTable) (table : LogTable) : Type 0 where
  pub columns : List Column
  pub fits : table.table < 2 ^ 32
  pub known : columns_of tables earlier table.table ≡ Some columns
  pub updates : IsCounted w32 any_number (IsUpdate columns) table.updates
  pub deletes : AreDeletes table.updates table.deletes
  pub groups : IsCounted w32 any_number IsRoot table.groups
  pub tail : IsCounted w32 is_tail (IsTailRow columns) table.tail
  pub some : has_entries table ≡ true

-- whether a table has that name
abbrev pub is_named : List TableEntry → List ℕ → Bool
is_named tables name = list_any (λ (entry : TableEntry). bytes_eq entry.name name) tables

-- a new name, while there is room for a table
abbrev pub may_create : List TableEntry → List ℕ → Bool
may_create tables name = nat_lt (length tables) MAX_TABLES && not (is_named tables name)

pub record IsCreation (tables : List TableEntry) (name : List ℕ) (columns : List Column) : Type 0 where
  pub named : IsName name
  pub fresh : may_create tables name ≡ true
  pub schema : IsSchema columns

-- at least one table
abbrev pub are_tables : ℕ → Bool
are_tables n = nat_lt 0 n

-- a commit that is in the grammar with these tables
abbrev pub IsCommit : List TableEntry → LogCommit → Type 0
IsCommit tables (Create name columns) = IsCreation tables name columns
IsCommit tables (Change changed) = IsCounted w16 are_tables (IsTable tables) changed

-- the tables behind a commit
abbrev pub tables_after : List TableEntry → LogCommit → List TableEntry
tables_after tables (Create name columns) = tables ++ record { name = name; schema = columns; groups = [] } ∷ []
tables_after tables (Change changed) = tables

-- ---- reading

unfoldable pub update_at : List Column → List (ℕ × List Value) → Place → Result ((ℕ × List Value) × Place) ℕ
update_at columns earlier place = do
  n ← number_at w64 place
  id ← if is_behind (λ (u : ℕ × List Value). u.0) earlier n.0 then Ok n else Err place.at
  row ← row_at columns id.1
  Ok ((id.0, row.0), row.1)

unfoldable pub delete_at : List ℕ → Place → Result (ℕ × Place) ℕ
delete_at earlier place = do
  n ← number_at w64 place
  if is_behind (λ (i : ℕ). i) earlier n.0 then Ok n else Err place.at

abbrev pub root_at : List ℕ → Place → Result (ℕ × Place) ℕ
root_at earlier place = number_at w64 place

abbrev pub tail_row_at : List Column → List (List Value) → Place → Result (List Value × Place) ℕ
tail_row_at columns earlier place = row_at columns place

-- ids that are shared are charged to the deletes
unfoldable pub deletes_at : List (ℕ × List Value) → Place → Result (List ℕ × Place) ℕ
deletes_at updates place = do
  deletes ← counted_at w32 any_number delete_at place
  if shares_id updates deletes.0 then Err place.at else Ok deletes

-- a table of no entries is charged to the last number
unfoldable pub table_at : List TableEntry → List LogTable → Place → Result (LogTable × Place) ℕ
table_at tables earlier place = do
  number ← number_at w32 place
  columns ← or_fault place.at (columns_of tables earlier number.0)
  updates ← counted_at w32 any_number (update_at columns) number.1
  deletes ← deletes_at updates.0 updates.1
  groups ← counted_at w32 any_number root_at deletes.1
  tail ← counted_at w32 is_tail (tail_row_at columns) groups.1
  table ← Ok record {
    table = number.0;
    updates = updates.0;
    deletes = deletes.0;
    groups = groups.0;
    tail = tail.0;
  }
  if has_entries table then Ok (table, tail.1) else Err groups.1.at

unfoldable pub creation_at : List TableEntry → Place → Result (LogCommit × Place) ℕ
creation_at tables place = do
  name ← name_at place
  fresh ← if may_create tables name.0 then Ok name else Err place.at
  columns ← columns_at fresh.1
  Ok (Create fresh.0 columns.0, columns.1)

unfoldable pub change_at : List TableEntry → Place → Result (LogCommit × Place) ℕ
change_at tables place = do
  changed ← counted_at w16 are_tables (table_at tables) place
  Ok (Change changed.0, changed.1)

unfoldable pub commit_at : List TableEntry → Place → Result (LogCommit × Place) ℕ
commit_at tables place = do
  tag ← number_at w8 place
  if tag.0 == CREATE_TAG then creation_at tables tag.1
      else (if tag.0 == CHANGE_TAG then change_at tables tag.1 else Err place.at)

-- the commit that all of the bytes stand for
abbrev pub payload_read : List TableEntry → List ℕ → Result LogCommit ℕ
payload_read tables bytes = whole (commit_at tables (start bytes))

-- the bytes are the payload of a commit
pub record IsPayload (tables : List TableEntry) (bytes : List ℕ) (commit : LogCommit) : Type 0 where
  pub lawful : IsCommit tables commit
  pub spelled : bytes ≡ payload_bytes commit
