-- The tree of tables.
use Rattle.std.specs.Prelude.{◌≡◌, ℕ, ◌^◌, ◌<◌, Bool, true, false, List, [], ◌++◌, length, nat_le, bytes_eq, Result, Ok, Err, if◌then◌else◌}
use Rattle.std.specs.List.{flat_map, AllByRecursion, list_any}
use Rattle.std.specs.Int.{w16, w32, w64, to_le_bytes}
use Rattle.dk_values.specs.Columns.{IsSchema}
use Rattle.dk_pages.specs.declared.page.GroupRef.{GroupRef}
use Rattle.dk_pages.specs.declared.tree.TableEntry.{TableEntry}
use Rattle.dk_bytes.specs.Fields.{Place, number_at}
use Rattle.dk_bytes.specs.Reading.{◌>>=◌, list_at, AllFollow}
use Rattle.dk_bytes.specs.ColumnFields.{IsName, name_bytes, name_at, columns_bytes, columns_at}
use Rattle.dk_meta.specs.declared.limits.TheConstants.{MAX_TABLES}
use Rattle.dk_meta.specs.Strings.{checked_at, always}

-- ---- the groups of a table

pub record IsGroupRef (group : GroupRef) : Type 0 where
  pub root : group.root < 2 ^ 64
  pub rows : group.rows < 2 ^ 32

-- the root of its page in eight bytes, its number of rows in four
abbrev pub group_ref_bytes : GroupRef → List ℕ
group_ref_bytes group = to_le_bytes w64 group.root ++ to_le_bytes w32 group.rows

unfoldable pub group_at : Place → Result (GroupRef × Place) ℕ
group_at place = do
  root ← number_at w64 place
  rows ← number_at w32 root.1
  Ok (record { root = root.0; rows = rows.0 }, rows.1)

pub record AreGroups (groups : List GroupRef) : Type 0 where
  pub count : length groups < 2 ^ 64
  pub each : AllByRecursion IsGroupRef groups

-- their number in eight bytes, and each
abbrev pub groups_bytes : List GroupRef → List ℕ
groups_bytes groups = to_le_bytes w64 (length groups) ++ flat_map group_ref_bytes groups

unfoldable pub groups_at : Place → Result (List GroupRef × Place) ℕ
groups_at place = do
  count ← number_at w64 place
  list_at (always group_at) count.0 [] count.1

-- ---- a table

-- whether a table of that name stands among these
abbrev pub is_taken : List TableEntry → List ℕ → Bool
is_taken earlier name = list_any (λ entry. bytes_eq entry.name name) earlier

-- a name that no table before has
pub record IsNewName (earlier : List TableEntry) (name : List ℕ) : Type 0 where
  pub named : IsName name
  pub fresh : is_taken earlier name ≡ false

-- a table's name is one
abbrev pub HasName : TableEntry → Type 0
HasName entry = IsName entry.name

-- a table that may stand behind these
pub record IsNewEntry (earlier : List TableEntry) (entry : TableEntry) : Type 0 where
  pub name : IsNewName earlier entry.name
  pub schema : IsSchema entry.schema
  pub groups : AreGroups entry.groups

-- its name, its columns and its groups
abbrev pub entry_bytes : TableEntry → List ℕ
entry_bytes entry = name_bytes entry.name ++ (columns_bytes entry.schema ++ groups_bytes entry.groups)

-- a name that stands earlier is charged to its own first byte
unfoldable pub new_name_at : List TableEntry → Place → Result (List ℕ × Place) ℕ
new_name_at earlier place = do
  name ← name_at place
  if is_taken earlier name.0 then Err place.at else Ok name

unfoldable pub entry_at : List TableEntry → Place → Result (TableEntry × Place) ℕ
entry_at earlier place = do
  name ← new_name_at earlier place
  schema ← columns_at name.1
  groups ← groups_at schema.1
  Ok (record { name = name.0; schema = schema.0; groups = groups.0 }, groups.1)

-- ---- the tree

abbrev pub is_table_count : ℕ → Bool
is_table_count n = nat_le n MAX_TABLES

-- at most 64 tables, in the order of their creation
pub record IsTree (tables : List TableEntry) : Type 0 where
  pub count : is_table_count (length tables) ≡ true
  pub each : AllFollow IsNewEntry [] tables

-- their number in two bytes, and each
abbrev pub tree_bytes : List TableEntry → List ℕ
tree_bytes tables = to_le_bytes w16 (length tables) ++ flat_map entry_bytes tables

unfoldable pub tree_at : Place → Result (List TableEntry × Place) ℕ
tree_at place = do
  count ← checked_at w16 is_table_count place
  list_at entry_at count.0 [] count.1
