-- The rows of a group, read from the segments of its page.
use Rattle.std.specs.Prelude.{◌≡◌, ℕ, zero, suc, ◌+◌, Bool, true, false, not, List, [], ◌∷◌, ◌++◌, take, drop, min, IfSome, Result, Ok, Err}
use Rattle.dk_types.specs.declared.damage.Damage.{Damage}
use Rattle.dk_types.specs.declared.damage.Part.TheVariants as part
use Rattle.dk_values.specs.declared.column.Column.{Column as SchemaColumn}
use Rattle.dk_values.specs.declared.value.ColType.{ColType}
use Rattle.dk_values.specs.declared.value.Value.{Value}
use Rattle.dk_columns.specs.Columns.{Column}
use Rattle.dk_columns.specs.OptionTables.{OptionTable, table_of}
use Rattle.dk_pages.specs.declared.page.SegmentRef.{SegmentRef}
use Rattle.dk_pages.specs.declared.page.GroupPage.{GroupPage}
use Rattle.dk_pages.specs.declared.page.Placed.{Placed}
use Rattle.dk_pages.specs.declared.state.GroupState.{GroupState}
use Rattle.dk_pages.specs.declared.state.GroupState.TheVariants.{Loaded}
use Rattle.dk_pages.specs.declared.state.TableState.{TableState}
use Rattle.dk_segment.specs.Segment.{segment_at}
use Rattle.dk_block_man.specs.Used.{is_among}
use Rattle.dk_block_file.specs.Blocks.{block_read}
use Rattle.dk_strings.specs.Chains.{◌>>=◌}
use Rattle.dk_header.specs.declared.header.TheConstants.{SUM_BYTES}
use Rattle.dk_recover.specs.declared.columns.HeldBlock.{HeldBlock}
use Rattle.dk_recover.specs.declared.pages.TablePages.{TablePages}
use Rattle.dk_recover.specs.declared.columns.TheConstants.{COUNT_PLACE}
use Rattle.dk_recover.specs.Readings.{meaning, each}
use Rattle.dk_recover.specs.Pages.{begins_with}

-- ---- a segment

-- a reading with a rule more about the field at a place: the first of the two places that break one
abbrev pub ruled : {A : Type 0} → ℕ → Bool → Result A ℕ → Result A ℕ
ruled place true reading = reading
ruled place false (Ok x) = Err place
ruled place false (Err at) = Err (min at place)

-- the values of a segment of so many rows: its number of values, behind its encoding and its flag, is the one that the
-- page tells
abbrev pub segment_of : ColType → ℕ → List ℕ → Result (List Value) ℕ
segment_of kind rows bytes = ruled COUNT_PLACE (begins_with rows (drop COUNT_PLACE bytes)) (segment_at kind bytes)

-- the bytes of a segment in the payload of its block
abbrev pub segment_bytes_in : SegmentRef → List ℕ → List ℕ
segment_bytes_in segment payload = take segment.bytes (drop segment.offset payload)

-- the values of the segment in its block
abbrev pub segment_in : ColType → SegmentRef → List ℕ → Result (List Value) Damage
segment_in kind segment payload = meaning part.Segment (segment_of kind segment.rows (segment_bytes_in segment payload))

-- the block that is held is read as its bytes say
abbrev pub Holds : List ℕ → HeldBlock → Type 0
Holds main held = IfSome held.block (λ block. block_read block main ≡ Ok (drop SUM_BYTES held.buf))

abbrev pub segment_read : ColType → SegmentRef → List ℕ → Result (List Value) Damage
segment_read kind segment main = do
  payload ← block_read segment.block main
  segment_in kind segment payload

-- ---- a column

-- the values of a segment behind those before it
abbrev pub with_segment : List Value → Result (List Value) Damage → Result (List Value) Damage
with_segment values (Ok more) = Ok (values ++ more)
with_segment values (Err damage) = Err damage

abbrev pub next_segment : ColType → List ℕ → List Value → SegmentRef → Result (List Value) Damage
next_segment kind main values segment = with_segment values (segment_read kind segment main)

-- those of a vector
abbrev pub next_vector : ColType → List ℕ → List Value → List SegmentRef → Result (List Value) Damage
next_vector kind main values segments = each (next_segment kind main) values segments

-- the values of a column, vector by vector
abbrev pub column_read : ColType → List (List SegmentRef) → List ℕ → Result (List Value) Damage
column_read kind vectors main = each (next_vector kind main) [] vectors

-- behind these columns those of the rest of a schema
abbrev pub columns_behind : List Column → List SchemaColumn → List (List (List SegmentRef)) → List ℕ
    → Result (List Column) Damage
columns_behind before [] refs main = Ok before
columns_behind before (column ∷ schema) [] main = Ok before
columns_behind before (column ∷ schema) (vectors ∷ refs) main = do
  values ← column_read column.kind vectors main
  columns_behind (before ++ record { kind = column.kind; values = values } ∷ []) schema refs main

-- the columns of a schema
abbrev pub columns_read : List SchemaColumn → List (List (List SegmentRef)) → List ℕ → Result (List Column) Damage
columns_read schema refs main = columns_behind [] schema refs main

-- ---- a group

-- whether each of n rows from a place on is there: it isn't among the deleted ones
abbrev pub there_from : ℕ → ℕ → List ℕ → List Bool
there_from place zero deleted = []
there_from place (suc n) deleted = not (is_among deleted place) ∷ there_from (place + 1) n deleted

-- the rows of a page
unfoldable pub rows_read : List SchemaColumn → GroupPage → List ℕ → Result OptionTable Damage
rows_read schema page main = do
  columns ← columns_read schema page.columns main
  Ok (table_of (there_from 0 page.rows page.deleted) columns)

-- a group as it is in the file
abbrev pub group_read : List SchemaColumn → List ℕ → Placed → Result GroupState Damage
group_read schema main placed = do
  rows ← rows_read schema placed.page main
  Ok (Loaded placed rows)

-- ---- a state

-- one more behind those that were read
abbrev pub next_of : {A B : Type 0} → (A → Result B Damage) → List B → A → Result (List B) Damage
next_of read before x = do
  next ← read x
  Ok (before ++ next ∷ [])

-- each of these things is read
abbrev pub each_read : {A B : Type 0} → (A → Result B Damage) → List A → Result (List B) Damage
each_read read xs = each (next_of read) [] xs

abbrev pub groups_read : List SchemaColumn → List ℕ → List Placed → Result (List GroupState) Damage
groups_read schema main pages = each_read (group_read schema main) pages

abbrev pub table_state : List ℕ → TablePages → Result TableState Damage
table_state main table = do
  groups ← groups_read table.schema main table.pages
  Ok (record { name = table.name; schema = table.schema; groups = groups })

-- the state of tables whose pages were read
unfoldable pub state_read : List TablePages → List ℕ → Result (List TableState) Damage
state_read tables main = each_read (table_state main) tables
