-- The page of a row group.
use Rattle.std.specs.Prelude.{◌≡◌, ℕ, ◌+◌, ◌^◌, ◌<◌, ◌==◌, Bool, true, ◌&&◌, List, [], ◌++◌, length, fold, nat_lt, nat_le, Result, Ok}
use Rattle.std.specs.List.{flat_map, AllByRecursion}
use Rattle.std.specs.Int.{w16, w32, to_le_bytes}
use Rattle.dk_pages.specs.declared.page.GroupPage.{GroupPage}
use Rattle.dk_bytes.specs.Fields.{Place, number_at}
use Rattle.dk_bytes.specs.Reading.{◌>>=◌, list_at, AllFollow}
use Rattle.dk_meta.specs.declared.limits.TheConstants.{GROUP_ROWS}
use Rattle.dk_meta.specs.Strings.{checked_at, always}
use Rattle.dk_meta.specs.Segments.{AreVectors, vectors_bytes, vectors_at}

-- ---- the deleted rows

-- the least offset that may stand behind these: one above the last
abbrev pub least_offset : List ℕ → ℕ
least_offset earlier = fold (λ _ offset. offset + 1) 0 earlier

-- from the least one on, and below the number of rows
abbrev pub is_between : ℕ → ℕ → ℕ → Bool
is_between least rows offset = nat_le least offset && nat_lt offset rows

-- whether an offset ascends behind these, and is one of a group of so many rows
abbrev pub is_next_offset : ℕ → List ℕ → ℕ → Bool
is_next_offset rows earlier offset = is_between (least_offset earlier) rows offset

pub record IsNextOffset (rows : ℕ) (earlier : List ℕ) (offset : ℕ) : Type 0 where
  pub fits : offset < 2 ^ 32
  pub next : is_next_offset rows earlier offset ≡ true

-- offsets of rows, ascending
pub record AreOffsets (rows : ℕ) (offsets : List ℕ) : Type 0 where
  pub count : length offsets < 2 ^ 32
  pub each : AllFollow (IsNextOffset rows) [] offsets

abbrev pub offset_bytes : ℕ → List ℕ
offset_bytes offset = to_le_bytes w32 offset

-- their number in four bytes, and each in four bytes
abbrev pub offsets_bytes : List ℕ → List ℕ
offsets_bytes offsets = to_le_bytes w32 (length offsets) ++ flat_map offset_bytes offsets

abbrev pub offset_at : ℕ → List ℕ → Place → Result (ℕ × Place) ℕ
offset_at rows earlier place = checked_at w32 (is_next_offset rows earlier) place

unfoldable pub offsets_at : ℕ → Place → Result (List ℕ × Place) ℕ
offsets_at rows place = do
  count ← number_at w32 place
  list_at (offset_at rows) count.0 [] count.1

-- ---- the page

-- a group has at least one row, and at most 122,880
abbrev pub is_row_count : ℕ → Bool
is_row_count n = nat_lt 0 n && nat_le n GROUP_ROWS

-- the page of a group of a table with so many columns
pub record IsPage (columns : ℕ) (page : GroupPage) : Type 0 where
  pub rows : is_row_count page.rows ≡ true
  pub width : length page.columns ≡ columns
  pub fits : columns < 2 ^ 16
  pub deleted : AreOffsets page.rows page.deleted
  pub each : AllByRecursion (AreVectors page.rows) page.columns

-- the number of rows in four bytes, that of columns in two, the deleted rows, and the vectors column by column
abbrev pub page_bytes : GroupPage → List ℕ
page_bytes page = to_le_bytes w32 page.rows
    ++ (to_le_bytes w16 (length page.columns) ++ (offsets_bytes page.deleted ++ flat_map vectors_bytes page.columns))

abbrev pub is_width : ℕ → ℕ → Bool
is_width columns n = n == columns

unfoldable pub page_at : ℕ → Place → Result (GroupPage × Place) ℕ
page_at columns place = do
  rows ← checked_at w32 is_row_count place
  width ← checked_at w16 (is_width columns) rows.1
  deleted ← offsets_at rows.0 width.1
  refs ← list_at (always (vectors_at rows.0)) columns [] deleted.1
  Ok (record { rows = rows.0; deleted = deleted.0; columns = refs.0 }, refs.1)
