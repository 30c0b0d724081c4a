-- The fields of a page that say where the segments of a group stand.
use Rattle.std.specs.Prelude.{◌≡◌, ℕ, ◌+◌, ◌-◌, ◌*◌, ◌/◌, ◌^◌, ◌<◌, ◌≤◌, ◌==◌, Bool, true, ◌&&◌, List, [], ◌∷◌, ◌++◌, length, min, nat_lt, nat_le, Result, Ok, Err, if◌then◌else◌}
use Rattle.std.specs.List.{flat_map, AllByRecursion}
use Rattle.std.specs.Int.{w16, w32, w64, to_le_bytes}
use Rattle.dk_pages.specs.declared.page.SegmentRef.{SegmentRef}
use Rattle.dk_bytes.specs.Fields.{Place, number_at}
use Rattle.dk_bytes.specs.Reading.{◌>>=◌, list_at, AllFollow}
use Rattle.dk_meta.specs.declared.limits.TheConstants.{PAYLOAD_BYTES, VECTOR_ROWS, MAX_SEGMENTS}
use Rattle.dk_meta.specs.Strings.{checked_at, always}

-- ---- a segment

-- it lies in its block's payload, and has rows
pub record IsSegmentRef (segment : SegmentRef) : Type 0 where
  pub block : segment.block < 2 ^ 64
  pub offset : segment.offset < 2 ^ 32
  pub bytes : segment.bytes < 2 ^ 32
  pub rows : segment.rows < 2 ^ 16
  pub within : segment.offset + segment.bytes ≤ PAYLOAD_BYTES
  pub some : 1 ≤ segment.rows

-- its block in eight bytes, its offset and its number of bytes in four each, its number of rows in two
unfoldable pub segment_ref_bytes : SegmentRef → List ℕ
segment_ref_bytes segment = to_le_bytes w64 segment.block
    ++ (to_le_bytes w32 segment.offset ++ (to_le_bytes w32 segment.bytes ++ to_le_bytes w16 segment.rows))

-- whether so many bytes from an offset on lie in the payload
abbrev pub lies_within : ℕ → ℕ → Bool
lies_within offset bytes = nat_le (offset + bytes) PAYLOAD_BYTES

abbrev pub is_some : ℕ → Bool
is_some n = nat_le 1 n

unfoldable pub segment_at : Place → Result (SegmentRef × Place) ℕ
segment_at place = do
  block ← number_at w64 place
  offset ← number_at w32 block.1
  bytes ← checked_at w32 (lies_within offset.0) offset.1
  rows ← checked_at w16 is_some bytes.1
  Ok (record { block = block.0; offset = offset.0; bytes = bytes.0; rows = rows.0 }, rows.1)

-- ---- the segments of a vector

-- how many rows segments have together
abbrev pub total_rows : List SegmentRef → ℕ
total_rows [] = 0
total_rows (segment ∷ segments) = segment.rows + total_rows segments

abbrev pub is_segment_count : ℕ → Bool
is_segment_count n = nat_lt 0 n && nat_le n MAX_SEGMENTS

-- a vector has at least one segment, and at most 2,048
abbrev pub HasCount : List SegmentRef → Type 0
HasCount segments = is_segment_count (length segments) ≡ true

-- the segments of a vector of so many rows
pub record IsVector (rows : ℕ) (segments : List SegmentRef) : Type 0 where
  pub count : HasCount segments
  pub each : AllByRecursion IsSegmentRef segments
  pub total : total_rows segments ≡ rows

-- their number in two bytes, and each
abbrev pub vector_bytes : List SegmentRef → List ℕ
vector_bytes segments = to_le_bytes w16 (length segments) ++ flat_map segment_ref_bytes segments

-- that they have the vector's rows is charged to the rows of the last segment, which have two bytes
unfoldable pub vector_at : ℕ → Place → Result (List SegmentRef × Place) ℕ
vector_at rows place = do
  count ← checked_at w16 is_segment_count place
  segments ← list_at (always segment_at) count.0 [] count.1
  if total_rows segments.0 == rows then Ok segments else Err (segments.1.at - 2)

-- ---- the vectors of a column

-- how many vectors a group of so many rows has
abbrev pub vector_count : ℕ → ℕ
vector_count rows = (rows + (VECTOR_ROWS - 1)) / VECTOR_ROWS

-- how many rows its vector v has: all but the last are full
abbrev pub vector_rows : ℕ → ℕ → ℕ
vector_rows rows v = min VECTOR_ROWS (rows - VECTOR_ROWS * v)

-- the vector that stands behind these
abbrev pub IsNextVector : ℕ → List (List SegmentRef) → List SegmentRef → Type 0
IsNextVector rows earlier segments = IsVector (vector_rows rows (length earlier)) segments

pub record AreVectors (rows : ℕ) (vectors : List (List SegmentRef)) : Type 0 where
  pub count : length vectors ≡ vector_count rows
  pub each : AllFollow (IsNextVector rows) [] vectors

abbrev pub vectors_bytes : List (List SegmentRef) → List ℕ
vectors_bytes vectors = flat_map vector_bytes vectors

abbrev pub next_vector_at : ℕ → List (List SegmentRef) → Place → Result (List SegmentRef × Place) ℕ
next_vector_at rows earlier place = vector_at (vector_rows rows (length earlier)) place

unfoldable pub vectors_at : ℕ → Place → Result (List (List SegmentRef) × Place) ℕ
vectors_at rows place = list_at (next_vector_at rows) (vector_count rows) [] place
