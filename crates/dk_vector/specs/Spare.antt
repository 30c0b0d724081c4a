-- Rows that are spare until they are put in.
use Rattle.std.specs.Prelude.{◌≡◌, ◌++◌, ◌==◌, ◌≤◌, ◌||◌, not, ℕ, zero, suc, Bool, true, false, List, [], length, replicate, Option, Some, None, is_some, slice_get, if◌then◌else◌}
use Rattle.dk_values.specs.declared.value.Value.{Value}
use Rattle.dk_columns.specs.OptionTables.{with_rows}
use Rattle.dk_stamp.specs.declared.snapshot.TheConstants.{NEVER}
use Rattle.dk_chain.specs.Nodes.{nodes_at, newest_stamp}
use Rattle.dk_version.specs.declared.stamps.Stamp.{Stamp}
use Rattle.dk_version.specs.Rows.{spare_row}
use Rattle.dk_vector.specs.Stacks.{Stack, placed}
use Rattle.dk_vector.specs.Vectors.{VectorRows, base_at, values_or_none}

abbrev pub is_spare : Option Stamp → Bool
is_spare None = false
is_spare (Some stamp) = stamp.inserted == NEVER

-- spare rows have no deletion and no nodes
abbrev pub AreFresh : VectorRows → Type 0
AreFresh vector =
    (row : ℕ) → is_spare (slice_get vector.stamps.rows row) ≡ true
    → (slice_get vector.stamps.rows row ≡ Some spare_row) × (nodes_at row vector.nodes ≡ [])

-- the same of those from a place on
abbrev pub AreFreshFrom : ℕ → VectorRows → Type 0
AreFreshFrom start vector =
    (row : ℕ) → start ≤ row → is_spare (slice_get vector.stamps.rows row) ≡ true
    → (slice_get vector.stamps.rows row ≡ Some spare_row) × (nodes_at row vector.nodes ≡ [])

-- the values of a spare row, if there is one at a place
abbrev pub room_at : VectorRows → ℕ → Option (List Value)
room_at vector row = if is_spare (slice_get vector.stamps.rows row) then Some (base_at row vector.base) else None

abbrev pub values_if : Option (Option (List Value)) → Option (List Value)
values_if None = None
values_if (Some row) = Some (values_or_none (Some row))

-- a row that was spare is put in
abbrev pub put_in : ℕ → Option (List Value) → Stack → Stack
put_in id None stack = stack
put_in id (Some values) stack = placed id values

-- a row that is not spare, or has a node that was not undone
abbrev pub is_kept : VectorRows → ℕ → Bool
is_kept vector row = not (is_spare (slice_get vector.stamps.rows row)) || is_some (newest_stamp (nodes_at row vector.nodes))

-- one more than the last number below a bound that meets a test, or 0
abbrev pub last_where : (ℕ → Bool) → ℕ → ℕ
last_where test zero = zero
last_where test (suc n) = if test n then suc n else last_where test n

-- how many rows are left without the spare ones at the end
abbrev pub kept_rows : VectorRows → ℕ
kept_rows vector = last_where (is_kept vector) (length vector.stamps.rows)

-- rows stand behind the others, and are spare
pub record IsReserved (more : List (Option (List Value))) (old new : VectorRows) : Type 0 where
  pub base : new.base ≡ with_rows more old.base
  pub stamps : new.stamps.rows ≡ old.stamps.rows ++ replicate (length more) spare_row
