-- The rows of a vector as one reader sees them.
use Rattle.std.specs.Prelude.{◌≡◌, ◌<◌, ℕ, Bool, true, List, length, Option, Some, None, slice_get, if◌then◌else◌}
use Rattle.std.specs.List.{All}
use Rattle.dk_columns.specs.OptionTables.{OptionTable}
use Rattle.dk_stamp.specs.declared.snapshot.Snapshot.{Snapshot}
use Rattle.dk_stamp.specs.Sees.{sees}
use Rattle.dk_chain.specs.declared.node.Node.{Node}
use Rattle.dk_chain.specs.Nodes.{nodes_at, put_back, unseen_in}
use Rattle.dk_version.specs.declared.stamps.Stamp.{Stamp}
use Rattle.dk_version.specs.Rows.{is_there}
use Rattle.dk_vector.specs.Stacks.{read}
use Rattle.dk_vector.specs.Vectors.{VectorRows, IsRow, stands, base_at, or_base, stack_at}

-- the stamps that a reader sees, or where there is none those of all changes that were not undone
abbrev pub seen_by : Option Snapshot → ℕ → Bool
seen_by None stamp = stands stamp
seen_by (Some snapshot) stamp = sees snapshot stamp

-- what a node replaced is written back, if the node is not seen
pub record IsNodeBack (seen : ℕ → Bool) (node : Node) (old new : OptionTable) : Type 0 where
  pub kinds : new.kinds ≡ old.kinds
  pub count : length new.rows ≡ length old.rows
  pub rows : All (IsRow old.kinds) old.rows → All (IsRow new.kinds) new.rows
  pub each : (row : ℕ) → base_at row new ≡ or_base (base_at row old) (unseen_in seen row node)

-- what the unseen ones of the nodes replaced is written back, the newest first, but for those that are left
pub record IsPutBack (seen : ℕ → Bool) (nodes left : List Node) (old new : OptionTable) : Type 0 where
  pub kinds : new.kinds ≡ old.kinds
  pub count : length new.rows ≡ length old.rows
  pub rows : All (IsRow old.kinds) old.rows → All (IsRow new.kinds) new.rows
  pub each : (row : ℕ) → put_back seen (base_at row new) (nodes_at row left) ≡ put_back seen (base_at row old) (nodes_at row nodes)

abbrev pub is_there_at : (ℕ → Bool) → Option Stamp → Bool
is_there_at seen None = true
is_there_at seen (Some stamp) = is_there seen stamp

-- rows that are not there are missing, and the others are as before
pub record IsHidden (seen : ℕ → Bool) (stamps : List Stamp) (old new : OptionTable) : Type 0 where
  pub kinds : new.kinds ≡ old.kinds
  pub count : length new.rows ≡ length old.rows
  pub each : (row : ℕ) → row < length stamps → slice_get new.rows row ≡ (if is_there_at seen (slice_get stamps row) then slice_get old.rows row else Some None)

-- each row of a vector as a reader sees it
pub record IsPage (seen : ℕ → Bool) (vector : VectorRows) (page : OptionTable) : Type 0 where
  pub kinds : page.kinds ≡ vector.base.kinds
  pub count : length page.rows ≡ length vector.stamps.rows
  pub each : (row : ℕ) → row < length vector.stamps.rows → slice_get page.rows row ≡ Some (read seen (stack_at vector row))
