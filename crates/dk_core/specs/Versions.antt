-- What holds of all seats' snapshots and versions: what a store of stamped versions stands on.
use Rattle.std.specs.Prelude.{◌≡◌, ℕ, ◌<◌, ◌≤◌, Bool, true, ◌&&◌, not, List, [], ◌∷◌, length, Some, ◌==◌, slice_get}
use Rattle.std.specs.List.{list_any}
use Rattle.dk_types.specs.declared.net.TableNet.{TableNet}
use Rattle.dk_si.specs.Database.{after}
use Rattle.dk_si.specs.Nets.{has_id, net_has, part_has, row_count}
use Rattle.dk_core.specs.declared.seat.Seat.{Seat}
use Rattle.dk_core.specs.declared.seat.Snapshot.{Snapshot}
use Rattle.dk_core.specs.Core.{Core, unstamped}
use Rattle.dk_core.specs.Commits.{is_placing}

-- the seat of that place has this snapshot
abbrev pub HasSnapshot : Core → ℕ → Seat → Snapshot → Type 0
HasSnapshot core place seat live = (slice_get core.seats place ≡ Some seat) × (seat.live ≡ Some live)

-- the numbers of snapshots and of their commits
pub record Numbered (core : Core) : Type 0 where
  -- a snapshot's transaction has begun, and sees commits that were made
  pub begun : (place : ℕ) (seat : Seat) (live : Snapshot) → HasSnapshot core place seat live
      → (live.number < core.now.begun) × (live.start ≤ length core.now.commits)
  -- no two have one number
  pub apart : (a b : ℕ) (one other : Seat) (live more : Snapshot) → HasSnapshot core a one live
      → HasSnapshot core b other more
      → live.number ≡ more.number → a ≡ b
  -- the number of its commit is one that was given
  pub pointed : (place : ℕ) (seat : Seat) (live : Snapshot) (number : ℕ) → HasSnapshot core place seat live
      → live.commit ≡ Some number
      → (0 < number) × (number ≤ length core.now.commits)
  -- and no other has it
  pub commits_apart : (a b : ℕ) (one other : Seat) (live more : Snapshot) (number : ℕ) → HasSnapshot core a one live
      → HasSnapshot core b other more
      → live.commit ≡ Some number → more.commit ≡ Some number → a ≡ b
  -- behind its Point a transaction makes no version
  pub stamped : (place : ℕ) (seat : Seat) (live : Snapshot) (number : ℕ) → HasSnapshot core place seat live
      → live.commit ≡ Some number → seat.made ≡ []

-- a row that an open transaction has appended stands behind all committed ones, so no other has a version of it
pub record Placed (core : Core) : Type 0 where
  -- a version has rows that were committed when its transaction began
  pub committed : (place : ℕ) (seat : Seat) (live : Snapshot) (table row : ℕ) → HasSnapshot core place seat live
      → net_has (unstamped seat) table row ≡ true
      → row < row_count (after core.opened core.now.commits live.start) table
  -- no two transactions put rows into groups at a time
  pub alone : (a b : ℕ) (one other : Seat) → slice_get core.seats a ≡ Some one → slice_get core.seats b ≡ Some other
      → is_placing one ≡ true → is_placing other ≡ true → a ≡ b

-- some version deletes the row
abbrev pub is_deleted_by : ℕ → ℕ → List TableNet → Bool
is_deleted_by table row parts = list_any (λ part. part.table == table && has_id part.deletes row) parts

-- of versions, newest first, none has a row that an older one deleted
abbrev pub is_ordered : ℕ → ℕ → List TableNet → Bool
is_ordered table row [] = true
is_ordered table row (part ∷ parts) =
    not (is_deleted_by table row parts && (part.table == table && part_has part row)) && is_ordered table row parts

-- a row that a transaction deleted has no newer version of the transaction
pub record Ordered (core : Core) : Type 0 where
  pub ordered : (place : ℕ) (seat : Seat) (table row : ℕ) → slice_get core.seats place ≡ Some seat
      → is_ordered table row (unstamped seat) ≡ true
