-- What always holds of the manager's numbers.
use Rattle.std.specs.Prelude.{◌≡◌, ℕ, ◌+◌, ◌*◌, ◌^◌, ◌<◌, ◌≤◌, IfSome, Some, None, get_or, length}
use Rattle.std.specs.List.{count_by}
use Rattle.dk_stamp.specs.declared.snapshot.TheConstants.{FIRST_ID, SESSIONS}
use Rattle.dk_manager.specs.declared.live.LiveSnapshot.{LiveSnapshot}
use Rattle.dk_manager.specs.declared.manager.TheConstants.{MAX_TRANSACTIONS, MAX_ROWS, OPEN_ROWS}
use Rattle.dk_manager.specs.State.{ManagerState, is_open}

-- the place's session has this snapshot
abbrev pub HasSnapshot : ManagerState → ℕ → LiveSnapshot → Type 0
HasSnapshot state place live = get_or state.live place None ≡ Some live

-- how many live transactions have no commit number
abbrev pub open_count : ManagerState → ℕ
open_count state = count_by is_open state.live

pub record IsLawful (state : ManagerState) : Type 0 where
  pub sessions : length state.live ≡ SESSIONS
  pub transactions : state.transactions ≤ MAX_TRANSACTIONS
  -- every open transaction can still have a number below the identifiers
  pub numbers : state.last + open_count state < 2 ^ 61 + state.transactions
  -- and its rows
  pub rows : 0 < open_count state → state.rows + OPEN_ROWS * open_count state ≤ MAX_ROWS
  -- a live transaction has begun
  pub begun : (place : ℕ) (live : LiveSnapshot) → HasSnapshot state place live
      → (FIRST_ID ≤ live.id) × (live.id < FIRST_ID + state.transactions)
  -- it sees commits that were made
  pub starts : (place : ℕ) (live : LiveSnapshot) → HasSnapshot state place live → live.start ≤ state.last
  -- and not its own, which has one of the numbers that were given
  pub commits : (place : ℕ) (live : LiveSnapshot) → HasSnapshot state place live
      → IfSome live.commit (λ number. (live.start < number) × (number ≤ state.last))
  -- no two have one identifier
  pub ids_apart : (a b : ℕ) (one other : LiveSnapshot) → HasSnapshot state a one → HasSnapshot state b other
      → one.id ≡ other.id → a ≡ b
  -- and no two commits one number
  pub commits_apart : (a b number : ℕ) (one other : LiveSnapshot) → HasSnapshot state a one → HasSnapshot state b other
      → one.commit ≡ Some number → other.commit ≡ Some number → a ≡ b
