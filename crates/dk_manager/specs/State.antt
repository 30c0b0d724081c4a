-- The manager's state, and what each call makes of it.
use Rattle.std.specs.Prelude.{ℕ, ◌+◌, ◌-◌, ◌*◌, Bool, false, ◌||◌, is_none, is_some, List, map, Option, Some, None, get_or, set, replicate, min, ◌==◌, nat_lt}
use Rattle.std.specs.List.{count_by, fold}
use Rattle.dk_types.specs.declared.reply.Exhausted.{Exhausted}
use Rattle.dk_stamp.specs.declared.snapshot.Pending.{Pending}
use Rattle.dk_stamp.specs.declared.snapshot.Snapshot.{Snapshot}
use Rattle.dk_stamp.specs.declared.snapshot.TheConstants.{FIRST_ID, SESSIONS}
use Rattle.dk_manager.specs.declared.live.LiveSnapshot.{LiveSnapshot}
use Rattle.dk_manager.specs.declared.manager.TheConstants.{MAX_TRANSACTIONS, MAX_ROWS, OPEN_ROWS}

pub record ManagerState : Type 0 where
  -- the last commit's number
  pub last : ℕ
  -- so many transactions have begun
  pub transactions : ℕ
  -- the committed rows
  pub rows : ℕ
  -- of each session its live snapshot
  pub live : List (Option LiveSnapshot)

-- no snapshot is alive
abbrev pub first_state : ℕ → ℕ → ℕ → ManagerState
first_state last transactions rows =
    record { last = last; transactions = transactions; rows = rows; live = replicate SESSIONS None }

-- the session's live snapshot; sessions are numbered from 1
abbrev pub seat_of : ManagerState → ℕ → Option LiveSnapshot
seat_of state session = get_or state.live (session - 1) None

-- a snapshot is alive, and its commit has no number
abbrev pub is_open : Option LiveSnapshot → Bool
is_open None = false
is_open (Some live) = is_none live.commit

-- its commit has its number, and not all versions are stamped
abbrev pub is_pending : Option LiveSnapshot → Bool
is_pending None = false
is_pending (Some live) = is_some live.commit

-- an entry that no transaction's stamp meets
abbrev pub unused_entry : Pending
unused_entry = record { id = 0; number = 0 }

abbrev pub commit_entry : ℕ → Option ℕ → Pending
commit_entry id None = unused_entry
commit_entry id (Some number) = record { id = id; number = number }

-- the pending commit of a session
abbrev pub pending_entry : Option LiveSnapshot → Pending
pending_entry None = unused_entry
pending_entry (Some live) = commit_entry live.id live.commit

-- a snapshot of this moment: the commits so far, of which those pending are noted
abbrev pub snapshot_of : ManagerState → ℕ → Snapshot
snapshot_of state id = record { id = id; start = state.last; committing = map pending_entry state.live }

-- that of the next transaction
abbrev pub next_snapshot : ManagerState → Snapshot
next_snapshot state = snapshot_of state (FIRST_ID + state.transactions)

-- how many snapshots are alive
abbrev pub live_count : ManagerState → ℕ
live_count state = count_by is_some state.live

-- no further transaction can begin: there is no number left, or no room for the rows of all that are alive and this one
abbrev pub is_spent : ManagerState → Bool
is_spent state = state.transactions == MAX_TRANSACTIONS
    || nat_lt MAX_ROWS (state.rows + OPEN_ROWS * (live_count state + 1))

-- the numbers of which none is left
abbrev pub spent_numbers : ManagerState → Exhausted
spent_numbers state =
    record { clock = 0; rows = state.rows; transactions = state.transactions; iteration = 0 }

-- the session has the next transaction
abbrev pub after_begin : ManagerState → ℕ → ManagerState
after_begin state session = record state {
  transactions = state.transactions + 1;
  live = set state.live (session - 1) (Some (record { id = FIRST_ID + state.transactions; start = state.last; commit = None }));
}

abbrev pub with_commit : ℕ → Option LiveSnapshot → Option LiveSnapshot
with_commit number None = None
with_commit number (Some live) = Some (record live { commit = Some number })

-- the session's commit has the next number, and its rows are committed
abbrev pub after_point : ManagerState → ℕ → ℕ → ManagerState
after_point state session rows = record state {
  last = state.last + 1;
  rows = state.rows + rows;
  live = set state.live (session - 1) (with_commit (state.last + 1) (seat_of state session));
}

-- the session has no snapshot
abbrev pub after_end : ManagerState → ℕ → ManagerState
after_end state session = record state { live = set state.live (session - 1) None }

abbrev pub lesser_start : ℕ → Option LiveSnapshot → ℕ
lesser_start least None = least
lesser_start least (Some live) = min least live.start

-- the least start of a live snapshot, or the last commit's number
abbrev pub bound : ManagerState → ℕ
bound state = fold lesser_start state.last state.live
