-- What a snapshot sees of the transactions that are alive when it is taken.
use Rattle.std.specs.Prelude.{◌≡◌, ℕ, ◌<◌, Some, None}
use Rattle.dk_stamp.specs.declared.snapshot.TheConstants.{FIRST_ID}
use Rattle.dk_stamp.specs.Laws.{IsOthersCommit}
use Rattle.dk_manager.specs.declared.live.LiveSnapshot.{LiveSnapshot}
use Rattle.dk_manager.specs.declared.manager.TheConstants.{MAX_TRANSACTIONS}
use Rattle.dk_manager.specs.State.{ManagerState, next_snapshot}
use Rattle.dk_manager.specs.Lawful.{IsLawful, HasSnapshot}

-- a pending commit is another's, and the snapshot sees it whether it is stamped or not
abbrev pub PendingIsSeenAlike : Type 0
PendingIsSeenAlike = (state : ManagerState) (place number : ℕ) (live : LiveSnapshot)
    → IsLawful state → state.transactions < MAX_TRANSACTIONS → HasSnapshot state place live → live.commit ≡ Some number
    → IsOthersCommit (next_snapshot state) live.id number

-- one that has its number later is another's too, and the snapshot doesn't see it
abbrev pub LaterIsSeenAlike : Type 0
LaterIsSeenAlike = (state : ManagerState) (place number : ℕ) (live : LiveSnapshot)
    → IsLawful state → state.transactions < MAX_TRANSACTIONS → HasSnapshot state place live → live.commit ≡ None
    → state.last < number → number < FIRST_ID
    → IsOthersCommit (next_snapshot state) live.id number
