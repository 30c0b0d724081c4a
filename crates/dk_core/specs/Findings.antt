-- What an event finds: who made the newest version of a row, and whether a further transaction can begin.
use Rattle.std.specs.Prelude.{ℕ, ◌+◌, ◌*◌, Bool, ◌&&◌, ◌||◌, is_none, is_some, List, [], ◌∷◌, length, Option, Some, None, ◌==◌, nat_lt, if◌then◌else◌}
use Rattle.std.specs.List.{filter}
use Rattle.dk_types.specs.declared.net.TableNet.{TableNet}
use Rattle.dk_types.specs.declared.reply.Exhausted.{Exhausted}
use Rattle.dk_types.specs.declared.reply.Holder.{Holder}
use Rattle.dk_types.specs.declared.reply.Holder.TheVariants as holder
use Rattle.dk_types.specs.declared.reply.Refusal.{Refusal}
use Rattle.dk_types.specs.declared.reply.Refusal.TheVariants as refusal
use Rattle.dk_si.specs.declared.limits.TheConstants.{MAX_TRANSACTIONS, MAX_ROWS}
use Rattle.dk_si.specs.Nets.{net_has}
use Rattle.dk_si.specs.Machine.{changed_ids}
use Rattle.dk_si.specs.Weight.{cap}
use Rattle.dk_si.specs.Spent.{committed_rows}
use Rattle.dk_si.specs.OneThread.{OPEN_ROWS}
use Rattle.dk_si.specs.Answer.{last_change, least_where}
use Rattle.dk_core.specs.declared.seat.Seat.{Seat}
use Rattle.dk_core.specs.Core.{Core, all_but, unstamped}

-- the seat's transaction, where it made a version of the row and has made no Point
abbrev pub writer_in : ℕ → ℕ → Seat → Option ℕ
writer_in table row seat = elim seat.live [
  | None ↦ None
  | Some live ↦ if is_none live.commit && net_has (unstamped seat) table row then Some live.number else None
]

abbrev pub writer_among : ℕ → ℕ → List Seat → Option ℕ
writer_among table row [] = None
writer_among table row (seat ∷ seats) =
    elim (writer_in table row seat) [ None ↦ writer_among table row seats | Some number ↦ Some number ]

-- the seat's transaction, where it made commit n and has a version of the row to stamp
abbrev pub stamper_in : ℕ → ℕ → ℕ → Seat → Option ℕ
stamper_in n table row seat = elim seat.live [
  | None ↦ None
  | Some live ↦ elim live.commit [
    | None ↦ None
    | Some number ↦ if number == n && net_has (unstamped seat) table row then Some live.number else None
  ]
]

abbrev pub stamper_among : ℕ → ℕ → ℕ → List Seat → Option ℕ
stamper_among n table row [] = None
stamper_among n table row (seat ∷ seats) =
    elim (stamper_in n table row seat) [ None ↦ stamper_among n table row seats | Some number ↦ Some number ]

-- who made the row's newest version, as its stamp says it: a transaction, or the last commit that changed the row
abbrev pub newest : Core → ℕ → ℕ → ℕ → Holder
newest core number table row = elim (writer_among table row (all_but number core.seats)) [
  | Some transaction ↦ holder.Transaction transaction
  | None ↦ elim (stamper_among (last_change table row core.now.commits) table row (all_but number core.seats)) [
    | Some transaction ↦ holder.Transaction transaction
    | None ↦ holder.Commit (last_change table row core.now.commits)
  ]
]

-- a snapshot with that start does not see the row's newest version
abbrev pub is_unseen : Core → ℕ → ℕ → ℕ → ℕ → Bool
is_unseen core number start table row =
    is_some (writer_among table row (all_but number core.seats))
    || nat_lt start (last_change table row core.now.commits)

-- the least row of a change whose newest version is unseen
abbrev pub conflict : Core → ℕ → ℕ → TableNet → Option Refusal
conflict core number start part = elim (least_where (is_unseen core number start part.table) (changed_ids part)) [
  | None ↦ None
  | Some row ↦ Some (refusal.Conflict part.table row (newest core number part.table row))
]

abbrev pub has_live : Seat → Bool
has_live seat = is_some seat.live

-- no further transaction can begin: there is no number left, or no room for the rows of all snapshots and this one
abbrev pub is_full : Core → Bool
is_full core =
    core.now.begun == MAX_TRANSACTIONS
    || nat_lt MAX_ROWS
    (committed_rows core.opened core.now.commits + OPEN_ROWS * (length (filter has_live core.seats) + 1))

-- the numbers of which none is left
abbrev pub spent_numbers : Core → Exhausted
spent_numbers core =
    record {
      clock = 0;
      rows = cap (committed_rows core.opened core.now.commits);
      transactions =
          core.now.begun;
      iteration = 0;
    }
