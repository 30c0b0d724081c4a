-- Which event may come.
use Rattle.std.specs.Prelude.{ℕ, Bool, true, false, ◌&&◌, ◌||◌, not, is_none, is_some, length, Option, Some, None, nat_le, nat_lt}
use Rattle.std.specs.List.{list_all}
use Rattle.dk_types.specs.declared.net.TableNet.{TableNet}
use Rattle.dk_types.specs.declared.reply.Reply.{Reply}
use Rattle.dk_types.specs.declared.vector.VectorId.{VectorId}
use Rattle.dk_si.specs.declared.history.Asked.{Asked}
use Rattle.dk_si.specs.declared.machine.Session.{Session}
use Rattle.dk_si.specs.declared.machine.Transaction.TheVariants as transaction
use Rattle.dk_si.specs.HeldRows.{is_rollback}
use Rattle.dk_si.specs.LawfulCalls.{is_lawful_call}
use Rattle.dk_si.specs.Machine.{asks_for, begins_one, is_outside, session_at, committed_count, meaning_in}
use Rattle.dk_si.specs.Nets.{is_empty}
use Rattle.dk_si.specs.ReplyTests.{is_commit}
use Rattle.dk_core.specs.declared.event.Event.{Event}
use Rattle.dk_core.specs.declared.event.Event.TheVariants as event
use Rattle.dk_core.specs.declared.seat.Seat.{Seat}
use Rattle.dk_core.specs.Core.{Core, seat_at, all_but}
use Rattle.dk_core.specs.Changes.{is_change_of}
use Rattle.dk_core.specs.Commits.{is_placing, is_committing, may_adopt, may_append, may_point}
use Rattle.dk_core.specs.Entries.{entry_of, stands_with}
use Rattle.dk_core.specs.Layout.{groups_of, has_vector}
use Rattle.dk_core.specs.Replies.{is_open_transaction, may_end_call}

abbrev pub is_open : Session → Bool
is_open session = is_open_transaction session.transaction

-- an open transaction whose ROLLBACK is not in flight
abbrev pub is_active : Session → Bool
is_active session = is_open session && not (asks_for is_rollback session.asked)

-- Call: none is in flight, its statement is lawful, and of a transaction that is over no snapshot is left
abbrev pub may_call : Asked → Session → Seat → Bool
may_call asked session seat = (is_none session.asked && is_lawful_call asked)
    && (is_open session || is_none seat.live)

-- Begin: the call in flight begins a transaction, and no Begin of it found that none can begin
abbrev pub may_begin : Session → Seat → Bool
may_begin session seat = (asks_for begins_one session.asked && is_outside session.transaction)
    && (is_none seat.live && is_none seat.found)

-- Change: rows that the statement in flight changes, in an open transaction, where no Change of the call was refused
abbrev pub may_change : Core → VectorId → TableNet → Session → Seat → Bool
may_change core at part session seat = elim session.transaction [
  | transaction.Outside ↦ false
  | transaction.Aborted ↦ false
  | transaction.Open active ↦ elim session.asked [
    | None ↦ false
    | Some asked ↦ (is_none seat.found && not (is_committing seat))
        && is_change_of (groups_of core.layout part.table)
        (committed_count core.opened core.now.commits active part.table)
        seat.made (meaning_in core.opened core.now.commits active asked) at part
  ]
]

-- Reply: one that is no commit, by what the session knows and what its events did
abbrev pub may_reply : Core → Reply → Session → Seat → Bool
may_reply core reply session seat = not (is_commit reply)
    && (not (is_committing seat) && may_end_call core reply session seat)

-- the transaction has made its Point
abbrev pub is_committed : Seat → Bool
is_committed seat = elim seat.live [ None ↦ false | Some live ↦ is_some live.commit ]

-- Stamp: the oldest version that still has its transaction's identifier
abbrev pub may_stamp : Session → Seat → Bool
may_stamp session seat = is_committed seat && not (is_empty seat.versions)

-- Finish: no such version is left
abbrev pub may_finish : Session → Seat → Bool
may_finish session seat = is_committed seat && is_empty seat.versions

-- the transaction is aborted or over without a commit, or its ROLLBACK is in flight
abbrev pub may_go_back : Session → Seat → Bool
may_go_back session seat = (is_some seat.live && not (is_committed seat)) && not (is_active session)

-- Undo: then, the newest version
abbrev pub may_undo : Session → Seat → Bool
may_undo session seat = may_go_back session seat && not (is_empty seat.versions)

-- Leave: then, where no version is left
abbrev pub may_leave : Session → Seat → Bool
may_leave session seat = may_go_back session seat && is_empty seat.versions

-- Mark: a commit lets no other event of its session come between
abbrev pub may_mark : Session → Seat → Bool
may_mark session seat = not (is_committing seat)

-- the bound is no more than the last number, nor than the start of any snapshot
abbrev pub is_bound : Core → ℕ → Bool
is_bound core bound =
    nat_le bound (length core.now.commits)
    && list_all (λ seat. elim seat.live [ None ↦ true | Some live ↦ nat_le bound live.start ]) core.seats

abbrev pub if_both : (Session → Seat → Bool) → Option Session → Option Seat → Bool
if_both test (Some session) (Some seat) = test session seat
if_both test None seat = false
if_both test (Some session) None = false

-- the session is one of the core's, and passes the test
abbrev pub at_session : Core → ℕ → (Session → Seat → Bool) → Bool
at_session core number test =
    nat_le number core.sessions && if_both test (session_at core.now.sessions number) (seat_at core.seats number)

-- no other session is between its first Append or Adopt and its Point
abbrev pub nobody_places : Core → ℕ → Bool
nobody_places core number = list_all (λ seat. not (is_placing seat)) (all_but number core.seats)

-- and none between its two Points
abbrev pub nobody_creates : Core → ℕ → Bool
nobody_creates core number = list_all (λ seat. is_none seat.creates) (all_but number core.seats)

-- what the session's own state allows, and that of the few things that sessions share
abbrev pub allows_locally : Core → Event → Bool
allows_locally core (event.Call number asked) = at_session core number (may_call asked)
allows_locally core (event.Begin number) = at_session core number may_begin
allows_locally core (event.Change number at part) = at_session core number (may_change core at part)
allows_locally core (event.Append number table group first rows) =
    at_session core number (may_append core table group first rows) && nobody_places core number
allows_locally core (event.Adopt number table group first rows) =
    at_session core number (may_adopt core table group first rows) && nobody_places core number
allows_locally core (event.Point number done moment) =
    at_session core number (may_point core done moment) && (nobody_places core number && nobody_creates core number)
allows_locally core (event.Stamp number) = at_session core number may_stamp
allows_locally core (event.Finish number) = at_session core number may_finish
allows_locally core (event.Undo number) = at_session core number may_undo
allows_locally core (event.Drop at bound) = has_vector core.layout at && is_bound core bound
allows_locally core (event.Settle table group root) = nat_lt group (length (groups_of core.layout table))
allows_locally core (event.Reply number reply) = at_session core number (may_reply core reply)
allows_locally core (event.Mark number) = at_session core number may_mark
allows_locally core (event.Leave number) = at_session core number may_leave

-- an event may come now: nothing here asks whether a row is held, and nothing walks over the entries
abbrev pub allows : Core → Event → Bool
allows core event = allows_locally core event && stands_with core (entry_of core event)
