-- The rule of an event in two parts: what it asks of its session, and what it asks of what the sessions share.
use Rattle.std.specs.Prelude.{ℕ, Bool, true, ◌&&◌, Option, Some, None, length, nat_le, nat_lt}
use Rattle.dk_si.specs.declared.machine.Session.{Session}
use Rattle.dk_core.specs.declared.event.Event.{Event}
use Rattle.dk_core.specs.declared.event.Event.TheVariants as event
use Rattle.dk_core.specs.declared.seat.Seat.{Seat}
use Rattle.dk_core.specs.Allows.{at_session, is_bound, may_begin, may_call, may_change, may_finish, may_leave, may_mark}
use Rattle.dk_core.specs.Allows.{may_reply, may_stamp, may_undo, nobody_creates, nobody_places}
use Rattle.dk_core.specs.Commits.{may_adopt, may_append, may_point}
use Rattle.dk_core.specs.Core.{Core}
use Rattle.dk_core.specs.Layout.{groups_of, has_vector}

-- the session of an event, if it is of one
abbrev pub session_of : Event → Option ℕ
session_of (event.Call number asked) = Some number
session_of (event.Begin number) = Some number
session_of (event.Change number at part) = Some number
session_of (event.Append number table group first rows) = Some number
session_of (event.Adopt number table group first rows) = Some number
session_of (event.Point number done moment) = Some number
session_of (event.Stamp number) = Some number
session_of (event.Finish number) = Some number
session_of (event.Undo number) = Some number
session_of (event.Drop at bound) = None
session_of (event.Settle table group root) = None
session_of (event.Reply number reply) = Some number
session_of (event.Mark number) = Some number
session_of (event.Leave number) = Some number

-- what an event asks of a session and its seat
abbrev pub may_come : Core → Event → Session → Seat → Bool
may_come core (event.Call number asked) session seat = may_call asked session seat
may_come core (event.Begin number) session seat = may_begin session seat
may_come core (event.Change number at part) session seat = may_change core at part session seat
may_come core (event.Append number table group first rows) session seat =
    may_append core table group first rows session seat
may_come core (event.Adopt number table group first rows) session seat =
    may_adopt core table group first rows session seat
may_come core (event.Point number done moment) session seat = may_point core done moment session seat
may_come core (event.Stamp number) session seat = may_stamp session seat
may_come core (event.Finish number) session seat = may_finish session seat
may_come core (event.Undo number) session seat = may_undo session seat
may_come core (event.Drop at bound) session seat = true
may_come core (event.Settle table group root) session seat = true
may_come core (event.Reply number reply) session seat = may_reply core reply session seat
may_come core (event.Mark number) session seat = may_mark session seat
may_come core (event.Leave number) session seat = may_leave session seat

-- the session of an event, if it is of one, is there and lets it come
abbrev pub suits_session : Core → Event → Bool
suits_session core event = elim (session_of event) [
  | None ↦ true
  | Some number ↦ at_session core number (may_come core event)
]

-- what an event asks of the other sessions, and of the groups and the last number, which all share
abbrev pub suits_others : Core → Event → Bool
suits_others core (event.Append number table group first rows) = nobody_places core number
suits_others core (event.Adopt number table group first rows) = nobody_places core number
suits_others core (event.Point number done moment) = nobody_places core number && nobody_creates core number
suits_others core (event.Drop at bound) = has_vector core.layout at && is_bound core bound
suits_others core (event.Settle table group root) = nat_lt group (length (groups_of core.layout table))
suits_others core other = true

-- the snapshot of a seat, if it has one, starts from that bound or later
abbrev pub starts_from : ℕ → Seat → Bool
starts_from bound seat = elim seat.live [ None ↦ true | Some live ↦ nat_le bound live.start ]
