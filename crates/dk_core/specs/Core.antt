-- The plain core: the machine, and of each session the snapshot and the versions that it has not stamped or undone.
use Rattle.std.specs.Prelude.{ℕ, ◌+◌, ◌-◌, List, [], ◌++◌, take, drop, length, Option, Some, None, ◌==◌, if◌then◌else◌, slice_get}
use Rattle.std.proofs.Math.ListN.{replicate}
use Rattle.dk_types.specs.declared.net.TableNet.{TableNet}
use Rattle.dk_types.specs.declared.reply.Receipt.{Receipt}
use Rattle.dk_types.specs.declared.reply.Reply.TheVariants as reply
use Rattle.dk_types.specs.declared.reply.Reply.{Reply}
use Rattle.dk_si.specs.declared.database.Table.{Table}
use Rattle.dk_si.specs.declared.history.Entry.{Entry}
use Rattle.dk_si.specs.declared.limits.TheConstants.{SESSIONS}
use Rattle.dk_si.specs.declared.machine.Machine.{Machine}
use Rattle.dk_si.specs.Machine.{first_state}
use Rattle.dk_si.specs.Standing.{FullStanding, first_standing}
use Rattle.dk_core.specs.declared.event.Done.{Done}
use Rattle.dk_core.specs.declared.event.Done.TheVariants as done
use Rattle.dk_core.specs.declared.seat.Seat.{Seat}
use Rattle.dk_core.specs.declared.seat.Snapshot.{Snapshot}
use Rattle.dk_core.specs.Layout.{layout_of}

pub record Core : Type 0 where
  -- the database and the file's iteration at opening
  pub opened : List Table
  pub iteration : ℕ
  -- the sessions have the numbers from 1 to this one
  pub sessions : ℕ
  -- the machine's entries so far, what stands of stops and iterations behind them, and the machine's state
  pub entries : List Entry
  pub standing : FullStanding
  pub now : Machine
  -- what each session has beside what the machine knows of it
  pub seats : List Seat
  -- of each table, how many rows its groups have
  pub layout : List (List ℕ)

abbrev pub no_seat : Seat
no_seat = record { live = None; versions = []; made = []; found = None; creates = None }

abbrev pub first_core : List Table → ℕ → ℕ → Core
first_core opened iteration sessions = record {
  opened = opened;
  iteration = iteration;
  sessions = sessions;
  entries = [];
  standing = first_standing;
  now = first_state;
  seats = replicate SESSIONS no_seat;
  layout = layout_of opened;
}

abbrev pub seat_at : List Seat → ℕ → Option Seat
seat_at seats number = if number == 0 then None else slice_get seats (number - 1)

-- the items of all sessions but this one
abbrev pub all_but : {T : Type 0} → ℕ → List T → List T
all_but number items = take (number - 1) items ++ drop number items

-- the versions that have no commit number yet, newest first
abbrev pub unstamped : Seat → List TableNet
unstamped seat = seat.made ++ seat.versions

-- the snapshot of a transaction that begins: it sees the commits so far, those that are not stamped yet too
abbrev pub next_snapshot : Machine → Snapshot
next_snapshot machine = record { number = machine.begun; start = length machine.commits; commit = None }

abbrev pub next_receipt : Machine → ℕ → Receipt
next_receipt machine moment = record { number = length machine.commits + 1; moment = moment }

-- the reply that a commit point is; the first point of a creation is none yet
abbrev pub point_reply : Machine → Done → ℕ → Option Reply
point_reply machine (done.Create name schema) moment = None
point_reply machine done.Created moment = Some (reply.Created (next_receipt machine moment))
point_reply machine (done.Changed count) moment = Some (reply.Changed count (Some (next_receipt machine moment)))
point_reply machine done.Commit moment = Some (reply.Committed (next_receipt machine moment))
