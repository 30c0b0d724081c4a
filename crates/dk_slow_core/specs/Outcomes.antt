-- What an event tells the session that made it.
use Rattle.std.specs.Prelude.{ℕ, ◌+◌, Bool, true, false, length, Some, None, if◌then◌else◌}
use Rattle.dk_types.specs.declared.net.TableNet.{TableNet}
use Rattle.dk_types.specs.declared.reply.Refusal.{Refusal}
use Rattle.dk_types.specs.declared.reply.Refusal.TheVariants as refusal
use Rattle.dk_core.specs.declared.event.Done.{Done}
use Rattle.dk_core.specs.declared.event.Done.TheVariants as done
use Rattle.dk_core.specs.declared.event.Event.{Event}
use Rattle.dk_core.specs.declared.event.Event.TheVariants as event
use Rattle.dk_core.specs.Core.{Core}
use Rattle.dk_core.specs.Findings.{conflict, is_full, spent_numbers}
use Rattle.dk_slow_seats.specs.Seats.{start_at}
use Rattle.dk_slow_core.specs.declared.outcome.Outcome.{Outcome}
use Rattle.dk_slow_core.specs.declared.outcome.Outcome.TheVariants as outcome

-- a transaction begins, or the numbers are told of which none is left
abbrev pub begin_outcome : Core → Outcome
begin_outcome core = if is_full core then outcome.Exhausted (spent_numbers core)
    else outcome.Begun core.now.begun (length core.now.commits)

-- the row of a conflict, and its holder
abbrev pub refusal_outcome : Refusal → Outcome
refusal_outcome (refusal.Conflict table row by) = outcome.Conflict row by
refusal_outcome other = outcome.Done

-- a change is made, or a conflict is told
abbrev pub change_outcome : Core → ℕ → TableNet → Outcome
change_outcome core number part = elim (start_at core.seats number) [
  | None ↦ outcome.Done
  | Some start ↦ elim (conflict core number start part) [
    | None ↦ outcome.Done
    | Some refusal ↦ refusal_outcome refusal
  ]
]

-- the number of the next commit
abbrev pub numbered : Core → Outcome
numbered core = outcome.Numbered (length core.now.commits + 1)

-- the first point of a creation is no commit
abbrev pub point_outcome : Core → Done → Outcome
point_outcome core (done.Create name schema) = outcome.Done
point_outcome core done.Created = numbered core
point_outcome core (done.Changed count) = numbered core
point_outcome core done.Commit = numbered core

abbrev pub outcome_of : Core → Event → Outcome
outcome_of core (event.Begin number) = begin_outcome core
outcome_of core (event.Change number at part) = change_outcome core number part
outcome_of core (event.Point number done moment) = point_outcome core done
outcome_of core other = outcome.Done

-- an event that may find no memory; the others never do
abbrev pub takes_memory : Event → Bool
takes_memory (event.Stamp number) = false
takes_memory (event.Finish number) = false
takes_memory (event.Undo number) = false
takes_memory (event.Drop at bound) = false
takes_memory (event.Settle table group root) = false
takes_memory (event.Mark number) = false
takes_memory (event.Leave number) = false
takes_memory other = true
