-- What a reply says.
use Rattle.std.specs.Prelude.{Bool, true, false, is_some, ◌||◌, ℕ, Option, Some, None, ◌==◌, ◌+◌, List, length, ◌&&◌}
use Rattle.dk_types.specs.declared.net.Commit.{Commit}
use Rattle.dk_types.specs.declared.reply.Receipt.{Receipt}
use Rattle.dk_types.specs.declared.reply.Refusal.{Refusal}
use Rattle.dk_types.specs.declared.reply.Refusal.TheVariants as refusal
use Rattle.dk_types.specs.declared.reply.Reply.{Reply}
use Rattle.dk_types.specs.declared.reply.Reply.TheVariants as reply
use Rattle.dk_si.specs.declared.limits.TheConstants.{MAX_ITERATION}

abbrev pub is_refused : (Refusal → Bool) → Reply → Bool
is_refused test (reply.Refused refusal) = test refusal
is_refused test other = false

abbrev pub is_no_transaction : Refusal → Bool
is_no_transaction refusal.NoTransaction = true
is_no_transaction other = false

abbrev pub is_in_transaction : Refusal → Bool
is_in_transaction refusal.InTransaction = true
is_in_transaction other = false

abbrev pub is_aborted : Refusal → Bool
is_aborted refusal.Aborted = true
is_aborted other = false

abbrev pub is_no_memory : Refusal → Bool
is_no_memory refusal.OutOfMemory = true
is_no_memory other = false

-- what a list of entries can't tell the cause of
abbrev pub is_fault : Refusal → Bool
is_fault (refusal.DiskFault stops) = true
is_fault (refusal.Damaged damage) = true
is_fault refusal.OutOfMemory = true
is_fault other = false

-- the engine is stopped, and this is the number that the next commit would have had
abbrev pub is_stopped : List Commit → Refusal → Bool
is_stopped commits (refusal.Stopped first) = first == length commits + 1
is_stopped commits other = false

abbrev pub is_ended : Reply → Bool
is_ended reply.Ended = true
is_ended other = false

abbrev pub is_begun : ℕ → Reply → Bool
is_begun start (reply.Begun at) = at == start
is_begun start other = false

-- the receipt of the next commit
abbrev pub is_next : List Commit → Receipt → Bool
is_next commits receipt = receipt.number == length commits + 1

abbrev pub is_committed : List Commit → Reply → Bool
is_committed commits (reply.Committed receipt) = is_next commits receipt
is_committed commits other = false

-- no further transaction can begin
abbrev pub is_spent_refusal : Refusal → Bool
is_spent_refusal (refusal.Exhausted numbers) = numbers.iteration == 0
is_spent_refusal other = false

-- no further iteration can be written
abbrev pub has_no_iteration : Refusal → Bool
has_no_iteration (refusal.Exhausted numbers) =
    (numbers.clock == 0 && numbers.rows == 0) && (numbers.transactions == 0 && numbers.iteration == MAX_ITERATION)
has_no_iteration other = false

-- a reply that carries a receipt is a commit
abbrev pub is_commit : Reply → Bool
is_commit (reply.Created receipt) = true
is_commit (reply.Changed count receipt) = is_some receipt
is_commit (reply.Committed receipt) = true
is_commit other = false

abbrev pub is_disk_stop : Refusal → Bool
is_disk_stop (refusal.DiskFault stops) = stops
is_disk_stop other = false

abbrev pub is_stopped_refusal : Refusal → Bool
is_stopped_refusal (refusal.Stopped first) = true
is_stopped_refusal other = false

-- a reply after which no commit follows
abbrev pub is_stop : Reply → Bool
is_stop reply = is_refused is_disk_stop reply || is_refused is_stopped_refusal reply

-- the iteration that a checkpoint was answered
abbrev pub iteration_of : Reply → Option ℕ
iteration_of (reply.Checkpointed iteration) = Some iteration
iteration_of other = None

abbrev pub is_iteration : ℕ → Reply → Bool
is_iteration iteration (reply.Checkpointed other) = other == iteration
is_iteration iteration other = false
