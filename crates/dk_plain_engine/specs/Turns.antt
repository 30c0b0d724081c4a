-- Histories of an engine on one thread: each call with its Begun entry, where it makes one, and its reply, which is the
-- machine's answer, or tells want of memory.
use Rattle.std.specs.Prelude.{ℕ, Bool, true, false, not, ◌&&◌, ◌||◌, List, [], ◌∷◌, ◌++◌, if◌then◌else◌}
use Rattle.dk_types.specs.declared.reply.Refusal.TheVariants as refusal
use Rattle.dk_types.specs.declared.reply.Reply.{Reply}
use Rattle.dk_types.specs.declared.reply.Reply.TheVariants as reply
use Rattle.dk_si.specs.declared.database.Table.{Table}
use Rattle.dk_si.specs.declared.history.Asked.{Asked}
use Rattle.dk_si.specs.declared.history.Asked.TheVariants.{Good}
use Rattle.dk_si.specs.declared.history.Entry.{Entry}
use Rattle.dk_si.specs.declared.history.Entry.TheVariants as entry
use Rattle.dk_si.specs.declared.kind.Kind.{Kind}
use Rattle.dk_si.specs.declared.kind.Kind.TheVariants as kind
use Rattle.dk_si.specs.declared.machine.Machine.{Machine}
use Rattle.dk_si.specs.declared.machine.OpenTransaction.{OpenTransaction}
use Rattle.dk_si.specs.declared.machine.Transaction.{Transaction}
use Rattle.dk_si.specs.declared.machine.Transaction.TheVariants as transaction
use Rattle.dk_si.specs.Answer.{answer}
use Rattle.dk_si.specs.Laws.{state_after}
use Rattle.dk_si.specs.Machine.{kind_of, next}
use Rattle.dk_si.specs.Nets.{is_empty}
use Rattle.dk_alone.specs.AnswerHistory.{is_call, iteration_after, transaction_at, will_begin, begun_next}
use Rattle.dk_plain_engine.specs.Still.{begun_for}

-- a call of a session, and whether memory wants while it is answered
pub record Turn : Type 0 where
  pub number : ℕ
  pub asked : Asked
  pub lacks : Bool

-- a statement of that kind takes memory in an open transaction: it reads rows, or writes them
abbrev pub takes_memory : OpenTransaction → Kind → Bool
takes_memory active kind.Create = active.fresh
takes_memory active kind.Select = true
takes_memory active kind.Change = true
takes_memory active kind.Commit = not (is_empty active.net)
takes_memory active other = false

-- memory may want while a call is answered
abbrev pub may_lack : Transaction → Asked → Bool
may_lack (transaction.Open active) (Good statement) = takes_memory active (kind_of statement)
may_lack other asked = false

abbrev pub reply_or_lack : Bool → Reply → Reply
reply_or_lack lacks answered = if lacks then reply.Refused refusal.OutOfMemory else answered

-- the reply in the state behind the call and its Begun entry
abbrev pub turn_reply : List Table → ℕ → Machine → Turn → Reply
turn_reply opened iteration machine turn =
    reply_or_lack turn.lacks (answer opened iteration machine turn.number (transaction_at machine turn.number) turn.asked)

abbrev pub told_next : List Table → ℕ → Machine → Turn → Entry
told_next opened iteration machine turn = entry.Reply turn.number (turn_reply opened iteration machine turn)

-- what follows a call, by whether it begins a transaction
abbrev pub told_if : List Table → ℕ → Machine → Turn → Bool → List Entry
told_if opened iteration machine turn begins =
    if begins
    then begun_next machine turn.number ∷ told_next opened iteration (next opened machine (begun_next machine turn.number)) turn ∷ []
    else told_next opened iteration machine turn ∷ []

-- the entries of a call
abbrev pub turn_entries : List Table → ℕ → Machine → Turn → List Entry
turn_entries opened iteration machine turn =
    let call = entry.Call turn.number turn.asked in
    let now = next opened machine call in
    call ∷ told_if opened iteration now turn (will_begin opened now turn.number turn.asked)

-- the history of these calls, one after the other
abbrev pub turn_history : List Table → ℕ → Machine → List Turn → List Entry
turn_history opened iteration machine [] = []
turn_history opened iteration machine (turn ∷ turns) =
    let entries = turn_entries opened iteration machine turn in
    entries ++ turn_history opened (iteration_after iteration entries) (state_after opened machine entries) turns

-- a session calls lawfully, and memory wants only where it may
abbrev pub is_turn : List Table → Machine → Turn → Bool
is_turn opened machine turn =
    let now = next opened machine (entry.Call turn.number turn.asked) in
    is_call (turn.number, turn.asked)
    && (not turn.lacks || may_lack (transaction_at (begun_for opened now turn.number turn.asked) turn.number) turn.asked)

abbrev pub are_turns : List Table → ℕ → Machine → List Turn → Bool
are_turns opened iteration machine [] = true
are_turns opened iteration machine (turn ∷ turns) =
    let entries = turn_entries opened iteration machine turn in
    is_turn opened machine turn
    && are_turns opened (iteration_after iteration entries) (state_after opened machine entries) turns
