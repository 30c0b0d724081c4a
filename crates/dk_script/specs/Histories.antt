-- What a history prints: the texts of its replies, one after another, and what they tell went wrong.
use Rattle.std.specs.Prelude.{ℕ, List, [], ◌∷◌, ◌++◌, Option, None, option_map, unwrap_or, slice_get}
use Rattle.dk_types.specs.declared.damage.Damage.{Damage}
use Rattle.dk_types.specs.declared.reply.Refusal.{Refusal}
use Rattle.dk_types.specs.declared.reply.Refusal.TheVariants as refusal
use Rattle.dk_types.specs.declared.reply.Reply.{Reply}
use Rattle.dk_types.specs.declared.reply.Reply.TheVariants as reply
use Rattle.dk_types.specs.declared.status.Status.{Status}
use Rattle.dk_types.specs.declared.status.Status.TheVariants as status
use Rattle.dk_si.specs.declared.database.Table.{Table}
use Rattle.dk_si.specs.declared.history.Entry.{Entry}
use Rattle.dk_si.specs.declared.history.Entry.TheVariants as entry
use Rattle.dk_si.specs.declared.machine.Machine.{Machine}
use Rattle.dk_si.specs.declared.machine.Transaction.{Transaction}
use Rattle.dk_si.specs.declared.machine.Transaction.TheVariants as transaction
use Rattle.dk_si.specs.Database.{view}
use Rattle.dk_si.specs.Machine.{next}
use Rattle.dk_alone.specs.AnswerHistory.{transaction_at}
use Rattle.dk_texts.specs.Texts.{session_text}
use Rattle.dk_script.specs.declared.trouble.Trouble.{Trouble}
use Rattle.dk_script.specs.declared.trouble.Trouble.TheVariants as trouble

-- the tables that a transaction sees; a script begins with none
abbrev pub tables_in : Machine → Transaction → List Table
tables_in machine transaction.Outside = []
tables_in machine transaction.Aborted = []
tables_in machine (transaction.Open active) = view [] machine.commits active.start active.net

-- the name of the table that a refusal is about, where these tables are seen: a Conflict alone has one
abbrev pub refusal_name : List Table → Refusal → Option (List ℕ)
refusal_name tables (refusal.Conflict table row by) = option_map (λ t. t.name) (slice_get tables table)
refusal_name tables other = None

abbrev pub reply_name : List Table → Reply → Option (List ℕ)
reply_name tables (reply.Refused refusal) = refusal_name tables refusal
reply_name tables other = None

-- the name that the reply to a session's call in flight tells
abbrev pub name_told : Machine → ℕ → Reply → Option (List ℕ)
name_told machine session reply = reply_name (tables_in machine (transaction_at machine session)) reply

-- the text of an entry: a reply prints, and nothing else does
abbrev pub entry_text : Machine → Entry → List ℕ
entry_text machine (entry.Call session asked) = []
entry_text machine (entry.Begun session number start) = []
entry_text machine (entry.Reply session reply) =
    session_text session (unwrap_or (name_told machine session reply) []) reply

-- the text of entries that come in this state
abbrev pub history_text : Machine → List Entry → List ℕ
history_text machine [] = []
history_text machine (entry ∷ entries) = entry_text machine entry ++ history_text (next [] machine entry) entries

-- the gravest of what was told, and damage, or want of memory
abbrev pub with_damage : Trouble → Damage → Trouble
with_damage trouble.Nothing found = trouble.Damage found
with_damage trouble.Want found = trouble.Damage found
with_damage (trouble.Damage first) found = trouble.Damage first
with_damage trouble.Fault found = trouble.Fault

abbrev pub with_want : Trouble → Trouble
with_want trouble.Nothing = trouble.Want
with_want trouble.Want = trouble.Want
with_want (trouble.Damage first) = trouble.Damage first
with_want trouble.Fault = trouble.Fault

-- the gravest with one more refusal
abbrev pub trouble_with : Trouble → Refusal → Trouble
trouble_with before (refusal.DiskFault stops) = trouble.Fault
trouble_with before (refusal.Damaged found) = with_damage before found
trouble_with before refusal.OutOfMemory = with_want before
trouble_with before other = before

-- with one more reply
abbrev pub trouble_behind : Trouble → Reply → Trouble
trouble_behind before (reply.Refused refusal) = trouble_with before refusal
trouble_behind before other = before

-- with one more history
abbrev pub trouble_after : Trouble → List Entry → Trouble
trouble_after before [] = before
trouble_after before (entry.Call session asked ∷ entries) = trouble_after before entries
trouble_after before (entry.Begun session number start ∷ entries) = trouble_after before entries
trouble_after before (entry.Reply session reply ∷ entries) = trouble_after (trouble_behind before reply) entries

-- the status of a run that came to the end of its script
abbrev pub status_for : Trouble → Status
status_for trouble.Nothing = status.Done
status_for trouble.Want = status.OutOfMemory
status_for (trouble.Damage found) = status.Damaged found
status_for trouble.Fault = status.DiskFault
