-- The text of each reply, to the byte.
use Rattle.std.specs.Prelude.{ℕ, Bool, true, false, List, [], ◌∷◌, ◌++◌, length, codes, decimal, flat_map}
use Rattle.dk_types.specs.Texts.{damage_text}
use Rattle.dk_texts.specs.Fields.{quote_mark, value_text}
use Rattle.dk_values.specs.declared.value.Value.{Value}
use Rattle.dk_types.specs.declared.reply.Holder.{Holder}
use Rattle.dk_types.specs.declared.reply.Holder.TheVariants as holder
use Rattle.dk_types.specs.declared.reply.Reply.{Reply}
use Rattle.dk_types.specs.declared.reply.Reply.TheVariants.{Created, Changed, Rows, Begun, Committed, Ended, Checkpointed, Refused}
use Rattle.dk_types.specs.declared.reply.Refusal.{Refusal}
use Rattle.dk_types.specs.declared.reply.Refusal.TheVariants.{Syntax, NoTable, NoColumn, TypeMismatch, SameColumn, NotGrouped, TableExists, TooManyTables, OutOfRange, BadField, TooLarge, Conflict, Aborted, InTransaction, NoTransaction, Stopped, DiskFault, Damaged, Exhausted, OutOfMemory, Unsupported}

-- the values behind the first one of a line
abbrev pub more_values : List Value → List ℕ
more_values values = flat_map (λ v. codes "," ++ value_text v) values

-- the values with commas between them
abbrev pub values_text : List Value → List ℕ
values_text [] = []
values_text (v ∷ values) = value_text v ++ more_values values

-- what stands for no bytes is two quotes
abbrev pub shown : List ℕ → List ℕ
shown [] = quote_mark ∷ quote_mark ∷ []
shown (b ∷ bytes) = b ∷ bytes

-- a line of a result, never an empty one
abbrev pub row_text : List Value → List ℕ
row_text row = shown (values_text row) ++ codes "\n"

abbrev pub rows_text : List (List Value) → List ℕ
rows_text rows = flat_map row_text rows

abbrev pub holder_text : Holder → List ℕ
holder_text (holder.Transaction k) = codes " transaction " ++ decimal k
holder_text (holder.Commit n) = codes " commit " ++ decimal n

abbrev pub fault_text : Bool → List ℕ
fault_text true = codes "disk fault stopped"
fault_text false = codes "disk fault"

-- a refusal, where that is the name of the table that it is about
abbrev pub refusal_text : List ℕ → Refusal → List ℕ
refusal_text name (Syntax at) = codes "syntax error at " ++ decimal at
refusal_text name (NoTable at) = codes "no table at " ++ decimal at
refusal_text name (NoColumn at) = codes "no column at " ++ decimal at
refusal_text name (TypeMismatch at) = codes "type mismatch at " ++ decimal at
refusal_text name (SameColumn at) = codes "same column at " ++ decimal at
refusal_text name (NotGrouped at) = codes "not grouped at " ++ decimal at
refusal_text name (TableExists at) = codes "table exists at " ++ decimal at
refusal_text name TooManyTables = codes "too many tables"
refusal_text name (OutOfRange row) = codes "out of range row " ++ decimal row
refusal_text name (BadField row field) = codes "bad field " ++ decimal row ++ codes " " ++ decimal field
refusal_text name (TooLarge bytes rows) = codes "too large " ++ decimal bytes ++ codes " " ++ decimal rows
refusal_text name (Conflict table row by) = codes "conflict " ++ name ++ codes " " ++ decimal row ++ holder_text by
refusal_text name Aborted = codes "aborted"
refusal_text name InTransaction = codes "in transaction"
refusal_text name NoTransaction = codes "no transaction"
refusal_text name (Stopped first) = codes "stopped " ++ decimal first
refusal_text name (DiskFault stops) = fault_text stops
refusal_text name (Damaged damage) = damage_text damage
refusal_text name (Exhausted numbers) = codes "exhausted"
refusal_text name OutOfMemory = codes "out of memory"
refusal_text name Unsupported = codes "unsupported"

-- a reply, its rows each in a line of its own
abbrev pub reply_text : List ℕ → Reply → List ℕ
reply_text name (Created receipt) = codes "created\n"
reply_text name (Changed count receipt) = codes "changed " ++ decimal count ++ codes "\n"
reply_text name (Rows rows) = codes "rows " ++ decimal (length rows) ++ codes "\n" ++ rows_text rows
reply_text name (Begun start) = codes "begun " ++ decimal start ++ codes "\n"
reply_text name (Committed receipt) = codes "committed " ++ decimal receipt.number ++ codes "\n"
reply_text name Ended = codes "ended\n"
reply_text name (Checkpointed iteration) = codes "checkpointed " ++ decimal iteration ++ codes "\n"
reply_text name (Refused refusal) = refusal_text name refusal ++ codes "\n"

-- the reply to a session, with its number in front
abbrev pub session_text : ℕ → List ℕ → Reply → List ℕ
session_text session name reply = decimal session ++ codes " " ++ reply_text name reply
