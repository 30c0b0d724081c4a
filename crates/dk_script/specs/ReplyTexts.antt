-- The text of a reply, in two parts.
use Rattle.std.specs.Prelude.{ℕ, List, [], ◌++◌, length, codes, decimal}
use Rattle.dk_types.specs.declared.reply.Reply.{Reply}
use Rattle.dk_types.specs.declared.reply.Reply.TheVariants.{Created, Changed, Rows, Begun, Committed, Ended, Checkpointed, Refused}
use Rattle.dk_texts.specs.Texts.{refusal_text, rows_text}

-- its words, where that is the name of the table that it is about
abbrev pub words_text : List ℕ → Reply → List ℕ
words_text name (Created receipt) = codes "created"
words_text name (Changed count receipt) = codes "changed " ++ decimal count
words_text name (Rows rows) = codes "rows " ++ decimal (length rows)
words_text name (Begun start) = codes "begun " ++ decimal start
words_text name (Committed receipt) = codes "committed " ++ decimal receipt.number
words_text name Ended = codes "ended"
words_text name (Checkpointed iteration) = codes "checkpointed " ++ decimal iteration
words_text name (Refused refusal) = refusal_text name refusal

-- its first line
abbrev pub head_text : ℕ → List ℕ → Reply → List ℕ
head_text session name reply = decimal session ++ (codes " " ++ (words_text name reply ++ codes "\n"))

-- its rows
abbrev pub body_text : Reply → List ℕ
body_text (Rows rows) = rows_text rows
body_text (Created receipt) = []
body_text (Changed count receipt) = []
body_text (Begun start) = []
body_text (Committed receipt) = []
body_text Ended = []
body_text (Checkpointed iteration) = []
body_text (Refused refusal) = []
