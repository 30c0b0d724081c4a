-- Histories that go on: their calls and texts, and what they tell went wrong.
use Rattle.std.proofs.Common.{◌≡◌, ℕ, List, [], ◌∷◌, ◌++◌, Option, Some, None, refl, sym, ap, ◌∙◌, append_assoc}
use Rattle.std.specs.Prelude.{unwrap_or}
use Rattle.std.proofs.lemmas.List.{append-nil}
use Rattle.dk_types.specs.declared.reply.Reply.{Reply}
use Rattle.dk_si.specs.declared.history.Asked.{Asked}
use Rattle.dk_si.specs.declared.history.Entry.{Entry}
use Rattle.dk_si.specs.declared.history.Entry.TheVariants as entry
use Rattle.dk_si.specs.declared.machine.Machine.{Machine}
use Rattle.dk_si.specs.Laws.{state_after}
use Rattle.dk_si.specs.Machine.{next}
use Rattle.dk_alone.specs.AnswerHistory.{calls_of}
use Rattle.dk_script.specs.Calls.{IsRead, AreRead}
use Rattle.dk_script.specs.Histories.{name_told, entry_text, history_text, trouble_after, trouble_behind}
use Rattle.dk_script.specs.RunnerCalls.{Start, exchange, state_replied}
use Rattle.dk_texts.specs.Texts.{session_text}
use Rattle.dk_script.specs.declared.trouble.Trouble.{Trouble}

pub text_append : (front more : List Entry) (machine : Machine)
    → history_text machine (front ++ more)
    ≡ history_text machine front ++ history_text (state_after [] machine front) more
text_append [] more machine = refl
text_append (entry ∷ front) more machine =
    ap (λ xs. entry_text machine entry ++ xs) (text_append front more (next [] machine entry))
    ∙ sym (append_assoc (entry_text machine entry) (history_text (next [] machine entry) front)
    (history_text (state_after [] (next [] machine entry) front) more))

pub calls_append : (front more : List Entry) → calls_of (front ++ more) ≡ calls_of front ++ calls_of more
calls_append [] more = refl
calls_append (entry.Call session asked ∷ front) more = ap (λ xs. (session, asked) ∷ xs) (calls_append front more)
calls_append (entry.Begun session number start ∷ front) more = calls_append front more
calls_append (entry.Reply session reply ∷ front) more = calls_append front more

pub trouble_append : (front more : List Entry) (before : Trouble)
    → trouble_after before (front ++ more) ≡ trouble_after (trouble_after before front) more
trouble_append [] more before = refl
trouble_append (entry.Call session asked ∷ front) more before = trouble_append front more before
trouble_append (entry.Begun session number start ∷ front) more before = trouble_append front more before
trouble_append (entry.Reply session reply ∷ front) more before = trouble_append front more (trouble_behind before reply)

pub read_append : (requests others : List (ℕ × List ℕ)) (calls more : List (ℕ × Asked)) → AreRead requests calls
    → AreRead others more → AreRead (requests ++ others) (calls ++ more)
read_append [] others [] more read rest = rest
read_append [] others (call ∷ calls) more read rest = absurd read
read_append (request ∷ requests) others [] more read rest = absurd read
read_append (request ∷ requests) others (call ∷ calls) more read rest =
    (read.0, read.1, read_append requests others calls more read.2 rest)

-- the text of a call's entries is that of its reply
pub exchange_text : (machine : Machine) (session : ℕ) (asked : Asked) (start : Option Start) (reply : Reply)
    (name : Option (List ℕ)) → name ≡ name_told (state_replied machine session asked start) session reply
    → history_text machine (exchange session asked start reply) ≡ session_text session (unwrap_or name []) reply
exchange_text machine session asked None reply name is =
    append-nil _ ∙ ap (λ n. session_text session (unwrap_or n []) reply) (sym is)
exchange_text machine session asked (Some start) reply name is =
    append-nil _ ∙ ap (λ n. session_text session (unwrap_or n []) reply) (sym is)

-- its call is one
pub exchange_read : (session : ℕ) (text : List ℕ) (asked : Asked) (start : Option Start) (reply : Reply)
    → IsRead text [] asked → AreRead ((session, text) ∷ []) (calls_of (exchange session asked start reply))
exchange_read session text asked None reply read = (refl, read, tt)
exchange_read session text asked (Some start) reply read = (refl, read, tt)

-- and so is its reply
pub exchange_trouble : (session : ℕ) (asked : Asked) (start : Option Start) (reply : Reply) (before : Trouble)
    → trouble_after before (exchange session asked start reply) ≡ trouble_behind before reply
exchange_trouble session asked None reply before = refl
exchange_trouble session asked (Some start) reply before = refl
