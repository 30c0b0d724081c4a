-- No text tells the moment of a receipt.
use Rattle.std.proofs.Common.{◌≡◌, ℕ, List, [], ◌∷◌, ◌++◌, map, refl, ap, ◌∙◌}
use Rattle.std.specs.Prelude.{codes, decimal, unwrap_or}
use Rattle.dk_types.specs.declared.reply.Reply.{Reply}
use Rattle.dk_types.specs.declared.reply.Reply.TheVariants as reply
use Rattle.dk_si.specs.declared.database.Table.{Table}
use Rattle.dk_si.specs.declared.history.Entry.{Entry}
use Rattle.dk_si.specs.declared.history.Entry.TheVariants as entry
use Rattle.dk_si.specs.declared.machine.Machine.{Machine}
use Rattle.dk_si.specs.Answer.{timeless}
use Rattle.dk_si.specs.Machine.{next}
use Rattle.dk_alone.specs.AnswerHistory.{timeless_entry, transaction_at}
use Rattle.dk_script.specs.Histories.{tables_in, reply_name, entry_text, history_text}
use Rattle.dk_texts.specs.Texts.{session_text, reply_text}
use Rattle.dk_alone.proofs.OnlyAnswerLemmas.{next_timeless}

one_timeless : (machine : Machine) (one : Entry) → next [] machine (timeless_entry one) ≡ next [] machine one
one_timeless machine (entry.Call session asked) = refl
one_timeless machine (entry.Begun session number start) = refl
one_timeless machine (entry.Reply session told) = next_timeless [] machine session told

name_timeless : (tables : List Table) (told : Reply) → reply_name tables (timeless told) ≡ reply_name tables told
name_timeless tables (reply.Created receipt) = refl
name_timeless tables (reply.Changed count receipt) = refl
name_timeless tables (reply.Rows rows) = refl
name_timeless tables (reply.Begun start) = refl
name_timeless tables (reply.Committed receipt) = refl
name_timeless tables reply.Ended = refl
name_timeless tables (reply.Checkpointed iteration) = refl
name_timeless tables (reply.Refused refusal) = refl

reply_timeless : (name : List ℕ) (told : Reply) → reply_text name (timeless told) ≡ reply_text name told
reply_timeless name (reply.Created receipt) = refl
reply_timeless name (reply.Changed count receipt) = refl
reply_timeless name (reply.Rows rows) = refl
reply_timeless name (reply.Begun start) = refl
reply_timeless name (reply.Committed receipt) = refl
reply_timeless name reply.Ended = refl
reply_timeless name (reply.Checkpointed iteration) = refl
reply_timeless name (reply.Refused refusal) = refl

entry_timeless : (machine : Machine) (one : Entry) → entry_text machine (timeless_entry one) ≡ entry_text machine one
entry_timeless machine (entry.Call session asked) = refl
entry_timeless machine (entry.Begun session number start) = refl
entry_timeless machine (entry.Reply session told) =
    let tables = tables_in machine (transaction_at machine session) in
    ap (λ name. session_text session (unwrap_or name []) (timeless told)) (name_timeless tables told)
    ∙ ap (λ text. session_text_of session text) (reply_timeless (unwrap_or (reply_name tables told) []) told)
  where
    session_text_of : ℕ → List ℕ → List ℕ
    session_text_of n text = decimal n ++ codes " " ++ text

pub history_timeless : (entries : List Entry) (machine : Machine)
    → history_text machine (map timeless_entry entries) ≡ history_text machine entries
history_timeless [] machine = refl
history_timeless (one ∷ entries) machine =
    ap (λ xs. xs ++ history_text (next [] machine (timeless_entry one)) (map timeless_entry entries))
    (entry_timeless machine one)
    ∙ (ap (λ m. entry_text machine one ++ history_text m (map timeless_entry entries)) (one_timeless machine one)
    ∙ ap (λ xs. entry_text machine one ++ xs) (history_timeless entries (next [] machine one)))
