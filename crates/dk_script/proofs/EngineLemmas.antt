-- What the engine answered is the entries of one more call.
use Rattle.std.proofs.Common.{◌≡◌, ℕ, Bool, true, false, List, [], ◌∷◌, ◌++◌, length, Some, None, refl, sym, subst, ◌∙◌}
use Rattle.std.specs.Prelude.{if◌then◌else◌}
use Rattle.dk_types.specs.declared.reply.Refusal.{Refusal}
use Rattle.dk_types.specs.declared.reply.Refusal.TheVariants as refusal
use Rattle.dk_types.specs.declared.reply.Reply.{Reply}
use Rattle.dk_types.specs.declared.reply.Reply.TheVariants as reply
use Rattle.dk_si.specs.declared.database.Table.{Table}
use Rattle.dk_si.specs.declared.history.Asked.{Asked}
use Rattle.dk_si.specs.declared.history.Entry.{Entry}
use Rattle.dk_si.specs.declared.history.Entry.TheVariants as entry
use Rattle.dk_si.specs.declared.machine.Machine.{Machine}
use Rattle.dk_si.specs.declared.machine.Transaction.{Transaction}
use Rattle.dk_si.specs.declared.machine.Transaction.TheVariants as transaction
use Rattle.dk_si.specs.Laws.{state_after}
use Rattle.dk_si.specs.Machine.{first_state, next}
use Rattle.dk_alone.specs.AnswerHistory.{begun_next, iteration_after, transaction_at, will_begin}
use Rattle.dk_plain_engine.specs.Stands.{Answers, Stands, conflict_name, name_in}
use Rattle.dk_plain_engine.specs.Turns.{Turn, told_if, turn_reply}
use Rattle.dk_script.specs.Calls.{IsRead}
use Rattle.dk_script.specs.Histories.{refusal_name, reply_name, tables_in}
use Rattle.dk_script.specs.RunnerCalls.{AnswersCall}
use Rattle.dk_script.specs.declared.engine_runner.EngineRunner.{EngineRunner}
use Rattle.dk_plain_engine.specs.declared.engine.Answer.{Answer}

refused_name : (tables : List Table) (why : Refusal) → name_in tables (reply.Refused why) ≡ refusal_name tables why
refused_name tables (refusal.Conflict table row by) = refl
refused_name tables other = refl

seen_name : (tables : List Table) (told : Reply) → name_in tables told ≡ reply_name tables told
seen_name tables (reply.Refused why) = refused_name tables why
seen_name tables other = refl

none_refused : (why : Refusal) → None ≡ refusal_name [] why
none_refused (refusal.Conflict table row by) = refl
none_refused other = refl

none_seen : (told : Reply) → None ≡ reply_name [] told
none_seen (reply.Refused why) = none_refused why
none_seen other = refl

-- the engine names a conflict's table as a script tells it
same_name : (machine : Machine) (within : Transaction) (told : Reply)
    → conflict_name machine within told ≡ reply_name (tables_in machine within) told
unfolding conflict_name
same_name machine (transaction.Open active) told = seen_name (tables_in machine (transaction.Open active)) told
same_name machine transaction.Outside told = none_seen told
same_name machine transaction.Aborted told = none_seen told

module _ (runner : EngineRunner) (entries : List Entry) (session : ℕ) (text copy : List ℕ) (asked : Asked)
    (answer : Answer) (read : IsRead text copy asked)
    (done : Answers runner.engine entries session asked answer.reply answer.name) where
  abbrev machine : Machine
  machine = state_after [] first_state entries

  abbrev now : Machine
  now = next [] machine (entry.Call session asked)

  abbrev turn : Turn
  turn = record { number = session; asked = asked; lacks = done.lacks }

  abbrev behind : Bool → Machine
  behind begins = if begins then next [] now (begun_next now session) else now

  by_start : (b : Bool)
      → answer.reply ≡ turn_reply [] (iteration_after 1 entries) (behind b) turn
      → answer.name ≡ conflict_name (behind b) (transaction_at (behind b) session) answer.reply
      → Stands runner.engine (entries ++ entry.Call session asked ∷ told_if [] (iteration_after 1 entries) now turn b)
      → AnswersCall (λ (over : EngineRunner) list. Stands over.engine list) runner entries session text copy answer
  by_start true same named stood = record {
    asked = asked;
    start = Some (now.begun, length now.commits);
    read = read;
    stood = subst (λ r. Stands runner.engine (entries ++ entry.Call session asked ∷ begun_next now session
        ∷ entry.Reply session r ∷ [])) (sym same) stood;
    name = named ∙ same_name (behind true) (transaction_at (behind true) session) answer.reply;
  }
  by_start false same named stood = record {
    asked = asked;
    start = None;
    read = read;
    stood = subst (λ r. Stands runner.engine (entries ++ entry.Call session asked ∷ entry.Reply session r ∷ []))
        (sym same) stood;
    name = named ∙ same_name now (transaction_at now session) answer.reply;
  }

  pub call_answered :
      AnswersCall (λ (over : EngineRunner) list. Stands over.engine list) runner entries session text copy answer
  call_answered =
      by_start (will_begin [] now session asked) done.replied.is done.replied.named done.stands
