-- An engine stands behind a history of one thread.
use Rattle.std.specs.Prelude.{ℕ, ◌≡◌, Bool, true, not, ◌||◌, List, [], ◌++◌, Option, Some, None, option_map, slice_get, slice_set, ◌-◌}
use Rattle.dk_types.specs.declared.reply.Refusal.TheVariants as refusal
use Rattle.dk_types.specs.declared.reply.Reply.{Reply}
use Rattle.dk_types.specs.declared.reply.Reply.TheVariants as reply
use Rattle.dk_si.specs.declared.database.Table.{Table}
use Rattle.dk_si.specs.declared.history.Asked.{Asked}
use Rattle.dk_si.specs.declared.history.Entry.{Entry}
use Rattle.dk_si.specs.declared.history.Entry.TheVariants as entry
use Rattle.dk_si.specs.declared.machine.Machine.{Machine}
use Rattle.dk_si.specs.declared.machine.Session.{Session}
use Rattle.dk_si.specs.declared.machine.Transaction.{Transaction}
use Rattle.dk_si.specs.declared.machine.Transaction.TheVariants as transaction
use Rattle.dk_si.specs.Database.{view}
use Rattle.dk_si.specs.Exchanges.{exchanges}
use Rattle.dk_si.specs.Laws.{state_after}
use Rattle.dk_si.specs.Machine.{first_state, next, session_at}
use Rattle.dk_si.specs.OneThread.{is_legal_alone, is_spent_alone}
use Rattle.dk_alone.specs.AnswerHistory.{are_answered, iteration_after, iteration_behind, transaction_at, will_begin}
use Rattle.dk_plain_engine.specs.declared.effect.Outcome.{Outcome}
use Rattle.dk_plain_engine.specs.declared.state.EngineState.{EngineState}
use Rattle.dk_plain_engine.specs.Outcomes.{call_outcome, transaction_after, commit_of, lack_effect}
use Rattle.dk_plain_engine.specs.Still.{still, begun_for, behind_reply, with_transaction, transaction_of}
use Rattle.dk_plain_engine.specs.Turns.{Turn, are_turns, turn_history, turn_entries, is_turn, may_lack, reply_or_lack}
use Rattle.dk_si.specs.Answer.{answer}

-- The entries are a legal history of one thread from an empty database at its first iteration. Each call has its
-- reply: the machine's answer, or want of memory where memory may want. The engine is in the state behind them.
pub record Stands (engine : EngineState) (entries : List Entry) : Type 0 where
  pub legal : is_legal_alone [] 1 entries ≡ true
  pub answered : are_answered (exchanges entries) ≡ true
  pub turns : List Turn
  pub may : are_turns [] 1 first_state turns ≡ true
  pub are : turn_history [] 1 first_state turns ≡ entries
  pub iteration : engine.iteration ≡ iteration_after 1 entries
  pub machine : engine.machine ≡ still (state_after [] first_state entries)

-- the table of a conflict, by its name in the view of the transaction that is refused
abbrev pub name_in : List Table → Reply → Option (List ℕ)
name_in tables (reply.Refused (refusal.Conflict table row by)) = option_map (λ found. found.name) (slice_get tables table)
name_in tables other = None

unfoldable pub conflict_name : Machine → Transaction → Reply → Option (List ℕ)
conflict_name machine (transaction.Open active) reply = name_in (view [] machine.commits active.start active.net) reply
conflict_name machine other reply = None

-- a reply in a state of the machine, with the name of its conflict
pub record IsReply (iteration : ℕ) (machine : Machine) (number : ℕ) (asked : Asked) (lacks : Bool) (reply : Reply)
    (name : Option (List ℕ)) : Type 0 where
  pub is : reply ≡ reply_or_lack lacks (answer [] iteration machine number (transaction_at machine number) asked)
  pub named : name ≡ conflict_name machine (transaction_at machine number) reply

-- The engine has answered one more call: the entries of the call follow, and the reply is the one that stands there.
pub record Answers (engine : EngineState) (entries : List Entry) (number : ℕ) (asked : Asked) (reply : Reply)
    (name : Option (List ℕ)) : Type 0 where
  pub lacks : Bool
  pub may : is_turn [] (state_after [] first_state entries) (record { number = number; asked = asked; lacks = lacks })
      ≡ true
  pub stands : Stands engine (entries ++ turn_entries [] (iteration_after 1 entries) (state_after [] first_state entries)
      (record { number = number; asked = asked; lacks = lacks }))
  pub replied : IsReply (iteration_after 1 entries)
      (begun_for [] (next [] (state_after [] first_state entries) (entry.Call number asked)) number asked) number asked
      lacks reply name

-- the transaction of a session
abbrev pub transaction_in : EngineState → ℕ → Transaction
transaction_in engine number = transaction_of engine.machine.sessions number

-- what a call comes to in the engine's state
abbrev pub outcome_in : EngineState → ℕ → Asked → Outcome
outcome_in engine number asked =
    call_outcome [] engine.iteration engine.machine number (transaction_in engine number) asked

-- an engine behind what a call of a session in that transaction comes to
unfoldable pub carried : EngineState → ℕ → Transaction → Outcome → EngineState
carried engine number transaction outcome = record {
  iteration = iteration_behind engine.iteration outcome.reply;
  machine = with_transaction engine.machine number (transaction_after transaction outcome.effect)
      (commit_of transaction outcome.effect);
}

-- an engine behind want of memory
unfoldable pub lacking : EngineState → ℕ → Transaction → Asked → EngineState
lacking engine number transaction asked = record engine {
  machine = with_transaction engine.machine number (transaction_after transaction (lack_effect transaction asked)) None;
}

-- no further transaction can begin, as one word
unfoldable pub is_full : List Table → Machine → Bool
is_full opened machine = is_spent_alone opened machine

-- a transaction begins with a call
unfoldable pub begins_in : Machine → ℕ → Asked → Bool
begins_in machine number asked = will_begin [] machine number asked

-- the sessions where the transaction of one begins
unfoldable pub sessions_begun : List Session → ℕ → ℕ → ℕ → List Session
sessions_begun sessions number begun start = elim (session_at sessions number) [
  | None ↦ sessions
  | Some before ↦ slice_set sessions (number - 1)
      (record before { transaction = transaction.Open (record { number = begun; start = start; net = []; fresh = true }) })
]

-- an engine in which the transaction of a call has begun, where it makes one
unfoldable pub begun_in : EngineState → ℕ → Asked → EngineState
begun_in engine number asked = record engine { machine = begun_for [] engine.machine number asked }

-- What answering a call makes of an engine.
pub record IsTurn (old new : EngineState) (number : ℕ) (asked : Asked) (reply : Reply) (name : Option (List ℕ)) : Type 0
  where
    pub lacks : Bool
    pub may : (not lacks || may_lack (transaction_at (begun_for [] old.machine number asked) number) asked) ≡ true
    pub replied : IsReply old.iteration (begun_for [] old.machine number asked) number asked lacks reply name
    pub iteration : new.iteration ≡ iteration_behind old.iteration reply
    pub machine : new.machine ≡ behind_reply [] (begun_for [] old.machine number asked) number
        (transaction_at (begun_for [] old.machine number asked) number) asked reply
