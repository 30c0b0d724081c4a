-- What an engine on one thread keeps of the machine's state: the commits, how many transactions have begun, and each
-- session's transaction. What sessions last held is asked for only beside other threads, and no call is in flight
-- between two calls.
use Rattle.std.specs.Prelude.{ℕ, ◌-◌, List, map, ◌++◌, Option, Some, None, option_to_list, slice_set, if◌then◌else◌}
use Rattle.dk_types.specs.declared.net.Commit.{Commit}
use Rattle.dk_types.specs.declared.reply.Reply.{Reply}
use Rattle.dk_si.specs.declared.database.Table.{Table}
use Rattle.dk_si.specs.declared.history.Asked.{Asked}
use Rattle.dk_si.specs.declared.machine.Machine.{Machine}
use Rattle.dk_si.specs.declared.machine.Session.{Session}
use Rattle.dk_si.specs.declared.machine.Transaction.{Transaction}
use Rattle.dk_si.specs.declared.machine.Transaction.TheVariants as transaction
use Rattle.dk_si.specs.Machine.{next, session_at, session_behind, transition, after_aborted}
use Rattle.dk_alone.specs.AnswerHistory.{will_begin, begun_next}

-- a session of which only its transaction is kept
abbrev pub still_session : Session → Session
still_session session = session_behind session.transaction None None

abbrev pub still : Machine → Machine
still machine = record machine { sessions = map still_session machine.sessions }

abbrev pub state_of : List Commit → ℕ → List Session → Machine
state_of commits begun sessions = record { commits = commits; begun = begun; sessions = sessions }

-- the state in which a call is answered: behind its Begun entry, where it makes one
abbrev pub begun_for : List Table → Machine → ℕ → Asked → Machine
begun_for opened machine number asked =
    if will_begin opened machine number asked then next opened machine (begun_next machine number) else machine

-- what a reply makes of a session's transaction
abbrev pub transaction_behind : List Table → List Commit → Transaction → Asked → Reply → Transaction
transaction_behind opened commits transaction.Outside asked reply = transaction.Outside
transaction_behind opened commits transaction.Aborted asked reply = after_aborted reply
transaction_behind opened commits (transaction.Open active) asked reply =
    (transition opened commits active (Some asked) reply).transaction

-- the commit that a reply is
abbrev pub commit_in : List Table → List Commit → Transaction → Asked → Reply → Option Commit
commit_in opened commits (transaction.Open active) asked reply = (transition opened commits active (Some asked) reply).commit
commit_in opened commits other asked reply = None

-- a state with a commit, if there is one, and a session in that transaction
abbrev pub with_transaction : Machine → ℕ → Transaction → Option Commit → Machine
with_transaction machine number transaction commit = record machine {
  commits = machine.commits ++ option_to_list commit;
  sessions = slice_set machine.sessions (number - 1) (session_behind transaction None None);
}

-- the state behind the reply to a call of a session that is in that transaction
abbrev pub behind_reply : List Table → Machine → ℕ → Transaction → Asked → Reply → Machine
behind_reply opened machine number transaction asked reply =
    with_transaction machine number (transaction_behind opened machine.commits transaction asked reply)
    (commit_in opened machine.commits transaction asked reply)

-- the transaction of the session of that number
unfoldable pub transaction_of : List Session → ℕ → Transaction
transaction_of sessions number = elim (session_at sessions number) [
  | None ↦ transaction.Outside
  | Some session ↦ session.transaction
]
