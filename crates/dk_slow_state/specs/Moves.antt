-- What an entry makes of the machine: of one session, of the commits, and of the number of begun transactions.
use Rattle.std.specs.Prelude.{ℕ, ◌-◌, List, ◌++◌, Option, Some, None, option_to_list, slice_set}
use Rattle.dk_types.specs.declared.net.Commit.{Commit}
use Rattle.dk_si.specs.declared.database.Table.{Table}
use Rattle.dk_si.specs.declared.history.Entry.{Entry}
use Rattle.dk_si.specs.declared.machine.Machine.{Machine}
use Rattle.dk_si.specs.declared.machine.Session.{Session}
use Rattle.dk_si.specs.Machine.{next}
use Rattle.dk_slow_state.specs.declared.state.Move.{Move}

abbrev pub state_of : List Commit → ℕ → List Session → Machine
state_of commits begun sessions = record { commits = commits; begun = begun; sessions = sessions }

-- the machine behind a move of one session, if there is one
abbrev pub moved : Machine → Option Move → Machine
moved machine None = machine
moved machine (Some move) = record {
  commits = machine.commits ++ option_to_list move.commit;
  begun = move.begun;
  sessions = slice_set machine.sessions (move.number - 1) move.session;
}

-- the machine behind an entry, as one word
unfoldable pub machine_behind : List Table → Machine → Entry → Machine
machine_behind opened machine entry = next opened machine entry
