-- What a session is while other sessions go on.
use Rattle.std.specs.Prelude.{ℕ, Bool, true, not, ◌==◌, List, [], ◌++◌, Some, ◌≡◌}
use Rattle.std.specs.List.{list_all}
use Rattle.dk_si.specs.declared.database.Table.{Table}
use Rattle.dk_si.specs.declared.history.Asked.{Asked}
use Rattle.dk_si.specs.declared.history.Entry.{Entry}
use Rattle.dk_si.specs.declared.history.Entry.TheVariants as entry
use Rattle.dk_si.specs.declared.machine.OpenTransaction.{OpenTransaction}
use Rattle.dk_si.specs.declared.machine.Session.{Session}
use Rattle.dk_si.specs.declared.machine.Transaction.TheVariants as transaction
use Rattle.dk_si.specs.IsStep.{are_steps}
use Rattle.dk_si.specs.Laws.{state_after}
use Rattle.dk_si.specs.Machine.{first_state, session_at, meaning_in}

-- the session that an entry is of
abbrev pub session_in : Entry → ℕ
session_in (entry.Call session asked) = session
session_in (entry.Begun session number start) = session
session_in (entry.Reply session reply) = session

abbrev pub are_of_others : ℕ → List Entry → Bool
are_of_others number entries = list_all (λ entry. not (session_in entry == number)) entries

-- entries of other sessions leave a session as it was
abbrev pub OthersLeaveASession : Type 0
OthersLeaveASession =
    (opened : List Table) (entries more : List Entry) (number : ℕ)
    → are_of_others number more ≡ true
    → session_at (state_after opened first_state (entries ++ more)).sessions number
    ≡ session_at (state_after opened first_state entries).sessions number

-- the transaction of the session is open behind these entries
pub record IsOpen (opened : List Table) (entries : List Entry) (number : ℕ)
    (active : OpenTransaction) : Type 0 where
  pub steps : are_steps opened [] first_state entries ≡ true
  pub session : Session
  pub is : session_at (state_after opened first_state entries).sessions number ≡ Some session
  pub open_so : session.transaction ≡ transaction.Open active

-- whatever comes behind them, a statement means the same in the open transaction
abbrev pub OthersLeaveAMeaning : Type 0
OthersLeaveAMeaning =
    (opened : List Table) (entries more : List Entry) (number : ℕ) (active : OpenTransaction)
    (asked : Asked)
    → IsOpen opened entries number active
    → meaning_in opened (state_after opened first_state (entries ++ more)).commits active asked
    ≡ meaning_in opened (state_after opened first_state entries).commits active asked
