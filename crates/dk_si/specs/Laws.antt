-- Laws of the machine, each the contract of a function of its own.
use Rattle.std.specs.Prelude.{List, [], ◌∷◌, ◌≡◌, ℕ, ◌≤◌, ◌++◌, length, true, ◌&&◌, if◌then◌else◌, take, ◌+◌, map, option_to_list, Some, None, ◌-◌, slice_get, ◌<◌}
use Rattle.dk_values.specs.declared.value.Value.{Value}
use Rattle.dk_types.specs.declared.net.Commit.{Commit}
use Rattle.dk_types.specs.declared.net.TableNet.{TableNet}
use Rattle.dk_types.specs.declared.reply.Reply.{Reply}
use Rattle.dk_syntax.specs.declared.statement.Statement.{Statement}
use Rattle.dk_si.specs.declared.database.Table.{Table}
use Rattle.dk_si.specs.declared.history.Asked.{Asked}
use Rattle.dk_si.specs.declared.history.Entry.{Entry}
use Rattle.dk_si.specs.declared.history.Entry.TheVariants as entry
use Rattle.dk_si.specs.declared.machine.OpenTransaction.{OpenTransaction}
use Rattle.dk_si.specs.declared.machine.Machine.{Machine}
use Rattle.dk_si.specs.declared.machine.Session.{Session}
use Rattle.dk_si.specs.declared.machine.Transaction.TheVariants as transaction
use Rattle.dk_si.specs.declared.meaning.Meaning.TheVariants.{Change}
use Rattle.dk_si.specs.Database.{after}
use Rattle.dk_si.specs.Exchanges.{exchanges, exchanges_and}
use Rattle.dk_si.specs.HeldRows.{commit_has}
use Rattle.dk_si.specs.IsLegal.{is_legal}
use Rattle.dk_si.specs.IsStep.{are_steps, is_step}
use Rattle.dk_si.specs.Machine.{changed_ids, next, first_state, meaning_in, transition, session_at}
use Rattle.dk_si.specs.Meaning.{same_rows, meaning}
use Rattle.dk_si.specs.StatesSince.{is_call_of, states_since}
use Rattle.dk_types.specs.Nets.{ascends}
use Rattle.dk_si.specs.Nets.{has_id, committed_ids, net_has, merged_net}

-- the machine after these entries
abbrev pub state_after : List Table → Machine → List Entry → Machine
state_after opened machine [] = machine
state_after opened machine (entry ∷ entries) = state_after opened (next opened machine entry) entries

-- the state after the first n commits does not depend on what comes after the n-th
abbrev pub CommitsStay : Type 0
CommitsStay = (opened : List Table) (entries more : List Entry) (n : ℕ)
    → n ≤ length (state_after opened first_state entries).commits
    → after opened (state_after opened first_state (entries ++ more)).commits n ≡ after opened (state_after opened first_state entries).commits n

-- the front of a list of steps is a list of steps
abbrev pub FrontsAreSteps : Type 0
FrontsAreSteps = (opened : List Table) (entries more : List Entry)
    → are_steps opened [] first_state (entries ++ more) ≡ true → are_steps opened [] first_state entries ≡ true

-- the state after one more entry
abbrev pub StateAndOne : Type 0
StateAndOne = (opened : List Table) (entries : List Entry) (entry : Entry)
    → state_after opened first_state (entries ++ entry ∷ []) ≡ next opened (state_after opened first_state entries) entry

-- a list of steps with one more entry, which is a step from the state after them
abbrev pub StepsAndOne : Type 0
StepsAndOne = (opened : List Table) (entries : List Entry) (entry : Entry)
    → are_steps opened [] first_state (entries ++ entry ∷ [])
    ≡ (are_steps opened [] first_state entries && is_step opened entries (state_after opened first_state entries) entry)

-- the states since a call after one more entry
abbrev pub StatesSinceAndOne : Type 0
StatesSinceAndOne = (opened : List Table) (session : ℕ) (entries : List Entry) (entry : Entry)
    → states_since opened session (entries ++ entry ∷ [])
    ≡ (if is_call_of session entry then [] else states_since opened session entries) ++ next opened (state_after opened first_state entries) entry ∷ []

-- the calls with their replies after one more entry
abbrev pub ExchangesAndOne : Type 0
ExchangesAndOne = (entries : List Entry) (entry : Entry)
    → exchanges (entries ++ entry ∷ []) ≡ exchanges_and (exchanges entries) (length entries) entry

-- the front of a legal history is a legal history
abbrev pub FrontsAreLegal : Type 0
FrontsAreLegal = (opened : List Table) (iteration : ℕ) (entries more : List Entry)
    → is_legal opened iteration (entries ++ more) ≡ true → is_legal opened iteration entries ≡ true

-- behind a statement a transaction still has the rows that it had, where the statement's table has that many committed rows
abbrev pub NetStays : Type 0
NetStays = (count : ℕ) (net : List TableNet) (change : TableNet) (table row : ℕ)
    → ascends net ≡ true → (change.table ≡ table → row < count) → net_has net table row ≡ true
    → net_has (merged_net count net change) table row ≡ true

-- and has the committed rows that the statement updates or deletes
abbrev pub NetGains : Type 0
NetGains = (count : ℕ) (net : List TableNet) (change : TableNet) (row : ℕ)
    → has_id (committed_ids count (changed_ids change)) row ≡ true → net_has (merged_net count net change) change.table row ≡ true

-- what a statement means in a transaction depends on the commits up to its start, and its own changes
abbrev pub SeesItsSnapshot : Type 0
SeesItsSnapshot = (opened : List Table) (commits others : List Commit) (active other : OpenTransaction) (asked : Asked)
    → active.start ≡ other.start → active.net ≡ other.net → take active.start commits ≡ take active.start others
    → meaning_in opened commits active asked ≡ meaning_in opened others other asked

-- rows that are told apart by nothing are equal
abbrev pub SameRowsAreEqual : Type 0
SameRowsAreEqual = (rows others : List (List Value)) → same_rows rows others ≡ true → rows ≡ others

-- the count of a change is the number of rows that it updates, deletes and adds
abbrev pub CountsItsRows : Type 0
CountsItsRows = (tables : List Table) (statement : Statement) (count : ℕ) (part : TableNet)
    → meaning tables statement ≡ Change count part → count ≡ length part.updates + length part.deletes + length part.rows

-- the start of the transaction that a reply commits, if it commits one
abbrev pub reply_starts : List Table → Machine → Reply → Session → List ℕ
reply_starts opened machine reply session = elim session.transaction [
  | transaction.Outside ↦ []
  | transaction.Aborted ↦ []
  | transaction.Open active ↦ map (λ commit. active.start) (option_to_list (transition opened machine.commits active session.asked reply).commit)
]

-- the start of the transaction that an entry commits, if it commits one
abbrev pub entry_starts : List Table → Machine → Entry → List ℕ
entry_starts opened machine (entry.Call session asked) = []
entry_starts opened machine (entry.Begun session number start) = []
entry_starts opened machine (entry.Reply session reply) = elim (session_at machine.sessions session) [
  | None ↦ []
  | Some before ↦ reply_starts opened machine reply before
]

-- the starts of the transactions that these entries commit, one for each commit
abbrev pub starts_of : List Table → Machine → List Entry → List ℕ
starts_of opened machine [] = []
starts_of opened machine (entry ∷ entries) = entry_starts opened machine entry ++ starts_of opened (next opened machine entry) entries

-- each commit has a start
abbrev pub CommitsHaveStarts : Type 0
CommitsHaveStarts = (opened : List Table) (entries : List Entry)
    → are_steps opened [] first_state entries ≡ true
    → length (starts_of opened first_state entries) ≡ length (state_after opened first_state entries).commits

-- after these entries that is the commit of the number, and its transaction has the start
pub record IsCommit (opened : List Table) (entries : List Entry) (number start : ℕ) (commit : Commit) : Type 0 where
  pub counted : 1 ≤ number
  pub made : slice_get (state_after opened first_state entries).commits (number - 1) ≡ Some commit
  pub begun : slice_get (starts_of opened first_state entries) (number - 1) ≡ Some start

-- a transaction sees none of the commits from its own on
abbrev pub SeesEarlierCommits : Type 0
SeesEarlierCommits = (opened : List Table) (entries : List Entry) (number start : ℕ) (commit : Commit)
    → are_steps opened [] first_state entries ≡ true → IsCommit opened entries number start commit → start < number

-- of two transactions that overlap and change one row, as the later one to commit does not see the other's commit, never
-- both commit
abbrev pub FirstCommitterWins : Type 0
FirstCommitterWins = (opened : List Table) (entries : List Entry) (earlier later earlier_start later_start : ℕ)
    → (first second : Commit) (table row : ℕ)
    → are_steps opened [] first_state entries ≡ true
    → IsCommit opened entries earlier earlier_start first → IsCommit opened entries later later_start second
    → later_start < earlier → earlier < later
    → commit_has table row first ≡ true → commit_has table row second ≡ true → ⊥
