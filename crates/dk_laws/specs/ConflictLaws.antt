-- A conflict has its cause: a row that the statement changes, and a commit or a transaction that
-- holds it.
use Rattle.std.specs.Prelude.{ℕ, ◌+◌, ◌-◌, ◌<◌, List, [], Some, true, slice_get, ◌≡◌}
use Rattle.dk_types.specs.declared.net.Commit.{Commit}
use Rattle.dk_types.specs.declared.reply.Holder.{Holder}
use Rattle.dk_types.specs.declared.reply.Holder.TheVariants as holder
use Rattle.dk_types.specs.declared.reply.Refusal.TheVariants as refusal
use Rattle.dk_types.specs.declared.reply.Reply.TheVariants as reply
use Rattle.dk_si.specs.declared.database.Table.{Table}
use Rattle.dk_si.specs.declared.history.Entry.{Entry}
use Rattle.dk_si.specs.declared.history.Entry.TheVariants as entry
use Rattle.dk_si.specs.declared.machine.Machine.{Machine}
use Rattle.dk_si.specs.declared.machine.OpenTransaction.{OpenTransaction}
use Rattle.dk_si.specs.declared.machine.Session.{Session}
use Rattle.dk_si.specs.declared.machine.Transaction.TheVariants as transaction
use Rattle.dk_si.specs.HeldRows.{commit_has, session_holds, writes_row}
use Rattle.dk_si.specs.IsStep.{are_steps, is_step}
use Rattle.dk_si.specs.Laws.{state_after}
use Rattle.dk_si.specs.Machine.{first_state, session_at, write_set_in_flight}
use Rattle.dk_si.specs.StatesSince.{states_since}

-- the commit of that number is above the start, and changed the row
pub record CommitHolds (commits : List Commit) (start n table row : ℕ) : Type 0 where
  pub above : start < n
  pub commit : Commit
  pub made : slice_get commits (n - 1) ≡ Some commit
  pub has : commit_has table row commit ≡ true

-- in some state since the call of a session, the transaction of that number was another session's,
-- open or its last, and held the row
pub record TransactionHolds (opened : List Table) (entries : List Entry)
    (session start k table row : ℕ) : Type 0 where
  pub state : Machine
  pub moment : ℕ
  pub since : slice_get (states_since opened session entries) moment ≡ Some state
  pub place : ℕ
  pub other : place + 1 ≡ session → ⊥
  pub its : Session
  pub there : slice_get state.sessions place ≡ Some its
  pub holds : session_holds opened state start k table row its ≡ true

abbrev pub HasHolder : List Table → List Entry → ℕ → ℕ → ℕ → ℕ → Holder → Type 0
HasHolder opened entries session start table row (holder.Commit n) =
    CommitHolds (state_after opened first_state entries).commits start n table row
HasHolder opened entries session start table row (holder.Transaction k) =
    TransactionHolds opened entries session start k table row

-- the session's statement in flight changes the row in its open transaction, and somebody else
-- holds it
pub record HasCause (opened : List Table) (entries : List Entry) (number table row : ℕ)
    (by : Holder) : Type 0 where
  pub session : Session
  pub is : session_at (state_after opened first_state entries).sessions number ≡ Some session
  pub active : OpenTransaction
  pub open_so : session.transaction ≡ transaction.Open active
  pub changes : writes_row (write_set_in_flight opened
      (state_after opened first_state entries).commits
      session.transaction session.asked) table row ≡ true
  pub holder : HasHolder opened entries number active.start table row by

-- where a conflict may be replied, it has its cause
abbrev pub ConflictsHaveCauses : Type 0
ConflictsHaveCauses =
    (opened : List Table) (entries : List Entry) (number table row : ℕ) (by : Holder)
    → are_steps opened [] first_state entries ≡ true
    → is_step opened entries (state_after opened first_state entries)
    (entry.Reply number (reply.Refused (refusal.Conflict table row by))) ≡ true
    → HasCause opened entries number table row by
