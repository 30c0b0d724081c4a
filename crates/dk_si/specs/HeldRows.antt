-- Which rows are held against a transaction: by a commit that it does not see, or by another transaction.
use Rattle.std.specs.List.{list_any}
use Rattle.std.specs.Prelude.{ℕ, Bool, false, List, ◌&&◌, ◌==◌, true, not, ◌-◌, ◌||◌, take, drop, nat_lt, Option, Some, None}
use Rattle.dk_types.specs.declared.net.Commit.{Commit}
use Rattle.dk_types.specs.declared.net.Commit.TheVariants.{Create, Change}
use Rattle.dk_types.specs.declared.reply.Holder.{Holder}
use Rattle.dk_types.specs.declared.reply.Holder.TheVariants as holder
use Rattle.dk_si.specs.declared.database.Table.{Table}
use Rattle.dk_si.specs.declared.kind.Kind.{Kind}
use Rattle.dk_si.specs.declared.kind.Kind.TheVariants as kind
use Rattle.dk_si.specs.declared.machine.Machine.{Machine}
use Rattle.dk_si.specs.declared.machine.Session.{Session}
use Rattle.dk_si.specs.declared.machine.WriteSet.{WriteSet}
use Rattle.dk_si.specs.declared.machine.Transaction.TheVariants as transaction
use Rattle.dk_si.specs.Machine.{asks_for, others, write_set_in_flight, session_at}
use Rattle.dk_si.specs.Nets.{net_has, has_id}

-- whether a commit changed the row
abbrev pub commit_has : ℕ → ℕ → Commit → Bool
commit_has table row (Create name schema) = false
commit_has table row (Change net) = net_has net table row

abbrev pub some_commit_has : List Commit → ℕ → ℕ → Bool
some_commit_has commits table row = list_any (commit_has table row) commits

-- the row is among those that a statement updates or deletes
abbrev pub writes_row : Option WriteSet → ℕ → ℕ → Bool
writes_row None table row = false
writes_row (Some set) table row = set.table == table && has_id set.ids row

abbrev pub is_rollback : Kind → Bool
is_rollback kind.Rollback = true
is_rollback other = false

-- an open transaction whose ROLLBACK is not in flight has the row in its net
abbrev pub has_pending_write : ℕ → ℕ → Session → Bool
has_pending_write table row session = elim session.transaction [
  | transaction.Outside ↦ false
  | transaction.Aborted ↦ false
  | transaction.Open active ↦ net_has active.net table row && not (asks_for is_rollback session.asked)
]

abbrev pub other_has_pending_write : Machine → ℕ → ℕ → ℕ → Bool
other_has_pending_write machine number table row = list_any (has_pending_write table row) (others machine.sessions number)

-- a commit above the start changed the row, or another session's transaction has a pending write of it
abbrev pub is_blocked : Machine → ℕ → ℕ → ℕ → ℕ → Bool
is_blocked machine number start table row =
    some_commit_has (drop start machine.commits) table row || other_has_pending_write machine number table row

-- commit n is above the start and changed the row, no later commit did, and nobody has a pending write of it
abbrev pub commit_holds : Machine → ℕ → ℕ → ℕ → ℕ → ℕ → Bool
commit_holds machine number start n table row =
    (nat_lt start n && some_commit_has (take 1 (drop (n - 1) machine.commits)) table row)
    && (not (some_commit_has (drop n machine.commits) table row) && not (other_has_pending_write machine number table row))

-- a transaction that has ended held the row up to its end: if it was committed, above the start, and no later commit
-- changed the row
abbrev pub is_last_above : List Commit → ℕ → ℕ → ℕ → Option ℕ → Bool
is_last_above commits start table row None = true
is_last_above commits start table row (Some n) = nat_lt start n && not (some_commit_has (drop n commits) table row)

-- the transaction of that number has changed the row, or its session's call in flight or last answered call did
abbrev pub open_holds : List Table → Machine → ℕ → ℕ → ℕ → Session → Bool
open_holds opened machine k table row session = elim session.transaction [
  | transaction.Outside ↦ false
  | transaction.Aborted ↦ false
  | transaction.Open active ↦ active.number == k && (net_has active.net table row || (writes_row session.writes table row
      || writes_row (write_set_in_flight opened machine.commits session.transaction session.asked) table row))
]

abbrev pub last_holds : Machine → ℕ → ℕ → ℕ → ℕ → Session → Bool
last_holds machine start k table row session = elim session.last [
  | None ↦ false
  | Some last ↦ last.number == k && (is_last_above machine.commits start table row last.commit
      && (net_has last.net table row || writes_row session.writes table row))
]

abbrev pub session_holds : List Table → Machine → ℕ → ℕ → ℕ → ℕ → Session → Bool
session_holds opened machine start k table row session =
    open_holds opened machine k table row session || last_holds machine start k table row session

-- against a transaction of the session with that start, the row is held so
abbrev pub holds_against : List Table → Machine → ℕ → ℕ → ℕ → ℕ → Holder → Bool
holds_against opened machine number start table row (holder.Commit n) = commit_holds machine number start n table row
holds_against opened machine number start table row (holder.Transaction k) =
    list_any (session_holds opened machine start k table row) (others machine.sessions number)

-- the session has an open transaction in this state, and the row is held against it
abbrev pub holds : List Table → ℕ → ℕ → ℕ → Holder → Machine → Bool
holds opened number table row by machine = elim (session_at machine.sessions number) [
  | None ↦ false
  | Some session ↦ elim session.transaction [
    | transaction.Outside ↦ false
    | transaction.Aborted ↦ false
    | transaction.Open active ↦ holds_against opened machine number active.start table row by
  ]
]
