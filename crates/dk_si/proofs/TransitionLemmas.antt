-- An answered transaction has_pending_write and commits rows that are free for it.
use Rattle.std.proofs.Common.{◌≡◌, ⊎_elim, ℕ, ◌-◌, ◌<◌, Bool, true, false, List, refl, subst, Option, Some, None}
use Rattle.std.specs.Prelude.{not, ◌==◌, if◌then◌else◌}
use Rattle.std.proofs.lemmas.Bool.{false≢true, and_from, and_parts, eqb-true, eq-eqb, or_parts, not-true, both_ways}
use Rattle.dk_types.specs.declared.net.TableNet.{TableNet}
use Rattle.dk_types.specs.declared.net.Commit.{Commit}
use Rattle.dk_syntax.specs.declared.statement.Statement.{Statement}
use Rattle.dk_types.specs.declared.reply.Receipt.{Receipt}
use Rattle.dk_types.specs.declared.reply.Reply.{Reply}
use Rattle.dk_types.specs.declared.reply.Reply.TheVariants as told
use Rattle.dk_si.specs.declared.database.Table.{Table}
use Rattle.dk_si.specs.declared.meaning.Meaning.{Meaning}
use Rattle.dk_si.specs.declared.meaning.Meaning.TheVariants as meant
use Rattle.dk_si.specs.declared.history.Asked.{Asked}
use Rattle.dk_si.specs.declared.history.Asked.TheVariants.{Unread, Bad, Good}
use Rattle.dk_si.specs.declared.history.Entry.{Entry}
use Rattle.dk_si.specs.declared.kind.Kind.{Kind}
use Rattle.dk_si.specs.declared.kind.Kind.TheVariants as form
use Rattle.dk_si.specs.declared.machine.OpenTransaction.{OpenTransaction}
use Rattle.dk_si.specs.declared.machine.Transaction.{Transaction}
use Rattle.dk_si.specs.declared.machine.Transaction.TheVariants as state
use Rattle.dk_si.specs.declared.machine.LastTransaction.{LastTransaction}
use Rattle.dk_si.specs.declared.machine.WriteSet.{WriteSet}
use Rattle.dk_si.specs.declared.machine.Session.{Session}
use Rattle.dk_si.specs.declared.machine.Machine.{Machine}
use Rattle.dk_si.specs.declared.machine.Transition.{Transition}
use Rattle.dk_si.specs.Nets.{net_has, has_id, committed_ids}
use Rattle.dk_si.specs.Machine.{changed_ids, kind_of, asks_for, aborts, committed_count, meaning_in, meaning_now, write_set, write_set_in_flight, net_after, net_behind, is_own, stay_open, end_with, creation, change_transition, transition}
use Rattle.dk_si.specs.HeldRows.{writes_row, commit_has, is_rollback, has_pending_write, is_blocked}
use Rattle.dk_si.specs.ReplyTests.{is_ended}
use Rattle.dk_si.specs.MayAnswer.{open_answers, may_answer}
use Rattle.dk_si.specs.IsStep.{none_blocked, is_founded}
use Rattle.dk_si.proofs.WriteSetLemmas.{touched_rows}
use Rattle.dk_si.proofs.PlaceLemmas.{none_from, none_other, each_id}
use Rattle.dk_si.proofs.FreeRowLemmas.{Free}

-- each committed row that the net changes is one of these
abbrev pub Rows : (ℕ → ℕ → Type 0) → List TableNet → Type 0
Rows P net = (table row : ℕ) → net_has net table row ≡ true → P table row

-- an open transaction has its start and rows of these; a commit has rows of these, and end_with its transaction
abbrev pub Allowed : (ℕ → ℕ → Type 0) → ℕ → Transaction → Option Commit → Type 0
Allowed P start (state.Open active) None = (active.start ≡ start) × Rows P active.net
Allowed P start state.Outside None = Unit {0}
Allowed P start state.Aborted None = Unit {0}
Allowed P start state.Outside (Some commit) = (table row : ℕ) → commit_has table row commit ≡ true → P table row
Allowed P start (state.Open active) (Some commit) = ⊥
Allowed P start state.Aborted (Some commit) = ⊥

abbrev pub Allows : (ℕ → ℕ → Type 0) → ℕ → Transition → Type 0
Allows P start move = Allowed P start move.transaction move.commit

own_allows : (P : ℕ → ℕ → Type 0) (active : OpenTransaction) (own : Bool) (ended net : List TableNet) → Rows P net
    → Allows P active.start (if own then end_with ended None else stay_open active net)
own_allows P active true ended net rows = tt
own_allows P active false ended net rows = (refl, rows)

refused_allows : (P : ℕ → ℕ → Type 0) (active : OpenTransaction) (own aborted : Bool) → Rows P active.net
    → Allows P active.start (if own then end_with active.net None
    else (if aborted then record { transaction = state.Aborted; commit = None; net = active.net } else stay_open active active.net))
refused_allows P active true aborted rows = tt
refused_allows P active false true rows = tt
refused_allows P active false false rows = (refl, rows)

creation_allows : (P : ℕ → ℕ → Type 0) (start : ℕ) (net : List TableNet) (meaning : Meaning) → Allows P start (end_with net (creation meaning))
creation_allows P start net (meant.Create name schema) = λ table row has. absurd (false≢true has)
creation_allows P start net (meant.Rows rows) = tt
creation_allows P start net (meant.Change count part) = tt
creation_allows P start net (meant.Refused refusal) = tt
creation_allows P start net meant.Nothing = tt

changed_allows : (P : ℕ → ℕ → Type 0) (active : OpenTransaction) (asked : Option Asked) (net : List TableNet) (receipt : Option Receipt) → Rows P net
    → Allows P active.start (change_transition active asked net receipt)
changed_allows P active asked net (Some receipt) rows = rows
changed_allows P active asked net None rows = own_allows P active (is_own active asked) net net rows

-- where a change is answered, its net has rows of these
abbrev pub Behind : (ℕ → ℕ → Type 0) → List Table → List Commit → OpenTransaction → Option Asked → Reply → Type 0
Behind P opened commits active asked (told.Changed count receipt) = Rows P (net_behind opened commits active asked)
Behind P opened commits active asked (told.Created receipt) = Unit {0}
Behind P opened commits active asked (told.Rows rows) = Unit {0}
Behind P opened commits active asked (told.Begun start) = Unit {0}
Behind P opened commits active asked (told.Committed receipt) = Unit {0}
Behind P opened commits active asked told.Ended = Unit {0}
Behind P opened commits active asked (told.Checkpointed iteration) = Unit {0}
Behind P opened commits active asked (told.Refused refusal) = Unit {0}

pub move_allows : (P : ℕ → ℕ → Type 0) (opened : List Table) (commits : List Commit) (active : OpenTransaction) (asked : Option Asked) (reply : Reply)
    → Rows P active.net → Behind P opened commits active asked reply → Allows P active.start (transition opened commits active asked reply)
move_allows P opened commits active asked (told.Created receipt) rows behind =
    creation_allows P active.start active.net (meaning_now opened commits asked)
move_allows P opened commits active asked (told.Changed count receipt) rows behind =
    changed_allows P active asked (net_behind opened commits active asked) receipt behind
move_allows P opened commits active asked (told.Rows list) rows behind = own_allows P active (is_own active asked) active.net active.net rows
move_allows P opened commits active asked (told.Begun start) rows behind = (refl, rows)
move_allows P opened commits active asked (told.Committed receipt) rows behind = rows
move_allows P opened commits active asked told.Ended rows behind = tt
move_allows P opened commits active asked (told.Checkpointed iteration) rows behind = (refl, rows)
move_allows P opened commits active asked (told.Refused refusal) rows behind =
    refused_allows P active (is_own active asked) (asks_for (aborts refusal) asked) rows

-- the rows of a net behind a statement are those before it, and those that it updates or deletes
pub after_rows : (P : ℕ → ℕ → Type 0) (opened : List Table) (commits : List Commit) (active : OpenTransaction) (meaning : Meaning) → Rows P active.net
    → ((table row : ℕ) → writes_row (write_set opened commits active meaning) table row ≡ true → P table row)
    → Rows P (net_after opened commits active meaning)
after_rows P opened commits active (meant.Change count part) rows written = λ table row has.
    ⊎_elim (rows table row) (λ h. written table row (and_from (part.table == table) (has_id (committed_ids (committed_count opened commits active part.table) (changed_ids part)) row) (eq-eqb part.table table h.0) h.1))
    (touched_rows (committed_count opened commits active part.table) active.net part table row has)
after_rows P opened commits active other rows written = rows

-- a row that isn't is_blocked is free
free_row : (machine : Machine) (session start table row : ℕ) → 0 < session → is_blocked machine session start table row ≡ false
    → Free machine.commits machine.sessions (session - 1) start table row
free_row machine session start table row above none =
    let h = or_parts _ _ none in
    record {
      clear = λ k commit within at has. both_ways (commit_has table row commit)
          (none_from (commit_has table row) machine.commits start k commit h.0 within at) has;
      alone = λ k other apart at has. both_ways (has_pending_write table row other)
          (none_other (has_pending_write table row) machine.sessions session k other h.1 above apart at) has;
    }

free_writes : (machine : Machine) (session start : ℕ) (writes : Option WriteSet) → 0 < session → none_blocked machine session start writes ≡ true
    → (table row : ℕ) → writes_row writes table row ≡ true → Free machine.commits machine.sessions (session - 1) start table row
free_writes machine session start None above none table row has = absurd (false≢true has)
free_writes machine session start (Some set) above none table row has =
    let h = and_parts (set.table == table) (has_id set.ids row) has in
    subst (λ at. Free machine.commits machine.sessions (session - 1) start at row) (eqb-true set.table table h.0)
    (free_row machine session start set.table row above
    (not-true _ (each_id (λ row. not (is_blocked machine session start set.table row)) set.ids row none h.1)))

abbrev pub session_of : Transaction → Option Asked → Option WriteSet → Option LastTransaction → Session
session_of transaction asked touched past = record { transaction = transaction; asked = asked; writes = touched; last = past }

changed_behind : (opened : List Table) (session : ℕ) (machine : Machine) (active : OpenTransaction) (asked : Asked)
    → 0 < session → Rows (Free machine.commits machine.sessions (session - 1) active.start) active.net
    → none_blocked machine session active.start (write_set_in_flight opened machine.commits (state.Open active) (Some asked)) ≡ true
    → Rows (Free machine.commits machine.sessions (session - 1) active.start) (net_behind opened machine.commits active (Some asked))
changed_behind opened session machine active asked above rows none =
    let meaning = meaning_in opened machine.commits active asked in
    after_rows (Free machine.commits machine.sessions (session - 1) active.start) opened machine.commits active meaning rows
    (free_writes machine session active.start (write_set opened machine.commits active meaning) above none)

told_behind : (opened : List Table) (session : ℕ) (before : List Entry) (machine : Machine) (active : OpenTransaction)
    → (asked : Asked) (touched : Option WriteSet) (past : Option LastTransaction) (reply : Reply)
    → 0 < session → Rows (Free machine.commits machine.sessions (session - 1) active.start) active.net
    → is_founded opened session before machine (session_of (state.Open active) (Some asked) touched past) reply ≡ true
    → Behind (Free machine.commits machine.sessions (session - 1) active.start) opened machine.commits active (Some asked) reply
told_behind opened session before machine active asked touched past (told.Changed count receipt) above rows founded =
    changed_behind opened session machine active asked above rows founded
told_behind opened session before machine active asked touched past (told.Created receipt) above rows founded = tt
told_behind opened session before machine active asked touched past (told.Rows list) above rows founded = tt
told_behind opened session before machine active asked touched past (told.Begun start) above rows founded = tt
told_behind opened session before machine active asked touched past (told.Committed receipt) above rows founded = tt
told_behind opened session before machine active asked touched past told.Ended above rows founded = tt
told_behind opened session before machine active asked touched past (told.Checkpointed iteration) above rows founded = tt
told_behind opened session before machine active asked touched past (told.Refused refusal) above rows founded = tt

-- a ROLLBACK in an open transaction is answered by its end
pub rollback_ends : (opened : List Table) (commits : List Commit) (active : OpenTransaction) (statement : Statement) (kind : Kind) (reply : Reply)
    → is_rollback kind ≡ true → open_answers opened commits active statement kind reply ≡ true → is_ended reply ≡ true
rollback_ends opened commits active statement form.Rollback reply is e = e
rollback_ends opened commits active statement form.Begin reply is e = absurd (false≢true is)
rollback_ends opened commits active statement form.Commit reply is e = absurd (false≢true is)
rollback_ends opened commits active statement form.Checkpoint reply is e = absurd (false≢true is)
rollback_ends opened commits active statement form.Create reply is e = absurd (false≢true is)
rollback_ends opened commits active statement form.Select reply is e = absurd (false≢true is)
rollback_ends opened commits active statement form.Change reply is e = absurd (false≢true is)

pub ended_allows : (P : ℕ → ℕ → Type 0) (opened : List Table) (commits : List Commit) (active : OpenTransaction) (asked : Option Asked) (reply : Reply)
    → is_ended reply ≡ true → Allows P active.start (transition opened commits active asked reply)
ended_allows P opened commits active asked told.Ended e = tt
ended_allows P opened commits active asked other e = absurd (false≢true e)

rolled_back : (P : ℕ → ℕ → Type 0) (opened : List Table) (commits : List Commit) (active : OpenTransaction) (asked : Asked) (reply : Reply)
    → asks_for is_rollback (Some asked) ≡ true → may_answer opened commits (state.Open active) asked reply ≡ true
    → Allows P active.start (transition opened commits active (Some asked) reply)
rolled_back P opened commits active Unread reply is e = absurd (false≢true is)
rolled_back P opened commits active (Bad at) reply is e = absurd (false≢true is)
rolled_back P opened commits active (Good statement) reply is e =
    ended_allows P opened commits active (Some (Good statement)) reply
    (rollback_ends opened commits active statement (kind_of statement) reply is e)

-- an answer to an open transaction transition it so, where the rows of its net are free unless its ROLLBACK is in flight
pub answer_allows : (opened : List Table) (session : ℕ) (before : List Entry) (machine : Machine) (active : OpenTransaction)
    → (asked : Asked) (touched : Option WriteSet) (past : Option LastTransaction) (reply : Reply) (rolls : Bool)
    → 0 < session → asks_for is_rollback (Some asked) ≡ rolls
    → (rolls ≡ false → Rows (Free machine.commits machine.sessions (session - 1) active.start) active.net)
    → may_answer opened machine.commits (state.Open active) asked reply ≡ true
    → is_founded opened session before machine (session_of (state.Open active) (Some asked) touched past) reply ≡ true
    → Allows (Free machine.commits machine.sessions (session - 1) active.start) active.start (transition opened machine.commits active (Some asked) reply)
answer_allows opened session before machine active asked touched past reply true above is rows may founded =
    rolled_back (Free machine.commits machine.sessions (session - 1) active.start) opened machine.commits active asked reply is may
answer_allows opened session before machine active asked touched past reply false above is rows may founded =
    move_allows (Free machine.commits machine.sessions (session - 1) active.start) opened machine.commits active (Some asked) reply (rows refl)
    (told_behind opened session before machine active asked touched past reply above (rows refl) founded)
