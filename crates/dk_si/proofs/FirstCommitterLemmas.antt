-- Of two overlapping transactions that commit changes of one row, never both: each step has_pending_write what is fair.
use Rattle.std.proofs.Common.{arith, ◌≡◌, ℕ, ◌-◌, ◌<◌, ◌≤◌, true, List, [], ◌∷◌, ◌++◌, length, map, sym, refl, subst}
use Rattle.std.proofs.Common.{Option, Some, None, option_to_list, slice_get, slice_set, append-nil, append_assoc}
use Rattle.std.specs.Prelude.{is_none}
use Rattle.std.proofs.lemmas.Bool.{false≢true, and_from, and_parts, not_from_false, eqb-true}
use Rattle.dk_types.specs.declared.net.Commit.{Commit}
use Rattle.dk_types.specs.declared.reply.Reply.{Reply}
use Rattle.dk_types.specs.declared.reply.Reply.TheVariants as told
use Rattle.dk_si.specs.declared.database.Table.{Table}
use Rattle.dk_si.specs.declared.history.Asked.{Asked}
use Rattle.dk_si.specs.declared.history.Entry.{Entry}
use Rattle.dk_si.specs.declared.history.Entry.TheVariants as history
use Rattle.dk_si.specs.declared.machine.Transaction.{Transaction}
use Rattle.dk_si.specs.declared.machine.Transaction.TheVariants as state
use Rattle.dk_si.specs.declared.machine.LastTransaction.{LastTransaction}
use Rattle.dk_si.specs.declared.machine.OpenTransaction.{OpenTransaction}
use Rattle.dk_si.specs.declared.machine.WriteSet.{WriteSet}
use Rattle.dk_si.specs.declared.machine.Session.{Session}
use Rattle.dk_si.specs.declared.machine.Machine.{Machine}
use Rattle.dk_si.specs.declared.limits.TheConstants.{SESSIONS}
use Rattle.dk_si.specs.Machine.{first_state, idle, asks_for, session_at, session_behind, after_aborted, transition}
use Rattle.dk_si.specs.Machine.{write_set_in_flight, last_transaction, after_call, after_begin, after_reply, next}
use Rattle.dk_si.specs.HeldRows.{is_rollback, has_pending_write}
use Rattle.dk_si.specs.IsStep.{are_steps, is_step, may_call, may_begin, is_founded, may_reply, if_there}
use Rattle.dk_si.specs.MayAnswer.{may_answer}
use Rattle.dk_si.specs.Laws.{state_after, reply_starts, entry_starts, starts_of, CommitsHaveStarts, SeesEarlierCommits}
use Rattle.dk_si.specs.Laws.{FirstCommitterWins}
use Rattle.dk_si.proofs.PlaceLemmas.{found_at, same_copies}
use Rattle.dk_si.proofs.FreeRowLemmas.{Free, Fair, start_in, replaced, committed}
use Rattle.dk_si.proofs.TransitionLemmas.{Allowed, Allows, session_of, answer_allows}

abbrev pub IsFair : Machine → List ℕ → Type 0
IsFair machine starts = Fair machine.commits machine.sessions starts

-- a session has_pending_write nothing
abbrev KeepsNothing : Session → Type 0
KeepsNothing session = (table row : ℕ) → has_pending_write table row session ≡ true → ⊥

-- a session that has_pending_write nothing takes the place of its former state
emptied : (commits : List Commit) (sessions : List Session) (starts : List ℕ) (place : ℕ) (new : Session)
    → Fair commits sessions starts
    → start_in new ≤ length commits → KeepsNothing new → Fair commits (slice_set sessions place new) (starts ++ [])
emptied commits sessions starts place new fair within none =
    subst (Fair commits (slice_set sessions place new)) (sym (append-nil starts))
    (replaced commits sessions starts place new fair within (λ table row has. absurd (none table row has)))

kept_rows : (commits : List Commit) (sessions : List Session) (place start : ℕ) (transaction : Transaction)
    → (touched : Option WriteSet) (past : Option LastTransaction)
    → Allowed (Free commits sessions place start) start transaction None
    → (table row : ℕ) → has_pending_write table row (session_behind transaction touched past) ≡ true
    → Free commits sessions place (start_in (session_behind transaction touched past)) table row
kept_rows commits sessions place start state.Outside touched past allowed table row has = absurd (false≢true has)
kept_rows commits sessions place start state.Aborted touched past allowed table row has = absurd (false≢true has)
kept_rows commits sessions place start (state.Open active) touched past allowed table row has =
    subst (λ at. Free commits sessions place at table row) (sym allowed.0) (allowed.1 table row (and_parts _ _ has).0)

kept_start : (commits : List Commit) (sessions : List Session) (place start : ℕ) (transaction : Transaction)
    → (touched : Option WriteSet) (past : Option LastTransaction)
    → start ≤ length commits → Allowed (Free commits sessions place start) start transaction None
    → start_in (session_behind transaction touched past) ≤ length commits
kept_start commits sessions place start state.Outside touched past within allowed = omega arith
kept_start commits sessions place start state.Aborted touched past within allowed = omega arith
kept_start commits sessions place start (state.Open active) touched past within allowed =
    subst (λ at. at ≤ length commits) (sym allowed.0) within

-- a session transition and commits as it may
moved : (commits : List Commit) (sessions : List Session) (starts : List ℕ) (place start : ℕ)
    → (transaction : Transaction) (commit : Option Commit) (touched : Option WriteSet) (past : Option LastTransaction)
    → Fair commits sessions starts → start ≤ length commits
    → Allowed (Free commits sessions place start) start transaction commit
    → Fair (commits ++ option_to_list commit) (slice_set sessions place (session_behind transaction touched past))
    (starts ++ map (λ commit. start) (option_to_list commit))
moved commits sessions starts place start transaction None touched past fair within allowed =
    let new = session_behind transaction touched past in
    subst (λ list. Fair list (slice_set sessions place new) (starts ++ [])) (sym (append-nil commits))
    (subst (Fair commits (slice_set sessions place new)) (sym (append-nil starts))
    (replaced commits sessions starts place new fair
    (kept_start commits sessions place start transaction touched past within allowed)
    (kept_rows commits sessions place start transaction touched past allowed)))
moved commits sessions starts place start state.Outside (Some commit) touched past fair within allowed =
    committed commits sessions starts place start (session_behind state.Outside touched past) commit fair
    (omega arith) within
    (λ table row has. false≢true has) allowed
moved commits sessions starts place start state.Aborted (Some commit) touched past fair within allowed = absurd allowed
moved commits sessions starts place start (state.Open active) (Some commit) touched past fair within allowed =
    absurd allowed

left_nothing : (reply : Reply) (touched : Option WriteSet) (past : Option LastTransaction)
    → KeepsNothing (session_behind (after_aborted reply) touched past)
left_nothing told.Ended touched past table row has = false≢true has
left_nothing other touched past table row has = false≢true has

left_start : (reply : Reply) (touched : Option WriteSet) (past : Option LastTransaction) (n : ℕ)
    → start_in (session_behind (after_aborted reply) touched past) ≤ n
left_start told.Ended touched past n = omega arith
left_start other touched past n = omega arith

-- an answer makes of an open transaction what it may, as the rows of its net are free
pub reply_allowed : (opened : List Table) (before : List Entry) (machine : Machine) (starts : List ℕ) (number : ℕ)
    → (reply : Reply)
    → (active : OpenTransaction) (asked : Asked) (written : Option WriteSet) (last : Option LastTransaction)
    → IsFair machine starts → 0 < number
    → slice_get machine.sessions (number - 1) ≡ Some (session_of (state.Open active) (Some asked) written last)
    → may_reply opened number before machine reply (session_of (state.Open active) (Some asked) written last) ≡ true
    → Allows (Free machine.commits machine.sessions (number - 1) active.start) active.start
    (transition opened machine.commits active (Some asked) reply)
reply_allowed opened before machine starts number reply active asked written last fair above at may =
    let session = session_of (state.Open active) (Some asked) written last in
    let both =
    and_parts (may_answer opened machine.commits (state.Open active) asked reply)
    (is_founded opened number before machine session reply) may in
    answer_allows opened number before machine active asked written last reply
    (asks_for is_rollback (Some asked)) above refl
    (λ none table row has. fair.free (number - 1) session table row at
    (and_from _ _ has (not_from_false _ none))) both.0 both.1

reply_fair : (opened : List Table) (before : List Entry) (machine : Machine) (starts : List ℕ) (number : ℕ)
    → (reply : Reply)
    → (transaction : Transaction) (asked : Option Asked) (touched : Option WriteSet) (past : Option LastTransaction)
    → IsFair machine starts → 0 < number → slice_get machine.sessions (number - 1)
    ≡ Some (session_of transaction asked touched past)
    → may_reply opened number before machine reply (session_of transaction asked touched past) ≡ true
    → IsFair (after_reply opened machine number (session_of transaction asked touched past) reply)
    (starts ++ reply_starts opened machine reply (session_of transaction asked touched past))
reply_fair opened before machine starts number reply transaction None touched past fair above at may =
    absurd (false≢true may)
reply_fair opened before machine starts number reply state.Outside (Some asked) touched past fair above at may =
    emptied machine.commits machine.sessions starts (number - 1) (session_behind state.Outside None None) fair
    (omega arith) (λ table row has. false≢true has)
reply_fair opened before machine starts number reply state.Aborted (Some asked) touched past fair above at may =
    emptied machine.commits machine.sessions starts (number - 1) (session_behind (after_aborted reply) None None) fair
    (left_start reply None None (length machine.commits)) (left_nothing reply None None)
reply_fair opened before machine starts number reply (state.Open active) (Some asked) touched past fair above at may =
    let move = transition opened machine.commits active (Some asked) reply in
    let session = session_of (state.Open active) (Some asked) touched past in
    moved machine.commits machine.sessions starts (number - 1) active.start move.transaction move.commit
    (write_set_in_flight opened machine.commits (state.Open active) (Some asked))
    (last_transaction active.number move.transaction move.commit move.net (length machine.commits)) fair
    (fair.seen (number - 1) session at)
    (reply_allowed opened before machine starts number reply active asked touched past fair above at may)

called_keeps : (table row : ℕ) (transaction : Transaction) (before : Option Asked) (asked : Asked)
    → (touched : Option WriteSet) (past : Option LastTransaction)
    → is_none before ≡ true → has_pending_write table row (session_of transaction (Some asked) touched None) ≡ true
    → has_pending_write table row (session_of transaction before touched past) ≡ true
called_keeps table row transaction (Some other) asked touched past none has = absurd (false≢true none)
called_keeps table row state.Outside None asked touched past none has = has
called_keeps table row state.Aborted None asked touched past none has = has
called_keeps table row (state.Open active) None asked touched past none has = and_from _ _ (and_parts _ _ has).0 refl

call_fair : (machine : Machine) (starts : List ℕ) (number : ℕ) (asked : Asked) (before : Session)
    → IsFair machine starts → slice_get machine.sessions (number - 1) ≡ Some before → may_call asked before ≡ true
    → IsFair (after_call machine number asked before) (starts ++ [])
call_fair machine starts number asked before fair at may =
    let new = session_of before.transaction (Some asked) before.writes None in
    subst (Fair machine.commits (slice_set machine.sessions (number - 1) new)) (sym (append-nil starts))
    (replaced machine.commits machine.sessions starts (number - 1) new fair (fair.seen (number - 1) before at)
    (λ table row has. fair.free (number - 1) before table row at
    (called_keeps table row before.transaction before.asked asked before.writes before.last (and_parts _ _ may).0 has)))

starts_now : (machine : Machine) (number start : ℕ) (before : Session) → may_begin machine number start before ≡ true
    → start ≡ length machine.commits
starts_now machine number start before may = eqb-true _ _ (and_parts _ _ (and_parts _ _ may).1).1

begun_fair : (machine : Machine) (starts : List ℕ) (session number start : ℕ) (before : Session) → IsFair machine starts
    → may_begin machine number start before ≡ true
    → IsFair (after_begin machine session number start before) (starts ++ [])
begun_fair machine starts session number start before fair may =
    let now = starts_now machine number start before may in
    emptied machine.commits machine.sessions starts (session - 1)
    (record before {
      transaction = state.Open
          (record { number = number; start = start; net = []; fresh = true });
    }) fair
    (omega arith) (λ table row has. false≢true has)

call_step : (machine : Machine) (starts : List ℕ) (number : ℕ) (asked : Asked) (found : Option Session)
    → IsFair machine starts
    → session_at machine.sessions number ≡ found → if_there (may_call asked) found ≡ true
    → IsFair (elim found as (λ x. Machine) [
      | None ↦ machine
      | Some before ↦ after_call machine number asked before
    ]) (starts ++ [])
call_step machine starts number asked None fair is may = absurd (false≢true may)
call_step machine starts number asked (Some before) fair is may =
    call_fair machine starts number asked before fair (found_at machine.sessions number before is).0 may

begun_step : (machine : Machine) (starts : List ℕ) (session number start : ℕ) (found : Option Session)
    → IsFair machine starts
    → if_there (may_begin machine number start) found ≡ true
    → IsFair (elim found as (λ x. Machine) [
      | None ↦ machine
      | Some before ↦ after_begin machine session number start before
    ]) (starts ++ [])
begun_step machine starts session number start None fair may = absurd (false≢true may)
begun_step machine starts session number start (Some before) fair may =
    begun_fair machine starts session number start before fair may

reply_step : (opened : List Table) (before : List Entry) (machine : Machine) (starts : List ℕ) (number : ℕ)
    → (reply : Reply) (found : Option Session)
    → IsFair machine starts
    → session_at machine.sessions number ≡ found → if_there (may_reply opened number before machine reply) found ≡ true
    → IsFair (elim found as (λ x. Machine) [
      | None ↦ machine
      | Some session ↦ after_reply opened machine number session reply
    ])
    (starts ++ elim found as (λ x. List ℕ) [ None ↦ [] | Some session ↦ reply_starts opened machine reply session ])
reply_step opened before machine starts number reply None fair is may = absurd (false≢true may)
reply_step opened before machine starts number reply (Some session) fair is may =
    let h = found_at machine.sessions number session is in
    reply_fair opened before machine starts number reply session.transaction session.asked session.writes
    session.last fair h.1 h.0 may

pub step_fair : (opened : List Table) (before : List Entry) (machine : Machine) (starts : List ℕ) (entry : Entry)
    → IsFair machine starts
    → is_step opened before machine entry ≡ true
    → IsFair (next opened machine entry) (starts ++ entry_starts opened machine entry)
step_fair opened before machine starts (history.Call session asked) fair step =
    call_step machine starts session asked (session_at machine.sessions session) fair refl step
step_fair opened before machine starts (history.Begun session number start) fair step =
    begun_step machine starts session number start (session_at machine.sessions session) fair step
step_fair opened before machine starts (history.Reply session reply) fair step =
    reply_step opened before machine starts session reply (session_at machine.sessions session) fair refl step

steps_fair : (opened : List Table) (before : List Entry) (machine : Machine) (starts : List ℕ) (entries : List Entry)
    → IsFair machine starts
    → are_steps opened before machine entries ≡ true
    → IsFair (state_after opened machine entries) (starts ++ starts_of opened machine entries)
steps_fair opened before machine starts [] fair steps = subst (IsFair machine) (sym (append-nil starts)) fair
steps_fair opened before machine starts (entry ∷ entries) fair steps =
    let h = and_parts _ _ steps in
    let now = next opened machine entry in
    subst (IsFair (state_after opened now entries)) (append_assoc starts (entry_starts opened machine entry)
    (starts_of opened now entries))
    (steps_fair opened (before ++ entry ∷ []) now (starts ++ entry_starts opened machine entry) entries
    (step_fair opened before machine starts entry fair h.0) h.1)

pub first_fair : IsFair first_state []
first_fair = record {
  even = refl;
  seen = λ place session at. let same = same_copies SESSIONS place idle session at in
      subst (λ now. start_in now ≤ 0) same (omega arith);
  earlier = λ k start at. cc;
  free = λ place session table row at has.
      absurd (false≢true (subst (λ now. has_pending_write table row now ≡ true)
      (sym (same_copies SESSIONS place idle session at)) has));
  wins = λ earlier later start first second table row at_first at_second at_start before unseen one other. cc;
}

pub fair : (opened : List Table) (entries : List Entry) → are_steps opened [] first_state entries ≡ true
    → IsFair (state_after opened first_state entries) (starts_of opened first_state entries)
fair opened entries steps = steps_fair opened [] first_state [] entries first_fair steps

pub commits_have_starts : CommitsHaveStarts
commits_have_starts opened entries steps = (fair opened entries steps).even

pub sees_earlier_commits : SeesEarlierCommits
sees_earlier_commits opened entries number start commit steps is =
    let above = is.counted in
    let below = (fair opened entries steps).earlier (number - 1) start is.begun in
    omega arith

pub first_committer_wins : FirstCommitterWins
first_committer_wins opened entries earlier later start later_start first second table row steps one other unseen up =
    let counted = one.counted in
    (fair opened entries steps).wins (earlier - 1)
    (later - 1) later_start first second table row one.made other.made other.begun
    (omega arith) (omega arith)
