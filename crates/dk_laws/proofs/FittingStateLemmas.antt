-- In every state commits fit the databases that they are applied to, and nets those at their starts.
use Rattle.std.proofs.Common.{◌≡◌, ⊎_elim, ℕ, ◌+◌, ◌-◌, ◌<◌, ◌≤◌, Bool, true, false, List, [], ◌∷◌, ◌++◌, length}
use Rattle.std.proofs.Common.{Option, Some, None, option_to_list, ap, ◌∙◌, sym, refl, subst, arith, slice_get}
use Rattle.std.proofs.Common.{slice_set, append-nil}
use Rattle.std.specs.Prelude.{if◌then◌else◌}
use Rattle.std.proofs.lemmas.Bool.{false≢true, and_parts, not-true}
use Rattle.std.proofs.lemmas.Option.{slice_get_within}
use Rattle.std.proofs.lemmas.List.{take-append-le}
use Rattle.std.proofs.lemmas.List.Elements.{All-nil}
use Rattle.dk_types.specs.declared.net.Commit.{Commit}
use Rattle.dk_types.specs.declared.net.Commit.TheVariants as commit
use Rattle.dk_types.specs.declared.net.TableNet.{TableNet}
use Rattle.dk_types.specs.declared.reply.Refusal.{Refusal}
use Rattle.dk_types.specs.declared.reply.Reply.{Reply}
use Rattle.dk_types.specs.declared.reply.Reply.TheVariants as told
use Rattle.dk_syntax.specs.declared.statement.Statement.{Statement}
use Rattle.dk_si.specs.declared.database.Table.{Table}
use Rattle.dk_si.specs.declared.history.Asked.{Asked}
use Rattle.dk_si.specs.declared.history.Asked.TheVariants.{Unread, Bad, Good}
use Rattle.dk_si.specs.declared.history.Entry.{Entry}
use Rattle.dk_si.specs.declared.history.Entry.TheVariants as history
use Rattle.dk_si.specs.declared.limits.TheConstants.{SESSIONS}
use Rattle.dk_si.specs.declared.machine.LastTransaction.{LastTransaction}
use Rattle.dk_si.specs.declared.machine.Machine.{Machine}
use Rattle.dk_si.specs.declared.machine.OpenTransaction.{OpenTransaction}
use Rattle.dk_si.specs.declared.machine.Session.{Session}
use Rattle.dk_si.specs.declared.machine.Transaction.{Transaction}
use Rattle.dk_si.specs.declared.machine.Transaction.TheVariants as state
use Rattle.dk_si.specs.declared.machine.WriteSet.{WriteSet}
use Rattle.dk_si.specs.declared.meaning.Meaning.{Meaning}
use Rattle.dk_si.specs.declared.meaning.Meaning.TheVariants as meant
use Rattle.dk_si.specs.Database.{after, after_all, view, apply_net}
use Rattle.dk_laws.specs.FittingNets.{all_fit, FitsNet, FitsCommit, RowsFit, CommitsFit, NetsFit}
use Rattle.dk_si.specs.IsStep.{are_steps, is_step, may_reply, if_there, start_of}
use Rattle.dk_si.specs.HeldRows.{commit_has}
use Rattle.dk_si.specs.Laws.{state_after, entry_starts}
use Rattle.dk_si.specs.Machine.{first_state, idle, session_at, session_behind, after_aborted, after_call, after_begin}
use Rattle.dk_si.specs.Machine.{after_reply, next, transition, creation, meaning_now, meaning_in}
use Rattle.dk_si.specs.Machine.{net_after, net_behind, is_own, stay_open, end_with, asks_for, aborts, kind_of}
use Rattle.dk_si.specs.Machine.{write_set_in_flight, last_transaction}
use Rattle.dk_si.specs.MayAnswer.{may_answer, open_answers}
use Rattle.dk_si.specs.Meaning.{meaning, is_text_refusal}
use Rattle.dk_si.specs.Nets.{is_empty, row_count, part_of, merged_net}
use Rattle.dk_si.specs.ReplyTests.{is_refused, is_no_memory}
use Rattle.dk_si.proofs.FirstCommitterLemmas.{IsFair, first_fair, step_fair, reply_allowed}
use Rattle.dk_laws.proofs.FittingCommitLemmas.{AllCommitsFit, mapped_from, net_applied, after_fits}
use Rattle.dk_laws.proofs.FittingCommitLemmas.{net_behind_all}
use Rattle.dk_laws.proofs.FittingMeaningLemmas.{change_fits, creation_fits}
use Rattle.dk_laws.proofs.FittingNetLemmas.{ChangesTable, merged_net_fits, view_at}
use Rattle.dk_si.proofs.FreeRowLemmas.{Free, Fair}
use Rattle.dk_si.proofs.PlaceLemmas.{last_place, set_place, found_at, same_copies}
use Rattle.dk_laws.proofs.ReceiptLemmas.{committed, changed}
use Rattle.dk_si.proofs.TransitionLemmas.{Allowed, session_of}

-- the net of an open transaction fits the database at its start
abbrev TransactionFits : List Table → List Commit → Transaction → Type 0
TransactionFits opened commits (state.Open active) = FitsNet (after opened commits active.start) active.net
TransactionFits opened commits state.Outside = Unit {0}
TransactionFits opened commits state.Aborted = Unit {0}

record Fitting (opened : List Table) (commits : List Commit) (sessions : List Session) : Type 0 where
  commits_fit : AllCommitsFit opened commits
  nets_fit : (place : ℕ) (session : Session) → slice_get sessions place ≡ Some session
      → TransactionFits opened commits session.transaction

abbrev IsFitting : List Table → Machine → Type 0
IsFitting opened machine = Fitting opened machine.commits machine.sessions

empty_fits : (tables : List Table) → FitsNet tables []
empty_fits tables = record { is = (refl, refl); parts = All-nil _ }

-- what an answer makes of a transaction fits: its net the database at its start, and a table that it makes the last one
abbrev Carried : List Table → List Table → Transaction → Option Commit → Type 0
Carried base now (state.Open active) None = FitsNet base active.net
Carried base now state.Outside None = Unit {0}
Carried base now state.Aborted None = Unit {0}
Carried base now state.Outside (Some (commit.Change net)) = (is_empty net ≡ false) × FitsNet base net
Carried base now state.Outside (Some (commit.Create name schema)) = FitsCommit now (commit.Create name schema)
Carried base now (state.Open active) (Some commit) = ⊥
Carried base now state.Aborted (Some commit) = ⊥

own_carried : (base now : List Table) (own : Bool) (active : OpenTransaction) (ended net : List TableNet)
    → FitsNet base net
    → Carried base now (if own then end_with ended None else stay_open active net).transaction
    (if own then end_with ended None else stay_open active net).commit
own_carried base now true active ended net fits = tt
own_carried base now false active ended net fits = fits

refused_carried : (base now : List Table) (own aborted : Bool) (active : OpenTransaction) → FitsNet base active.net
    → Carried base now
    (if own then end_with active.net None
    else (if aborted then record { transaction = state.Aborted; commit = None; net = active.net }
    else stay_open active active.net)).transaction
    (if own then end_with active.net None
    else (if aborted then record { transaction = state.Aborted; commit = None; net = active.net }
    else stay_open active active.net)).commit
refused_carried base now true aborted active fits = tt
refused_carried base now false true active fits = tt
refused_carried base now false false active fits = fits

creation_carried : (base now : List Table) (statement : Statement) (meaning_so : Meaning) → all_fit now ≡ true
    → meaning now statement ≡ meaning_so → Carried base now state.Outside (creation meaning_so)
creation_carried base now statement (meant.Create name schema) all is = creation_fits now statement name schema all is
creation_carried base now statement (meant.Rows rows) all is = tt
creation_carried base now statement (meant.Change count part) all is = tt
creation_carried base now statement (meant.Refused refusal) all is = tt
creation_carried base now statement meant.Nothing all is = tt

-- the net behind a statement fits
behind_fits : (opened : List Table) (commits : List Commit) (active : OpenTransaction) (statement : Statement)
    → (meaning_so : Meaning)
    → all_fit (after opened commits active.start) ≡ true → FitsNet (after opened commits active.start) active.net
    → meaning (view opened commits active.start active.net) statement ≡ meaning_so
    → FitsNet (after opened commits active.start) (net_after opened commits active meaning_so)
behind_fits opened commits active statement (meant.Change count part) all fits is =
    let base = after opened commits active.start in
    let seen = change_fits (apply_net active.net base) statement count part (net_applied base active.net fits all) is in
    let from = mapped_from (part_of active.net part.table) (slice_get base part.table) seen.table
    (sym (view_at active.net base part.table fits.is.0) ∙ seen.is) in
    let counts : length from.0.rows ≡ row_count base part.table =
    sym (ap (λ found. elim found as (λ x. ℕ) [ None ↦ 0 | Some table ↦ length table.rows ]) from.1) in
    subst (λ n. FitsNet base (merged_net n active.net part)) counts
    (merged_net_fits base active.net part from.0 fits from.1
    (subst (λ (table : Table). ChangesTable table part) (sym from.2) seen.changes))
behind_fits opened commits active statement (meant.Rows rows) all fits is = fits
behind_fits opened commits active statement (meant.Create name schema) all fits is = fits
behind_fits opened commits active statement (meant.Refused refusal) all fits is = fits
behind_fits opened commits active statement meant.Nothing all fits is = fits

abbrev Carries : List Table → List Commit → OpenTransaction → Option Asked → Reply → Type 0
Carries opened commits active asked reply =
    Carried (after opened commits active.start) (after opened commits (length commits))
    (transition opened commits active asked reply).transaction (transition opened commits active asked reply).commit

-- where rows fit after each number of commits
abbrev RowsFitAfter : List Table → List Commit → Type 0
RowsFitAfter opened commits = (n : ℕ) → all_fit (after opened commits n) ≡ true

statement_carries : (opened : List Table) (commits : List Commit) (active : OpenTransaction) (statement : Statement)
    → (reply : Reply)
    → RowsFitAfter opened commits → FitsNet (after opened commits active.start) active.net
    → open_answers opened commits active statement (kind_of statement) reply ≡ true
    → Carries opened commits active (Some (Good statement)) reply
statement_carries opened commits active statement (told.Created receipt) all fits e =
    creation_carried (after opened commits active.start) (after opened commits (length commits)) statement
    (meaning_now opened commits (Some (Good statement))) (all (length commits)) refl
statement_carries opened commits active statement (told.Changed count (Some receipt)) all fits e = (
  not-true _ (changed opened commits active statement count receipt (kind_of statement) e).1,
  behind_fits opened commits active statement (meaning_in opened commits active (Good statement))
      (all active.start) fits refl,
)
statement_carries opened commits active statement (told.Changed count None) all fits e =
    let net = net_behind opened commits active (Some (Good statement)) in
    own_carried (after opened commits active.start) (after opened commits (length commits))
    (is_own active (Some (Good statement))) active net net
    (behind_fits opened commits active statement (meaning_in opened commits active (Good statement))
    (all active.start) fits refl)
statement_carries opened commits active statement (told.Committed receipt) all fits e =
    ((committed opened commits active statement receipt (kind_of statement) e).1, fits)
statement_carries opened commits active statement (told.Rows rows) all fits e =
    own_carried (after opened commits active.start) (after opened commits (length commits))
    (is_own active (Some (Good statement))) active
    active.net active.net fits
statement_carries opened commits active statement (told.Begun start) all fits e = fits
statement_carries opened commits active statement told.Ended all fits e = tt
statement_carries opened commits active statement (told.Checkpointed iteration) all fits e = fits
statement_carries opened commits active statement (told.Refused refusal) all fits e =
    refused_carried (after opened commits active.start) (after opened commits (length commits))
    (is_own active (Some (Good statement))) (asks_for (aborts refusal) (Some (Good statement))) active fits

unread_carries : (opened : List Table) (commits : List Commit) (active : OpenTransaction) (asked : Option Asked)
    → (test : Refusal → Bool)
    → (reply : Reply) → FitsNet (after opened commits active.start) active.net → is_refused test reply ≡ true
    → Carries opened commits active asked reply
unread_carries opened commits active asked test (told.Refused refusal) fits e =
    refused_carried (after opened commits active.start) (after opened commits (length commits))
    (is_own active asked) (asks_for (aborts refusal) asked) active fits
unread_carries opened commits active asked test other fits e = absurd (false≢true e)

reply_carries : (opened : List Table) (commits : List Commit) (active : OpenTransaction) (asked : Asked) (reply : Reply)
    → RowsFitAfter opened commits → FitsNet (after opened commits active.start) active.net
    → may_answer opened commits (state.Open active) asked reply ≡ true
    → Carries opened commits active (Some asked) reply
reply_carries opened commits active Unread reply all fits e =
    unread_carries opened commits active (Some Unread) is_no_memory reply fits e
reply_carries opened commits active (Bad at) reply all fits e =
    unread_carries opened commits active (Some (Bad at)) (is_text_refusal at) reply fits e
reply_carries opened commits active (Good statement) reply all fits e =
    statement_carries opened commits active statement reply all fits e

-- a session takes the place of its former state
replaced_fits : (opened : List Table) (commits : List Commit) (sessions : List Session) (place : ℕ) (new : Session)
    → Fitting opened commits sessions → TransactionFits opened commits new.transaction
    → Fitting opened commits (slice_set sessions place new)
replaced_fits opened commits sessions place new fit own = record {
  commits_fit = fit.commits_fit;
  nets_fit = λ k session at. ⊎_elim
      (λ h. subst (λ (now : Session). TransactionFits opened commits now.transaction) h.1 own)
      (λ h. fit.nets_fit k session h.1)
      (set_place sessions place new k session at);
}

-- the states up to the last commit stay
after_stays : (opened : List Table) (commits : List Commit) (commit : Commit) (n : ℕ) → n ≤ length commits
    → after opened commits n ≡ after opened (commits ++ commit ∷ []) n
after_stays opened commits commit n within =
    ap (λ list. after_all list opened) (sym (take-append-le n commits (commit ∷ []) within))

transaction_stays : (opened : List Table) (commits : List Commit) (commit : Commit) (transaction : Transaction)
    → start_of transaction ≤ length commits → TransactionFits opened commits transaction
    → TransactionFits opened (commits ++ commit ∷ []) transaction
transaction_stays opened commits commit state.Outside within fits = tt
transaction_stays opened commits commit state.Aborted within fits = tt
transaction_stays opened commits commit (state.Open active) within fits =
    subst (λ tables. FitsNet tables active.net) (after_stays opened commits commit active.start within) fits

-- a commit fits the last database, where its rows were free
commit_fits : (opened : List Table) (commits : List Commit) (sessions : List Session) (place start : ℕ) (one : Commit)
    → AllCommitsFit opened commits → start ≤ length commits
    → ((table row : ℕ) → commit_has table row one ≡ true → Free commits sessions place start table row)
    → Carried (after opened commits start) (after opened commits (length commits)) state.Outside (Some one)
    → FitsCommit (after opened commits (length commits)) one
commit_fits opened commits sessions place start (commit.Create name schema) fit within free carried = carried
commit_fits opened commits sessions place start (commit.Change net) fit within free carried =
    let end : start + (length commits - start) ≡ length commits = omega (arith, within) in (
      carried.0,
      subst (λ n. FitsNet (after opened commits n) net) end
          (net_behind_all opened commits net start (length commits - start) fit
          (λ n other above at table row has changed. (free table row has).clear n other above at changed)
          (omega (arith, within)) carried.1),
    )

committed_fits : (opened : List Table) (commits : List Commit) (sessions : List Session) (starts : List ℕ) (place : ℕ)
    → (one : Commit)
    → (written : Option WriteSet) (last : Option LastTransaction) → Fair commits sessions starts
    → Fitting opened commits sessions
    → FitsCommit (after opened commits (length commits)) one
    → Fitting opened (commits ++ one ∷ []) (slice_set sessions place (session_behind state.Outside written last))
committed_fits opened commits sessions starts place one written last fair fit fits = record {
  commits_fit = λ n found at. ⊎_elim
      (λ h. let within = slice_get_within commits n found h in
      subst (λ tables. FitsCommit tables found) (after_stays opened commits one n (omega (arith, within)))
      (fit.commits_fit n found h))
      (λ h. let same = h.0 in
      subst (λ now. FitsCommit (after opened (commits ++ one ∷ []) n) now) h.1
      (subst (λ m. FitsCommit (after opened (commits ++ one ∷ []) m) one) (sym same)
      (subst (λ tables. FitsCommit tables one) (after_stays opened commits one (length commits) (omega arith)) fits)))
      (last_place commits one n found at);
  nets_fit = λ k session at. ⊎_elim
      (λ h. subst (λ (now : Session). TransactionFits opened (commits ++ one ∷ []) now.transaction) h.1 tt)
      (λ h. transaction_stays opened commits one session.transaction (fair.seen k session h.1)
      (fit.nets_fit k session h.1))
      (set_place sessions place (session_behind state.Outside written last) k session at);
}

-- a transaction that goes on, or has ended without a commit
uncommitted_fits : (opened : List Table) (commits : List Commit) (now : List Table) (P : ℕ → ℕ → Type 0) (start : ℕ)
    → (transaction : Transaction)
    → Allowed P start transaction None → Carried (after opened commits start) now transaction None
    → TransactionFits opened commits transaction
uncommitted_fits opened commits now P start state.Outside allowed carried = tt
uncommitted_fits opened commits now P start state.Aborted allowed carried = tt
uncommitted_fits opened commits now P start (state.Open active) allowed carried =
    subst (λ n. FitsNet (after opened commits n) active.net) (sym allowed.0) carried

moved_fits : (opened : List Table) (commits : List Commit) (sessions : List Session) (starts : List ℕ) (place start : ℕ)
    → (transaction : Transaction) (commit : Option Commit) (written : Option WriteSet) (last : Option LastTransaction)
    → Fair commits sessions starts → Fitting opened commits sessions → start ≤ length commits
    → Allowed (Free commits sessions place start) start transaction commit
    → Carried (after opened commits start) (after opened commits (length commits)) transaction commit
    → Fitting opened (commits ++ option_to_list commit)
    (slice_set sessions place (session_behind transaction written last))
moved_fits opened commits sessions starts place start transaction None written last fair fit within allowed carried =
    subst (λ list. Fitting opened list (slice_set sessions place (session_behind transaction written last)))
    (sym (append-nil commits))
    (replaced_fits opened commits sessions place (session_behind transaction written last) fit
    (uncommitted_fits opened commits (after opened commits (length commits))
    (Free commits sessions place start) start transaction allowed carried))
moved_fits opened commits sessions starts place start state.Outside (Some one) sets last fair fit within allowed made =
    committed_fits opened commits sessions starts place one sets last fair fit
    (commit_fits opened commits sessions place start one fit.commits_fit within allowed made)
moved_fits _ _ _ _ _ _ state.Aborted (Some one) _ _ _ _ _ allowed _ = absurd allowed
moved_fits _ _ _ _ _ _ (state.Open active) (Some one) _ _ _ _ _ allowed _ = absurd allowed

aborted_fits : (opened : List Table) (commits : List Commit) (reply : Reply)
    → TransactionFits opened commits (after_aborted reply)
aborted_fits opened commits told.Ended = tt
aborted_fits opened commits other = tt

reply_fits : (opened : List Table) (before : List Entry) (machine : Machine) (starts : List ℕ) (number : ℕ)
    → (reply : Reply)
    → (transaction : Transaction) (asked : Option Asked) (written : Option WriteSet) (last : Option LastTransaction)
    → all_fit opened ≡ true → IsFair machine starts → IsFitting opened machine → 0 < number
    → slice_get machine.sessions (number - 1) ≡ Some (session_of transaction asked written last)
    → may_reply opened number before machine reply (session_of transaction asked written last) ≡ true
    → IsFitting opened (after_reply opened machine number (session_of transaction asked written last) reply)
reply_fits opened before machine starts number reply transaction None written last all fair fit above at may =
    absurd (false≢true may)
reply_fits opened before machine starts number reply state.Outside (Some asked) written last all fair fit above at may =
    replaced_fits opened machine.commits machine.sessions (number - 1) (session_behind state.Outside None None) fit tt
reply_fits opened before machine starts number reply state.Aborted (Some asked) written last all fair fit above at may =
    replaced_fits opened machine.commits machine.sessions (number - 1)
    (session_behind (after_aborted reply) None None) fit
    (aborted_fits opened machine.commits reply)
reply_fits opened before machine starts number reply (state.Open active) (Some asked) own last all fair fit above at e =
    let move = transition opened machine.commits active (Some asked) reply in
    let session = session_of (state.Open active) (Some asked) own last in
    let rows : RowsFitAfter opened machine.commits = λ n. after_fits opened machine.commits n fit.commits_fit all in
    moved_fits opened machine.commits machine.sessions starts (number - 1) active.start move.transaction move.commit
    (write_set_in_flight opened machine.commits (state.Open active) (Some asked))
    (last_transaction active.number move.transaction move.commit move.net (length machine.commits)) fair fit
    (fair.seen (number - 1) session at)
    (reply_allowed opened before machine starts number reply active asked own last fair above at e)
    (reply_carries opened machine.commits active asked reply rows (fit.nets_fit (number - 1) session at)
    (and_parts _ _ e).0)

call_fits : (opened : List Table) (machine : Machine) (number : ℕ) (asked : Asked) (found : Option Session)
    → IsFitting opened machine
    → session_at machine.sessions number ≡ found
    → IsFitting opened (elim found as (λ x. Machine) [
      | None ↦ machine
      | Some before ↦ after_call machine number asked before
    ])
call_fits opened machine number asked None fit is = fit
call_fits opened machine number asked (Some before) fit is =
    replaced_fits opened machine.commits machine.sessions (number - 1)
    (record before { asked = Some asked; last = None }) fit
    (fit.nets_fit (number - 1) before (found_at machine.sessions number before is).0)

begin_fits : (opened : List Table) (machine : Machine) (session number start : ℕ) (found : Option Session)
    → IsFitting opened machine
    → IsFitting opened (elim found as (λ x. Machine) [
      | None ↦ machine
      | Some before ↦ after_begin machine session number start before
    ])
begin_fits opened machine session number start None fit = fit
begin_fits opened machine session number start (Some before) fit =
    replaced_fits opened machine.commits machine.sessions (session - 1)
    (record before { transaction = state.Open (record { number = number; start = start; net = []; fresh = true }) }) fit
    (empty_fits (after opened machine.commits start))

found_fits : (opened : List Table) (before : List Entry) (machine : Machine) (starts : List ℕ) (number : ℕ)
    → (reply : Reply)
    → (found : Option Session) → all_fit opened ≡ true → IsFair machine starts → IsFitting opened machine
    → session_at machine.sessions number ≡ found → if_there (may_reply opened number before machine reply) found ≡ true
    → IsFitting opened (elim found as (λ x. Machine) [
      | None ↦ machine
      | Some session ↦ after_reply opened machine number session reply
    ])
found_fits opened before machine starts number reply None all fair fit is may = absurd (false≢true may)
found_fits opened before machine starts number reply (Some session) all fair fit is may =
    let h = found_at machine.sessions number session is in
    reply_fits opened before machine starts number reply session.transaction session.asked session.writes
    session.last all fair fit h.1 h.0 may

step_fits : (opened : List Table) (before : List Entry) (machine : Machine) (starts : List ℕ) (entry : Entry)
    → all_fit opened ≡ true
    → IsFair machine starts → IsFitting opened machine → is_step opened before machine entry ≡ true
    → IsFitting opened (next opened machine entry)
step_fits opened before machine starts (history.Call session asked) all fair fit step =
    call_fits opened machine session asked (session_at machine.sessions session) fit refl
step_fits opened before machine starts (history.Begun session number start) all fair fit step =
    begin_fits opened machine session number start (session_at machine.sessions session) fit
step_fits opened before machine starts (history.Reply session reply) all fair fit step =
    found_fits opened before machine starts session reply (session_at machine.sessions session) all fair fit refl step

steps_fit : (opened : List Table) (before : List Entry) (machine : Machine) (starts : List ℕ) (entries : List Entry)
    → all_fit opened ≡ true
    → IsFair machine starts → IsFitting opened machine → are_steps opened before machine entries ≡ true
    → IsFitting opened (state_after opened machine entries)
steps_fit opened before machine starts [] all fair fit steps = fit
steps_fit opened before machine starts (entry ∷ entries) all fair fit steps =
    let h = and_parts _ _ steps in
    steps_fit opened (before ++ entry ∷ []) (next opened machine entry)
    (starts ++ entry_starts opened machine entry) entries all
    (step_fair opened before machine starts entry fair h.0)
    (step_fits opened before machine starts entry all fair fit h.0) h.1

first_fits : (opened : List Table) → IsFitting opened first_state
first_fits opened = record {
  commits_fit = λ n commit at. cc;
  nets_fit = λ place session at.
      subst (λ (now : Session). TransactionFits opened [] now.transaction)
      (same_copies SESSIONS place idle session at) tt;
}

fitting : (opened : List Table) (entries : List Entry) → all_fit opened ≡ true
    → are_steps opened [] first_state entries ≡ true
    → IsFitting opened (state_after opened first_state entries)
fitting opened entries all steps = steps_fit opened [] first_state [] entries all first_fair (first_fits opened) steps

pub rows_fit : RowsFit
rows_fit opened entries n all steps =
    after_fits opened (state_after opened first_state entries).commits n
    (fitting opened entries all steps).commits_fit all

pub commits_fit : CommitsFit
commits_fit opened entries n commit all steps at = (fitting opened entries all steps).commits_fit n commit at

pub nets_fit : NetsFit
nets_fit opened entries number active all is =
    let machine = state_after opened first_state entries in
    subst (TransactionFits opened machine.commits) is.open_so
    ((fitting opened entries all is.steps).nets_fit (number - 1) is.session
    (found_at machine.sessions number is.session is.is).0)
