-- What an engine keeps of a state answers as the state does, and entries make of it what they make of the state.
use Rattle.std.proofs.Common.{◌≡◌, ℕ, zero, suc, ◌+◌, ◌-◌, ◌*◌, Bool, true, false, List, [], ◌∷◌, ◌++◌, length, Option, Some, None, ap, ◌∙◌, sym, refl, slice_get, slice_set, take, drop, map, append-nil}
use Rattle.std.specs.Prelude.{◌&&◌, ◌||◌, not, is_none, min, nat_lt, ◌==◌, if◌then◌else◌, option_map, option_to_list}
use Rattle.std.specs.List.{list_all, list_any, filter}
use Rattle.std.proofs.lemmas.Bool.{false≢true, and_parts}
use Rattle.std.proofs.lemmas.List.{map-set, drop-map, take-map, map-append}
use Rattle.std.proofs.lemmas.Option.{slice_get-map}
use Rattle.dk_types.specs.declared.net.TableNet.{TableNet}
use Rattle.dk_types.specs.declared.reply.Holder.{Holder}
use Rattle.dk_types.specs.declared.reply.Holder.TheVariants as holder
use Rattle.dk_types.specs.declared.reply.Refusal.{Refusal}
use Rattle.dk_types.specs.declared.reply.Refusal.TheVariants as why
use Rattle.dk_types.specs.declared.reply.Reply.{Reply}
use Rattle.dk_types.specs.declared.reply.Reply.TheVariants as told
use Rattle.dk_syntax.specs.declared.statement.Statement.{Statement}
use Rattle.dk_si.specs.declared.database.Table.{Table}
use Rattle.dk_si.specs.declared.history.Asked.{Asked}
use Rattle.dk_si.specs.declared.history.Asked.TheVariants.{Unread, Bad, Good}
use Rattle.dk_si.specs.declared.history.Entry.TheVariants as history
use Rattle.dk_si.specs.declared.kind.Kind.{Kind}
use Rattle.dk_si.specs.declared.kind.Kind.TheVariants as form
use Rattle.dk_si.specs.declared.limits.TheConstants.{MAX_TRANSACTIONS, MAX_ROWS}
use Rattle.dk_si.specs.declared.machine.LastTransaction.{LastTransaction}
use Rattle.dk_si.specs.declared.machine.Machine.{Machine}
use Rattle.dk_si.specs.declared.machine.OpenTransaction.{OpenTransaction}
use Rattle.dk_si.specs.declared.machine.Session.{Session}
use Rattle.dk_si.specs.declared.machine.Transaction.{Transaction}
use Rattle.dk_si.specs.declared.machine.Transaction.TheVariants as state
use Rattle.dk_si.specs.declared.machine.WriteSet.{WriteSet}
use Rattle.dk_si.specs.declared.meaning.Meaning.{Meaning}
use Rattle.dk_si.specs.declared.meaning.Meaning.TheVariants as meant
use Rattle.dk_si.specs.Answer.{answer, answer_open, answer_net, answer_rows, answer_change, answer_outside, first_with, holder_of, last_change, least_where, least_blocked}
use Rattle.dk_si.specs.HeldRows.{has_pending_write, is_blocked, some_commit_has}
use Rattle.dk_si.specs.Machine.{after_aborted, after_begin, after_reply, last_transaction, transition, write_set_in_flight, asks_for, begins_one, is_outside, kind_of, meaning_in, net_after, next, others, session_at, session_behind, write_set}
use Rattle.dk_si.specs.Nets.{is_empty}
use Rattle.dk_si.specs.OneThread.{OPEN_ROWS, is_open, is_spent_alone, none_in_flight, open_with}
use Rattle.dk_si.specs.Size.{size_refusal}
use Rattle.dk_si.specs.Spent.{committed_rows}
use Rattle.dk_si.proofs.PlaceLemmas.{found_at}
use Rattle.dk_si.proofs.SessionStepLemmas.{next_begun, next_call, next_reply}
use Rattle.dk_si.proofs.TransitionLemmas.{session_of}
use Rattle.dk_alone.specs.AnswerHistory.{transaction_at, will_begin}
use Rattle.dk_plain_engine.specs.Still.{still, still_session, state_of, behind_reply, with_transaction}

-- the session of a number in what is kept
still_at : (sessions : List Session) (number : ℕ)
    → session_at (map still_session sessions) number ≡ option_map still_session (session_at sessions number)
still_at sessions number = by_zero (number == 0)
  where
    by_zero : (b : Bool) → (if b then None else slice_get (map still_session sessions) (number - 1))
        ≡ option_map still_session (if b then None else slice_get sessions (number - 1))
    by_zero true = refl
    by_zero false = slice_get-map still_session sessions (number - 1)

found_transaction : (found : Option Session)
    → elim (option_map still_session found) as (λ x. Transaction) [ None ↦ state.Outside | Some session ↦ session.transaction ]
    ≡ elim found as (λ x. Transaction) [ None ↦ state.Outside | Some session ↦ session.transaction ]
found_transaction None = refl
found_transaction (Some session) = refl

pub transaction_still : (machine : Machine) (number : ℕ) → transaction_at (still machine) number ≡ transaction_at machine number
transaction_still machine number =
    ap (λ found. elim found as (λ x. Transaction) [ None ↦ state.Outside | Some session ↦ session.transaction ])
    (still_at machine.sessions number)
    ∙ found_transaction (session_at machine.sessions number)

others_still : (sessions : List Session) (number : ℕ) → others (map still_session sessions) number ≡ map still_session (others sessions number)
others_still sessions number =
    ap (λ front. front ++ drop number (map still_session sessions)) (take-map still_session (number - 1) sessions)
    ∙ (ap (λ rest. map still_session (take (number - 1) sessions) ++ rest) (drop-map still_session number sessions)
    ∙ sym (map-append still_session (take (number - 1) sessions) (drop number sessions)))

-- a session that has no call in flight
pending_still : (table row : ℕ) (transaction : Transaction) (asked : Option Asked) (touched : Option WriteSet) (past : Option LastTransaction)
    → is_none asked ≡ true
    → has_pending_write table row (still_session (session_of transaction asked touched past))
    ≡ has_pending_write table row (session_of transaction asked touched past)
pending_still table row transaction None touched past none = refl
pending_still table row transaction (Some asked) touched past none = absurd (false≢true none)

any_pending : (table row : ℕ) (sessions : List Session) → list_all (λ session. is_none session.asked) sessions ≡ true
    → list_any (has_pending_write table row) (map still_session sessions) ≡ list_any (has_pending_write table row) sessions
any_pending table row [] idle = refl
any_pending table row (session ∷ sessions) idle =
    let h = and_parts (is_none session.asked) (list_all (λ session. is_none session.asked) sessions) idle in
    ap (λ b. b || list_any (has_pending_write table row) (map still_session sessions))
    (pending_still table row session.transaction session.asked session.writes session.last h.0)
    ∙ ap (λ b. has_pending_write table row session || b) (any_pending table row sessions h.1)

blocked_still : (machine : Machine) (number start table row : ℕ) → none_in_flight machine number ≡ true
    → is_blocked (still machine) number start table row ≡ is_blocked machine number start table row
blocked_still machine number start table row idle =
    ap (λ b. some_commit_has (drop start machine.commits) table row || b)
    (ap (list_any (has_pending_write table row)) (others_still machine.sessions number)
    ∙ any_pending table row (others machine.sessions number) idle)

first_still : (table row : ℕ) (sessions : List Session) → first_with table row (map still_session sessions) ≡ first_with table row sessions
first_still table row [] = refl
first_still table row (session ∷ sessions) =
    ap (λ rest. elim (open_with table row session) as (λ x. Option ℕ) [ None ↦ rest | Some number ↦ Some number ])
    (first_still table row sessions)

holder_still : (machine : Machine) (number table row : ℕ) → holder_of (still machine) number table row ≡ holder_of machine number table row
holder_still machine number table row =
    ap (λ found. elim found as (λ x. Holder) [ None ↦ holder.Commit (last_change table row machine.commits) | Some t ↦ holder.Transaction t ])
    (ap (first_with table row) (others_still machine.sessions number) ∙ first_still table row (others machine.sessions number))

-- tests that agree have one least number
least_same : (one other : ℕ → Bool) (ids : List ℕ) → ((id : ℕ) → one id ≡ other id) → least_where one ids ≡ least_where other ids
least_same one other [] same = refl
least_same one other (id ∷ ids) same =
    ap (λ b. if b then Some (elim (least_where one ids) as (λ x. ℕ) [ None ↦ id | Some least ↦ min id least ]) else least_where one ids) (same id)
    ∙ ap (λ rest. if other id then Some (elim rest as (λ x. ℕ) [ None ↦ id | Some least ↦ min id least ]) else rest) (least_same one other ids same)

least_still : (machine : Machine) (number start : ℕ) (writes : Option WriteSet) → none_in_flight machine number ≡ true
    → least_blocked (still machine) number start writes ≡ least_blocked machine number start writes
least_still machine number start None idle = refl
least_still machine number start (Some set) idle =
    ap (λ found. option_map (λ row. (set.table, row)) found)
    (least_same (is_blocked (still machine) number start set.table) (is_blocked machine number start set.table) set.ids
    (λ row. blocked_still machine number start set.table row idle))

rows_still : (machine : Machine) (number : ℕ) (commits_now : Bool) (count : ℕ) (held : Option (ℕ × ℕ))
    → answer_rows (still machine) number commits_now count held ≡ answer_rows machine number commits_now count held
rows_still machine number commits_now count (Some at) =
    ap (λ by. told.Refused (why.Conflict at.0 at.1 by)) (holder_still machine number at.0 at.1)
rows_still machine number commits_now count None = refl

net_still : (machine : Machine) (number : ℕ) (active : OpenTransaction) (count : ℕ) (net : List TableNet) (writes : Option WriteSet)
    → none_in_flight machine number ≡ true
    → answer_net (still machine) number active count net writes ≡ answer_net machine number active count net writes
net_still machine number active count net writes idle = by_size (size_refusal net)
  where
    by_size : (size : Option Refusal)
        → elim size as (λ x. Reply) [
          | Some refusal ↦ told.Refused refusal
          | None ↦ answer_rows (still machine) number (active.fresh && not (is_empty net)) count (least_blocked (still machine) number active.start writes)
        ]
        ≡ elim size as (λ x. Reply) [
          | Some refusal ↦ told.Refused refusal
          | None ↦ answer_rows machine number (active.fresh && not (is_empty net)) count (least_blocked machine number active.start writes)
        ]
    by_size (Some refusal) = refl
    by_size None =
        ap (answer_rows (still machine) number (active.fresh && not (is_empty net)) count) (least_still machine number active.start writes idle)
        ∙ rows_still machine number (active.fresh && not (is_empty net)) count (least_blocked machine number active.start writes)

change_still : (machine : Machine) (number : ℕ) (active : OpenTransaction) (m : Meaning) (net : List TableNet) (writes : Option WriteSet)
    → none_in_flight machine number ≡ true
    → answer_change (still machine) number active m net writes ≡ answer_change machine number active m net writes
change_still machine number active (meant.Change count part) net writes idle = net_still machine number active count net writes idle
change_still machine number active (meant.Refused refusal) net writes idle = refl
change_still machine number active other net writes idle = refl

open_still : (opened : List Table) (machine : Machine) (number : ℕ) (active : OpenTransaction) (statement : Statement) (kind : Kind)
    → none_in_flight machine number ≡ true
    → answer_open opened (still machine) number active statement kind ≡ answer_open opened machine number active statement kind
open_still opened machine number active statement form.Change idle =
    let m = meaning_in opened machine.commits active (Good statement) in
    change_still machine number active m (net_after opened machine.commits active m) (write_set opened machine.commits active m) idle
open_still opened machine number active statement form.Begin idle = refl
open_still opened machine number active statement form.Commit idle = refl
open_still opened machine number active statement form.Rollback idle = refl
open_still opened machine number active statement form.Checkpoint idle = refl
open_still opened machine number active statement form.Create idle = refl
open_still opened machine number active statement form.Select idle = refl

outside_still : (opened : List Table) (iteration : ℕ) (machine : Machine) (kind : Kind)
    → answer_outside opened iteration (still machine) kind ≡ answer_outside opened iteration machine kind
outside_still opened iteration machine form.Commit = refl
outside_still opened iteration machine form.Rollback = refl
outside_still opened iteration machine form.Checkpoint = refl
outside_still opened iteration machine other = refl

pub answer_still : (opened : List Table) (iteration : ℕ) (machine : Machine) (number : ℕ) (transaction : Transaction) (asked : Asked)
    → none_in_flight machine number ≡ true
    → answer opened iteration (still machine) number transaction asked ≡ answer opened iteration machine number transaction asked
answer_still opened iteration machine number transaction Unread idle = refl
answer_still opened iteration machine number transaction (Bad at) idle = refl
answer_still opened iteration machine number state.Outside (Good statement) idle = outside_still opened iteration machine (kind_of statement)
answer_still opened iteration machine number state.Aborted (Good statement) idle = refl
answer_still opened iteration machine number (state.Open active) (Good statement) idle =
    open_still opened machine number active statement (kind_of statement) idle

-- whether a transaction begins
open_one : (b : Bool) (one kept : Session) (xs ys : List Session) → length xs ≡ length ys
    → length (if b then one ∷ xs else xs) ≡ length (if b then kept ∷ ys else ys)
open_one true one kept xs ys same = ap suc same
open_one false one kept xs ys same = same

open_length : (sessions : List Session) → length (filter is_open (map still_session sessions)) ≡ length (filter is_open sessions)
open_length [] = refl
open_length (session ∷ sessions) =
    open_one (is_open session) (still_session session) session (filter is_open (map still_session sessions)) (filter is_open sessions)
    (open_length sessions)

spent_still : (opened : List Table) (machine : Machine) → is_spent_alone opened (still machine) ≡ is_spent_alone opened machine
spent_still opened machine =
    ap (λ n. machine.begun == MAX_TRANSACTIONS || nat_lt MAX_ROWS (committed_rows opened machine.commits + OPEN_ROWS * (n + 1)))
    (open_length machine.sessions)

pub begins_still : (opened : List Table) (machine : Machine) (number : ℕ) (asked : Asked)
    → will_begin opened (still machine) number asked ≡ will_begin opened machine number asked
begins_still opened machine number asked =
    ap (λ t. (asks_for begins_one (Some asked) && is_outside t) && not (is_spent_alone opened (still machine))) (transaction_still machine number)
    ∙ ap (λ b. (asks_for begins_one (Some asked) && is_outside (transaction_at machine number)) && not b) (spent_still opened machine)

-- what entries make of what is kept
set_same : (sessions : List Session) (n : ℕ) (old new : Session) → slice_get sessions n ≡ Some old → still_session new ≡ still_session old
    → map still_session (slice_set sessions n new) ≡ map still_session sessions
set_same [] n old new at same = refl
set_same (session ∷ sessions) zero old new at same =
    let one : session ≡ old = cc in
    ap (λ first. first ∷ map still_session sessions) (same ∙ sym (ap still_session one))
set_same (session ∷ sessions) (suc n) old new at same = ap (λ rest. still_session session ∷ rest) (set_same sessions n old new at same)

pub call_still : (opened : List Table) (machine : Machine) (number : ℕ) (asked : Asked) (session : Session)
    → session_at machine.sessions number ≡ Some session
    → still (next opened machine (history.Call number asked)) ≡ still machine
call_still opened machine number asked session is =
    ap still (next_call opened machine number asked session is)
    ∙ ap (λ (sessions : List Session). record machine { sessions = sessions })
    (set_same machine.sessions (number - 1) session (record session { asked = Some asked; last = None })
    (found_at machine.sessions number session is).0 refl)

pub begun_still : (opened : List Table) (machine : Machine) (number transaction start : ℕ) (session : Session)
    → session_at machine.sessions number ≡ Some session
    → still (next opened machine (history.Begun number transaction start)) ≡ next opened (still machine) (history.Begun number transaction start)
begun_still opened machine number transaction start session is =
    let new : Session = record session { transaction = state.Open (record { number = transaction; start = start; net = []; fresh = true }) } in
    ap still (next_begun opened machine number transaction start session is)
    ∙ (ap (λ (sessions : List Session). record (after_begin machine number transaction start session) { sessions = sessions })
    (map-set still_session machine.sessions (number - 1) new)
    ∙ sym (next_begun opened (still machine) number transaction start (still_session session)
    (still_at machine.sessions number ∙ ap (option_map still_session) is)))

-- a state with a session in the place of another, and no commit
put_still : (machine : Machine) (number : ℕ) (transaction : Transaction)
    → still (record machine { sessions = slice_set machine.sessions (number - 1) (session_behind transaction None None) })
    ≡ with_transaction (still machine) number transaction None
put_still machine number transaction =
    ap (λ sessions. state_of machine.commits machine.begun sessions)
    (map-set still_session machine.sessions (number - 1) (session_behind transaction None None))
    ∙ ap (λ commits. state_of commits machine.begun (slice_set (map still_session machine.sessions) (number - 1) (session_behind transaction None None)))
    (sym (append-nil machine.commits))

reply_behind : (opened : List Table) (machine : Machine) (number : ℕ) (transaction : Transaction) (asked : Asked)
    (touched : Option WriteSet) (past : Option LastTransaction) (reply : Reply)
    → still (after_reply opened machine number (session_of transaction (Some asked) touched past) reply)
    ≡ behind_reply opened (still machine) number transaction asked reply
reply_behind opened machine number state.Outside asked touched past reply = put_still machine number state.Outside
reply_behind opened machine number state.Aborted asked touched past reply = put_still machine number (after_aborted reply)
reply_behind opened machine number (state.Open active) asked touched past reply =
    let move = transition opened machine.commits active (Some asked) reply in
    ap (λ sessions. state_of (machine.commits ++ option_to_list move.commit) machine.begun sessions)
    (map-set still_session machine.sessions (number - 1) (session_behind move.transaction
    (write_set_in_flight opened machine.commits (state.Open active) (Some asked))
    (last_transaction active.number move.transaction move.commit move.net (length machine.commits))))

pub reply_still : (opened : List Table) (machine : Machine) (number : ℕ) (asked : Asked) (session : Session) (reply : Reply)
    → session_at machine.sessions number ≡ Some session → session.asked ≡ Some asked
    → still (next opened machine (history.Reply number reply))
    ≡ behind_reply opened (still machine) number session.transaction asked reply
reply_still opened machine number asked session reply is call =
    ap still (next_reply opened machine number reply session is)
    ∙ (ap (λ a. still (after_reply opened machine number (session_of session.transaction a session.writes session.last) reply)) call
    ∙ reply_behind opened machine number session.transaction asked session.writes session.last reply)
