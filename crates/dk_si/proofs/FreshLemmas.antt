-- In a history of one thread a transaction that began in the call in flight sees all commits.
use Rattle.std.proofs.Common.{◌≡◌, ⊎_elim, ℕ, ◌-◌, ◌<◌, Bool, true, false, List, [], ◌∷◌, ◌++◌, length, Option, Some, None, refl, subst, slice_get, slice_set}
use Rattle.std.specs.Prelude.{◌||◌, not, is_none, option_to_list, ◌==◌, if◌then◌else◌}
use Rattle.std.specs.List.{list_all, list_any}
use Rattle.std.proofs.lemmas.Bool.{true≢false, false≢true, and_parts, or_from, eq-eqb, eqb-true, not_from_true}
use Rattle.dk_types.specs.declared.net.TableNet.{TableNet}
use Rattle.dk_types.specs.declared.net.Commit.{Commit}
use Rattle.dk_types.specs.declared.reply.Receipt.{Receipt}
use Rattle.dk_types.specs.declared.reply.Refusal.{Refusal}
use Rattle.dk_types.specs.declared.reply.Reply.{Reply}
use Rattle.dk_types.specs.declared.reply.Reply.TheVariants as told
use Rattle.dk_si.specs.declared.database.Table.{Table}
use Rattle.dk_si.specs.declared.history.Asked.{Asked}
use Rattle.dk_si.specs.declared.history.Entry.{Entry}
use Rattle.dk_si.specs.declared.history.Entry.TheVariants as history
use Rattle.dk_si.specs.declared.machine.OpenTransaction.{OpenTransaction}
use Rattle.dk_si.specs.declared.machine.Transaction.{Transaction}
use Rattle.dk_si.specs.declared.machine.Transaction.TheVariants as state
use Rattle.dk_si.specs.declared.machine.Transition.{Transition}
use Rattle.dk_si.specs.declared.machine.Session.{Session}
use Rattle.dk_si.specs.declared.machine.Machine.{Machine}
use Rattle.dk_si.specs.declared.limits.TheConstants.{SESSIONS}
use Rattle.dk_si.specs.Machine.{others, first_state, idle, session_at, session_behind, after_aborted, after_call, after_begin, transition, stay_open, end_with, is_own, refusal_transition, aborts, asks_for, change_transition, net_behind, last_transaction, write_set_in_flight, after_reply, next, begins_one}
use Rattle.dk_si.specs.IsStep.{is_step, may_call, may_begin, if_there}
use Rattle.dk_si.specs.OneThread.{none_in_flight, is_step_alone}
use Rattle.dk_si.proofs.PlaceLemmas.{set_place, none_other, found_at, same_copies}
use Rattle.dk_si.proofs.HolderLemmas.{not_both, sees_all}

-- a transaction is fresh only while its call is in flight, and then sees so many commits
abbrev pub Now : ℕ → Transaction → Option Asked → Type 0
Now commits state.Outside asked = Unit {0}
Now commits state.Aborted asked = Unit {0}
Now commits (state.Open active) asked = active.fresh ≡ true → (active.start ≡ commits) × (is_none asked ≡ false)

abbrev pub AreNow : ℕ → List Session → Type 0
AreNow commits sessions = (place : ℕ) (session : Session) → slice_get sessions place ≡ Some session → Now commits session.transaction session.asked

-- none of these fails a test that all pass
none_fails : (good : Session → Bool) (sessions : List Session) → list_all good sessions ≡ true → list_any (λ session. not (good session)) sessions ≡ false
none_fails good [] all = refl
none_fails good (session ∷ sessions) all =
    let h = and_parts (good session) (list_all good sessions) all in
    or_from (not (good session)) (list_any (λ session. not (good session)) sessions) (not_from_true (good session) h.0) (none_fails good sessions h.1)

good_from : (b : Bool) → not b ≡ false → b ≡ true
good_from true e = refl
good_from false e = absurd (true≢false e)

-- another session has no call in flight
pub other_idle : (machine : Machine) (number k : ℕ) (other : Session) → none_in_flight machine number ≡ true → 0 < number
    → (k ≡ number - 1 → ⊥) → slice_get machine.sessions k ≡ Some other → is_none other.asked ≡ true
other_idle machine number k other alone above apart at =
    let test : Session → Bool = λ session. not (is_none session.asked) in
    let none = none_fails (λ session. is_none session.asked) (others machine.sessions number) alone in
    good_from (is_none other.asked) (none_other test machine.sessions number k other none above apart at)

-- a session with no call in flight has no fresh transaction, whatever is committed
still_now : (before after : ℕ) (transaction : Transaction) (asked : Option Asked) → is_none asked ≡ true → Now before transaction asked → Now after transaction asked
still_now before after state.Outside asked none now = tt
still_now before after state.Aborted asked none now = tt
still_now before after (state.Open active) asked none now = λ fresh. absurd (not_both none (now fresh).1)

asked_now : (commits : ℕ) (transaction : Transaction) (before : Option Asked) (asked : Asked) → is_none before ≡ true → Now commits transaction before
    → Now commits transaction (Some asked)
asked_now commits state.Outside before asked none now = tt
asked_now commits state.Aborted before asked none now = tt
asked_now commits (state.Open active) before asked none now = λ fresh. absurd (not_both none (now fresh).1)

-- a session takes the place of its former state
replaced_now : (before after : ℕ) (sessions : List Session) (place : ℕ) (new : Session) → AreNow before sessions → Now after new.transaction new.asked
    → ((k : ℕ) (other : Session) → (k ≡ place → ⊥) → slice_get sessions k ≡ Some other → Now before other.transaction other.asked → Now after other.transaction other.asked)
    → AreNow after (slice_set sessions place new)
replaced_now before after sessions place new all own stay k session at =
    ⊎_elim
    (λ h. subst (λ (now : Session). Now after now.transaction now.asked) h.1 own)
    (λ h. stay k session h.0 h.1 (all k session h.1))
    (set_place sessions place new k session at)

call_now : (machine : Machine) (number : ℕ) (asked : Asked) (before : Session) → AreNow (length machine.commits) machine.sessions
    → slice_get machine.sessions (number - 1) ≡ Some before → may_call asked before ≡ true
    → AreNow (length machine.commits) (after_call machine number asked before).sessions
call_now machine number asked before all at may =
    replaced_now (length machine.commits) (length machine.commits) machine.sessions (number - 1) (record before { asked = Some asked; last = None }) all
    (asked_now (length machine.commits) before.transaction before.asked asked (and_parts _ _ may).0 (all (number - 1) before at))
    (λ k other apart there now. now)

is_asked : (asked : Option Asked) → asks_for begins_one asked ≡ true → is_none asked ≡ false
is_asked None e = absurd (false≢true e)
is_asked (Some asked) e = refl

begun_now : (machine : Machine) (session number start : ℕ) (before : Session) → AreNow (length machine.commits) machine.sessions
    → may_begin machine number start before ≡ true → AreNow (length machine.commits) (after_begin machine session number start before).sessions
begun_now machine session number start before all may =
    let h = and_parts _ _ may in
    let after_call = is_asked before.asked (and_parts _ _ h.0).0 in
    let last = eqb-true start (length machine.commits) (and_parts _ _ h.1).1 in
    replaced_now (length machine.commits) (length machine.commits) machine.sessions (session - 1)
    (record before { transaction = state.Open (record { number = number; start = start; net = []; fresh = true }) }) all
    (λ fresh. (last, after_call)) (λ k other apart there now. now)

-- behind a reply no transaction is fresh
abbrev Stale : Transaction → Type 0
Stale state.Outside = Unit {0}
Stale state.Aborted = Unit {0}
Stale (state.Open active) = active.fresh ≡ false

stale_now : (commits : ℕ) (transaction : Transaction) (asked : Option Asked) → Stale transaction → Now commits transaction asked
stale_now commits state.Outside asked stale = tt
stale_now commits state.Aborted asked stale = tt
stale_now commits (state.Open active) asked stale = λ fresh. absurd (not_both fresh stale)

stale_if : (b : Bool) (first second : Transition) → Stale first.transaction → Stale second.transaction → Stale (if b then first else second).transaction
stale_if true first second a b = a
stale_if false first second a b = b

changed_stale : (active : OpenTransaction) (asked : Option Asked) (net : List TableNet) (receipt : Option Receipt) → Stale (change_transition active asked net receipt).transaction
changed_stale active asked net (Some receipt) = tt
changed_stale active asked net None = stale_if (is_own active asked) (end_with net None) (stay_open active net) tt refl

refused_stale : (active : OpenTransaction) (asked : Option Asked) (refusal : Refusal) → Stale (refusal_transition active asked refusal).transaction
refused_stale active asked refusal =
    let abort : Transition = record { transaction = state.Aborted; commit = None; net = active.net } in
    stale_if (is_own active asked) (end_with active.net None) (if asks_for (aborts refusal) asked then abort else stay_open active active.net) tt
    (stale_if (asks_for (aborts refusal) asked) abort (stay_open active active.net) tt refl)

moved_stale : (opened : List Table) (commits : List Commit) (active : OpenTransaction) (asked : Option Asked) (reply : Reply)
    → Stale (transition opened commits active asked reply).transaction
moved_stale opened commits active asked (told.Created receipt) = tt
moved_stale opened commits active asked (told.Changed count receipt) = changed_stale active asked (net_behind opened commits active asked) receipt
moved_stale opened commits active asked (told.Rows rows) = stale_if (is_own active asked) (end_with active.net None) (stay_open active active.net) tt refl
moved_stale opened commits active asked (told.Begun start) = refl
moved_stale opened commits active asked (told.Committed receipt) = tt
moved_stale opened commits active asked told.Ended = tt
moved_stale opened commits active asked (told.Checkpointed iteration) = refl
moved_stale opened commits active asked (told.Refused refusal) = refused_stale active asked refusal

left_stale : (reply : Reply) → Stale (after_aborted reply)
left_stale told.Ended = tt
left_stale reply = tt

abbrev session_of : Transaction → Session → Session
session_of transaction session = record session { transaction = transaction }

reply_now : (opened : List Table) (machine : Machine) (number : ℕ) (session : Session) (transaction : Transaction) (reply : Reply)
    → AreNow (length machine.commits) machine.sessions → none_in_flight machine number ≡ true → 0 < number
    → AreNow (length (after_reply opened machine number (session_of transaction session) reply).commits)
    (after_reply opened machine number (session_of transaction session) reply).sessions
reply_now opened machine number session state.Outside reply all alone above =
    replaced_now (length machine.commits) (length machine.commits) machine.sessions (number - 1) (session_behind state.Outside None None) all tt
    (λ k other apart there now. now)
reply_now opened machine number session state.Aborted reply all alone above =
    replaced_now (length machine.commits) (length machine.commits) machine.sessions (number - 1) (session_behind (after_aborted reply) None None) all
    (stale_now (length machine.commits) (after_aborted reply) None (left_stale reply)) (λ k other apart there now. now)
reply_now opened machine number session (state.Open active) reply all alone above =
    let move = transition opened machine.commits active session.asked reply in
    let commits = machine.commits ++ option_to_list move.commit in
    let touched = write_set_in_flight opened machine.commits (state.Open active) session.asked in
    let past = last_transaction active.number move.transaction move.commit move.net (length machine.commits) in
    replaced_now (length machine.commits) (length commits) machine.sessions (number - 1) (session_behind move.transaction touched past) all
    (stale_now (length commits) move.transaction None (moved_stale opened machine.commits active session.asked reply))
    (λ k other apart there now. still_now (length machine.commits) (length commits) other.transaction other.asked
    (other_idle machine number k other alone above apart there) now)

abbrev pub IsNow : Machine → Type 0
IsNow machine = AreNow (length machine.commits) machine.sessions

call_step : (machine : Machine) (number : ℕ) (asked : Asked) (found : Option Session) → IsNow machine
    → session_at machine.sessions number ≡ found → if_there (may_call asked) found ≡ true
    → IsNow (elim found as (λ x. Machine) [ None ↦ machine | Some before ↦ after_call machine number asked before ])
call_step machine number asked None now is may = now
call_step machine number asked (Some before) now is may = call_now machine number asked before now (found_at machine.sessions number before is).0 may

begun_step : (machine : Machine) (session number start : ℕ) (found : Option Session) → IsNow machine
    → if_there (may_begin machine number start) found ≡ true
    → IsNow (elim found as (λ x. Machine) [ None ↦ machine | Some before ↦ after_begin machine session number start before ])
begun_step machine session number start None now may = now
begun_step machine session number start (Some before) now may = begun_now machine session number start before now may

reply_step : (opened : List Table) (machine : Machine) (number : ℕ) (reply : Reply) (found : Option Session) → IsNow machine
    → session_at machine.sessions number ≡ found → none_in_flight machine number ≡ true
    → IsNow (elim found as (λ x. Machine) [ None ↦ machine | Some session ↦ after_reply opened machine number session reply ])
reply_step opened machine number reply None now is alone = now
reply_step opened machine number reply (Some session) now is alone =
    reply_now opened machine number session session.transaction reply now alone (found_at machine.sessions number session is).1

pub step_now : (opened : List Table) (before : List Entry) (machine : Machine) (entry : Entry) → IsNow machine
    → is_step opened before machine entry ≡ true → is_step_alone opened machine entry ≡ true → IsNow (next opened machine entry)
step_now opened before machine (history.Call session asked) now step alone = call_step machine session asked (session_at machine.sessions session) now refl step
step_now opened before machine (history.Begun session number start) now step alone =
    begun_step machine session number start (session_at machine.sessions session) now step
step_now opened before machine (history.Reply session reply) now step alone =
    reply_step opened machine session reply (session_at machine.sessions session) now refl (and_parts (none_in_flight machine session) _ alone).0

pub first_now : IsNow first_state
first_now place session at = subst (λ (now : Session). Now 0 now.transaction now.asked) (same_copies SESSIONS place idle session at) tt

pub sees : (commits : List Commit) (transaction : Transaction) (asked : Option Asked) → Now (length commits) transaction asked → sees_all commits transaction ≡ true
sees commits state.Outside asked now = refl
sees commits state.Aborted asked now = refl
sees commits (state.Open active) asked now = sees_fresh active.fresh active.start (length commits) (λ fresh. (now fresh).0)
  where
    sees_fresh : (fresh : Bool) (start last : ℕ) → (fresh ≡ true → start ≡ last) → (not fresh || start == last) ≡ true
    sees_fresh true start last is = eq-eqb start last (is refl)
    sees_fresh false start last is = refl
