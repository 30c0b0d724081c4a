-- Entries of other sessions leave a session as it was.
use Rattle.std.proofs.Common.{◌≡◌, ℕ, ◌-◌, ◌<◌, ◌≤◌, Bool, true, false, List, [], ◌∷◌, length, Option, Some, None}
use Rattle.std.proofs.Common.{ap, ◌∙◌, refl, subst, arith, slice_get, slice_set}
use Rattle.std.specs.Prelude.{not, ◌==◌, if◌then◌else◌}
use Rattle.std.proofs.lemmas.Bool.{and_parts, not-true}
use Rattle.dk_types.specs.declared.reply.Reply.{Reply}
use Rattle.dk_si.specs.declared.database.Table.{Table}
use Rattle.dk_si.specs.declared.history.Asked.{Asked}
use Rattle.dk_si.specs.declared.history.Asked.TheVariants.{Unread, Bad, Good}
use Rattle.dk_si.specs.declared.history.Entry.{Entry}
use Rattle.dk_si.specs.declared.history.Entry.TheVariants as history
use Rattle.dk_si.specs.declared.machine.LastTransaction.{LastTransaction}
use Rattle.dk_si.specs.declared.machine.Transaction.{Transaction}
use Rattle.dk_si.specs.declared.machine.Transaction.TheVariants as state
use Rattle.dk_si.specs.declared.machine.Session.{Session}
use Rattle.dk_si.specs.declared.machine.WriteSet.{WriteSet}
use Rattle.dk_si.specs.declared.machine.Machine.{Machine}
use Rattle.dk_si.specs.Database.{apply_net}
use Rattle.dk_si.specs.IsStep.{start_of}
use Rattle.dk_si.specs.Laws.{state_after}
use Rattle.dk_si.specs.Machine.{first_state, session_at, after_call, after_begin, after_reply, next}
use Rattle.dk_si.specs.Meaning.{meaning}
use Rattle.dk_laws.specs.SessionLaws.{session_in, are_of_others, OthersLeaveASession, OthersLeaveAMeaning}
use Rattle.dk_si.proofs.FirstCommitterLemmas.{fair}
use Rattle.dk_si.proofs.GrowthLemmas.{after_both, commits_stay}
use Rattle.dk_si.proofs.PlaceLemmas.{found_at, set_apart}
use Rattle.dk_si.proofs.TransitionLemmas.{session_of}

-- only the session at that place may be another one
pub record OneSet (before after : List Session) (place : ℕ) : Type 0 where
  pub new : Session
  pub is : after ≡ slice_set before place new

fields_set : (opened : List Table) (machine : Machine) (number : ℕ) (reply : Reply) (transaction : Transaction)
    → (asked : Option Asked) (writes : Option WriteSet) (last : Option LastTransaction)
    → OneSet machine.sessions
    (after_reply opened machine number (session_of transaction asked writes last) reply).sessions (number - 1)
fields_set opened machine number reply state.Outside asked writes last = record { new = _; is = refl }
fields_set opened machine number reply state.Aborted asked writes last = record { new = _; is = refl }
fields_set opened machine number reply (state.Open active) asked writes last = record { new = _; is = refl }

pub reply_sets : (opened : List Table) (machine : Machine) (number : ℕ) (before : Session) (reply : Reply)
    → OneSet machine.sessions (after_reply opened machine number before reply).sessions (number - 1)
reply_sets opened machine number before reply =
    fields_set opened machine number reply before.transaction before.asked before.writes before.last

apart_if : (first : Bool) (sessions : List Session) (session number : ℕ) (new : Session) → (number == 0) ≡ first
    → 0 < session
    → (session == number) ≡ false
    → (if first then None else slice_get (slice_set sessions (session - 1) new) (number - 1))
    ≡ (if first then None else slice_get sessions (number - 1))
apart_if true sessions session number new is above apart = refl
apart_if false sessions session number new is above apart =
    set_apart sessions (session - 1) (number - 1) new (λ same. grind (arith, is, above, apart, same))

-- a session stays where another one is set
pub session_apart : (before after : List Session) (session number : ℕ) → OneSet before after (session - 1) → 0 < session
    → (session == number) ≡ false → session_at after number ≡ session_at before number
session_apart before after session number one above apart =
    ap (λ sessions. session_at sessions number) one.is
    ∙ apart_if (number == 0) before session number one.new refl above apart

-- what an entry makes of its session leaves the others
found_leaves : (machine : Machine) (session number : ℕ) (behind : Session → Machine)
    → ((before : Session) → OneSet machine.sessions (behind before).sessions (session - 1))
    → (found : Option Session) → session_at machine.sessions session ≡ found → (session == number) ≡ false
    → session_at (elim found as (λ x. Machine) [ None ↦ machine | Some before ↦ behind before ]).sessions number
    ≡ session_at machine.sessions number
found_leaves machine session number behind sets None is apart = refl
found_leaves machine session number behind sets (Some before) is apart =
    session_apart machine.sessions (behind before).sessions session number (sets before)
    (found_at machine.sessions session before is).1 apart

-- an entry of another session leaves a session as it was
pub other_leaves : (opened : List Table) (machine : Machine) (entry : Entry) (number : ℕ)
    → (session_in entry == number) ≡ false
    → session_at (next opened machine entry).sessions number ≡ session_at machine.sessions number
other_leaves opened machine (history.Call session asked) number apart =
    found_leaves machine session number (λ before. after_call machine session asked before)
    (λ before. record { new = _; is = refl }) (session_at machine.sessions session) refl apart
other_leaves opened machine (history.Begun session transaction start) number apart =
    found_leaves machine session number (λ before. after_begin machine session transaction start before)
    (λ before. record { new = _; is = refl }) (session_at machine.sessions session) refl apart
other_leaves opened machine (history.Reply session reply) number apart =
    found_leaves machine session number (λ before. after_reply opened machine session before reply)
    (λ before. reply_sets opened machine session before reply) (session_at machine.sessions session) refl apart

others_leave : (opened : List Table) (machine : Machine) (entries : List Entry) (number : ℕ)
    → are_of_others number entries ≡ true
    → session_at (state_after opened machine entries).sessions number ≡ session_at machine.sessions number
others_leave opened machine [] number apart = refl
others_leave opened machine (entry ∷ entries) number apart =
    let h = and_parts (not (session_in entry == number)) (are_of_others number entries) apart in
    others_leave opened (next opened machine entry) entries number h.1
    ∙ other_leaves opened machine entry number (not-true _ h.0)

pub others_leave_a_session : OthersLeaveASession
others_leave_a_session opened entries more number apart =
    ap (λ (machine : Machine). session_at machine.sessions number) (after_both opened first_state entries more)
    ∙ others_leave opened (state_after opened first_state entries) more number apart

pub others_leave_a_meaning : OthersLeaveAMeaning
others_leave_a_meaning opened entries more number active Unread is = refl
others_leave_a_meaning opened entries more number active (Bad at) is = refl
others_leave_a_meaning opened entries more number active (Good statement) is =
    let machine = state_after opened first_state entries in
    let found = found_at machine.sessions number is.session is.is in
    let seen = (fair opened entries is.steps).seen (number - 1) is.session found.0 in
    let within : active.start ≤ length machine.commits =
    subst (λ (now : Transaction). start_of now ≤ length machine.commits) is.open_so seen in
    ap (λ tables. meaning (apply_net active.net tables) statement)
    (commits_stay opened entries more active.start within)
