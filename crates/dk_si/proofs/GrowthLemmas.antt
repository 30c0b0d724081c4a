-- Commits are added at the end, and none is taken away.
use Rattle.std.proofs.Common.{◌≡◌, ℕ, true, List, [], ◌∷◌, ◌++◌, take, Option, Some, None, ap, ◌∙◌, sym, refl}
use Rattle.std.specs.Prelude.{option_to_list}
use Rattle.std.proofs.lemmas.Bool.{and_from, and_parts}
use Rattle.std.proofs.lemmas.List.{append-nil, append_assoc, take-append-le}
use Rattle.dk_types.specs.declared.net.Commit.{Commit}
use Rattle.dk_types.specs.declared.reply.Reply.{Reply}
use Rattle.dk_si.specs.declared.database.Table.{Table}
use Rattle.dk_si.specs.declared.history.Asked.{Asked}
use Rattle.dk_si.specs.declared.history.Asked.TheVariants.{Unread, Bad, Good}
use Rattle.dk_si.specs.declared.history.Entry.{Entry}
use Rattle.dk_si.specs.declared.history.Entry.TheVariants as history
use Rattle.dk_si.specs.declared.machine.Transaction.{Transaction}
use Rattle.dk_si.specs.declared.machine.Transaction.TheVariants as state
use Rattle.dk_si.specs.declared.machine.Session.{Session}
use Rattle.dk_si.specs.declared.machine.Machine.{Machine}
use Rattle.dk_si.specs.Database.{after_all, apply_net}
use Rattle.dk_si.specs.Machine.{first_state, session_at, after_call, after_begin, transition, after_reply}
use Rattle.dk_si.specs.Machine.{after_open_reply, session_behind, after_aborted, with_session, next}
use Rattle.dk_si.specs.Meaning.{meaning}
use Rattle.dk_si.specs.IsStep.{are_steps}
use Rattle.dk_si.specs.Laws.{state_after, CommitsStay, FrontsAreSteps, SeesItsSnapshot}

-- these commits are others with more behind them
pub record Grown (commits before : List Commit) : Type 0 where
  pub more : List Commit
  pub is : commits ≡ before ++ more

same : (commits : List Commit) → Grown commits commits
same commits = record { more = []; is = sym (append-nil commits) }

call_grows : (machine : Machine) (session : ℕ) (asked : Asked) (found : Option Session)
    → Grown (elim found as (λ x. Machine) [
      | None ↦ machine
      | Some before ↦ after_call machine session asked before
    ]).commits machine.commits
call_grows machine session asked None = same machine.commits
call_grows machine session asked (Some before) = same machine.commits

begin_grows : (machine : Machine) (session number start : ℕ) (found : Option Session)
    → Grown (elim found as (λ x. Machine) [
      | None ↦ machine
      | Some before ↦ after_begin machine session number start before
    ]).commits machine.commits
begin_grows machine session number start None = same machine.commits
begin_grows machine session number start (Some before) = same machine.commits

transaction_grows : (opened : List Table) (machine : Machine) (number : ℕ) (before : Session) (reply : Reply)
    → (transaction : Transaction)
    → Grown (elim transaction as (λ x. Machine) [
      | state.Outside ↦ with_session machine number (session_behind state.Outside None None)
      | state.Aborted ↦ with_session machine number (session_behind (after_aborted reply) None None)
      | state.Open active ↦ after_open_reply opened machine number before active
          (transition opened machine.commits active before.asked reply)
    ]).commits machine.commits
transaction_grows opened machine number before reply state.Outside = same machine.commits
transaction_grows opened machine number before reply state.Aborted = same machine.commits
transaction_grows opened machine number before reply (state.Open active) =
    record { more = option_to_list (transition opened machine.commits active before.asked reply).commit; is = refl }

reply_grows : (opened : List Table) (machine : Machine) (session : ℕ) (reply : Reply) (found : Option Session)
    → Grown (elim found as (λ x. Machine) [
      | None ↦ machine
      | Some before ↦ after_reply opened machine session before reply
    ]).commits machine.commits
reply_grows opened machine session reply None = same machine.commits
reply_grows opened machine session reply (Some before) =
    transaction_grows opened machine session before reply before.transaction

pub entry_grows : (opened : List Table) (machine : Machine) (entry : Entry)
    → Grown (next opened machine entry).commits machine.commits
entry_grows opened machine (history.Call session asked) =
    call_grows machine session asked (session_at machine.sessions session)
entry_grows opened machine (history.Begun session number start) =
    begin_grows machine session number start (session_at machine.sessions session)
entry_grows opened machine (history.Reply session reply) =
    reply_grows opened machine session reply (session_at machine.sessions session)

pub grows : (opened : List Table) (machine : Machine) (entries : List Entry)
    → Grown (state_after opened machine entries).commits machine.commits
grows opened machine [] = same machine.commits
grows opened machine (entry ∷ entries) =
    let first = entry_grows opened machine entry in
    let rest = grows opened (next opened machine entry) entries in
    record {
      more = first.more ++ rest.more;
      is = rest.is ∙ (ap (λ commits. commits ++ rest.more) first.is
          ∙ append_assoc machine.commits first.more rest.more);
    }

pub after_both : (opened : List Table) (machine : Machine) (entries more : List Entry)
    → state_after opened machine (entries ++ more) ≡ state_after opened (state_after opened machine entries) more
after_both opened machine [] more = refl
after_both opened machine (entry ∷ entries) more = after_both opened (next opened machine entry) entries more

pub commits_stay : CommitsStay
commits_stay opened entries more n within =
    let now = state_after opened first_state entries in
    let further = grows opened now more in
    let commits = ap (λ machine. machine.commits) (after_both opened first_state entries more) ∙ further.is in
    ap (λ list. after_all list opened) (ap (take n) commits ∙ take-append-le n now.commits further.more within)

fronts : (opened : List Table) (before : List Entry) (machine : Machine) (entries more : List Entry)
    → are_steps opened before machine (entries ++ more) ≡ true → are_steps opened before machine entries ≡ true
fronts opened before machine [] more steps = refl
fronts opened before machine (entry ∷ entries) more steps =
    let h = and_parts _ _ steps in
    and_from _ _ h.0 (fronts opened (before ++ entry ∷ []) (next opened machine entry) entries more h.1)

pub fronts_are_steps : FrontsAreSteps
fronts_are_steps opened entries more steps = fronts opened [] first_state entries more steps

pub sees_its_snapshot : SeesItsSnapshot
sees_its_snapshot opened commits others active other Unread starts nets fronts = refl
sees_its_snapshot opened commits others active other (Bad at) starts nets fronts = refl
sees_its_snapshot opened commits others active other (Good statement) starts nets fronts =
    ap (λ list. meaning (apply_net active.net (after_all list opened)) statement)
    (fronts ∙ ap (λ n. take n others) starts)
    ∙ ap (λ net. meaning (apply_net net (after_all (take other.start others) opened)) statement) nets
