-- In a history of one thread a row stands in the net of at most one open transaction.
use Rattle.std.proofs.Common.{◌≡◌, ⊎_elim, ℕ, zero, suc, ◌-◌, Bool, true, false, List, [], ◌∷◌, take, drop, Option}
use Rattle.std.proofs.Common.{Some, None, ap, ◌∙◌, sym, refl, slice_get}
use Rattle.std.specs.Prelude.{◌&&◌, not, is_none, ◌==◌, if◌then◌else◌}
use Rattle.std.specs.List.{list_all, list_any}
use Rattle.std.proofs.lemmas.Bool.{false≢true, and_from, and_parts, or_cases, cases_eq, eqb-true}
use Rattle.std.proofs.lemmas.List.Folds.{list_all-append, list_any-append}
use Rattle.dk_si.specs.declared.history.Asked.{Asked}
use Rattle.dk_si.specs.declared.machine.Transaction.{Transaction}
use Rattle.dk_si.specs.declared.machine.Transaction.TheVariants as state
use Rattle.dk_si.specs.declared.machine.Session.{Session}
use Rattle.dk_si.specs.declared.machine.Machine.{Machine}
use Rattle.dk_si.specs.Nets.{net_has}
use Rattle.dk_si.specs.Machine.{asks_for}
use Rattle.dk_si.specs.HeldRows.{is_rollback}
use Rattle.dk_si.specs.OneThread.{open_with, open_has, none_in_flight}
use Rattle.dk_si.specs.Machine.{others}
use Rattle.dk_si.proofs.FreeRowLemmas.{Fair}
use Rattle.dk_si.proofs.HolderLemmas.{HasOneHolder}

-- a session at its place that passes two tests
record At (test good : Session → Bool) (sessions : List Session) : Type 0 where
  place : ℕ
  session : Session
  there : slice_get sessions place ≡ Some session
  has : test session ≡ true
  idle : good session ≡ true

next_at : (test good : Session → Bool) (first : Session) (sessions : List Session) → At test good sessions
    → At test good (first ∷ sessions)
next_at test good first sessions at =
    record { place = suc at.place; session = at.session; there = at.there; has = at.has; idle = at.idle }

first_at : (test good : Session → Bool) (first : Session) (sessions : List Session) → test first ≡ true
    → good first ≡ true → At test good (first ∷ sessions)
first_at test good first sessions has idle = record { place = 0; session = first; there = refl; has = has; idle = idle }

in_front : (test good : Session → Bool) (n : ℕ) (sessions : List Session) → list_any test (take n sessions) ≡ true
    → list_all good (take n sessions) ≡ true → At test good sessions
in_front test good zero sessions has idle = absurd (false≢true has)
in_front test good (suc n) [] has idle = absurd (false≢true has)
in_front test good (suc n) (first ∷ sessions) has idle =
    let h = and_parts (good first) (list_all good (take n sessions)) idle in
    ⊎_elim (λ here. first_at test good first sessions here h.0)
    (λ there. next_at test good first sessions (in_front test good n sessions there h.1))
    (or_cases (test first) (list_any test (take n sessions)) has)

in_rest : (test good : Session → Bool) (n : ℕ) (sessions : List Session) → list_any test (drop n sessions) ≡ true
    → list_all good (drop n sessions) ≡ true → At test good sessions
in_rest test good zero [] has idle = absurd (false≢true has)
in_rest test good (suc n) [] has idle = absurd (false≢true has)
in_rest test good zero (first ∷ sessions) has idle =
    let h = and_parts (good first) (list_all good sessions) idle in
    ⊎_elim (λ here. first_at test good first sessions here h.0)
    (λ there. next_at test good first sessions (in_rest test good 0 sessions there h.1))
    (or_cases (test first) (list_any test sessions) has)
in_rest test good (suc n) (first ∷ sessions) has idle =
    next_at test good first sessions (in_rest test good n sessions has idle)

at_other : (test good : Session → Bool) (sessions : List Session) (number : ℕ)
    → list_any test (others sessions number) ≡ true
    → list_all good (others sessions number) ≡ true → At test good sessions
at_other test good sessions number has idle =
    let h = and_parts _ _ (sym (list_all-append good (take (number - 1) sessions) (drop number sessions)) ∙ idle) in
    ⊎_elim (λ front. in_front test good (number - 1) sessions front h.0)
    (λ rest. in_rest test good number sessions rest h.1)
    (or_cases _ _ (sym (list_any-append test (take (number - 1) sessions) (drop number sessions)) ∙ has))

-- the number of the open transaction
with_number : (k : ℕ) (found : Option ℕ) → elim found as (λ x. Bool) [ None ↦ false | Some number ↦ number == k ] ≡ true
    → found ≡ Some k
with_number k None e = absurd (false≢true e)
with_number k (Some number) e = ap Some (eqb-true number k e)

open_number : (number k : ℕ) (has : Bool) → (if has then Some number else None) ≡ Some k → has ≡ true
open_number number k true e = refl
open_number number k false e = cc

idle_keeps : (table row k : ℕ) (transaction : Transaction) (asked : Option Asked) → is_none asked ≡ true
    → elim transaction as (λ x. Option ℕ) [
      | state.Outside ↦ None
      | state.Aborted ↦ None
      | state.Open active ↦ if net_has active.net table row then Some active.number else None
    ] ≡ Some k
    → elim transaction as (λ x. Bool) [
      | state.Outside ↦ false
      | state.Aborted ↦ false
      | state.Open active ↦ net_has active.net table row && not (asks_for is_rollback asked)
    ] ≡ true
idle_keeps table row k state.Outside asked idle is = cc
idle_keeps table row k state.Aborted asked idle is = cc
idle_keeps table row k (state.Open active) (Some asked) idle is = absurd (false≢true idle)
idle_keeps table row k (state.Open active) None idle is =
    and_from _ _ (open_number active.number k (net_has active.net table row) is) refl

pub has_one_holder : (machine : Machine) (starts : List ℕ) (number : ℕ) → Fair machine.commits machine.sessions starts
    → none_in_flight machine number ≡ true → HasOneHolder machine number
has_one_holder machine starts number fair alone table row a b has_a has_b =
    let first = at_other (open_has a table row) (λ session. is_none session.asked) machine.sessions number has_a alone
    in
    let second = at_other (open_has b table row) (λ session. is_none session.asked) machine.sessions number has_b alone
    in
    let one = with_number a (open_with table row first.session) first.has in
    let other = with_number b (open_with table row second.session) second.has in
    let kept = idle_keeps table row a first.session.transaction first.session.asked first.idle one in
    let kept_too = idle_keeps table row b second.session.transaction second.session.asked second.idle other in
    ⊎_elim
    (λ same.
    let session : first.session ≡ second.session = (let at = first.there in let at_too = second.there in cc) in
    let number_of = ap (open_with table row) session in cc)
    (λ apart. absurd ((fair.free first.place first.session table row first.there kept).alone second.place second.session
    (λ same. apart (sym same)) second.there kept_too))
    (cases_eq first.place second.place)
