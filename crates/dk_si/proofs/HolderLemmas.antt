-- Who holds a row, where no other call is in flight, is found by one search.
use Rattle.std.proofs.Common.{◌≡◌, ◌⊎◌, inl, inr, ℕ, zero, suc, ◌-◌, ◌≤◌, Bool, true, false, List, [], ◌∷◌, take, drop, length, Option, Some, None, ap, ◌∙◌, sym, refl, subst, arith}
use Rattle.std.specs.Prelude.{◌&&◌, ◌||◌, not, is_none, min, ◌==◌, nat_lt, if◌then◌else◌}
use Rattle.std.specs.List.{list_all, list_any}
use Rattle.std.proofs.lemmas.Bool.{true≢false, false≢true, and_parts, or_parts, or_cases, or_left, or_right, cases_Bool, not-true, eqb-true, eq-eqb, ltb-true, ltb-false}
use Rattle.dk_types.specs.declared.net.Commit.{Commit}
use Rattle.dk_types.specs.declared.reply.Holder.{Holder}
use Rattle.dk_types.specs.declared.reply.Holder.TheVariants as who
use Rattle.dk_si.specs.declared.history.Asked.{Asked}
use Rattle.dk_si.specs.declared.machine.Transaction.{Transaction}
use Rattle.dk_si.specs.declared.machine.Transaction.TheVariants as state
use Rattle.dk_si.specs.declared.machine.Session.{Session}
use Rattle.dk_si.specs.declared.machine.Machine.{Machine}
use Rattle.dk_si.specs.Nets.{has_id, net_has}
use Rattle.dk_si.specs.Machine.{asks_for, others}
use Rattle.dk_si.specs.HeldRows.{commit_has, some_commit_has, has_pending_write, other_has_pending_write, is_rollback}
use Rattle.dk_si.specs.OneThread.{open_with, open_has, held_alone, none_in_flight}
use Rattle.dk_si.specs.Answer.{first_with, last_change, holder_of, least_where}

-- a transaction that began in the call in flight sees all commits
abbrev pub sees_all : List Commit → Transaction → Bool
sees_all commits state.Outside = true
sees_all commits state.Aborted = true
sees_all commits (state.Open active) = not active.fresh || active.start == length commits

-- a row stands in the nets of no two open transactions of other sessions
abbrev pub HasOneHolder : Machine → ℕ → Type 0
HasOneHolder machine number = (table row a b : ℕ) → list_any (open_has a table row) (others machine.sessions number) ≡ true
    → list_any (open_has b table row) (others machine.sessions number) ≡ true → a ≡ b

pub not_both : {b : Bool} → b ≡ true → b ≡ false → ⊥
not_both on off = true≢false (sym on ∙ off)

-- none of these rows passes the test and is smaller
abbrev pub NoneBelow : (ℕ → Bool) → ℕ → ℕ → Bool
NoneBelow test row other = not (test other && nat_lt other row)

at_least : (test : ℕ → Bool) (row id : ℕ) → NoneBelow test row id ≡ true → test id ≡ true → row ≤ id
at_least test row id none passes =
    let e : nat_lt id row ≡ false = ap (λ b. b && nat_lt id row) (sym passes) ∙ not-true (test id && nat_lt id row) none in
    ltb-false id row e

least_below : (row id : ℕ) → row ≤ id → (least : Option ℕ) → least ≡ Some row → Some (elim least as (λ x. ℕ) [ None ↦ id | Some other ↦ min id other ]) ≡ Some row
least_below row id le least e = ap (λ x. Some (elim x as (λ x. ℕ) [ None ↦ id | Some other ↦ min id other ])) e ∙ ap (λ n. Some n) (omega (arith, le))

-- nothing, or a number that is no smaller
abbrev pub FromOn : ℕ → Option ℕ → Type 0
FromOn row None = Unit {0}
FromOn row (Some other) = row ≤ other

from_both : (row id : ℕ) → row ≤ id → (least : Option ℕ) → FromOn row least → row ≤ elim least as (λ x. ℕ) [ None ↦ id | Some other ↦ min id other ]
from_both row id le None from = le
from_both row id le (Some other) from = omega (arith, le, from)

from_choice : (test : ℕ → Bool) (row id : ℕ) (rest : Option ℕ) → (b : Bool) → (b ≡ true → row ≤ id) → FromOn row rest
    → FromOn row (if b then Some (elim rest as (λ x. ℕ) [ None ↦ id | Some other ↦ min id other ]) else rest)
from_choice test row id rest true le from = from_both row id (le refl) rest from
from_choice test row id rest false le from = from

from_on : (test : ℕ → Bool) (row : ℕ) (ids : List ℕ) → list_all (NoneBelow test row) ids ≡ true → FromOn row (least_where test ids)
from_on test row [] none = tt
from_on test row (id ∷ ids) none =
    let h = and_parts _ _ none in
    from_choice test row id (least_where test ids) (test id) (at_least test row id h.0) (from_on test row ids h.1)

own_least : (row id : ℕ) → id ≡ row → (rest : Option ℕ) → FromOn row rest → Some (elim rest as (λ x. ℕ) [ None ↦ id | Some other ↦ min id other ]) ≡ Some row
own_least row id is None from = ap (λ n. Some n) is
own_least row id is (Some other) from = ap (λ n. Some n) (omega (arith, is, from))

least_choice : (row id : ℕ) (rest : Option ℕ) → (b : Bool) → (b ≡ true → row ≤ id) → rest ≡ Some row
    → (if b then Some (elim rest as (λ x. ℕ) [ None ↦ id | Some other ↦ min id other ]) else rest) ≡ Some row
least_choice row id rest true le is = least_below row id (le refl) rest is
least_choice row id rest false le is = is

-- a row that passes the test, where no smaller one does, is the least
pub least_is : (test : ℕ → Bool) (row : ℕ) (ids : List ℕ) → has_id ids row ≡ true → test row ≡ true → list_all (NoneBelow test row) ids ≡ true
    → least_where test ids ≡ Some row
least_is test row [] has passes none = absurd (false≢true has)
least_is test row (id ∷ ids) has passes none =
    let h = and_parts _ _ none in
    let rest = least_where test ids in
    elim (or_cases (id == row) (has_id ids row) has) [
      | inl here ↦ let is = eqb-true id row here in
          ap (λ b. if b then Some (elim rest as (λ x. ℕ) [ None ↦ id | Some other ↦ min id other ]) else rest) (ap test is ∙ passes)
          ∙ own_least row id is rest (from_on test row ids h.1)
      | inr there ↦ least_choice row id rest (test id) (at_least test row id h.0) (least_is test row ids there passes h.1)
    ]

pub least_none : (test : ℕ → Bool) (ids : List ℕ) → list_all (λ id. not (test id)) ids ≡ true → least_where test ids ≡ None
least_none test [] none = refl
least_none test (id ∷ ids) none =
    let h = and_parts _ _ none in
    let rest = least_where test ids in
    ap (λ b. if b then Some (elim rest as (λ x. ℕ) [ None ↦ id | Some other ↦ min id other ]) else rest) (not-true (test id) h.0)
    ∙ least_none test ids h.1

no_change : (table row : ℕ) (commits : List Commit) → some_commit_has commits table row ≡ false → last_change table row commits ≡ 0
no_change table row [] none = refl
no_change table row (commit ∷ commits) none =
    let h = or_parts _ _ none in
    ap (λ (n : ℕ). elim n as (λ x. ℕ) [ zero ↦ if commit_has table row commit then 1 else 0 | suc n ↦ suc (suc n) ]) (no_change table row commits h.1)
    ∙ ap (λ (b : Bool). if b then 1 else 0) h.0

-- a commit that changed the row, where no later one did, is the last
pub last_is : (table row m : ℕ) (commits : List Commit) → some_commit_has (take 1 (drop m commits)) table row ≡ true
    → some_commit_has (drop (suc m) commits) table row ≡ false → last_change table row commits ≡ suc m
last_is table row zero [] has none = absurd (false≢true has)
last_is table row (suc m) [] has none = absurd (false≢true has)
last_is table row zero (commit ∷ commits) has none =
    let here : commit_has table row commit ≡ true = elim (or_cases (commit_has table row commit) false has) [ inl on ↦ on | inr off ↦ absurd (false≢true off) ] in
    ap (λ (n : ℕ). elim n as (λ x. ℕ) [ zero ↦ if commit_has table row commit then 1 else 0 | suc n ↦ suc (suc n) ]) (no_change table row commits none)
    ∙ ap (λ (b : Bool). if b then 1 else 0) here
last_is table row (suc m) (commit ∷ commits) has none =
    ap (λ (n : ℕ). elim n as (λ x. ℕ) [ zero ↦ if commit_has table row commit then 1 else 0 | suc n ↦ suc (suc n) ]) (last_is table row m commits has none)

-- the first open transaction with the row, if a transaction has it
pub record First (table row : ℕ) (sessions : List Session) : Type 0 where
  pub number : ℕ
  pub is : first_with table row sessions ≡ Some number
  pub has : list_any (open_has number table row) sessions ≡ true

first_here : (table row : ℕ) (session : Session) (sessions : List Session) (number : ℕ) → open_with table row session ≡ Some number
    → First table row (session ∷ sessions)
first_here table row session sessions number e = record {
  number = number;
  is = ap (λ found. elim found as (λ x. Option ℕ) [ None ↦ first_with table row sessions | Some number ↦ Some number ]) e;
  has = or_left _ _ (ap (λ found. elim found as (λ x. Bool) [ None ↦ false | Some other ↦ other == number ]) e ∙ eq-eqb number number refl);
}

first_there : (table row : ℕ) (session : Session) (sessions : List Session) → open_with table row session ≡ None → First table row sessions
    → First table row (session ∷ sessions)
first_there table row session sessions e rest = record {
  number = rest.number;
  is = ap (λ found. elim found as (λ x. Option ℕ) [ None ↦ first_with table row sessions | Some number ↦ Some number ]) e ∙ rest.is;
  has = or_right _ _ rest.has;
}

first_at : (table row k : ℕ) (session : Session) (sessions : List Session) (found : Option ℕ) → open_with table row session ≡ found
    → (elim found as (λ x. Bool) [ None ↦ false | Some number ↦ number == k ] ≡ true) ⊎ First table row sessions → First table row (session ∷ sessions)
first_at table row k session sessions (Some number) is either = first_here table row session sessions number is
first_at table row k session sessions None is (inl here) = absurd (false≢true here)
first_at table row k session sessions None is (inr there) = first_there table row session sessions is there

first_of : (table row k : ℕ) (sessions : List Session) → list_any (open_has k table row) sessions ≡ true → First table row sessions
first_of table row k [] has = absurd (false≢true has)
first_of table row k (session ∷ sessions) has =
    first_at table row k session sessions (open_with table row session) refl
    (elim (or_cases (open_has k table row session) (list_any (open_has k table row) sessions) has)
    [ inl here ↦ inl here | inr there ↦ inr (first_of table row k sessions there) ])

-- a session with no call in flight that has_pending_write no row has no open transaction with it
idle_with : (table row : ℕ) (transaction : Transaction) (asked : Option Asked) → is_none asked ≡ true
    → elim transaction as (λ x. Bool) [
      | state.Outside ↦ false
      | state.Aborted ↦ false
      | state.Open active ↦ net_has active.net table row && not (asks_for is_rollback asked)
    ] ≡ false
    → elim transaction as (λ x. Option ℕ) [
      | state.Outside ↦ None
      | state.Aborted ↦ None
      | state.Open active ↦ if net_has active.net table row then Some active.number else None
    ] ≡ None
idle_with table row state.Outside asked idle none = refl
idle_with table row state.Aborted asked idle none = refl
idle_with table row (state.Open active) (Some asked) idle none = absurd (false≢true idle)
idle_with table row (state.Open active) None idle none =
    let e : net_has active.net table row ≡ false = elim (cases_Bool (net_has active.net table row)) [
      | inl on ↦ absurd (not_both (ap (λ b. b && true) on) none)
      | inr off ↦ off
    ] in
    ap (λ (b : Bool). if b then Some active.number else None) e

none_with : (table row : ℕ) (sessions : List Session) → list_any (has_pending_write table row) sessions ≡ false
    → list_all (λ session. is_none session.asked) sessions ≡ true → first_with table row sessions ≡ None
none_with table row [] none idle = refl
none_with table row (session ∷ sessions) none idle =
    let h = or_parts _ _ none in
    let k = and_parts _ _ idle in
    ap (λ found. elim found as (λ x. Option ℕ) [ None ↦ first_with table row sessions | Some number ↦ Some number ])
    (idle_with table row session.transaction session.asked k.0 h.0)
    ∙ none_with table row sessions h.1 k.1

-- who holds a row is found
pub holder_is : (machine : Machine) (number start table row : ℕ) (by : Holder) → held_alone machine number start table row by ≡ true
    → none_in_flight machine number ≡ true → HasOneHolder machine number → by ≡ holder_of machine number table row
holder_is machine number start table row (who.Transaction k) held alone one =
    let all = others machine.sessions number in
    let first = first_of table row k all held in
    ap who.Transaction (one table row k first.number held first.has)
    ∙ sym (ap (λ found. elim found as (λ x. Holder) [
      | None ↦ who.Commit (last_change table row machine.commits)
      | Some transaction ↦ who.Transaction transaction
    ]) first.is)
holder_is machine number start table row (who.Commit zero) held alone one =
    let changed = some_commit_has (take 1 (drop (0 - 1) machine.commits)) table row in
    let h = and_parts (nat_lt start 0 && changed) (not (some_commit_has (drop 0 machine.commits) table row) && not (other_has_pending_write machine number table row)) held in
    let above = ltb-true start 0 (and_parts (nat_lt start 0) changed h.0).0 in
    absurd (omega (arith, above))
holder_is machine number start table row (who.Commit (suc m)) held alone one =
    let here = some_commit_has (take 1 (drop (suc m - 1) machine.commits)) table row in
    let behind = some_commit_has (drop (suc m) machine.commits) table row in
    let kept = other_has_pending_write machine number table row in
    let h = and_parts (nat_lt start (suc m) && here) (not behind && not kept) held in
    let later = and_parts (not behind) (not kept) h.1 in
    let place : suc m - 1 ≡ m = omega arith in
    let changed : some_commit_has (take 1 (drop m machine.commits)) table row ≡ true =
    subst (λ n. some_commit_has (take 1 (drop n machine.commits)) table row ≡ true) place (and_parts (nat_lt start (suc m)) here h.0).1 in
    let last = last_is table row m machine.commits changed (not-true behind later.0) in
    let none : list_any (has_pending_write table row) (others machine.sessions number) ≡ false = not-true kept later.1 in
    ap who.Commit (sym last)
    ∙ sym (ap (λ found. elim found as (λ x. Holder) [
      | None ↦ who.Commit (last_change table row machine.commits)
      | Some transaction ↦ who.Transaction transaction
    ]) (none_with table row (others machine.sessions number) none alone))
