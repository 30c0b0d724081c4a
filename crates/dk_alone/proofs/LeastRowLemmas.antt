-- The least row that is held, and who holds it: what the search finds passes the tests.
use Rattle.std.proofs.Common.{◌≡◌, ⊎_elim, ℕ, zero, suc, ◌-◌, ◌<◌, ◌≤◌, Bool, true, false, List, [], ◌∷◌, take, drop}
use Rattle.std.proofs.Common.{Option, Some, None, ap, ◌∙◌, sym, refl, subst, arith}
use Rattle.std.specs.Prelude.{◌&&◌, ◌||◌, not, min, ◌==◌, nat_lt, if◌then◌else◌}
use Rattle.std.specs.List.{list_all, list_any}
use Rattle.std.proofs.lemmas.Bool.{true≢false, false≢true, and_from, and_left, and_right, not-true, or_left, or_right}
use Rattle.std.proofs.lemmas.Bool.{or_from, cases_lt, lt-ltb, le-ltb, eq-eqb, not_from_false}
use Rattle.dk_types.specs.declared.net.Commit.{Commit}
use Rattle.dk_types.specs.declared.reply.Holder.{Holder}
use Rattle.dk_types.specs.declared.reply.Holder.TheVariants as who
use Rattle.dk_si.specs.declared.database.Table.{Table}
use Rattle.dk_si.specs.declared.history.Asked.{Asked}
use Rattle.dk_si.specs.declared.machine.LastTransaction.{LastTransaction}
use Rattle.dk_si.specs.declared.machine.Machine.{Machine}
use Rattle.dk_si.specs.declared.machine.Session.{Session}
use Rattle.dk_si.specs.declared.machine.Transaction.{Transaction}
use Rattle.dk_si.specs.declared.machine.Transaction.TheVariants as state
use Rattle.dk_si.specs.declared.machine.WriteSet.{WriteSet}
use Rattle.dk_si.specs.Nets.{has_id, net_has}
use Rattle.dk_si.specs.Machine.{asks_for, others}
use Rattle.dk_si.specs.HeldRows.{commit_has, some_commit_has, has_pending_write, other_has_pending_write, is_blocked}
use Rattle.dk_si.specs.HeldRows.{commit_holds, session_holds, holds_against, is_rollback}
use Rattle.dk_si.specs.OneThread.{open_with, open_has, held_alone}
use Rattle.dk_si.specs.Answer.{first_with, last_change, holder_of, least_where}
use Rattle.dk_si.proofs.FrontLemmas.{all_by, any_by}
use Rattle.dk_si.proofs.HolderLemmas.{NoneBelow}
use Rattle.dk_si.proofs.TransitionLemmas.{session_of}

-- what the search for the least of these tells
abbrev pub IsLeast : (ℕ → Bool) → List ℕ → Option ℕ → Type 0
IsLeast test ids None = list_all (λ id. not (test id)) ids ≡ true
IsLeast test ids (Some row) = (has_id ids row ≡ true) × (test row ≡ true) × (list_all (NoneBelow test row) ids ≡ true)

none_passes : (test : ℕ → Bool) (row id : ℕ) → not (test id) ≡ true → NoneBelow test row id ≡ true
none_passes test row id none = not_from_false _ (and_left (test id) (nat_lt id row) (not-true (test id) none))

not_below : (test : ℕ → Bool) (row id : ℕ) → row ≤ id → NoneBelow test row id ≡ true
not_below test row id le = not_from_false _ (and_right (test id) (nat_lt id row) (le-ltb id row le))

below_less : (test : ℕ → Bool) (row less id : ℕ) → less ≤ row → NoneBelow test row id ≡ true
    → NoneBelow test less id ≡ true
below_less test row less id le none = ⊎_elim
    (λ below. none_passes test less id (not_from_false (test id) (fails (test id) (nat_lt id row)
    (lt-ltb id row (omega (arith, below, le))) none)))
    (λ above. not_below test less id above)
    (cases_lt id less)
  where
    fails : (a b : Bool) → b ≡ true → not (a && b) ≡ true → a ≡ false
    fails false b e none = refl
    fails true true e none = absurd (false≢true none)
    fails true false e none = absurd (false≢true e)

least_here : (test : ℕ → Bool) (id : ℕ) (ids : List ℕ) → test id ≡ true → (rest : Option ℕ) → IsLeast test ids rest
    → IsLeast test (id ∷ ids) (Some (elim rest as (λ x. ℕ) [ None ↦ id | Some other ↦ min id other ]))
least_here test id ids on None none = (
  or_left (id == id) (has_id ids id) (eq-eqb id id refl),
  on,
  and_from (NoneBelow test id id) (list_all (NoneBelow test id) ids) (not_below test id id (omega arith))
      (all_by (λ other. not (test other)) (NoneBelow test id) ids (λ other fails. none_passes test id other fails)
      none),
)
least_here test id ids on (Some other) least = ⊎_elim
    (λ less. let is : min id other ≡ id = omega (arith, less) in
    subst (λ row. IsLeast test (id ∷ ids) (Some row)) (sym is) (
      or_left (id == id) (has_id ids id) (eq-eqb id id refl),
      on,
      and_from (NoneBelow test id id) (list_all (NoneBelow test id) ids) (not_below test id id (omega arith))
          (all_by (NoneBelow test other) (NoneBelow test id) ids
          (λ n h. below_less test other id n (omega (arith, less)) h) least.2),
    ))
    (λ more. let is : min id other ≡ other = omega (arith, more) in
    subst (λ row. IsLeast test (id ∷ ids) (Some row)) (sym is) (
      or_right (id == other) (has_id ids other) least.0,
      least.1,
      and_from (NoneBelow test other id) (list_all (NoneBelow test other) ids) (not_below test other id more) least.2,
    ))
    (cases_lt id other)

least_there : (test : ℕ → Bool) (id : ℕ) (ids : List ℕ) → test id ≡ false → (rest : Option ℕ) → IsLeast test ids rest
    → IsLeast test (id ∷ ids) rest
least_there test id ids off None none = and_from (not (test id)) (list_all (λ id. not (test id)) ids)
    (not_from_false (test id) off) none
least_there test id ids off (Some row) least = (
  or_right (id == row) (has_id ids row) least.0,
  least.1,
  and_from (NoneBelow test row id) (list_all (NoneBelow test row) ids) (none_passes test row id
      (not_from_false (test id) off)) least.2,
)

least_if : (test : ℕ → Bool) (id : ℕ) (ids : List ℕ) (b : Bool) → test id ≡ b → (rest : Option ℕ)
    → IsLeast test ids rest
    → IsLeast test (id ∷ ids) (if b then Some (elim rest as (λ x. ℕ) [ None ↦ id | Some other ↦ min id other ]) else
    rest)
least_if test id ids true is rest least = least_here test id ids is rest least
least_if test id ids false is rest least = least_there test id ids is rest least

pub least_found : (test : ℕ → Bool) (ids : List ℕ) → IsLeast test ids (least_where test ids)
least_found test [] = refl
least_found test (id ∷ ids) = least_if test id ids (test id) refl (least_where test ids) (least_found test ids)

-- the last commit that changed a row, if one did
abbrev IsLast : ℕ → ℕ → List Commit → ℕ → Type 0
IsLast table row commits zero = some_commit_has commits table row ≡ false
IsLast table row commits (suc m) =
    (some_commit_has (take 1 (drop m commits)) table row ≡ true) × (some_commit_has (drop (suc m) commits) table row
    ≡ false)

last_of : (table row : ℕ) (commit : Commit) (commits : List Commit) (b : Bool) → commit_has table row commit ≡ b
    → (n : ℕ) → IsLast table row commits n
    → IsLast table row (commit ∷ commits) (elim n as (λ x. ℕ) [ zero ↦ if b then 1 else 0 | suc m ↦ suc (suc m) ])
last_of table row commit commits true is zero last = (or_left (commit_has table row commit) false is, last)
last_of table row commit commits false is zero last = or_from (commit_has table row commit)
    (some_commit_has commits table row) is last
last_of table row commit commits b is (suc m) last = last

last_found : (table row : ℕ) (commits : List Commit) → IsLast table row commits (last_change table row commits)
last_found table row [] = refl
last_found table row (commit ∷ commits) =
    last_of table row commit commits (commit_has table row commit) refl (last_change table row commits)
    (last_found table row commits)

any_drop : {T : Type 0} → (test : T → Bool) (n : ℕ) (xs : List T) → list_any test (drop n xs) ≡ true
    → list_any test xs ≡ true
any_drop test zero xs has = has
any_drop test (suc n) [] has = has
any_drop test (suc n) (x ∷ xs) has = or_right (test x) (list_any test xs) (any_drop test n xs has)

any_drop_more : {T : Type 0} → (test : T → Bool) (less more : ℕ) (xs : List T) → less ≤ more
    → list_any test (drop more xs) ≡ true → list_any test (drop less xs) ≡ true
any_drop_more test zero more xs le has = any_drop test more xs has
any_drop_more test (suc less) zero xs le has = absurd (omega (arith, le))
any_drop_more test (suc less) (suc more) [] le has = has
any_drop_more test (suc less) (suc more) (x ∷ xs) le has = any_drop_more test less more xs (omega (arith, le)) has

-- a commit from the start on has the row, and nobody has a pending write of it
commit_found : (machine : Machine) (number start table row : ℕ)
    → some_commit_has (drop start machine.commits) table row ≡ true
    → other_has_pending_write machine number table row ≡ false → (n : ℕ) → IsLast table row machine.commits n
    → commit_holds machine number start n table row ≡ true
commit_found machine number start table row has none zero last =
    absurd (true≢false (sym (any_drop (commit_has table row) start machine.commits has) ∙ last))
commit_found machine number start table row has none (suc m) last =
    let above : start < suc m = ⊎_elim (λ less. less)
    (λ more. absurd (true≢false (sym (any_drop_more (commit_has table row) (suc m) start machine.commits more has)
    ∙ last.1)))
    (cases_lt start (suc m)) in
    let place : suc m - 1 ≡ m = omega arith in
    and_from (nat_lt start (suc m) && some_commit_has (take 1 (drop (suc m - 1) machine.commits)) table row)
    (not (some_commit_has (drop (suc m) machine.commits) table row) && not
    (other_has_pending_write machine number table row))
    (and_from (nat_lt start (suc m)) (some_commit_has (take 1 (drop (suc m - 1) machine.commits)) table row)
    (lt-ltb start (suc m) above)
    (subst (λ k. some_commit_has (take 1 (drop k machine.commits)) table row ≡ true) (sym place) last.0))
    (and_from (not (some_commit_has (drop (suc m) machine.commits) table row))
    (not (other_has_pending_write machine number table row))
    (not_from_false _ last.1) (not_from_false _ none))

-- the search for an open transaction with the row
abbrev IsFirst : ℕ → ℕ → List Session → Option ℕ → Type 0
IsFirst table row sessions None = list_any (has_pending_write table row) sessions ≡ false
IsFirst table row sessions (Some k) = list_any (open_has k table row) sessions ≡ true

no_write : (table row : ℕ) (transaction : Transaction) (asked : Option Asked) (touched : Option WriteSet)
    (past : Option LastTransaction)
    → open_with table row (session_of transaction asked touched past) ≡ None
    → has_pending_write table row (session_of transaction asked touched past) ≡ false
no_write table row state.Outside asked touched past none = refl
no_write table row state.Aborted asked touched past none = refl
no_write table row (state.Open active) asked touched past none =
    off (net_has active.net table row) active.number (not (asks_for is_rollback asked)) none
  where
    off : (has : Bool) (number : ℕ) (more : Bool) → (if has then Some number else None) ≡ None → (has && more) ≡ false
    off true number more e = cc
    off false number more e = refl

first_next : (table row : ℕ) (session : Session) (sessions : List Session) (found : Option ℕ)
    → open_with table row session ≡ found
    → (rest : Option ℕ) → IsFirst table row sessions rest
    → IsFirst table row (session ∷ sessions) (elim found as (λ x. Option ℕ) [ None ↦ rest | Some number ↦ Some number ])
first_next table row session sessions (Some number) is rest first =
    or_left (open_has number table row session) (list_any (open_has number table row) sessions)
    (ap (λ found. elim found as (λ x. Bool) [ None ↦ false | Some other ↦ other == number ]) is
    ∙ eq-eqb number number refl)
first_next table row session sessions None is None first =
    or_from (has_pending_write table row session) (list_any (has_pending_write table row) sessions)
    (no_write table row session.transaction session.asked session.writes session.last is) first
first_next table row session sessions None is (Some k) first = or_right (open_has k table row session)
    (list_any (open_has k table row) sessions) first

first_found : (table row : ℕ) (sessions : List Session) → IsFirst table row sessions (first_with table row sessions)
first_found table row [] = refl
first_found table row (session ∷ sessions) =
    first_next table row session sessions (open_with table row session) refl (first_with table row sessions)
    (first_found table row sessions)

-- who has a row in an open transaction's net holds it
open_is_held : (opened : List Table) (machine : Machine) (start k table row : ℕ)
    → (transaction : Transaction) (asked : Option Asked) (touched : Option WriteSet) (past : Option LastTransaction)
    → open_has k table row (session_of transaction asked touched past) ≡ true
    → session_holds opened machine start k table row (session_of transaction asked touched past) ≡ true
open_is_held opened machine start k table row state.Outside asked touched past has = absurd (false≢true has)
open_is_held opened machine start k table row state.Aborted asked touched past has = absurd (false≢true has)
open_is_held opened machine start k table row (state.Open active) asked touched past has =
    or_left _ _ (both (net_has active.net table row) active.number _ has)
  where
    both : (net : Bool) (number : ℕ) (more : Bool)
        → elim (if net then Some number else None) as (λ x. Bool) [ None ↦ false | Some other ↦ other == k ] ≡ true
        → (number == k && (net || more)) ≡ true
    both true number more e = and_from (number == k) true e refl
    both false number more e = absurd (false≢true e)

-- the row is held by whom the search finds
pub record IsHeld (opened : List Table) (machine : Machine) (number start table row : ℕ) (by : Holder) : Type 0 where
  pub alone : held_alone machine number start table row by ≡ true
  pub against : holds_against opened machine number start table row by ≡ true

held_by : (opened : List Table) (machine : Machine) (number start table row : ℕ)
    → is_blocked machine number start table row ≡ true
    → (found : Option ℕ) → IsFirst table row (others machine.sessions number) found
    → IsHeld opened machine number start table row (elim found as (λ x. Holder) [
      | None ↦ who.Commit (last_change table row machine.commits)
      | Some transaction ↦ who.Transaction transaction
    ])
held_by opened machine number start table row blocked None first =
    let has = some_commit (some_commit_has (drop start machine.commits) table row)
    (other_has_pending_write machine number table row) blocked first in
    let held = commit_found machine number start table row has first (last_change table row machine.commits)
    (last_found table row machine.commits) in
    record { alone = held; against = held }
  where
    some_commit : (a b : Bool) → (a || b) ≡ true → b ≡ false → a ≡ true
    some_commit true b e none = refl
    some_commit false b e none = absurd (true≢false (sym e ∙ none))
held_by opened machine number start table row blocked (Some k) first = record {
  alone = first;
  against = any_by (open_has k table row) (session_holds opened machine start k table row)
      (others machine.sessions number)
      (λ session has. open_is_held opened machine start k table row session.transaction session.asked session.writes
      session.last has) first;
}

pub holder_found : (opened : List Table) (machine : Machine) (number start table row : ℕ)
    → is_blocked machine number start table row ≡ true
    → IsHeld opened machine number start table row (holder_of machine number table row)
holder_found opened machine number start table row blocked =
    held_by opened machine number start table row blocked (first_with table row (others machine.sessions number))
    (first_found table row (others machine.sessions number))
