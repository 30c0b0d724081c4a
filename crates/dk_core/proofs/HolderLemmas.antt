-- What a change finds of a row's newest version is what the machine says of who holds the row.
use Rattle.std.proofs.Common.{arith, ◌≡◌, ◌⊎◌, inl, inr, ⊎_elim, ℕ, zero, suc, ◌+◌, ◌-◌, ◌<◌, ◌≤◌, Bool, true, false, List, [], ◌∷◌, ◌++◌, take, drop, length, Option, Some, None, ap, ◌∙◌, sym, refl, subst, slice_get}
use Rattle.std.specs.Prelude.{◌&&◌, ◌||◌, not, is_none, is_some, min, ◌==◌, nat_lt, if◌then◌else◌}
use Rattle.std.specs.List.{list_any}
use Rattle.std.proofs.lemmas.Bool.{true≢false, false≢true, and_from, and_parts, or_cases, or_from, or_left, or_right, cases_Bool, cases_order, eqb-true, eq-eqb}
use Rattle.std.proofs.lemmas.Option.{slice_get_within}
use Rattle.std.proofs.lemmas.List.Folds.{list_any-append}
use Rattle.dk_types.specs.declared.net.TableNet.{TableNet}
use Rattle.dk_types.specs.declared.net.Commit.{Commit}
use Rattle.dk_types.specs.declared.reply.Holder.{Holder}
use Rattle.dk_si.specs.declared.database.Table.{Table}
use Rattle.dk_si.specs.declared.history.Asked.{Asked}
use Rattle.dk_si.specs.declared.machine.OpenTransaction.{OpenTransaction}
use Rattle.dk_si.specs.declared.machine.LastTransaction.{LastTransaction}
use Rattle.dk_si.specs.declared.machine.WriteSet.{WriteSet}
use Rattle.dk_si.specs.declared.machine.Transaction.{Transaction}
use Rattle.dk_si.specs.declared.machine.Session.{Session}
use Rattle.dk_si.specs.declared.machine.Machine.{Machine}
use Rattle.dk_si.specs.Nets.{net_has, part_has}
use Rattle.dk_si.specs.Machine.{write_set_in_flight, others}
use Rattle.dk_si.specs.HeldRows.{commit_has, some_commit_has, has_pending_write, other_has_pending_write, writes_row, open_holds, session_holds, is_last_above, holds_against}
use Rattle.dk_si.specs.Answer.{last_change, least_where}
use Rattle.dk_si.proofs.PlaceLemmas.{none_other}
use Rattle.dk_core.specs.declared.seat.Snapshot.{Snapshot}
use Rattle.dk_core.specs.declared.seat.Seat.{Seat}
use Rattle.dk_core.specs.Core.{Core, all_but, unstamped}
use Rattle.dk_core.specs.Findings.{writer_in, writer_among, stamper_in, stamper_among, newest, is_unseen}
use Rattle.dk_si.proofs.TransitionLemmas.{session_of}
use Rattle.dk_core.proofs.Invariant.{Has, Claims, ClaimsPast, Fits}
use Rattle.dk_core.proofs.StepLemmas.{some_there, none_but, seat_of, keeps_writes}
use Rattle.dk_types.specs.declared.reply.Holder.TheVariants as who
use Rattle.dk_si.specs.declared.machine.Transaction.TheVariants as state

-- a session at another place passes a test, so some other does
other_passes : (test : Session → Bool) (sessions : List Session) (number k : ℕ) (other : Session) → 0 < number
    → (k ≡ number - 1 → ⊥)
    → slice_get sessions k ≡ Some other → test other ≡ true → list_any test (others sessions number) ≡ true
other_passes test sessions number k other above apart at passes = ⊎_elim
    (λ some. some)
    (λ none. absurd (true≢false (sym passes ∙ none_other test sessions number k other none above apart at)))
    (cases_Bool (list_any test (others sessions number)))

pub at_front : {T : Type 0} → (xs ys : List T) (i : ℕ) (x : T) → slice_get (xs ++ ys) i ≡ Some x
    → (slice_get xs i ≡ Some x) ⊎ ((j : ℕ) × (i ≡ length xs + j) × (slice_get ys j ≡ Some x))
at_front [] ys i x at = inr (i, omega arith, at)
at_front (y ∷ xs) ys zero x at = inl at
at_front (y ∷ xs) ys (suc i) x at = ⊎_elim inl (λ h. inr (h.0, omega (arith, h.1), h.2)) (at_front xs ys i x at)

at_take : {T : Type 0} → (xs : List T) (n i : ℕ) (x : T) → slice_get (take n xs) i ≡ Some x
    → (i < n) × (slice_get xs i ≡ Some x)
at_take [] zero i x at = cc
at_take [] (suc n) i x at = cc
at_take (y ∷ xs) zero i x at = cc
at_take (y ∷ xs) (suc n) zero x at = (omega arith, at)
at_take (y ∷ xs) (suc n) (suc i) x at = let h = at_take xs n i x at in (omega (arith, h.0), h.1)

at_drop : {T : Type 0} → (xs : List T) (n i : ℕ) (x : T) → slice_get (drop n xs) i ≡ Some x
    → slice_get xs (n + i) ≡ Some x
at_drop [] zero i x at = cc
at_drop [] (suc n) i x at = cc
at_drop (y ∷ xs) zero i x at = let same : i ≡ 0 + i = omega arith in subst (λ m. slice_get (y ∷ xs) m ≡ Some x) same
    at
at_drop (y ∷ xs) (suc n) i x at =
    let same : suc (n + i) ≡ suc n + i = omega arith in
    subst (λ m. slice_get (y ∷ xs) m ≡ Some x) same (at_drop xs n i x at)

later_none : (found rest : Option ℕ)
    → elim found as (λ x. Option ℕ) [ None ↦ rest | Some number ↦ Some number ] ≡ None → rest ≡ None
later_none None rest e = e
later_none (Some n) rest e = cc

some_same : (a b : ℕ) → Some a ≡ Some b → a ≡ b
some_same a b e = cc

le_cases : (a b : ℕ) → (a ≤ b) ⊎ (b ≤ a)
le_cases zero b = inl (omega arith)
le_cases (suc a) zero = inr (omega arith)
le_cases (suc a) (suc b) = ⊎_elim (λ h. inl (omega (arith, h))) (λ h. inr (omega (arith, h))) (le_cases a b)

min_one : (a b : ℕ) → (min a b ≡ a) ⊎ (min a b ≡ b)
min_one a b = ⊎_elim (λ less. inl (omega (arith, less))) (λ more. inr (omega (arith, more))) (le_cases a b)

-- an item of all but one stands at another place
pub at_but : {T : Type 0} → (number : ℕ) (xs : List T) (i : ℕ) (x : T) → 0 < number
    → slice_get (all_but number xs) i ≡ Some x
    → (k : ℕ) × (k ≡ number - 1 → ⊥) × (slice_get xs k ≡ Some x)
at_but number xs i x above at = ⊎_elim
    (λ h. let t = at_take xs (number - 1) i x h in (i, (λ same. omega (arith, same, t.0)), t.1))
    (λ h. (number + h.0, (λ same. omega (arith, same, above)), at_drop xs number h.0 x h.2))
    (at_front (take (number - 1) xs) (drop number xs) i x at)

into_front : {T : Type 0} → (xs ys : List T) (i : ℕ) (x : T) → slice_get xs i ≡ Some x
    → slice_get (xs ++ ys) i ≡ Some x
into_front [] ys i x at = cc
into_front (y ∷ xs) ys zero x at = at
into_front (y ∷ xs) ys (suc i) x at = into_front xs ys i x at

into_behind : {T : Type 0} → (xs ys : List T) (j : ℕ) (x : T) → slice_get ys j ≡ Some x
    → slice_get (xs ++ ys) (length xs + j) ≡ Some x
into_behind [] ys j x at = let same : j ≡ 0 + j = omega arith in subst (λ m. slice_get ys m ≡ Some x) same at
into_behind (y ∷ xs) ys j x at =
    let same : suc (length xs + j) ≡ suc (length xs) + j = omega arith in
    subst (λ m. slice_get (y ∷ (xs ++ ys)) m ≡ Some x) same (into_behind xs ys j x at)

into_take : {T : Type 0} → (xs : List T) (n i : ℕ) (x : T) → i < n → slice_get xs i ≡ Some x
    → slice_get (take n xs) i ≡ Some x
into_take [] n i x less at = cc
into_take (y ∷ xs) zero i x less at = absurd (omega (arith, less))
into_take (y ∷ xs) (suc n) zero x less at = at
into_take (y ∷ xs) (suc n) (suc i) x less at = into_take xs n i x (omega (arith, less)) at

into_drop : {T : Type 0} → (xs : List T) (n j : ℕ) (x : T) → slice_get xs (n + j) ≡ Some x
    → slice_get (drop n xs) j ≡ Some x
into_drop [] n j x at = cc
into_drop (y ∷ xs) zero j x at = let same : 0 + j ≡ j = omega arith in subst (λ m. slice_get (y ∷ xs) m ≡ Some x) same
    at
into_drop (y ∷ xs) (suc n) j x at =
    let same : suc n + j ≡ suc (n + j) = omega arith in
    into_drop xs n j x (subst (λ m. slice_get (y ∷ xs) m ≡ Some x) same at)

-- an item at another place is one of all but one
pub into_but : {T : Type 0} → (number : ℕ) (xs : List T) (k : ℕ) (x : T) → 0 < number → (k ≡ number - 1 → ⊥)
    → slice_get xs k ≡ Some x
    → (i : ℕ) × (slice_get (all_but number xs) i ≡ Some x)
into_but number xs k x above apart at = ⊎_elim
    (λ same. absurd (apart same))
    (λ order. ⊎_elim
    (λ less. (k, into_front (take (number - 1) xs) (drop number xs) k x (into_take xs (number - 1) k x less at)))
    (λ less. (
      length (take (number - 1) xs) + (k - number),
      into_behind (take (number - 1) xs) (drop number xs) (k - number) x
          (into_drop xs number (k - number) x
          (let same : k ≡ number + (k - number) = omega (arith, less, above) in subst (λ m. slice_get xs m ≡ Some x)
          same at)),
    ))
    order)
    (cases_order k (number - 1))

-- the seat has the row, in versions with that commit, or of a transaction without one
pub record Owns (commit : Option ℕ) (table row k : ℕ) (seat : Seat) : Type 0 where
  pub live : Snapshot
  pub is : seat.live ≡ Some live
  pub commits : live.commit ≡ commit
  pub has : Has seat table row
  pub number : live.number ≡ k

-- one of these seats does
pub record Owner (commit : Option ℕ) (table row k : ℕ) (seats : List Seat) : Type 0 where
  pub place : ℕ
  pub seat : Seat
  pub there : slice_get seats place ≡ Some seat
  pub owns : Owns commit table row k seat

first_owner : (commit : Option ℕ) (table row k : ℕ) (seat : Seat) (seats : List Seat) → Owns commit table row k seat
    → Owner commit table row k (seat ∷ seats)
first_owner commit table row k seat seats owns = record { place = 0; seat = seat; there = refl; owns = owns }

later_owner : (commit : Option ℕ) (table row k : ℕ) (first : Seat) (seats : List Seat) → Owner commit table row k seats
    → Owner commit table row k (first ∷ seats)
later_owner commit table row k first seats w =
    record { place = suc w.place; seat = w.seat; there = w.there; owns = w.owns }

pub is_none_of : {T : Type 0} → (x : Option T) → is_none x ≡ true → x ≡ None
is_none_of None e = refl
is_none_of (Some x) e = absurd (false≢true e)

some_if : (b : Bool) (n k : ℕ) → (if b then Some n else None) ≡ Some k → (b ≡ true) × (n ≡ k)
some_if true n k e = (refl, cc)
some_if false n k e = cc

-- what writes a row has it
pub writes_parts : (table row k : ℕ) (seat : Seat) (found : Option Snapshot) → seat.live ≡ found
    → elim found as
    (λ x. Option ℕ) [
      | None ↦ None
      | Some live ↦ if is_none live.commit
          && net_has (unstamped seat) table row then Some live.number else None
    ] ≡ Some k
    → Owns None table row k seat
writes_parts table row k seat None is e = cc
writes_parts table row k seat (Some live) is e =
    let h = some_if (is_none live.commit && net_has (unstamped seat) table row) live.number k e in
    let p = and_parts (is_none live.commit) (net_has (unstamped seat) table row) h.0 in
    record { live = live; is = is; commits = is_none_of live.commit p.0; has = p.1; number = h.1 }

writer_at : (table row k : ℕ) (seat : Seat) (seats : List Seat) (found : Option ℕ) → writer_in table row seat ≡ found
    → elim found as (λ x. Option ℕ) [ None ↦ writer_among table row seats | Some number ↦ Some number ] ≡ Some k
    → (writer_among table row seats ≡ Some k → Owner None table row k seats) → Owner None table row k (seat ∷ seats)
writer_at table row k seat seats None is e rest = later_owner None table row k seat seats (rest e)
writer_at table row k seat seats (Some number) is e rest = first_owner None table row k seat seats
    (writes_parts table row k seat seat.live refl (is ∙ e))

pub writer_is : (table row k : ℕ) (seats : List Seat) → writer_among table row seats ≡ Some k
    → Owner None table row k seats
writer_is table row k [] e = cc
writer_is table row k (seat ∷ seats) e = writer_at table row k seat seats (writer_in table row seat) refl e
    (writer_is table row k seats)

pub no_writer : (table row : ℕ) (seats : List Seat) → writer_among table row seats ≡ None
    → (i : ℕ) (seat : Seat) (k : ℕ) → slice_get seats i ≡ Some seat
    → writer_in table row seat ≡ Some k → ⊥
no_writer table row [] none i seat k at w = cc
no_writer table row (first ∷ seats) none zero seat k at w =
    let same : first ≡ seat = cc in
    let e : writer_among table row (first ∷ seats) ≡ Some k =
    ap (λ found. elim found as (λ x. Option ℕ) [ None ↦ writer_among table row seats | Some number ↦ Some number ])
    (ap (writer_in table row) same ∙ w) in
    cc
no_writer table row (first ∷ seats) none (suc i) seat k at w =
    no_writer table row seats (later_none (writer_in table row first) (writer_among table row seats) none) i seat k at
    w

-- a change's row is the least, and passes the test
least_choice : (test : ℕ → Bool) (id row : ℕ) (rest : Option ℕ) (b : Bool) → test id ≡ b
    → (if b then Some (elim rest as (λ x. ℕ) [ None ↦ id | Some other ↦ min id other ]) else rest) ≡ Some row
    → ((other : ℕ) → rest ≡ Some other → test other ≡ true) → test row ≡ true
least_choice test id row None true is e more = subst (λ n. test n ≡ true) (some_same id row e) is
least_choice test id row (Some other) true is e more = ⊎_elim
    (λ h. subst (λ n. test n ≡ true) (sym h ∙ some_same (min id other) row e) is)
    (λ h. subst (λ n. test n ≡ true) (sym h ∙ some_same (min id other) row e) (more other refl))
    (min_one id other)
least_choice test id row rest false is e more = more row e

pub least_passes : (test : ℕ → Bool) (ids : List ℕ) (row : ℕ) → least_where test ids ≡ Some row → test row ≡ true
least_passes test [] row e = cc
least_passes test (id ∷ ids) row e =
    least_choice test id row (least_where test ids) (test id) refl e (λ other is. least_passes test ids other is)

stamps_live : (n table row k : ℕ) (seat : Seat) (live : Snapshot) (commit : Option ℕ) → seat.live ≡ Some live
    → live.commit ≡ commit
    → elim commit as (λ x. Option ℕ) [
      | None ↦ None
      | Some number ↦ if number == n && net_has (unstamped seat) table row then Some live.number else None
    ] ≡ Some k
    → Owns (Some n) table row k seat
stamps_live n table row k seat live None is committed e = cc
stamps_live n table row k seat live (Some number) is committed e =
    let h = some_if (number == n && net_has (unstamped seat) table row) live.number k e in
    let p = and_parts (number == n) (net_has (unstamped seat) table row) h.0 in
    record {
      live = live;
      is = is;
      commits = committed ∙ ap (λ m. Some m) (eqb-true number n p.0);
      has = p.1;
      number = h.1;
    }

stamps_parts : (n table row k : ℕ) (seat : Seat) (found : Option Snapshot) → seat.live ≡ found
    → (elim found as (λ x. Option ℕ) [
      | None ↦ None
      | Some live ↦ elim live.commit as (λ x. Option ℕ) [
        | None ↦ None
        | Some number ↦ if number == n && net_has (unstamped seat) table row then Some live.number else None
      ]
    ]) ≡ Some k
    → Owns (Some n) table row k seat
stamps_parts n table row k seat None is e = cc
stamps_parts n table row k seat (Some live) is e = stamps_live n table row k seat live live.commit is refl e

last_zero : (m : ℕ) (b : Bool) → elim m as (λ x. ℕ) [ zero ↦ if b then 1 else 0 | suc k ↦ suc (suc k) ] ≡ 0
    → (m ≡ 0) × (b ≡ false)
last_zero zero true e = cc
last_zero zero false e = (refl, refl)
last_zero (suc m) b e = cc

last_none : (table row : ℕ) (commits : List Commit) → last_change table row commits ≡ 0
    → some_commit_has commits table row ≡ false
last_none table row [] e = refl
last_none table row (commit ∷ commits) e =
    let h = last_zero (last_change table row commits) (commit_has table row commit) e in
    or_from _ _ h.1 (last_none table row commits h.0)

last_at : (table row n : ℕ) (commit : Commit) (commits : List Commit) (m : ℕ) (b : Bool)
    → last_change table row commits ≡ m → commit_has table row commit ≡ b
    → elim m as (λ x. ℕ) [ zero ↦ if b then 1 else 0 | suc k ↦ suc (suc k) ] ≡ suc n
    → ((k : ℕ) → last_change table row commits ≡ suc k
    → (some_commit_has (take 1 (drop k commits)) table row ≡ true) ×
    (some_commit_has (drop (suc k) commits) table row ≡ false))
    → (some_commit_has (take 1 (drop n (commit ∷ commits))) table row ≡ true) ×
    (some_commit_has (drop (suc n) (commit ∷ commits)) table row ≡ false)
last_at table row zero commit commits zero true is has e rest = (or_left _ _ has, last_none table row commits is)
last_at table row (suc n) commit commits zero true is has e rest = cc
last_at table row n commit commits zero false is has e rest = cc
last_at table row zero commit commits (suc m) b is has e rest = cc
last_at table row (suc n) commit commits (suc m) b is has e rest = let same : m ≡ n = cc in rest n (is ∙ ap suc same)

pub last_has : (table row : ℕ) (commits : List Commit) (n : ℕ) → last_change table row commits ≡ suc n
    → (some_commit_has (take 1 (drop n commits)) table row ≡ true) ×
    (some_commit_has (drop (suc n) commits) table row ≡ false)
last_has table row [] n e = cc
last_has table row (commit ∷ commits) n e =
    last_at table row n commit commits (last_change table row commits) (commit_has table row commit) refl refl e
    (λ k is. last_has table row commits k is)

-- a session that claims a row holds it
open_claim : (opened : List Table) (machine : Machine) (active : OpenTransaction) (asked : Option Asked)
    (touched : Option WriteSet) (past : Option LastTransaction) (table row k : ℕ)
    → active.number ≡ k
    → (net_has active.net table row ≡ true) ⊎
    (writes_row (write_set_in_flight opened machine.commits (state.Open active) asked) table row ≡ true)
    → open_holds opened machine k table row (session_of (state.Open active) asked touched past) ≡ true
open_claim opened machine active asked touched past table row k same claim =
    and_from _ _ (eq-eqb active.number k same) (⊎_elim
    (λ h. or_left (net_has active.net table row) _ h)
    (λ h. or_right (net_has active.net table row) _ (or_right (writes_row touched table row) _ h))
    claim)

past_claim : (machine : Machine) (session : Session) (live : Snapshot) (start table row : ℕ)
    (past : Option LastTransaction) → ClaimsPast session live table row past
    → is_last_above machine.commits start table row live.commit ≡ true
    → elim past as (λ x. Bool) [
      | None ↦ false
      | Some past ↦ past.number == live.number && (is_last_above machine.commits start table row past.commit
          && (net_has past.net table row || writes_row session.writes table row))
    ] ≡ true
past_claim machine session live start table row None claim last = absurd claim
past_claim machine session live start table row (Some past) claim last =
    and_from _ _ (eq-eqb past.number live.number claim.0)
    (and_from _ _ (ap (λ commit. is_last_above machine.commits start table row commit) claim.1 ∙ last)
    (⊎_elim (λ h. or_left (net_has past.net table row) _ h) (λ h. or_right (net_has past.net table row) _ h) claim.2))

-- what a seat has was made in the call in flight, or before
pub has_parts : (seat : Seat) (table row : ℕ) → Has seat table row
    → (net_has seat.made table row ≡ true) ⊎ (net_has seat.versions table row ≡ true)
has_parts seat table row has =
    let test : TableNet → Bool = λ part. part.table == table && part_has part row in
    or_cases (list_any test seat.made) (list_any test seat.versions)
    (sym (list_any-append test seat.made seat.versions) ∙ has)

claim_holds : (opened : List Table) (machine : Machine) (transaction : Transaction) (asked : Option Asked)
    (touched : Option WriteSet) (past : Option LastTransaction)
    → (seat : Seat) (live : Snapshot) (start table row : ℕ)
    → Claims opened machine (session_of transaction asked touched past) seat live table row → Has seat table row
    → is_last_above machine.commits start table row live.commit ≡ true
    → session_holds opened machine start live.number table row (session_of transaction asked touched past) ≡ true
claim_holds opened machine (state.Open active) asked touched past seat live start table row claim has last =
    or_left _ _ (open_claim opened machine active asked touched past table row live.number claim.1 (⊎_elim
    (λ h. inr (claim.4 h))
    (λ h. inl (claim.3 h))
    (has_parts seat table row has)))
claim_holds opened machine state.Outside asked touched past seat live start table row claim has last =
    past_claim machine (session_of state.Outside asked touched past) live start table row past claim last
claim_holds opened machine state.Aborted asked touched past seat live start table row claim has last =
    past_claim machine (session_of state.Aborted asked touched past) live start table row past claim last

-- a seat that has the row, with what the machine knows of its session, holds it
seat_holds : (core : Core) → Fits core → (number start table row : ℕ) → 0 < number
    → (i : ℕ) (seat : Seat) (live : Snapshot)
    → slice_get (all_but number core.seats) i ≡ Some seat → seat.live ≡ Some live → Has seat table row
    → is_last_above core.now.commits start table row live.commit ≡ true
    → list_any (session_holds core.opened core.now start live.number table row)
    (others core.now.sessions number) ≡ true
seat_holds core fits number start table row above i seat live there is has last =
    let p = at_but number core.seats i seat above there in
    let s = some_there core.now.sessions p.0
    (subst (λ n. p.0 < n) fits.even (slice_get_within core.seats p.0 seat p.2)) in
    let claim = (fits.sit p.0 s.0 seat s.1 p.2).claimed live table row is has in
    other_passes (session_holds core.opened core.now start live.number table row) core.now.sessions number p.0 s.0
    above p.1 s.1
    (claim_holds core.opened core.now s.0.transaction s.0.asked s.0.writes s.0.last seat live start table row claim
    has last)

-- where no other seat writes the row, no other session keeps it
none_keeps : (core : Core) → Fits core → (number table row : ℕ) → 0 < number
    → writer_among table row (all_but number core.seats) ≡ None
    → other_has_pending_write core.now number table row ≡ false
none_keeps core fits number table row above none =
    none_but (has_pending_write table row) core.now.sessions number above (λ k other apart at has.
    let seat = seat_of core fits k other at in
    let w = keeps_writes core fits table row k other at has seat.0 seat.1 in
    let b = into_but number core.seats k seat.0 above apart seat.1 in
    no_writer table row (all_but number core.seats) none b.0 seat.0 w.0 b.1 w.1)

stamper_at : (n table row k : ℕ) (seat : Seat) (seats : List Seat) (found : Option ℕ)
    → stamper_in n table row seat ≡ found
    → elim found as (λ x. Option ℕ) [ None ↦ stamper_among n table row seats | Some number ↦ Some number ] ≡ Some k
    → (stamper_among n table row seats ≡ Some k → Owner (Some n) table row k seats) → Owner (Some n) table row k (seat ∷ seats)
stamper_at n table row k seat seats None is e rest = later_owner (Some n) table row k seat seats (rest e)
stamper_at n table row k seat seats (Some number) is e rest = first_owner (Some n) table row k seat seats
    (stamps_parts n table row k seat seat.live refl (is ∙ e))

pub stamper_is : (n table row k : ℕ) (seats : List Seat) → stamper_among n table row seats ≡ Some k
    → Owner (Some n) table row k seats
stamper_is n table row k [] e = cc
stamper_is n table row k (seat ∷ seats) e = stamper_at n table row k seat seats (stamper_in n table row seat) refl e
    (stamper_is n table row k seats)

-- the last commit that changed the row stands above the start, and no later one did
not_below : (n : ℕ) → nat_lt n 0 ≡ false
not_below n = grind arith

last_above : (start table row : ℕ) (commits : List Commit) (n : ℕ) → last_change table row commits ≡ n
    → nat_lt start n ≡ true
    → (0 < n) × (some_commit_has (take 1 (drop (n - 1) commits)) table row ≡ true) ×
    (some_commit_has (drop n commits) table row ≡ false)
last_above start table row commits zero is above = absurd (false≢true (sym (not_below start) ∙ above))
last_above start table row commits (suc m) is above =
    let h = last_has table row commits m is in
    let same : m ≡ suc m - 1 = omega arith in
    (omega arith, subst (λ k. some_commit_has (take 1 (drop k commits)) table row ≡ true) same h.0, h.1)

held_stamped : (core : Core) → Fits core → (number start table row : ℕ) → 0 < number
    → writer_among table row (all_but number core.seats) ≡ None
    → nat_lt start (last_change table row core.now.commits) ≡ true
    → (found : Option ℕ) → stamper_among (last_change table row core.now.commits) table row
    (all_but number core.seats) ≡ found
    → holds_against core.opened core.now number start table row (elim found as (λ x. Holder) [
      | Some transaction ↦ who.Transaction transaction
      | None ↦ who.Commit (last_change table row core.now.commits)
    ]) ≡ true
held_stamped core fits number start table row above none less (Some k) is =
    let n = last_change table row core.now.commits in
    let w = stamper_is n table row k (all_but number core.seats) is in
    let l = last_above start table row core.now.commits n refl less in
    subst (λ m. list_any (session_holds core.opened core.now start m table row)
    (others core.now.sessions number) ≡ true) w.owns.number
    (seat_holds core fits number start table row above w.place w.seat w.owns.live w.there w.owns.is w.owns.has
    (ap (λ commit. is_last_above core.now.commits start table row commit) w.owns.commits
    ∙ and_from _ _ less (ap not l.2)))
held_stamped core fits number start table row above none less None is =
    let n = last_change table row core.now.commits in
    let l = last_above start table row core.now.commits n refl less in
    and_from _ _ (and_from _ _ less l.1)
    (and_from _ _ (ap not l.2) (ap not (none_keeps core fits number table row above none)))

held_found : (core : Core) → Fits core → (number start table row : ℕ) → 0 < number → (found : Option ℕ)
    → writer_among table row (all_but number core.seats) ≡ found
    → (is_some found || nat_lt start (last_change table row core.now.commits)) ≡ true
    → holds_against core.opened core.now number start table row (elim found as (λ x. Holder) [
      | Some transaction ↦ who.Transaction transaction
      | None ↦ elim (stamper_among (last_change table row core.now.commits) table row (all_but number core.seats)) as
          (λ x. Holder) [
            | Some transaction ↦ who.Transaction transaction
            | None ↦ who.Commit (last_change table row core.now.commits)
          ]
    ]) ≡ true
held_found core fits number start table row above (Some k) is unseen =
    let w = writer_is table row k (all_but number core.seats) is in
    subst (λ m. list_any (session_holds core.opened core.now start m table row)
    (others core.now.sessions number) ≡ true) w.owns.number
    (seat_holds core fits number start table row above w.place w.seat w.owns.live w.there w.owns.is w.owns.has
    (ap (λ commit. is_last_above core.now.commits start table row commit) w.owns.commits))
held_found core fits number start table row above None is unseen =
    held_stamped core fits number start table row above is unseen
    (stamper_among (last_change table row core.now.commits) table row (all_but number core.seats)) refl

-- the newest version of a row that a transaction does not see holds the row
pub held_now : (core : Core) → Fits core → (number start table row : ℕ) → 0 < number
    → is_unseen core number start table row ≡ true
    → holds_against core.opened core.now number start table row (newest core number table row) ≡ true
held_now core fits number start table row above unseen =
    held_found core fits number start table row above (writer_among table row (all_but number core.seats)) refl unseen
