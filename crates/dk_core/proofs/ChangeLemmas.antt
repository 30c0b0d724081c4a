-- A change makes a version, or finds a conflict, and keeps what fits.
use Rattle.dk_core.specs.Allows as may
use Rattle.dk_core.specs.Layout.{groups_of}
use Rattle.dk_types.specs.declared.vector.VectorId.{VectorId}
use Rattle.dk_core.specs.Changes.{has_update, is_one_kind, is_part_of, is_meant, are_fresh_rows, is_change_of, is_fresh_part}
use Rattle.dk_syntax.specs.declared.statement.Statement.{Statement}
use Rattle.dk_si.specs.Machine.{kind_of}
use Rattle.std.proofs.Common.{arith, ◌≡◌, ◌⊎◌, inl, inr, ⊎_elim, ℕ, zero, suc, ◌-◌, ◌<◌, Bool, true, false, List, [], ◌∷◌, map, length, Option, Some, None, ap, ◌∙◌, sym, refl, subst, slice_get, slice_set}
use Rattle.std.specs.Prelude.{◌&&◌, not, is_some, min, ◌==◌, nat_lt, if◌then◌else◌}
use Rattle.std.specs.List.{list_all, list_any, filter}
use lib.Pointwise.{pointwise}
use Rattle.std.proofs.lemmas.Bool.{cases_Bool, true≢false, false≢true, and_from, and_parts, or_parts, or_cases, or_left, or_right, cases_order, eqb-true, eq-eqb, ltb-true, ltb-false}
use Rattle.std.proofs.lemmas.List.Folds.{list_any-append}
use Rattle.std.proofs.lemmas.List.{append-nil}
use Rattle.dk_values.specs.declared.value.Value.{Value}
use Rattle.dk_types.specs.declared.net.TableNet.{TableNet}
use Rattle.dk_types.specs.declared.net.Commit.{Commit}
use Rattle.dk_si.specs.declared.meaning.Meaning.{Meaning}
use Rattle.dk_si.specs.declared.history.Asked.{Asked}
use Rattle.dk_si.specs.declared.history.Asked.TheVariants.{Unread, Bad, Good}
use Rattle.dk_si.specs.declared.machine.OpenTransaction.{OpenTransaction}
use Rattle.dk_si.specs.declared.machine.LastTransaction.{LastTransaction}
use Rattle.dk_si.specs.declared.machine.Transaction.{Transaction}
use Rattle.dk_si.specs.declared.machine.WriteSet.{WriteSet}
use Rattle.dk_si.specs.declared.machine.Session.{Session}
use Rattle.dk_si.specs.Meaning.{same_value}
use Rattle.dk_si.specs.Nets.{net_has, part_has, has_id}
use Rattle.dk_si.specs.Machine.{asks_for, changed_ids, committed_count, meaning_in, write_set}
use Rattle.dk_si.specs.HeldRows.{commit_has, writes_row, is_rollback}
use Rattle.dk_si.specs.Answer.{last_change, least_where}
use Rattle.dk_si.proofs.PlaceLemmas.{set_place}
use Rattle.dk_core.specs.declared.seat.Snapshot.{Snapshot}
use Rattle.dk_core.specs.declared.seat.Seat.{Seat}
use Rattle.dk_core.specs.Core.{Core, all_but, unstamped}
use Rattle.dk_core.specs.Findings.{writer_in, writer_among, is_unseen}
use Rattle.dk_si.proofs.TransitionLemmas.{session_of}
use Rattle.dk_core.proofs.Invariant.{Has, Alone, ClaimsOpen, Sits, Fits}
use Rattle.dk_core.proofs.StepLemmas.{Found, live_of}
use Rattle.dk_core.proofs.HolderLemmas.{into_but, no_writer}
use Rattle.dk_core.proofs.MoveLemmas.{Moved}
use Rattle.dk_syntax.specs.declared.statement.Statement.TheVariants as ask
use Rattle.dk_si.specs.declared.meaning.Meaning.TheVariants as meant
use Rattle.dk_si.specs.declared.machine.Transaction.TheVariants as state

last_first : (m : ℕ) (b : Bool) → b ≡ true
    → 0 < elim m as (λ x. ℕ) [ zero ↦ if b then 1 else 0 | suc n ↦ suc (suc n) ]
last_first zero true has = omega arith
last_first zero false has = absurd (false≢true has)
last_first (suc m) b has = omega arith

last_later : (m : ℕ) (b : Bool) (k : ℕ) → k < m
    → suc k < elim m as (λ x. ℕ) [ zero ↦ if b then 1 else 0 | suc n ↦ suc (suc n) ]
last_later zero b k less = absurd (omega (arith, less))
last_later (suc m) b k less = omega (arith, less)

none_of : {T : Type 0} → (x : Option T) → is_some x ≡ false → x ≡ None
none_of None e = refl
none_of (Some x) e = absurd (true≢false e)

none_choice : (b : Bool) (id : ℕ) (rest : Option ℕ)
    → (if b then Some (elim rest as (λ x. ℕ) [ None ↦ id | Some other ↦ min id other ]) else rest) ≡ None
    → (b ≡ false) × (rest ≡ None)
none_choice true id rest e = cc
none_choice false id rest e = (refl, e)

kept_first : (test : ℕ → Bool) (id : ℕ) (ids : List ℕ) (row : ℕ) (b : Bool) → b ≡ true → (id == row) ≡ true
    → has_id (if b then id ∷ filter test ids else filter test ids) row ≡ true
kept_first test id ids row true passes same = or_left (id == row) _ same
kept_first test id ids row false passes same = absurd (false≢true passes)

kept_later : (test : ℕ → Bool) (id : ℕ) (ids : List ℕ) (row : ℕ) (b : Bool) → has_id (filter test ids) row ≡ true
    → has_id (if b then id ∷ filter test ids else filter test ids) row ≡ true
kept_later test id ids row true has = or_right (id == row) _ has
kept_later test id ids row false has = has

-- a commit that changed the row is no later than the last one
pub last_bound : (table row : ℕ) (commits : List Commit) (k : ℕ) (commit : Commit) → slice_get commits k ≡ Some commit
    → commit_has table row commit ≡ true
    → k < last_change table row commits
last_bound table row [] k commit at has = cc
last_bound table row (first ∷ commits) zero commit at has =
    let same : first ≡ commit = cc in
    last_first (last_change table row commits) (commit_has table row first) (ap (commit_has table row) same ∙ has)
last_bound table row (first ∷ commits) (suc k) commit at has =
    last_later (last_change table row commits) (commit_has table row first) k
    (last_bound table row commits k commit at has)

-- a row whose newest version is seen is alone
pub seen_alone : (core : Core) (number start table row : ℕ) → 0 < number
    → is_unseen core number start table row ≡ false
    → Alone core.now.commits core.seats (number - 1) start table row
seen_alone core number start table row above seen =
    let h = or_parts (is_some (writer_among table row (all_but number core.seats)))
    (nat_lt start (last_change table row core.now.commits)) seen in
    record {
      clear = λ k commit le at has. let less = last_bound table row core.now.commits k commit at has in
          omega (arith, le, less, ltb-false start (last_change table row core.now.commits) h.1);
      alone = λ k other n apart at w. let b = into_but number core.seats k other above apart at in
          no_writer table row (all_but number core.seats)
          (none_of (writer_among table row (all_but number core.seats)) h.0) b.0 other n b.1 w;
    }

pub least_fails : (test : ℕ → Bool) (ids : List ℕ) (row : ℕ) → least_where test ids ≡ None → has_id ids row ≡ true
    → test row ≡ false
least_fails test [] row none has = absurd (false≢true has)
least_fails test (id ∷ ids) row none has =
    let h = none_choice (test id) id (least_where test ids) none in
    ⊎_elim
    (λ same. subst (λ n. test n ≡ false) (eqb-true id row same) h.0)
    (λ later. least_fails test ids row h.1 later)
    (or_cases (id == row) (has_id ids row) has)

any_map : {A : Type 0} → (f : A → ℕ) (row : ℕ) (xs : List A) → list_any (λ x. f x == row) xs ≡ true
    → has_id (map f xs) row ≡ true
any_map f row [] has = has
any_map f row (x ∷ xs) has = ⊎_elim
    (λ h. or_left (f x == row) _ h)
    (λ h. or_right (f x == row) _ (any_map f row xs h))
    (or_cases (f x == row) (list_any (λ x. f x == row) xs) has)

-- what a part has stands among the ids that it changes
pub part_ids : (part : TableNet) (row : ℕ) → part_has part row ≡ true → has_id (changed_ids part) row ≡ true
part_ids part row has =
    list_any-append (λ (id : ℕ). id == row) (map (λ update. update.0) part.updates) part.deletes
    ∙ ⊎_elim
    (λ h. or_left (has_id (map (λ update. update.0) part.updates) row) _
    (any_map (λ update. update.0) row part.updates h))
    (λ h. or_right (has_id (map (λ update. update.0) part.updates) row) _ h)
    (or_cases (list_any (λ update. update.0 == row) part.updates) (has_id part.deletes row) has)

same_key : (us : List (ℕ × List Value)) (u : ℕ × List Value) (row : ℕ) → (u.0 == row) ≡ true → has_update us u ≡ true
    → has_id (map (λ update. update.0) us) row ≡ true
same_key [] u row key has = absurd (false≢true has)
same_key (o ∷ us) u row key has = ⊎_elim
    (λ h. or_left (o.0 == row) _
    (eq-eqb o.0 row (eqb-true o.0 u.0 (and_parts (o.0 == u.0) (pointwise same_value o.1 u.1) h).0
    ∙ eqb-true u.0 row key)))
    (λ h. or_right (o.0 == row) _ (same_key us u row key h))
    (or_cases (o.0 == u.0 && pointwise same_value o.1 u.1) (has_update us u) has)

in_updates : (us updates : List (ℕ × List Value)) (row : ℕ) → list_all (has_update us) updates ≡ true
    → list_any (λ update. update.0 == row) updates ≡ true
    → has_id (map (λ update. update.0) us) row ≡ true
in_updates us [] row all has = absurd (false≢true has)
in_updates us (u ∷ updates) row all has =
    let h = and_parts (has_update us u) (list_all (has_update us) updates) all in
    ⊎_elim (λ key. same_key us u row key h.0) (λ later. in_updates us updates row h.1 later)
    (or_cases (u.0 == row) (list_any (λ update. update.0 == row) updates) has)

pub in_ids : (test : ℕ → Bool) (ids : List ℕ) (row : ℕ) → list_all test ids ≡ true → has_id ids row ≡ true
    → test row ≡ true
in_ids test [] row all has = absurd (false≢true has)
in_ids test (id ∷ ids) row all has =
    let h = and_parts (test id) (list_all test ids) all in
    ⊎_elim (λ same. subst (λ n. test n ≡ true) (eqb-true id row same) h.0) (λ later. in_ids test ids row h.1 later)
    (or_cases (id == row) (has_id ids row) has)

kept_id : (test : ℕ → Bool) (ids : List ℕ) (row : ℕ) → test row ≡ true → has_id ids row ≡ true
    → has_id (filter test ids) row ≡ true
kept_id test [] row passes has = has
kept_id test (id ∷ ids) row passes has = ⊎_elim
    (λ same. kept_first test id ids row (test id) (subst (λ n. test n ≡ true) (sym (eqb-true id row same)) passes)
    same)
    (λ later. kept_later test id ids row (test id) (kept_id test ids row passes later))
    (or_cases (id == row) (has_id ids row) has)

-- what means no change has no part
none_meant : (n : ℕ) (made : List TableNet) (part : TableNet) → (are_fresh_rows n made part && false) ≡ true → ⊥
none_meant n made part is = false≢true (and_parts (are_fresh_rows n made part) false is).1

-- a part of a change has rows that its statement changes
pub part_writes : (core : Core) (active : OpenTransaction) (made : List TableNet) (part : TableNet)
    (meaning : Meaning)
    (row : ℕ)
    → is_fresh_part (committed_count core.opened core.now.commits active part.table) made meaning part ≡ true
    → part_has part row ≡ true
    → writes_row (write_set core.opened core.now.commits active meaning) part.table row ≡ true
part_writes core active made part (meant.Change count whole) row is has =
    let n = committed_count core.opened core.now.commits active part.table in
    let h = and_parts (are_fresh_rows n made part) (is_part_of whole part) is in
    let t = and_parts (part.table == whole.table) _ h.1 in
    let u = and_parts (list_all (has_update whole.updates) part.updates)
    (list_all (has_id whole.deletes) part.deletes) t.1 in
    let same = eqb-true part.table whole.table t.0 in
    let below : nat_lt row n ≡ true =
    (and_parts (nat_lt row n) _
    (in_ids (λ id. nat_lt id n && not (net_has made part.table id)) (changed_ids part) row h.0
    (part_ids part row has))).0 in
    let there : has_id (changed_ids whole) row ≡ true =
    list_any-append (λ (id : ℕ). id == row) (map (λ update. update.0) whole.updates) whole.deletes
    ∙ ⊎_elim
    (λ k. or_left (has_id (map (λ update. update.0) whole.updates) row) _
    (in_updates whole.updates part.updates row u.0 k))
    (λ k. or_right (has_id (map (λ update. update.0) whole.updates) row) _
    (in_ids (has_id whole.deletes) part.deletes row u.1 k))
    (or_cases (list_any (λ update. update.0 == row) part.updates) (has_id part.deletes row) has) in
    and_from _ _ (eq-eqb whole.table part.table (sym same))
    (kept_id (λ id. nat_lt id (committed_count core.opened core.now.commits active whole.table))
    (changed_ids whole) row
    (subst (λ table. nat_lt row (committed_count core.opened core.now.commits active table) ≡ true) same below) there)
part_writes core active made part (meant.Rows rows) row is has =
    absurd (none_meant (committed_count core.opened core.now.commits active part.table) made part is)
part_writes core active made part (meant.Create name schema) row is has =
    absurd (none_meant (committed_count core.opened core.now.commits active part.table) made part is)
part_writes core active made part (meant.Refused refusal) row is has =
    absurd (none_meant (committed_count core.opened core.now.commits active part.table) made part is)
part_writes core active made part meant.Nothing row is has =
    absurd (none_meant (committed_count core.opened core.now.commits active part.table) made part is)

-- and it has rows of the database at its start alone
pub part_below : (core : Core) (active : OpenTransaction) (made : List TableNet) (part : TableNet) (meaning : Meaning)
    (row : ℕ)
    → is_fresh_part (committed_count core.opened core.now.commits active part.table) made meaning part ≡ true
    → part_has part row ≡ true
    → row < committed_count core.opened core.now.commits active part.table
part_below core active made part meaning row is has =
    let n = committed_count core.opened core.now.commits active part.table in
    let h = and_parts (are_fresh_rows n made part) (is_meant meaning part) is in
    ltb-true row n
    (and_parts (nat_lt row n) _
    (in_ids (λ id. nat_lt id n && not (net_has made part.table id)) (changed_ids part) row h.0
    (part_ids part row has))).0

-- a ROLLBACK means nothing
rolls_nothing : (core : Core) (active : OpenTransaction) (statement : Statement)
    → is_rollback (kind_of statement) ≡ true
    → meaning_in core.opened core.now.commits active (Good statement) ≡ meant.Nothing
rolls_nothing core active ask.Rollback is = refl
rolls_nothing core active (ask.Create table columns) is = absurd (false≢true is)
rolls_nothing core active (ask.Insert table tuples) is = absurd (false≢true is)
rolls_nothing core active (ask.InsertSelect table at query) is = absurd (false≢true is)
rolls_nothing core active (ask.Copy table bytes) is = absurd (false≢true is)
rolls_nothing core active (ask.Select query) is = absurd (false≢true is)
rolls_nothing core active (ask.Update table sets filter) is = absurd (false≢true is)
rolls_nothing core active (ask.Delete table filter) is = absurd (false≢true is)
rolls_nothing core active ask.Begin is = absurd (false≢true is)
rolls_nothing core active ask.Commit is = absurd (false≢true is)
rolls_nothing core active ask.Checkpoint is = absurd (false≢true is)

-- a statement that changes rows is no ROLLBACK
part_goes : (core : Core) (active : OpenTransaction) (asked : Asked) (made : List TableNet) (part : TableNet)
    (n : ℕ)
    → is_fresh_part n made (meaning_in core.opened core.now.commits active asked) part ≡ true
    → not (asks_for is_rollback (Some asked)) ≡ true
part_goes core active Unread made part n is = refl
part_goes core active (Bad at) made part n is = refl
part_goes core active (Good statement) made part n is = ⊎_elim
    (λ rolls. absurd (none_meant n made part
    (subst (λ meaning. is_fresh_part n made meaning part ≡ true) (rolls_nothing core active statement rolls) is)))
    (λ other. ap not other)
    (cases_Bool (is_rollback (kind_of statement)))

-- a session that may make a Change is in an open transaction, and has a call in flight that means it
by_change : (core : Core) (at : VectorId) (part : TableNet) (touched : Option WriteSet) (past : Option LastTransaction)
    (seat : Seat) (P : Transaction → Option Asked → Type 0)
    → ((active : OpenTransaction) (asked : Asked)
    → is_change_of (groups_of core.layout part.table)
    (committed_count core.opened core.now.commits active part.table) seat.made
    (meaning_in core.opened core.now.commits active asked) at part ≡ true
    → P (state.Open active) (Some asked))
    → (transaction : Transaction) (asked : Option Asked)
    → may.may_change core at part (session_of transaction asked touched past) seat ≡ true → P transaction asked
by_change core at part touched past seat P by state.Outside asked passes = absurd (false≢true passes)
by_change core at part touched past seat P by state.Aborted asked passes = absurd (false≢true passes)
by_change core at part touched past seat P by (state.Open active) None passes = absurd (false≢true passes)
by_change core at part touched past seat P by (state.Open active) (Some asked) passes =
    by active asked (and_parts _ (is_change_of (groups_of core.layout part.table)
    (committed_count core.opened core.now.commits active part.table) seat.made
    (meaning_in core.opened core.now.commits active asked) at part) passes).1

-- the session of a Change is in an open transaction, and its call in flight means the change and is no ROLLBACK
pub of_change : (core : Core) (number : ℕ) (at : VectorId) (part : TableNet)
    (f : Found core number (may.may_change core at part)) (P : Transaction → Option Asked → Type 0)
    → ((active : OpenTransaction) (asked : Asked)
    → slice_get core.now.sessions (number - 1)
    ≡ Some (session_of (state.Open active) (Some asked) f.session.writes f.session.last)
    → is_one_kind part ≡ true
    → is_fresh_part (committed_count core.opened core.now.commits active part.table) f.seat.made
    (meaning_in core.opened core.now.commits active asked) part ≡ true
    → not (asks_for is_rollback (Some asked)) ≡ true → P (state.Open active) (Some asked))
    → P f.session.transaction f.session.asked
of_change core number at part f P by =
    let writes = f.session.writes in
    let last = f.session.last in
    by_change core at part writes last f.seat
    (λ transaction asked. slice_get core.now.sessions (number - 1) ≡ Some (session_of transaction asked writes last)
    → P transaction asked)
    (λ active asked is here.
    let n = committed_count core.opened core.now.commits active part.table in
    let meaning = meaning_in core.opened core.now.commits active asked in
    let h = and_parts _ (is_fresh_part n f.seat.made meaning part) is in
    by active asked here (and_parts (is_one_kind part) _ h.0).0 h.1
    (part_goes core active asked f.seat.made part n h.1))
    f.session.transaction f.session.asked f.passes f.session_there

one_there : {T : Type 0} → (xs : List T) (k place : ℕ) (a b : T) → k ≡ place → slice_get xs place ≡ Some a
    → slice_get xs k ≡ Some b → a ≡ b
one_there xs k place a b same at there =
    let e : Some a ≡ Some b = sym at ∙ (ap (slice_get xs) (sym same) ∙ there) in
    cc

-- the session stands where it stood
pub same_at : (sessions : List Session) (place : ℕ) (session : Session) → slice_get sessions place ≡ Some session
    → (k : ℕ) (s : Session) → slice_get sessions k ≡ Some s
    → ((k ≡ place) × (session ≡ s)) ⊎ ((k ≡ place → ⊥) × (slice_get sessions k ≡ Some s))
same_at sessions place session there k s at = ⊎_elim
    (λ same. inl (same, one_there sessions k place session s same there at))
    (λ order. inr
    ((λ same. ⊎_elim (λ less. omega (arith, less, same)) (λ less. omega (arith, less, same)) order), at))
    (cases_order k place)

-- nothing but a seat changes, and it has the rows that it had
pub unmoved : (core : Core) → Fits core → (place : ℕ) (session : Session) (seat new : Seat)
    → slice_get core.now.sessions place ≡ Some session → slice_get core.seats place ≡ Some seat
    → ((k : ℕ) (other : Seat) (live : Snapshot) (table row : ℕ) → (k ≡ place → ⊥)
    → slice_get core.seats k ≡ Some other
    → other.live ≡ Some live → live.commit ≡ None → Has other table row → (number : ℕ)
    → writer_in table row new ≡ Some number → ⊥)
    → Sits core.opened core.entries core.now (slice_set core.seats place new) place session new
    → Moved core core.entries core.now (slice_set core.seats place new) place session new
unmoved core fits place session seat new at there free own = record {
  more = [];
  grown = sym (append-nil core.now.commits);
  sessions_at = same_at core.now.sessions place session at;
  seats_at = λ k t is. set_place core.seats place new k t is;
  own = own;
  others = λ k other live table row apart where_is is none has.
      (free k other live table row apart where_is is none has, λ i commit at_none has_it. cc);
  since = λ k refusal apart so. so;
}

-- what stands in the seats' places but for one is what stood there
pub alone_but : (commits : List Commit) (seats : List Seat) (place start table row : ℕ) (new : Seat)
    → Alone commits seats place start table row
    → Alone commits (slice_set seats place new) place start table row
alone_but commits seats place start table row new alone = record {
  clear = alone.clear;
  alone = λ k other number apart at w. ⊎_elim (λ h. apart h.0) (λ h. alone.alone k other number apart h.1 w)
      (set_place seats place new k other at);
}

pub some_live : (a b : Snapshot) → Some a ≡ Some b → a ≡ b
some_live a b e = cc

version_claims : (core : Core) (active : OpenTransaction) (asked : Asked) (touched : Option WriteSet)
    (past : Option LastTransaction) (seat : Seat) (part : TableNet) (live : Snapshot) (table row : ℕ)
    → (place : ℕ)
    → Sits core.opened core.entries core.now core.seats place
    (session_of (state.Open active) (Some asked) touched past) seat
    → is_fresh_part (committed_count core.opened core.now.commits active part.table) seat.made
    (meaning_in core.opened core.now.commits active asked) part ≡ true
    → seat.live ≡ Some (record { number = active.number; start = active.start; commit = None })
    → seat.live ≡ Some live
    → Has (record seat { made = part ∷ seat.made }) table row
    → ClaimsOpen core.opened core.now (Some asked) (record seat { made = part ∷ seat.made }) live table row active
version_claims core active asked touched past seat part live table row place sits is linked same has =
    let mine : Snapshot = record { number = active.number; start = active.start; commit = None } in
    let e : mine ≡ live = some_live mine live (sym linked ∙ same) in
    let test : TableNet → Bool = λ p. p.table == table && part_has p row in
    let meaning = meaning_in core.opened core.now.commits active asked in (
      ap (λ x. x.commit) (sym e),
      ap (λ x. x.number) e,
      ap (λ x. x.start) (sym e),
      λ versions.
          (sits.claimed live table row same (list_any-append test seat.made seat.versions
          ∙ or_right (list_any test seat.made) (list_any test seat.versions) versions)).3 versions,
      (λ made. ⊎_elim
          (λ h. let p = and_parts (part.table == table) (part_has part row) h in
          subst (λ n. writes_row (write_set core.opened core.now.commits active meaning) n row ≡ true)
          (eqb-true part.table table p.0)
          (part_writes core active seat.made part meaning row is p.1))
          (λ h. (sits.claimed live table row same (list_any-append test seat.made seat.versions
          ∙ or_left (list_any test seat.made) (list_any test seat.versions) h)).4 h)
          (or_cases (part.table == table && part_has part row) (list_any test seat.made) made)),
      ⊎_elim
          (λ h. let p = and_parts (part.table == table) (part_has part row) h in
          subst (λ t. row < committed_count core.opened core.now.commits active t) (eqb-true part.table table p.0)
          (part_below core active seat.made part meaning row is p.1))
          (λ h. (sits.claimed live table row same h).5)
          (or_cases (part.table == table && part_has part row) (net_has (unstamped seat) table row) has),
    )

sits_start : (seat : Seat) (live : Snapshot) (active : OpenTransaction) → seat.live ≡ Some live
    → seat.live ≡ Some (record { number = active.number; start = active.start; commit = None })
    → live.start ≡ active.start
sits_start seat live active same linked =
    let mine : Snapshot = record { number = active.number; start = active.start; commit = None } in
    ap (λ (x : Snapshot). x.start) (some_live live mine (sym same ∙ linked))

-- a version is made
pub version_own : (core : Core) → Fits core
    → (number : ℕ) (active : OpenTransaction) (asked : Asked) (touched : Option WriteSet)
    (past : Option LastTransaction) (seat : Seat) (part : TableNet) → 0 < number
    → slice_get core.now.sessions (number - 1) ≡ Some (session_of (state.Open active) (Some asked) touched past)
    → slice_get core.seats (number - 1) ≡ Some seat
    → is_fresh_part (committed_count core.opened core.now.commits active part.table) seat.made
    (meaning_in core.opened core.now.commits active asked) part ≡ true
    → least_where (is_unseen core number active.start part.table) (changed_ids part) ≡ None
    → Sits core.opened core.entries core.now
    (slice_set core.seats (number - 1) (record seat { made = part ∷ seat.made })) (number - 1)
    (session_of (state.Open active) (Some asked) touched past) (record seat { made = part ∷ seat.made })
version_own core fits number active asked touched past seat part above at there is none =
    let place = number - 1 in
    let session = session_of (state.Open active) (Some asked) touched past in
    let new : Seat = record seat { made = part ∷ seat.made } in
    let sits = fits.sit place session seat at there in
    let goes = part_goes core active asked seat.made part
    (committed_count core.opened core.now.commits active part.table) is in
    let l = live_of (length core.now.commits) seat (state.Open active) (Some asked) touched past sits.links goes in
    record {
      links = sits.links;
      lawful = sits.lawful;
      kept = λ table row has. or_right (part.table == table && part_has part row) _ (sits.kept table row has);
      claimed = λ live table row same has. version_claims core active asked touched past seat part live table row
          place sits is
          (sits.links.1 goes) same has;
      free = λ live table row same uncommitted has. ⊎_elim
          (λ h. let p = and_parts (part.table == table) (part_has part row) h in
          let t = eqb-true part.table table p.0 in
          let s : live.start ≡ active.start = (sits_start seat live active same (sits.links.1 goes)) in
          alone_but core.now.commits core.seats place live.start table row new
          (subst (λ n. Alone core.now.commits core.seats place live.start n row) t
          (subst (λ n. Alone core.now.commits core.seats place n part.table row) (sym s)
          (seen_alone core number active.start part.table row above
          (least_fails (is_unseen core number active.start part.table) (changed_ids part) row none
          (part_ids part row p.1))))))
          (λ h. alone_but core.now.commits core.seats place live.start table row new
          (sits.free live table row same uncommitted h))
          (or_cases (part.table == table && part_has part row) (net_has (unstamped seat) table row) has);
      quiet = sits.quiet;
      found = sits.found;
    }
