-- What a transaction deleted, and the order of its versions: how both go over from one core to the next.
use Rattle.std.proofs.Common.{◌≡◌, ⊎_elim, ℕ, zero, suc, ◌-◌, ◌≤◌, Bool, true, false, List, [], ◌∷◌, ◌++◌, length, Option, Some, None, ap, ◌∙◌, sym, refl, subst, slice_get, slice_set, inl, inr, ◌⊎◌, take}
use Rattle.std.specs.Prelude.{◌&&◌, not, ◌==◌}
use Rattle.std.specs.List.{list_any}
use Rattle.std.proofs.lemmas.Bool.{true≢false, false≢true, and_parts, or_cases, not-true, and_from, or_left, or_right}
use Rattle.std.proofs.lemmas.List.{take-append-le}
use Rattle.dk_types.specs.declared.net.Commit.{Commit}
use Rattle.dk_types.specs.declared.net.TableNet.{TableNet}
use Rattle.dk_si.specs.declared.database.Table.{Table}
use Rattle.dk_si.specs.declared.history.Asked.{Asked}
use Rattle.dk_si.specs.declared.history.Entry.{Entry}
use Rattle.dk_si.specs.declared.machine.LastTransaction.{LastTransaction}
use Rattle.dk_si.specs.declared.machine.Machine.{Machine}
use Rattle.dk_si.specs.declared.machine.OpenTransaction.{OpenTransaction}
use Rattle.dk_si.specs.declared.machine.Session.{Session}
use Rattle.dk_si.specs.declared.machine.Transaction.{Transaction}
use Rattle.dk_si.specs.declared.machine.WriteSet.{WriteSet}
use Rattle.dk_si.specs.HeldRows.{is_rollback}
use Rattle.dk_si.specs.Machine.{meaning_in, asks_for}
use Rattle.dk_si.specs.Nets.{net_has, part_has, has_id}
use Rattle.dk_si.proofs.GrowthLemmas.{Grown, sees_its_snapshot}
use Rattle.dk_si.proofs.PlaceLemmas.{set_place}
use Rattle.dk_si.proofs.TransitionLemmas.{session_of}
use Rattle.dk_core.specs.declared.seat.Seat.{Seat}
use Rattle.dk_core.specs.Core.{Core, seat_at, unstamped}
use Rattle.dk_core.specs.Versions.{is_deleted_by, is_ordered}
use Rattle.dk_core.proofs.Invariant.{with_change, Fits, core_with, Links}
use Rattle.dk_core.proofs.ChangeLemmas.{same_at}
use Rattle.dk_core.proofs.StepLemmas.{not_so}
use Rattle.std.proofs.lemmas.List.Folds.{list_any-append}
use Rattle.dk_si.specs.declared.meaning.Meaning.{Meaning}
use Rattle.dk_si.specs.declared.machine.Transaction.TheVariants as state
use Rattle.dk_core.specs.Allows as may
use Rattle.dk_core.specs.Step as does
use Rattle.dk_si.specs.declared.meaning.Meaning.TheVariants as meant

-- the rows that a statement of that meaning deletes
abbrev pub meant_deletes : Meaning → ℕ → ℕ → Bool
meant_deletes (meant.Change count part) table row = part.table == table && has_id part.deletes row
meant_deletes other table row = false

abbrev pub deletes_in_flight : List Table → List Commit → OpenTransaction → Option Asked → ℕ → ℕ → Bool
deletes_in_flight opened commits active None table row = false
deletes_in_flight opened commits active (Some asked) table row =
    meant_deletes (meaning_in opened commits active asked) table row

-- a transaction that is active knows what its versions delete: by its net, and by its call in flight
abbrev pub KnownBy : List Table → List Commit → Seat → Option Asked → Transaction → Type 0
KnownBy opened commits seat asked (state.Open active) = not (asks_for is_rollback asked) ≡ true
    → ((table row : ℕ) → is_deleted_by table row seat.versions ≡ true → is_deleted_by table row active.net ≡ true)
    × ((table row : ℕ) → is_deleted_by table row seat.made ≡ true
    → deletes_in_flight opened commits active asked table row ≡ true)
KnownBy opened commits seat asked state.Outside = Unit {0}
KnownBy opened commits seat asked state.Aborted = Unit {0}

pub record Deleted (core : Core) : Type 0 where
  pub ordered : (place : ℕ) (seat : Seat) (table row : ℕ) → slice_get core.seats place ≡ Some seat
      → is_ordered table row (unstamped seat) ≡ true
  pub known : (place : ℕ) (session : Session) (seat : Seat) → slice_get core.now.sessions place ≡ Some session
      → slice_get core.seats place ≡ Some seat
      → KnownBy core.opened core.now.commits seat session.asked session.transaction

pub deletes_stay : (opened : List Table) (commits more : List Commit) (active : OpenTransaction)
    (asked : Option Asked)
    (table row : ℕ) → active.start ≤ length commits
    → deletes_in_flight opened commits active asked table row ≡ true
    → deletes_in_flight opened (commits ++ more) active asked table row ≡ true
deletes_stay opened commits more active None table row within deletes = deletes
deletes_stay opened commits more active (Some asked) table row within deletes =
    ap (λ meaning. meant_deletes meaning table row)
    (sees_its_snapshot opened (commits ++ more) commits active active asked refl refl
    (take-append-le active.start commits more within)) ∙ deletes

pub known_stays : (opened : List Table) (commits now : List Commit) (seat : Seat) (session : Session)
    (transaction : Transaction) (asked : Option Asked) → Grown now commits
    → Links (length commits) seat session transaction → KnownBy opened commits seat asked transaction
    → KnownBy opened now seat asked transaction
known_stays opened commits now seat session state.Outside asked grown links known = tt
known_stays opened commits now seat session state.Aborted asked grown links known = tt
known_stays opened commits now seat session (state.Open active) asked grown links known = λ goes. (
  (known goes).0,
  (λ table row deleted. subst (λ list. deletes_in_flight opened list active asked table row ≡ true) (sym grown.is)
      (deletes_stay opened commits grown.more active asked table row links.0 ((known goes).1 table row deleted))),
)

-- one session and its seat move
pub set_deleted : (core : Core) → Fits core → Deleted core
    → (entries : List Entry) (now : Machine) (place : ℕ) (new : Seat) → Grown now.commits core.now.commits
    → ((k : ℕ) (s : Session) → slice_get now.sessions k ≡ Some s
    → ((k ≡ place) × KnownBy core.opened now.commits new s.asked s.transaction) ⊎
    ((k ≡ place → ⊥) × (slice_get core.now.sessions k ≡ Some s)))
    → ((table row : ℕ) → is_ordered table row (unstamped new) ≡ true)
    → Deleted (core_with core entries now (slice_set core.seats place new))
set_deleted core fits deleted entries now place new grown sessions ordered = record {
  ordered = λ k t table row at. ⊎_elim
      (λ h. subst (λ x. is_ordered table row (unstamped x) ≡ true) h.1 (ordered table row))
      (λ h. deleted.ordered k t table row h.1)
      (set_place core.seats place new k t at);
  known = λ k s t at there. ⊎_elim
      (λ h. ⊎_elim
      (λ g. subst (λ x. KnownBy core.opened now.commits x s.asked s.transaction) g.1 h.1)
      (λ g. absurd (g.0 h.0))
      (set_place core.seats place new k t there))
      (λ h. ⊎_elim
      (λ g. absurd (h.0 g.0))
      (λ g. known_stays core.opened core.now.commits now.commits t s s.transaction s.asked grown
      (fits.sit k s t h.1 g.1).links (deleted.known k s t h.1 g.1))
      (set_place core.seats place new k t there))
      (sessions k s at);
}

pub with_seat_deleted : (core : Core) → Fits core → Deleted core
    → (entries : List Entry) (now : Machine) (number : ℕ) (seat : Seat) (change : Seat → Seat)
    → seat_at core.seats number ≡ Some seat → Grown now.commits core.now.commits
    → ((k : ℕ) (s : Session) → slice_get now.sessions k ≡ Some s
    → ((k ≡ number - 1) × KnownBy core.opened now.commits (change seat) s.asked s.transaction) ⊎
    ((k ≡ number - 1 → ⊥) × (slice_get core.now.sessions k ≡ Some s)))
    → ((table row : ℕ) → is_ordered table row (unstamped (change seat)) ≡ true)
    → Deleted (core_with core entries now (with_change core number change))
with_seat_deleted core fits deleted entries now number seat change is grown sessions ordered =
    subst (λ found. Deleted (core_with core entries now (elim found as (λ x. List Seat) [
      | None ↦ core.seats
      | Some seat ↦ slice_set core.seats (number - 1) (change seat)
    ]))) (sym is)
    (set_deleted core fits deleted entries now (number - 1) (change seat) grown sessions ordered)

-- the sessions where none moved
pub own_session : (core : Core) (place : ℕ) (session : Session) (new : Seat)
    → slice_get core.now.sessions place ≡ Some session
    → KnownBy core.opened core.now.commits new session.asked session.transaction
    → (k : ℕ) (s : Session) → slice_get core.now.sessions k ≡ Some s
    → ((k ≡ place) × KnownBy core.opened core.now.commits new s.asked s.transaction) ⊎
    ((k ≡ place → ⊥) × (slice_get core.now.sessions k ≡ Some s))
own_session core place session new there known k s at = ⊎_elim
    (λ h. inl
    (h.0, subst (λ (x : Session). KnownBy core.opened core.now.commits new x.asked x.transaction) h.1 known))
    (λ h. inr h)
    (same_at core.now.sessions place session there k s at)

-- the sessions where one is set
pub set_session : (opened : List Table) (commits : List Commit) (sessions now : List Session) (place : ℕ)
    (session : Session) (new : Seat) → now ≡ slice_set sessions place session
    → KnownBy opened commits new session.asked session.transaction
    → (k : ℕ) (s : Session) → slice_get now k ≡ Some s
    → ((k ≡ place) × KnownBy opened commits new s.asked s.transaction) ⊎
    ((k ≡ place → ⊥) × (slice_get sessions k ≡ Some s))
set_session opened commits sessions now place session new is known k s at = ⊎_elim
    (λ h. inl (h.0, subst (λ (x : Session). KnownBy opened commits new x.asked x.transaction) h.1 known))
    (λ h. inr h)
    (set_place sessions place session k s (subst (λ list. slice_get list k ≡ Some s) is at))

-- of a session that is not active nothing is asked
pub idle_known : (opened : List Table) (commits : List Commit) (seat : Seat) (transaction : Transaction)
    (asked : Option Asked) (touched : Option WriteSet) (past : Option LastTransaction)
    → (may.is_active (session_of transaction asked touched past) ≡ true → ⊥)
    → KnownBy opened commits seat asked transaction
idle_known opened commits seat state.Outside asked touched past stops = tt
idle_known opened commits seat state.Aborted asked touched past stops = tt
idle_known opened commits seat (state.Open active) asked touched past stops = λ goes. absurd (stops goes)

pub same_known : (opened : List Table) (commits : List Commit) (seat new : Seat) (asked : Option Asked)
    (transaction : Transaction)
    → new.versions ≡ seat.versions → new.made ≡ seat.made → KnownBy opened commits seat asked transaction
    → KnownBy opened commits new asked transaction
same_known opened commits seat new asked state.Outside versions made known = tt
same_known opened commits seat new asked state.Aborted versions made known = tt
same_known opened commits seat new asked (state.Open active) versions made known = λ goes. (
  (λ table row gone. (known goes).0 table row (subst (λ parts. is_deleted_by table row parts ≡ true) versions gone)),
  (λ table row gone. (known goes).1 table row (subst (λ parts. is_deleted_by table row parts ≡ true) made gone)),
)

pub deleted_has : (parts : List TableNet) (table row : ℕ) → is_deleted_by table row parts ≡ true
    → net_has parts table row ≡ true
deleted_has [] table row deleted = deleted
deleted_has (part ∷ parts) table row deleted = ⊎_elim
    (λ h. let p = and_parts (part.table == table) (has_id part.deletes row) h in
    or_left (part.table == table && part_has part row) _
    (and_from _ _ p.0 (or_right (list_any (λ update. update.0 == row) part.updates) _ p.1)))
    (λ h. or_right (part.table == table && part_has part row) _ (deleted_has parts table row h))
    (or_cases (part.table == table && has_id part.deletes row) (is_deleted_by table row parts) deleted)

pub deleted_parts : (table row : ℕ) (made versions : List TableNet)
    → is_deleted_by table row (made ++ versions) ≡ true
    → (is_deleted_by table row made ≡ true) ⊎ (is_deleted_by table row versions ≡ true)
deleted_parts table row made versions deleted =
    let test : TableNet → Bool = λ part. part.table == table && has_id part.deletes row in
    or_cases (list_any test made) (list_any test versions) (sym (list_any-append test made versions) ∙ deleted)

pub deleted_both : (table row : ℕ) (made versions : List TableNet)
    → (is_deleted_by table row made ≡ true) ⊎ (is_deleted_by table row versions ≡ true)
    → is_deleted_by table row (made ++ versions) ≡ true
deleted_both table row made versions either =
    let test : TableNet → Bool = λ part. part.table == table && has_id part.deletes row in
    list_any-append test made versions
    ∙ ⊎_elim (λ h. or_left (list_any test made) _ h) (λ h. or_right (list_any test made) _ h) either

-- fewer versions behind the same ones are in order
pub sub_ordered : (table row : ℕ) (made versions fewer : List TableNet)
    → (is_deleted_by table row fewer ≡ true → is_deleted_by table row versions ≡ true)
    → (is_ordered table row versions ≡ true → is_ordered table row fewer ≡ true)
    → is_ordered table row (made ++ versions) ≡ true → is_ordered table row (made ++ fewer) ≡ true
sub_ordered table row [] versions fewer less inner ordered = inner ordered
sub_ordered table row (part ∷ made) versions fewer less inner ordered =
    let has = part.table == table && part_has part row in
    let h = and_parts (not (is_deleted_by table row (made ++ versions) && has)) _ ordered in
    and_from _ _
    (ap not (not_so (is_deleted_by table row (made ++ fewer) && has) (λ b.
    let p = and_parts (is_deleted_by table row (made ++ fewer)) has b in
    let more = deleted_both table row made versions
    (⊎_elim (λ m. inl m) (λ v. inr (less v)) (deleted_parts table row made fewer p.0)) in
    true≢false (sym (and_from (is_deleted_by table row (made ++ versions)) has more p.1)
    ∙ not-true (is_deleted_by table row (made ++ versions) && has) h.0))))
    (sub_ordered table row made versions fewer less inner h.1)

pub tail_deleted : (table row : ℕ) (parts : List TableNet)
    → is_deleted_by table row (does.without_newest parts) ≡ true
    → is_deleted_by table row parts ≡ true
tail_deleted table row [] deleted = deleted
tail_deleted table row (part ∷ parts) deleted = or_right (part.table == table && has_id part.deletes row) _ deleted

pub tail_ordered : (table row : ℕ) (parts : List TableNet) → is_ordered table row parts ≡ true
    → is_ordered table row (does.without_newest parts) ≡ true
tail_ordered table row [] ordered = ordered
tail_ordered table row (part ∷ parts) ordered =
    (and_parts (not (is_deleted_by table row parts && (part.table == table && part_has part row))) _ ordered).1

pub take_deleted : (n table row : ℕ) (parts : List TableNet) → is_deleted_by table row (take n parts) ≡ true
    → is_deleted_by table row parts ≡ true
take_deleted zero table row [] deleted = deleted
take_deleted (suc n) table row [] deleted = deleted
take_deleted zero table row (part ∷ parts) deleted = absurd (false≢true deleted)
take_deleted (suc n) table row (part ∷ parts) deleted = ⊎_elim
    (λ h. or_left (part.table == table && has_id part.deletes row) _ h)
    (λ h. or_right (part.table == table && has_id part.deletes row) _ (take_deleted n table row parts h))
    (or_cases (part.table == table && has_id part.deletes row) (is_deleted_by table row (take n parts)) deleted)

pub take_ordered : (n table row : ℕ) (parts : List TableNet) → is_ordered table row parts ≡ true
    → is_ordered table row (take n parts) ≡ true
take_ordered zero table row [] ordered = refl
take_ordered (suc n) table row [] ordered = refl
take_ordered zero table row (part ∷ parts) ordered = refl
take_ordered (suc n) table row (part ∷ parts) ordered =
    let has = part.table == table && part_has part row in
    let h = and_parts (not (is_deleted_by table row parts && has)) _ ordered in
    and_from _ _
    (ap not (not_so (is_deleted_by table row (take n parts) && has) (λ b.
    let p = and_parts (is_deleted_by table row (take n parts)) has b in
    true≢false (sym (and_from (is_deleted_by table row parts) has (take_deleted n table row parts p.0) p.1)
    ∙ not-true (is_deleted_by table row parts && has) h.0))))
    (take_ordered n table row parts h.1)
