-- One session moves, and what fits stays so for all.
use Rattle.std.proofs.Common.{arith, ◌≡◌, ◌⊎◌, ⊎_elim, ℕ, ◌+◌, ◌<◌, ◌≤◌, true, List, [], ◌++◌, take, length, Option, Some, None, ap, ◌∙◌, sym, refl, subst, slice_get, length-append}
use Rattle.std.proofs.lemmas.List.{take-append-le}
use Rattle.dk_types.specs.declared.net.Commit.{Commit}
use Rattle.dk_types.specs.declared.reply.Refusal.{Refusal}
use Rattle.dk_si.specs.declared.database.Table.{Table}
use Rattle.dk_si.specs.declared.meaning.Meaning.{Meaning}
use Rattle.dk_si.specs.declared.history.Asked.{Asked}
use Rattle.dk_si.specs.declared.history.Entry.{Entry}
use Rattle.dk_si.specs.declared.machine.OpenTransaction.{OpenTransaction}
use Rattle.dk_si.specs.declared.machine.LastTransaction.{LastTransaction}
use Rattle.dk_si.specs.declared.machine.WriteSet.{WriteSet}
use Rattle.dk_si.specs.declared.machine.Transaction.{Transaction}
use Rattle.dk_si.specs.declared.machine.Session.{Session}
use Rattle.dk_si.specs.declared.machine.Machine.{Machine}
use Rattle.dk_si.specs.declared.limits.TheConstants.{SESSIONS, MAX_TRANSACTIONS}
use Rattle.dk_si.specs.Database.{after_all}
use Rattle.dk_si.specs.Nets.{committed_ids, row_count}
use Rattle.dk_si.specs.Machine.{first_state, changed_ids, committed_count, meaning_in, write_set, write_set_in_flight}
use Rattle.dk_si.specs.HeldRows.{commit_has, writes_row}
use Rattle.dk_si.specs.IsStep.{are_steps, is_founded_refusal}
use Rattle.dk_si.specs.Laws.{state_after}
use Rattle.dk_si.proofs.GrowthLemmas.{sees_its_snapshot}
use Rattle.dk_core.specs.declared.seat.Snapshot.{Snapshot}
use Rattle.dk_core.specs.declared.seat.Seat.{Seat}
use Rattle.dk_core.specs.Core.{Core}
use Rattle.dk_core.specs.Findings.{writer_in}
use Rattle.dk_si.proofs.TransitionLemmas.{session_of}
use Rattle.dk_core.proofs.Invariant.{core_with, stands_well, Has, Claims, Links, Sits, Fits}
use Rattle.dk_core.proofs.HolderLemmas.{at_front}
use Rattle.dk_si.specs.declared.meaning.Meaning.TheVariants as meant
use Rattle.dk_si.specs.declared.machine.Transaction.TheVariants as state

-- what a statement touches depends on the commits up to the start alone
touched_same : (opened : List Table) (commits others : List Commit) (active : OpenTransaction) (meaning : Meaning)
    → take active.start commits ≡ take active.start others
    → write_set opened commits active meaning ≡ write_set opened others active meaning
touched_same opened commits others active (meant.Change count part) same =
    ap (λ list. Some
    (record {
      table = part.table;
      ids = committed_ids (row_count (after_all list opened) part.table)
          (changed_ids part);
    })) same
touched_same opened commits others active (meant.Rows rows) same = refl
touched_same opened commits others active (meant.Create name schema) same = refl
touched_same opened commits others active (meant.Refused refusal) same = refl
touched_same opened commits others active meant.Nothing same = refl

pub touched_stays : (opened : List Table) (commits more : List Commit) (active : OpenTransaction)
    (asked : Option Asked) → active.start ≤ length commits
    → write_set_in_flight opened (commits ++ more) (state.Open active) asked ≡ write_set_in_flight opened commits
    (state.Open active) asked
touched_stays opened commits more active None within = refl
touched_stays opened commits more active (Some asked) within =
    let same = take-append-le active.start commits more within in
    touched_same opened (commits ++ more) commits active (meaning_in opened (commits ++ more) active asked) same
    ∙ ap (write_set opened commits active)
    (sees_its_snapshot opened (commits ++ more) commits active active asked refl refl same)

pub count_stays : (opened : List Table) (commits more : List Commit) (active : OpenTransaction) (table : ℕ)
    → active.start ≤ length commits
    → committed_count opened (commits ++ more) active table ≡ committed_count opened commits active table
count_stays opened commits more active table within = ap (λ list. row_count (after_all list opened) table)
    (take-append-le active.start commits more within)

-- one session and its seat move, and some commits come
pub record Moved (core : Core) (entries : List Entry) (now : Machine) (seats : List Seat) (place : ℕ)
    (session : Session) (seat : Seat) : Type 0 where
  pub more : List Commit
  pub grown : now.commits ≡ core.now.commits ++ more
  pub sessions_at : (k : ℕ) (s : Session) → slice_get now.sessions k ≡ Some s
      → ((k ≡ place) × (session ≡ s)) ⊎ ((k ≡ place → ⊥) × (slice_get core.now.sessions k ≡ Some s))
  pub seats_at : (k : ℕ) (t : Seat) → slice_get seats k ≡ Some t
      → ((k ≡ place) × (seat ≡ t)) ⊎ ((k ≡ place → ⊥) × (slice_get core.seats k ≡ Some t))
  pub own : Sits core.opened entries now seats place session seat
  pub others : (k : ℕ) (other : Seat) (live : Snapshot) (table row : ℕ) → (k ≡ place → ⊥)
      → slice_get core.seats k ≡ Some other
      → other.live ≡ Some live → live.commit ≡ None → Has other table row
      → ((number : ℕ) → writer_in table row seat ≡ Some number → ⊥)
      × ((i : ℕ) (commit : Commit) → slice_get more i ≡ Some commit → commit_has table row commit ≡ true → ⊥)
  pub since : (k : ℕ) (refusal : Refusal) → (k ≡ place → ⊥)
      → is_founded_refusal core.opened (k + 1) core.entries refusal ≡ true
      → is_founded_refusal core.opened (k + 1) entries refusal ≡ true

other_links : (commits commits' : ℕ) (seat : Seat) (transaction : Transaction) (asked : Option Asked)
    (touched : Option WriteSet) (past : Option LastTransaction) → commits ≤ commits'
    → Links commits seat (session_of transaction asked touched past) transaction
    → Links commits' seat (session_of transaction asked touched past) transaction
other_links commits commits' seat state.Outside asked touched past more links = tt
other_links commits commits' seat state.Aborted asked touched past more links = tt
other_links commits commits' seat (state.Open active) asked touched past more links =
    (omega (arith, more, links.0), links.1)

other_claims : (opened : List Table) (machine machine' : Machine) (more : List Commit) (seat : Seat) (live : Snapshot)
    (table row : ℕ)
    → (transaction : Transaction) (asked : Option Asked) (touched : Option WriteSet) (past : Option LastTransaction)
    → machine'.commits ≡ machine.commits ++ more
    → Links (length machine.commits) seat (session_of transaction asked touched past) transaction
    → Claims opened machine (session_of transaction asked touched past) seat live table row
    → Claims opened machine' (session_of transaction asked touched past) seat live table row
other_claims opened machine machine' more seat live table row state.Outside asked touched past grown links claims =
    claims
other_claims opened machine machine' more seat live table row state.Aborted asked touched past grown links claims =
    claims
other_claims opened machine machine' more seat live table row (state.Open active) asked touched past grown links
    claims =
    let same = ap (λ list. write_set_in_flight opened list (state.Open active) asked) grown
    ∙ touched_stays opened machine.commits more active asked links.0 in (
      claims.0,
      claims.1,
      claims.2,
      claims.3,
      (λ made. ap (λ now. writes_row now table row) same ∙ claims.4 made),
      subst (λ list. row < committed_count opened list active table) (sym grown)
          (subst (λ n. row < n) (sym (count_stays opened machine.commits more active table links.0)) claims.5),
    )

longer : (commits commits' more : List Commit) → commits' ≡ commits ++ more → length commits ≤ length commits'
longer commits commits' more grown = subst (λ list. length commits ≤ length list) (sym grown)
    (subst (λ n. length commits ≤ n) (sym (length-append commits more)) (omega arith))

other_sits : (core : Core) (entries : List Entry) (now : Machine) (seats : List Seat) (place : ℕ) (session : Session)
    (seat : Seat)
    → Moved core entries now seats place session seat
    → (k : ℕ) (s : Session) (t : Seat) → (k ≡ place → ⊥) → slice_get core.seats k ≡ Some t
    → Sits core.opened core.entries core.now core.seats k s t → Sits core.opened entries now seats k s t
other_sits core entries now seats place session seat moved k s t apart there sits = record {
  links = other_links (length core.now.commits) (length now.commits) t s.transaction s.asked s.writes s.last
      (longer core.now.commits now.commits moved.more moved.grown) sits.links;
  lawful = sits.lawful;
  kept = sits.kept;
  claimed = λ live table row is has. other_claims core.opened core.now now moved.more t live table row s.transaction
      s.asked s.writes s.last moved.grown sits.links
      (sits.claimed live table row is has);
  free = λ live table row is none has.
      let before = sits.free live table row is none has in
      let free = moved.others k t live table row apart there is none has in
      record {
        clear = λ i commit le at has_it. ⊎_elim
            (λ h. before.clear i commit le h has_it)
            (λ h. free.1 h.0 commit h.2 has_it)
            (at_front core.now.commits moved.more i commit
            (subst (λ list. slice_get list i ≡ Some commit) moved.grown at));
        alone = λ j other number apart_j at w. ⊎_elim
            (λ h. free.0 number (subst (λ x. writer_in table row x ≡ Some number) (sym h.1) w))
            (λ h. before.alone j other number apart_j h.1 w)
            (moved.seats_at j other at);
      };
  quiet = sits.quiet;
  found = λ refusal is. moved.since k refusal apart (sits.found refusal is);
}

own_here : (core : Core) (entries : List Entry) (now : Machine) (seats : List Seat) (place k : ℕ)
    (session s : Session) (seat t : Seat)
    → k ≡ place → session ≡ s → seat ≡ t → Sits core.opened entries now seats place session seat
    → Sits core.opened entries now seats k s t
own_here core entries now seats place k session s seat t here same_session same_seat own =
    subst (λ n. Sits core.opened entries now seats n s t) (sym here)
    (subst (λ x. Sits core.opened entries now seats place x t) same_session
    (subst (λ x. Sits core.opened entries now seats place session x) same_seat own))

-- what fits stays so where one session moves
pub stays : (core : Core) (entries : List Entry) (now : Machine) (seats : List Seat) (place : ℕ) (session : Session)
    (seat : Seat)
    → Fits core → Moved core entries now seats place session seat
    → now ≡ state_after core.opened first_state entries → are_steps core.opened [] first_state entries ≡ true
    → stands_well core entries ≡ true
    → now.begun ≤ MAX_TRANSACTIONS → length seats ≡ length now.sessions → length seats ≡ SESSIONS
    → Fits (core_with core entries now seats)
stays core entries now seats place session seat fits moved is_now steps whole numbers even count = record {
  is_now = is_now;
  steps = steps;
  whole = whole;
  numbers = numbers;
  even = even;
  count = count;
  sit = λ k s t at there. ⊎_elim
      (λ h. ⊎_elim
      (λ g. own_here core entries now seats place k session s seat t h.0 h.1 g.1 moved.own)
      (λ g. absurd (g.0 h.0))
      (moved.seats_at k t there))
      (λ h. ⊎_elim
      (λ g. absurd (h.0 g.0))
      (λ g. other_sits core entries now seats place session seat moved k s t h.0 g.1 (fits.sit k s t h.1 g.1))
      (moved.seats_at k t there))
      (moved.sessions_at k s at);
}
