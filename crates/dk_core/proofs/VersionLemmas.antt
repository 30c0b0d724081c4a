-- Each event keeps the numbers of snapshots and commits, and where versions stand.
use Rattle.dk_core.proofs.StepLemmas.{below_last}
use Rattle.dk_core.proofs.CallLemmas.{not_there}
use Rattle.std.proofs.Common.{arith, ◌≡◌, ⊎_elim, ℕ, zero, suc, ◌+◌, ◌-◌, ◌<◌, ◌≤◌, Bool, true, false, List, [], ◌∷◌, ◌++◌, length, Option, Some, None, ap, ◌∙◌, sym, refl, subst, slice_get, slice_set, length-append}
use Rattle.std.specs.Prelude.{◌&&◌, ◌||◌, not, is_none, is_some, ◌==◌, nat_lt, if◌then◌else◌}
use Rattle.std.specs.List.{list_all}
use Rattle.std.proofs.lemmas.Bool.{true≢false, false≢true, and_parts, or_parts, or_cases, not-true, eqb-true}
use Rattle.std.proofs.lemmas.List.{append-nil, take-append-le}
use Rattle.dk_values.specs.declared.value.Value.{Value}
use Rattle.dk_types.specs.declared.net.Commit.{Commit}
use Rattle.dk_types.specs.declared.net.TableNet.{TableNet}
use Rattle.dk_types.specs.declared.reply.Refusal.{Refusal}
use Rattle.dk_types.specs.declared.reply.Refusal.TheVariants as refusal
use Rattle.dk_types.specs.declared.reply.Reply.{Reply}
use Rattle.dk_types.specs.declared.reply.Reply.TheVariants as told
use Rattle.dk_types.specs.declared.vector.VectorId.{VectorId}
use Rattle.dk_si.specs.declared.database.Table.{Table}
use Rattle.dk_si.specs.declared.history.Asked.{Asked}
use Rattle.dk_si.specs.declared.history.Entry.{Entry}
use Rattle.dk_si.specs.declared.history.Entry.TheVariants as history
use Rattle.dk_si.specs.declared.kind.Kind.{Kind}
use Rattle.dk_si.specs.declared.kind.Kind.TheVariants as form
use Rattle.dk_si.specs.declared.limits.TheConstants.{SESSIONS, MAX_TRANSACTIONS}
use Rattle.dk_si.specs.declared.machine.LastTransaction.{LastTransaction}
use Rattle.dk_si.specs.declared.machine.Machine.{Machine}
use Rattle.dk_si.specs.declared.machine.OpenTransaction.{OpenTransaction}
use Rattle.dk_si.specs.declared.machine.Session.{Session}
use Rattle.dk_si.specs.declared.machine.Transaction.{Transaction}
use Rattle.dk_si.specs.declared.machine.Transaction.TheVariants as state
use Rattle.dk_si.specs.declared.machine.WriteSet.{WriteSet}
use Rattle.dk_si.specs.Database.{after, after_all}
use Rattle.dk_si.specs.HeldRows.{is_rollback}
use Rattle.dk_si.specs.Machine.{kind_in, has_own, after_call, after_begin, after_reply, after_open_reply, after_aborted, with_session, session_behind, transition, session_at, committed_count, meaning_in, next}
use Rattle.dk_si.specs.Nets.{is_empty, net_has, new_rows, part_has, row_count}
use Rattle.dk_si.proofs.GrowthLemmas.{Grown, grows}
use Rattle.dk_si.proofs.PlaceLemmas.{same_copies, set_place}
use Rattle.dk_si.proofs.TransitionLemmas.{session_of}
use Rattle.dk_core.specs.declared.event.Done.TheVariants as done
use Rattle.dk_core.specs.declared.event.Event.{Event}
use Rattle.dk_core.specs.declared.event.Event.TheVariants as event
use Rattle.dk_core.specs.declared.seat.Seat.{Seat}
use Rattle.dk_core.specs.declared.seat.Snapshot.{Snapshot}
use Rattle.dk_core.specs.Allows as may
use Rattle.dk_si.specs.ReplyTests.{is_commit}
use Rattle.dk_core.specs.Commits.{is_commit_kind, commits_now, is_placing, are_next_rows, may_append, may_adopt, may_commit, may_point}
use Rattle.dk_core.specs.Core.{Core, no_seat, first_core, seat_at, all_but, unstamped, next_snapshot, next_receipt}
use Rattle.dk_core.specs.Entries.{entry_of, with_entry, entries_after, state_with}
use Rattle.dk_core.specs.Findings.{conflict, is_full, spent_numbers}
use Rattle.dk_core.specs.Laws.{core_after, all_allowed, VersionsOverEveryList}
use Rattle.dk_core.specs.Step as does
use Rattle.dk_core.specs.Versions.{HasSnapshot, Numbered, Placed}
use Rattle.dk_core.proofs.Invariant.{with_change, Has, Fits, core_with, moved}
use Rattle.dk_core.proofs.ChangeLemmas.{of_change, some_live, part_below}
use Rattle.dk_core.proofs.HolderLemmas.{into_but, has_parts}
use Rattle.dk_core.proofs.LegalLemmas.{Sound, step_keeps, first_sound}
use Rattle.dk_core.proofs.PointLemmas.{commit_found}
use Rattle.dk_core.proofs.SeatLemmas.{versions_has, tail_has, take_has, append_made}
use Rattle.dk_core.proofs.StepLemmas.{Found, found, live_of, made_has}

-- what is told of the seats of a core
pub record Versioned (core : Core) : Type 0 where
  pub numbered : Numbered core
  pub placed : Placed core

-- the seat behind an event, beside the other seats
record NewSeat (core : Core) (now : Machine) (place : ℕ) (new : Seat) : Type 0 where
  pub begun : (live : Snapshot) → new.live ≡ Some live
      → (live.number < now.begun) × (live.start ≤ length core.now.commits)
  pub apart : (live : Snapshot) (k : ℕ) (other : Seat) (more : Snapshot) → new.live ≡ Some live → (k ≡ place → ⊥)
      → HasSnapshot core k other more
      → live.number ≡ more.number → ⊥
  pub pointed : (live : Snapshot) (number : ℕ) → new.live ≡ Some live → live.commit ≡ Some number
      → (0 < number) × (number ≤ length now.commits)
  pub commits_apart : (live : Snapshot) (number k : ℕ) (other : Seat) (more : Snapshot) → new.live ≡ Some live
      → live.commit ≡ Some number
      → (k ≡ place → ⊥) → HasSnapshot core k other more → more.commit ≡ Some number → ⊥
  pub stamped : (live : Snapshot) (number : ℕ) → new.live ≡ Some live → live.commit ≡ Some number → new.made ≡ []
  pub committed : (live : Snapshot) (table row : ℕ) → new.live ≡ Some live → Has new table row
      → row < row_count (after core.opened core.now.commits live.start) table
  pub alone : is_placing new ≡ true → (k : ℕ) (other : Seat) → (k ≡ place → ⊥) → slice_get core.seats k ≡ Some other
      → is_placing other ≡ true → ⊥

-- what a snapshot sees does not depend on later commits
count_at_start : (opened : List Table) (commits more : List Commit) (start table : ℕ) → start ≤ length commits
    → row_count (after opened (commits ++ more) start) table ≡ row_count (after opened commits start) table
count_at_start opened commits more start table within = ap (λ list. row_count (after_all list opened) table)
    (take-append-le start commits more within)

grown_length : (commits before : List Commit) → Grown commits before → length before ≤ length commits
grown_length commits before grown =
    subst (λ list. length before ≤ length list) (sym grown.is)
    (subst (λ n. length before ≤ n) (sym (length-append before grown.more)) (omega arith))

grown_count : (core : Core) (now : Machine) (start table row : ℕ) → Grown now.commits core.now.commits
    → start ≤ length core.now.commits
    → row < row_count (after core.opened core.now.commits start) table
    → row < row_count (after core.opened now.commits start) table
grown_count core now start table row grown within less =
    subst (λ list. row < row_count (after core.opened list start) table) (sym grown.is)
    (subst (λ n. row < n) (sym (count_at_start core.opened core.now.commits grown.more start table within)) less)

of_new : (new seat : Seat) (live : Snapshot) → new ≡ seat → seat.live ≡ Some live → new.live ≡ Some live
of_new new seat live same is = ap (λ x. x.live) same ∙ is

numbered_set : (core : Core) → Numbered core → (entries : List Entry) (now : Machine) (place : ℕ) (new : Seat)
    → length core.now.commits ≤ length now.commits → core.now.begun ≤ now.begun → NewSeat core now place new
    → Numbered (core_with core entries now (slice_set core.seats place new))
numbered_set core numbered entries now place new grown begun is = record {
  begun = λ k s l has. ⊎_elim
      (λ h. let b = is.begun l (of_new new s l h.1 has.1) in (b.0, omega (arith, b.1, grown)))
      (λ h. let b = numbered.begun k s l (h.1, has.1) in (omega (arith, b.0, begun), omega (arith, b.1, grown)))
      (set_place core.seats place new k s has.0);
  apart = λ a b one other l more has also same. ⊎_elim
      (λ h. ⊎_elim
      (λ g. h.0 ∙ sym g.0)
      (λ g. absurd (is.apart l b other more (of_new new one l h.1 has.1) g.0 (g.1, also.1) same))
      (set_place core.seats place new b other also.0))
      (λ h. ⊎_elim
      (λ g. absurd (is.apart more a one l (of_new new other more g.1 also.1) h.0 (h.1, has.1) (sym same)))
      (λ g. numbered.apart a b one other l more (h.1, has.1) (g.1, also.1) same)
      (set_place core.seats place new b other also.0))
      (set_place core.seats place new a one has.0);
  pointed = λ k s l number has c. ⊎_elim
      (λ h. is.pointed l number (of_new new s l h.1 has.1) c)
      (λ h. let b = numbered.pointed k s l number (h.1, has.1) c in (b.0, omega (arith, b.1, grown)))
      (set_place core.seats place new k s has.0);
  commits_apart = λ a b one other l more number has also c d. ⊎_elim
      (λ h. ⊎_elim
      (λ g. h.0 ∙ sym g.0)
      (λ g. absurd (is.commits_apart l number b other more (of_new new one l h.1 has.1) c g.0 (g.1, also.1) d))
      (set_place core.seats place new b other also.0))
      (λ h. ⊎_elim
      (λ g. absurd (is.commits_apart more number a one l (of_new new other more g.1 also.1) d h.0 (h.1, has.1) c))
      (λ g. numbered.commits_apart a b one other l more number (h.1, has.1) (g.1, also.1) c d)
      (set_place core.seats place new b other also.0))
      (set_place core.seats place new a one has.0);
  stamped = λ k s l number has c. ⊎_elim
      (λ h. ap (λ x. x.made) (sym h.1) ∙ is.stamped l number (of_new new s l h.1 has.1) c)
      (λ h. numbered.stamped k s l number (h.1, has.1) c)
      (set_place core.seats place new k s has.0);
}

placed_set : (core : Core) → Numbered core → Placed core
    → (entries : List Entry) (now : Machine) (place : ℕ) (new : Seat)
    → Grown now.commits core.now.commits → NewSeat core now place new
    → Placed (core_with core entries now (slice_set core.seats place new))
placed_set core numbered placed entries now place new grown is = record {
  committed = λ k s l table row has changes. ⊎_elim
      (λ h. let here = of_new new s l h.1 has.1 in
      grown_count core now l.start table row grown (is.begun l here).1
      (is.committed l table row here (subst (λ x. Has x table row) (sym h.1) changes)))
      (λ h. grown_count core now l.start table row grown (numbered.begun k s l (h.1, has.1)).1
      (placed.committed k s l table row (h.1, has.1) changes))
      (set_place core.seats place new k s has.0);
  alone = λ a b one other at also p q. ⊎_elim
      (λ h. ⊎_elim
      (λ g. h.0 ∙ sym g.0)
      (λ g. absurd (is.alone (subst (λ x. is_placing x ≡ true) (sym h.1) p) b other g.0 g.1 q))
      (set_place core.seats place new b other also))
      (λ h. ⊎_elim
      (λ g. absurd (is.alone (subst (λ x. is_placing x ≡ true) (sym g.1) q) a one h.0 h.1 p))
      (λ g. placed.alone a b one other h.1 g.1 p q)
      (set_place core.seats place new b other also))
      (set_place core.seats place new a one at);
}

-- one session's seat changes
seat_versioned : (core : Core) → Versioned core → (entries : List Entry) (now : Machine) (number : ℕ) (seat : Seat)
    (change : Seat → Seat)
    → seat_at core.seats number ≡ Some seat → Grown now.commits core.now.commits → core.now.begun ≤ now.begun
    → NewSeat core now (number - 1) (change seat)
    → Versioned (core_with core entries now (with_change core number change))
seat_versioned core versioned entries now number seat change is grown begun new =
    subst (λ found. Versioned (core_with core entries now (elim found as (λ x. List Seat) [
      | None ↦ core.seats
      | Some seat ↦ slice_set core.seats (number - 1) (change seat)
    ]))) (sym is)
    (record {
      numbered = numbered_set core versioned.numbered entries now (number - 1) (change seat)
          (grown_length now.commits core.now.commits grown) begun new;
      placed = placed_set core versioned.numbered versioned.placed entries now (number - 1) (change seat) grown new;
    })

some_number : (a b : ℕ) → Some a ≡ Some b → a ≡ b
some_number a b e = cc

no_number : (n : ℕ) → None ≡ Some n → ⊥
no_number n e = cc

-- a snapshot ends
gone_seat : (core : Core) → Versioned core → (now : Machine) (place : ℕ) (seat : Seat)
    → slice_get core.seats place ≡ Some seat
    → NewSeat core now place (record seat { live = None })
gone_seat core versioned now place seat there = record {
  begun = λ l e. absurd (not_there l e);
  apart = λ l k other more e off has same. not_there l e;
  pointed = λ l number e c. absurd (not_there l e);
  commits_apart = λ l number k other more e c off has d. not_there l e;
  stamped = λ l number e c. absurd (not_there l e);
  committed = λ l table row e has. absurd (not_there l e);
  alone = λ p k other off at q. off (versioned.placed.alone k place other seat at there q p);
}

-- a seat keeps its snapshot
kept_seat : (core : Core) → Versioned core → (now : Machine) (place : ℕ) (seat new : Seat)
    → slice_get core.seats place ≡ Some seat
    → core.now.begun ≤ now.begun → length core.now.commits ≤ length now.commits → new.live ≡ seat.live
    → ((live : Snapshot) (number : ℕ) → seat.live ≡ Some live → live.commit ≡ Some number → new.made ≡ [])
    → ((live : Snapshot) (table row : ℕ) → seat.live ≡ Some live → Has new table row
    → row < row_count (after core.opened core.now.commits live.start) table)
    → (is_placing new ≡ true → (k : ℕ) (other : Seat) → (k ≡ place → ⊥) → slice_get core.seats k ≡ Some other
    → is_placing other ≡ true → ⊥)
    → NewSeat core now place new
kept_seat core versioned now place seat new there begun grown kept stamped committed alone =
    let numbered = versioned.numbered in
    record {
      begun = λ l e. let b = numbered.begun place seat l (there, sym kept ∙ e) in (omega (arith, b.0, begun), b.1);
      apart = λ l k other more e off has same. off
          (numbered.apart k place other seat more l has (there, sym kept ∙ e) (sym same));
      pointed = λ l number e c. let b = numbered.pointed place seat l number (there, sym kept ∙ e) c in
          (b.0, omega (arith, b.1, grown));
      commits_apart = λ l number k other more e c off has d. off
          (numbered.commits_apart k place other seat more l number has (there, sym kept ∙ e) d c);
      stamped = λ l number e c. stamped l number (sym kept ∙ e) c;
      committed = λ l table row e has. committed l table row (sym kept ∙ e) has;
      alone = alone;
    }

-- and it has no more than it had
less_seat : (core : Core) → Versioned core → (now : Machine) (place : ℕ) (seat new : Seat)
    → slice_get core.seats place ≡ Some seat
    → core.now.begun ≤ now.begun → length core.now.commits ≤ length now.commits → new.live ≡ seat.live
    → (seat.made ≡ [] → new.made ≡ []) → ((table row : ℕ) → Has new table row → Has seat table row)
    → (is_placing new ≡ true → is_placing seat ≡ true)
    → NewSeat core now place new
less_seat core versioned now place seat new there begun grown kept made has places =
    kept_seat core versioned now place seat new there begun grown kept
    (λ l number e c. made (versioned.numbered.stamped place seat l number (there, e) c))
    (λ l table row e h. versioned.placed.committed place seat l table row (there, e) (has table row h))
    (λ p k other off at q. off (versioned.placed.alone k place other seat at there q (places p)))

-- a transaction begins
begun_seat : (core : Core) → Versioned core → (now : Machine) (place : ℕ) → core.now.begun < now.begun
    → length core.now.commits ≤ length now.commits
    → NewSeat core now place (record no_seat { live = Some (next_snapshot core.now) })
begun_seat core versioned now place more grown =
    let same : (l : Snapshot) → Some (next_snapshot core.now) ≡ Some l → next_snapshot core.now ≡ l =
    λ l e. some_live (next_snapshot core.now) l e in
    record {
      begun = λ l e. let n = ap (λ x. x.number) (same l e) in let s = ap (λ x. x.start) (same l e) in
          (omega (arith, n, more), omega (arith, s));
      apart = λ l k other other_live e off has equal. let n = ap (λ x. x.number) (same l e) in let b =
          versioned.numbered.begun k other other_live has in omega (arith, n, b.0, equal);
      pointed = λ l number e c. absurd (no_number number (ap (λ x. x.commit) (same l e) ∙ c));
      commits_apart = λ l number k other other_live e c off has d. no_number number
          (ap (λ x. x.commit) (same l e) ∙ c);
      stamped = λ l number e c. refl;
      committed = λ l table row e has. absurd (false≢true has);
      alone = λ p k other off at q. false≢true p;
    }

-- a transaction makes its Point
pointed_seat : (core : Core) → Versioned core → (now : Machine) (place : ℕ) (seat : Seat) (live : Snapshot)
    → slice_get core.seats place ≡ Some seat → seat.live ≡ Some live
    → length now.commits ≡ length core.now.commits + 1 → core.now.begun ≤ now.begun
    → NewSeat core now place
    (record (does.seat_after_reply seat)
    { live = Some (record live { commit = Some (length core.now.commits + 1) }) })
pointed_seat core versioned now place seat live there is grown begun =
    let numbered = versioned.numbered in
    let mine : Snapshot = record live { commit = Some (length core.now.commits + 1) } in
    let same : (l : Snapshot) → Some mine ≡ Some l → mine ≡ l = λ l e. some_live mine l e in
    let commit : (l : Snapshot) (number : ℕ) → Some mine ≡ Some l → l.commit ≡ Some number
    → length core.now.commits + 1 ≡ number =
    λ l number e c. some_number (length core.now.commits + 1) number (ap (λ x. x.commit) (same l e) ∙ c) in
    record {
      begun = λ l e. let n = ap (λ x. x.number) (same l e) in let s = ap (λ x. x.start) (same l e) in
          let b = numbered.begun place seat live (there, is) in (omega (arith, n, b.0, begun), omega (arith, s, b.1));
      apart = λ l k other more e off has equal. off
          (numbered.apart k place other seat more live has (there, is) (sym (ap (λ x. x.number) (same l e) ∙ equal)));
      pointed = λ l number e c. let n = commit l number e c in (omega (arith, n), omega (arith, n, grown));
      commits_apart = λ l number k other more e c off has d. let n = commit l number e c in let b =
          numbered.pointed k other more number has d in omega (arith, n, b.1);
      stamped = λ l number e c. refl;
      committed = λ l table row e has.
          subst (λ n. row < row_count (after core.opened core.now.commits n) table) (ap (λ x. x.start) (same l e))
          (versioned.placed.committed place seat live table row (there, is) has);
      alone = λ p k other off at q. false≢true p;
    }

-- an entry takes no transaction's number back
call_begun : (machine : Machine) (session : ℕ) (asked : Asked) (found : Option Session)
    → machine.begun ≤
    (elim found as (λ x. Machine) [ None ↦ machine | Some before ↦ after_call machine session asked before ]).begun
call_begun machine session asked None = omega arith
call_begun machine session asked (Some before) = omega arith

next_begun : (n : ℕ) (b : Bool) → n ≤ (if b then n + 1 else n)
next_begun n true = omega arith
next_begun n false = omega arith

begin_begun : (machine : Machine) (session number start : ℕ) (found : Option Session)
    → machine.begun ≤
    (elim found as
    (λ x. Machine) [ None ↦ machine | Some before ↦ after_begin machine session number start before ]).begun
begin_begun machine session number start None = omega arith
begin_begun machine session number start (Some before) =
    next_begun machine.begun (nat_lt machine.begun MAX_TRANSACTIONS)

transaction_begun : (opened : List Table) (machine : Machine) (number : ℕ) (before : Session) (reply : Reply)
    (transaction : Transaction)
    → machine.begun ≤ (elim transaction as (λ x. Machine) [
      | state.Outside ↦ with_session machine number (session_behind state.Outside None None)
      | state.Aborted ↦ with_session machine number (session_behind (after_aborted reply) None None)
      | state.Open active ↦ after_open_reply opened machine number before active
          (transition opened machine.commits active before.asked reply)
    ]).begun
transaction_begun opened machine number before reply state.Outside = omega arith
transaction_begun opened machine number before reply state.Aborted = omega arith
transaction_begun opened machine number before reply (state.Open active) = omega arith

reply_begun : (opened : List Table) (machine : Machine) (session : ℕ) (reply : Reply) (found : Option Session)
    → machine.begun ≤
    (elim found as
    (λ x. Machine) [ None ↦ machine | Some before ↦ after_reply opened machine session before reply ]).begun
reply_begun opened machine session reply None = omega arith
reply_begun opened machine session reply (Some before) =
    transaction_begun opened machine session before reply before.transaction

entry_begun : (opened : List Table) (machine : Machine) (entry : Entry)
    → machine.begun ≤ (next opened machine entry).begun
entry_begun opened machine (history.Call session asked) = call_begun machine session asked
    (session_at machine.sessions session)
entry_begun opened machine (history.Begun session number start) = begin_begun machine session number start
    (session_at machine.sessions session)
entry_begun opened machine (history.Reply session reply) = reply_begun opened machine session reply
    (session_at machine.sessions session)

begun_with : (core : Core) (entry : Option Entry) → core.now.begun ≤ (state_with core entry).begun
begun_with core None = omega arith
begun_with core (Some entry) = entry_begun core.opened core.now entry

pub grown_with : (core : Core) (entry : Option Entry) → Grown (state_with core entry).commits core.now.commits
grown_with core None = record { more = []; is = sym (append-nil core.now.commits) }
grown_with core (Some entry) = grows core.opened core.now (entry ∷ [])

-- a Change makes a version, or finds a conflict
pub change_cases : (P : Seat → Type 0) (core : Core) (number : ℕ) (part : TableNet) (seat : Seat)
    → P seat → P (record seat { made = part ∷ seat.made })
    → ((refusal : Refusal) → P (record seat { found = Some refusal }))
    → P (does.seat_after_change core number part seat)
change_cases P core number part seat same more refused = by_live seat.live
  where
    by_conflict : (found : Option Refusal) → P (elim found as (λ x. Seat) [
      | None ↦ record seat { made = part ∷ seat.made }
      | Some refusal ↦ record seat { found = Some refusal }
    ])
    by_conflict None = more
    by_conflict (Some refusal) = refused refusal

    by_live : (live : Option Snapshot) → P (elim live as (λ x. Seat) [
      | None ↦ seat
      | Some live ↦ elim (conflict core number live.start part) as (λ x. Seat) [
        | None ↦ record seat { made = part ∷ seat.made }
        | Some refusal ↦ record seat { found = Some refusal }
      ]
    ])
    by_live None = same
    by_live (Some live) = by_conflict (conflict core number live.start part)

-- a session whose transaction is active has made no Point
uncommitted : (core : Core) → Fits core → (place : ℕ) (session : Session) (seat : Seat)
    → slice_get core.now.sessions place ≡ Some session → slice_get core.seats place ≡ Some seat
    → may.is_active session ≡ true → (live : Snapshot) (number : ℕ) → seat.live ≡ Some live
    → live.commit ≡ Some number → ⊥
uncommitted core fits place session seat at there active l number e c =
    let h = live_of (length core.now.commits) seat session.transaction session.asked session.writes session.last
    (fits.sit place session seat at there).links active in
    no_number number (sym h.2 ∙ (ap (λ x. x.commit) (some_live h.0 l (sym h.1 ∙ e)) ∙ c))

-- a version without rows places none
no_more_rows : (table : ℕ) (updates : List (ℕ × List Value)) (deletes : List ℕ) (rows : List (List Value))
    (made : List TableNet) → is_empty rows ≡ true
    → nat_lt 0 (new_rows (record { table = table; updates = updates; deletes = deletes; rows = rows } ∷ made)) ≡ true
    → nat_lt 0 (new_rows made) ≡ true
no_more_rows table updates deletes [] made none p = p
no_more_rows table updates deletes (row ∷ rows) made none p = absurd (false≢true none)

-- the seat behind a Change
change_seat : (core : Core) → Fits core → Versioned core → (number : ℕ) (at : VectorId) (part : TableNet)
    (f : Found core number (may.may_change core at part))
    → NewSeat core core.now (number - 1) (does.seat_after_change core number part f.seat)
change_seat core fits versioned number at part f =
    let seat = f.seat in
    let there = f.seat_there in
    of_change core number at part f
    (λ transaction asked. NewSeat core core.now (number - 1) (does.seat_after_change core number part seat))
    (λ active asked here kind fresh goes.
    let n = committed_count core.opened core.now.commits active part.table in
    let meaning = meaning_in core.opened core.now.commits active asked in
    let session = session_of (state.Open active) (Some asked) f.session.writes f.session.last in
    let l = live_of (length core.now.commits) seat (state.Open active) (Some asked) f.session.writes f.session.last
    (fits.sit (number - 1) session seat here there).links goes in
    let none = (and_parts (is_empty part.rows) _ kind).0 in
    change_cases (NewSeat core core.now (number - 1)) core number part seat
    (less_seat core versioned core.now (number - 1) seat seat there (omega arith) (omega arith) refl (λ e. e)
    (λ t r has. has) (λ p. p))
    (kept_seat core versioned core.now (number - 1) seat (record seat { made = part ∷ seat.made }) there (omega arith)
    (omega arith) refl
    (λ live number' e c. absurd (uncommitted core fits (number - 1) session seat here there goes live number' e c))
    (λ live table row e has. ⊎_elim
    (λ p. let q = and_parts (part.table == table) (part_has part row) p in
    subst (λ t. row < row_count (after core.opened core.now.commits live.start) t) (eqb-true part.table table q.0)
    (subst (λ s. row < row_count (after core.opened core.now.commits s) part.table)
    (sym l.3 ∙ ap (λ x. x.start) (some_live l.0 live (sym l.1 ∙ e)))
    (part_below core active seat.made part meaning row fresh q.1)))
    (λ p. versioned.placed.committed (number - 1) seat live table row (there, e) p)
    (or_cases (part.table == table && part_has part row) (net_has (unstamped seat) table row) has))
    (λ p k other off at_k q. off
    (versioned.placed.alone k (number - 1) other seat at_k there q
    (no_more_rows part.table part.updates part.deletes part.rows seat.made none p))))
    (λ refusal. less_seat core versioned core.now (number - 1) seat (record seat { found = Some refusal }) there
    (omega arith) (omega arith) refl (λ e. e) (λ t r has. has) (λ p. p)))

-- a call that may commit is no ROLLBACK
commit_no_rollback : (fresh : Bool) (found : Option Kind)
    → (elim found as (λ x. Bool) [ None ↦ false | Some kind ↦ is_commit_kind kind ]
    || (fresh && elim found as (λ x. Bool) [ None ↦ false | Some kind ↦ has_own kind ])) ≡ true
    → not (elim found as (λ x. Bool) [ None ↦ false | Some kind ↦ is_rollback kind ]) ≡ true
commit_no_rollback fresh None is = refl
commit_no_rollback true (Some form.Rollback) is = absurd (false≢true is)
commit_no_rollback false (Some form.Rollback) is = absurd (false≢true is)
commit_no_rollback fresh (Some other) is = refl

next_active : (core : Core) (active : OpenTransaction) (asked : Option Asked) (touched : Option WriteSet)
    (past : Option LastTransaction) (seat : Seat) (table : ℕ) (rows : List (List Value))
    → are_next_rows core active table rows (session_of (state.Open active) asked touched past) seat ≡ true
    → may.is_active (session_of (state.Open active) asked touched past) ≡ true
next_active core active asked touched past seat table rows next =
    commit_no_rollback active.fresh (kind_in asked)
    (and_parts (commits_now active asked) (is_none seat.found)
    (and_parts (commits_now active asked && is_none seat.found) _ next).0).0

-- who may put own rows into a group is active
rows_active : (core : Core) (table : ℕ) (rows : List (List Value)) (asked : Option Asked) (touched : Option WriteSet)
    (past : Option LastTransaction) (seat : Seat) (also : OpenTransaction → Bool) (transaction : Transaction)
    → elim transaction as (λ x. Bool) [
      | state.Outside ↦ false
      | state.Aborted ↦ false
      | state.Open active ↦ are_next_rows core active table rows (session_of transaction asked touched past) seat
          && also active
    ] ≡ true
    → may.is_active (session_of transaction asked touched past) ≡ true
rows_active core table rows asked touched past seat also state.Outside passes = absurd (false≢true passes)
rows_active core table rows asked touched past seat also state.Aborted passes = absurd (false≢true passes)
rows_active core table rows asked touched past seat also (state.Open active) passes =
    next_active core active asked touched past seat table rows
    (and_parts (are_next_rows core active table rows (session_of (state.Open active) asked touched past) seat)
    (also active) passes).0

pub append_active : (core : Core) (table group first : ℕ) (rows : List (List Value)) (session : Session) (seat : Seat)
    → may_append core table group first rows session seat ≡ true → may.is_active session ≡ true
append_active core table group first rows session seat passes =
    rows_active core table rows session.asked session.writes session.last seat _ session.transaction passes

pub adopt_active : (core : Core) (table group first : ℕ) (rows : List (List Value)) (session : Session) (seat : Seat)
    → may_adopt core table group first rows session seat ≡ true → may.is_active session ≡ true
adopt_active core table group first rows session seat passes =
    rows_active core table rows session.asked session.writes session.last seat _ session.transaction passes

all_at : {T : Type 0} → (test : T → Bool) (xs : List T) (i : ℕ) (x : T) → list_all test xs ≡ true
    → slice_get xs i ≡ Some x → test x ≡ true
all_at test [] i x all at = cc
all_at test (y ∷ xs) zero x all at = let same : y ≡ x = cc in subst (λ z. test z ≡ true) same
    (and_parts (test y) (list_all test xs) all).0
all_at test (y ∷ xs) (suc i) x all at = all_at test xs i x (and_parts (test y) (list_all test xs) all).1 at

-- the seat behind an Append or an Adopt
placing_seat : (core : Core) → Fits core → Versioned core
    → (number table : ℕ) (rows : List (List Value)) (session : Session) (seat : Seat) → 0 < number
    → slice_get core.now.sessions (number - 1) ≡ Some session → slice_get core.seats (number - 1) ≡ Some seat
    → may.is_active session ≡ true → may.nobody_places core number ≡ true
    → NewSeat core core.now (number - 1) (does.seat_after_placing table rows seat)
placing_seat core fits versioned number table rows session seat above here there active nobody =
    let new = does.seat_after_placing table rows seat in
    kept_seat core versioned core.now (number - 1) seat new there (omega arith) (omega arith) refl
    (λ live n e c. absurd (uncommitted core fits (number - 1) session seat here there active live n e c))
    (λ live t row e has. versioned.placed.committed (number - 1) seat live t row (there, e) (⊎_elim
    (λ made. made_has seat t row (append_made seat table rows t row made))
    (λ versions. versions_has seat t row versions)
    (has_parts new t row has)))
    (λ p k other off at_k q. let b = into_but number core.seats k other above off at_k in
    true≢false
    (sym q ∙ not-true (is_placing other)
    (all_at (λ seat. not (is_placing seat)) (all_but number core.seats) b.0 other nobody b.1)))

-- the core behind an Append or an Adopt
placed_versioned : (core : Core) → Fits core → Versioned core → (number table : ℕ) (rows : List (List Value))
    → {test : Session → Seat → Bool} → (f : Found core number test) → may.is_active f.session ≡ true
    → may.nobody_places core number ≡ true
    → Versioned (core_with core core.entries core.now (with_change core number (does.seat_after_placing table rows)))
placed_versioned core fits versioned number table rows f active nobody =
    seat_versioned core versioned core.entries core.now number f.seat (does.seat_after_placing table rows) f.seat_is
    (grown_with core None) (begun_with core None)
    (placing_seat core fits versioned number table rows f.session f.seat f.above f.session_there f.seat_there active
    nobody)

-- the core behind an event that changes the seat of one session so
new_versioned : (core : Core) → Versioned core → (event : Event) (number : ℕ) (seat : Seat) (change : Seat → Seat)
    → seat_at core.seats number ≡ Some seat
    → NewSeat core (state_with core (entry_of core event)) (number - 1) (change seat)
    → Versioned
    (core_with core (entries_after core event) (state_with core (entry_of core event))
    (with_change core number change))
new_versioned core versioned event number seat change is new =
    seat_versioned core versioned (entries_after core event) (state_with core (entry_of core event)) number seat
    change is
    (grown_with core (entry_of core event)) (begun_with core (entry_of core event)) new

less_versioned : (core : Core) → Versioned core → (event : Event) (number : ℕ) (seat : Seat) (change : Seat → Seat)
    → seat_at core.seats number ≡ Some seat
    → slice_get core.seats (number - 1) ≡ Some seat → (change seat).live ≡ seat.live
    → (seat.made ≡ [] → (change seat).made ≡ [])
    → ((table row : ℕ) → Has (change seat) table row → Has seat table row)
    → (is_placing (change seat) ≡ true → is_placing seat ≡ true)
    → Versioned
    (core_with core (entries_after core event) (state_with core (entry_of core event))
    (with_change core number change))
less_versioned core versioned event number seat change is there kept made has places =
    let now = state_with core (entry_of core event) in
    new_versioned core versioned event number seat change is
    (less_seat core versioned now (number - 1) seat (change seat) there (begun_with core (entry_of core event))
    (grown_length now.commits core.now.commits (grown_with core (entry_of core event))) kept made has places)

more_begun : (n : ℕ) (b : Bool) → b ≡ true → n < (if b then n + 1 else n)
more_begun n true is = omega arith
more_begun n false is = absurd (false≢true is)

abbrev pub begin_entry : Core → ℕ → Bool → Option Entry
begin_entry core number full =
    if full then None else Some (history.Begun number core.now.begun (length core.now.commits))

abbrev pub begin_change : Core → Bool → Seat → Seat
begin_change core full seat =
    if full then record seat { found = Some (refusal.Exhausted (spent_numbers core)) }
    else record no_seat { live = Some (next_snapshot core.now) }

begin_versioned : (core : Core) → Fits core → Versioned core
    → (number : ℕ) (f : Found core number may.may_begin) (full : Bool) → is_full core ≡ full
    → Versioned
    (core_with core (with_entry core.entries (begin_entry core number full))
    (state_with core (begin_entry core number full))
    (with_change core number (begin_change core full)))
begin_versioned core fits versioned number f true is =
    seat_versioned core versioned core.entries core.now number f.seat
    (λ seat. record seat { found = Some (refusal.Exhausted (spent_numbers core)) }) f.seat_is
    (grown_with core None) (omega arith)
    (less_seat core versioned core.now (number - 1) f.seat
    (record f.seat { found = Some (refusal.Exhausted (spent_numbers core)) }) f.seat_there
    (omega arith) (omega arith) refl (λ e. e) (λ t r has. has) (λ p. p))
begin_versioned core fits versioned number f false is =
    let entry = Some (history.Begun number core.now.begun (length core.now.commits)) in
    let now = state_with core entry in
    let below = below_last core.now.begun MAX_TRANSACTIONS (or_parts (core.now.begun == MAX_TRANSACTIONS) _ is).0
    fits.numbers in
    let more : core.now.begun < now.begun =
    subst (λ found. core.now.begun < (elim found as (λ x. Machine) [
      | None ↦ core.now
      | Some before ↦ after_begin core.now number core.now.begun (length core.now.commits) before
    ]).begun) (sym f.session_is) (more_begun core.now.begun (nat_lt core.now.begun MAX_TRANSACTIONS) below) in
    seat_versioned core versioned (with_entry core.entries entry) now number f.seat
    (λ seat. record no_seat { live = Some (next_snapshot core.now) }) f.seat_is
    (grown_with core entry) (begun_with core entry)
    (begun_seat core versioned now (number - 1) more
    (grown_length now.commits core.now.commits (grown_with core entry)))

-- the seat behind a Point that is a commit
commit_versioned : (core : Core) → Fits core → Versioned core → (event : Event) (number : ℕ) (reply : Reply)
    (test : Session → Seat → Bool) (also : Bool) → is_commit reply ≡ true
    → entry_of core event ≡ Some (history.Reply number reply)
    → ((session : Session) (seat : Seat) → test session seat ≡ true → may_commit core reply session seat ≡ true)
    → (may.at_session core number test && also) ≡ true
    → Versioned
    (core_with core (entries_after core event) (state_with core (entry_of core event))
    (with_change core number (does.seat_after_commit core)))
commit_versioned core fits versioned event number reply test also commits entry tells allowed =
    let found = commit_found core fits number reply test also commits tells allowed in
    let seat = found.0.seat in
    let p = found.1 in
    let now = state_with core (entry_of core event) in
    let grown : length now.commits ≡ length core.now.commits + 1 = ap (λ e. length (state_with core e).commits) entry
    ∙ p.grown in
    new_versioned core versioned event number seat (does.seat_after_commit core) found.0.seat_is
    (subst (λ s. NewSeat core now (number - 1) s)
    (sym (ap (λ found. elim found as (λ x. Seat) [
      | None ↦ seat
      | Some live ↦ record
          (does.seat_after_reply seat) { live = Some (record live { commit = Some (length core.now.commits + 1) }) }
    ]) p.has_live))
    (pointed_seat core versioned now (number - 1) seat p.live found.0.seat_there p.has_live grown
    (begun_with core (entry_of core event))))

-- each event that is allowed keeps the numbers and the places
event_versioned : (core : Core) → Fits core → Versioned core → (event : Event) → may.allows_locally core event ≡ true
    → Versioned (moved core event)
event_versioned core fits versioned (event.Call number asked) allowed =
    let f = found core number (may.may_call asked) allowed in
    less_versioned core versioned (event.Call number asked) number f.seat (λ seat. record seat { found = None })
    f.seat_is f.seat_there refl (λ e. e) (λ t r has. has) (λ p. p)
event_versioned core fits versioned (event.Begin number) allowed =
    begin_versioned core fits versioned number (found core number may.may_begin allowed) (is_full core) refl
event_versioned core fits versioned (event.Change number at part) allowed =
    let f = found core number (may.may_change core at part) allowed in
    new_versioned core versioned (event.Change number at part) number f.seat (does.seat_after_change core number part)
    f.seat_is (change_seat core fits versioned number at part f)
event_versioned core fits versioned (event.Append number table group first rows) allowed =
    let h = and_parts (may.at_session core number (may_append core table group first rows)) _ allowed in
    let f = found core number (may_append core table group first rows) h.0 in
    placed_versioned core fits versioned number table rows f
    (append_active core table group first rows f.session f.seat f.passes) h.1
event_versioned core fits versioned (event.Adopt number table group first rows) allowed =
    let h = and_parts (may.at_session core number (may_adopt core table group first rows)) _ allowed in
    let f = found core number (may_adopt core table group first rows) h.0 in
    placed_versioned core fits versioned number table rows f
    (adopt_active core table group first rows f.session f.seat f.passes) h.1
event_versioned core fits versioned (event.Point number (done.Create name schema) moment) allowed =
    let test = may_point core (done.Create name schema) moment in
    let f = found core number test (and_parts (may.at_session core number test) _ allowed).0 in
    less_versioned core versioned (event.Point number (done.Create name schema) moment) number f.seat
    (λ seat. record seat { creates = Some (record { name = name; schema = schema }) }) f.seat_is f.seat_there refl
    (λ e. e) (λ t r has. has) (λ p. p)
event_versioned core fits versioned (event.Point number done.Created moment) allowed =
    commit_versioned core fits versioned (event.Point number done.Created moment) number
    (told.Created (next_receipt core.now moment)) (may_point core done.Created moment) _ refl refl
    (λ session seat passes. (and_parts (is_some seat.creates) _ passes).1) allowed
event_versioned core fits versioned (event.Point number (done.Changed count) moment) allowed =
    commit_versioned core fits versioned (event.Point number (done.Changed count) moment) number
    (told.Changed count (Some (next_receipt core.now moment))) (may_point core (done.Changed count) moment) _ refl refl
    (λ session seat passes. (and_parts (is_none seat.creates) _ passes).1) allowed
event_versioned core fits versioned (event.Point number done.Commit moment) allowed =
    commit_versioned core fits versioned (event.Point number done.Commit moment) number
    (told.Committed (next_receipt core.now moment)) (may_point core done.Commit moment) _ refl refl
    (λ session seat passes. (and_parts (is_none seat.creates) _ passes).1) allowed
event_versioned core fits versioned (event.Stamp number) allowed =
    let f = found core number may.may_stamp allowed in
    less_versioned core versioned (event.Stamp number) number f.seat
    (λ seat. record seat { versions = does.without_oldest seat.versions }) f.seat_is f.seat_there refl (λ e. e)
    (λ t r has. ⊎_elim
    (λ made. made_has f.seat t r made)
    (λ versions. versions_has f.seat t r (take_has (length f.seat.versions - 1) f.seat.versions t r versions))
    (has_parts (record f.seat { versions = does.without_oldest f.seat.versions }) t r has)) (λ p. p)
event_versioned core fits versioned (event.Finish number) allowed =
    let f = found core number may.may_finish allowed in
    new_versioned core versioned (event.Finish number) number f.seat (λ seat. record seat { live = None }) f.seat_is
    (gone_seat core versioned core.now (number - 1) f.seat f.seat_there)
event_versioned core fits versioned (event.Undo number) allowed =
    let f = found core number may.may_undo allowed in
    less_versioned core versioned (event.Undo number) number f.seat
    (λ seat. record seat { versions = does.without_newest seat.versions }) f.seat_is f.seat_there refl (λ e. e)
    (λ t r has. ⊎_elim
    (λ made. made_has f.seat t r made)
    (λ versions. versions_has f.seat t r (tail_has f.seat.versions t r versions))
    (has_parts (record f.seat { versions = does.without_newest f.seat.versions }) t r has)) (λ p. p)
event_versioned core fits versioned (event.Drop at bound) allowed = versioned
event_versioned core fits versioned (event.Settle table group root) allowed = versioned
event_versioned core fits versioned (event.Reply number reply) allowed =
    let f = found core number (may.may_reply core reply) allowed in
    less_versioned core versioned (event.Reply number reply) number f.seat does.seat_after_reply f.seat_is
    f.seat_there refl (λ e. refl) (λ t r has. has) (λ p. absurd (false≢true p))
event_versioned core fits versioned (event.Mark number) allowed = versioned
event_versioned core fits versioned (event.Leave number) allowed =
    let f = found core number may.may_leave allowed in
    new_versioned core versioned (event.Leave number) number f.seat (λ seat. record seat { live = None }) f.seat_is
    (gone_seat core versioned core.now (number - 1) f.seat f.seat_there)

step_versioned : (core : Core) → Sound core → Versioned core → (event : Event) → may.allows core event ≡ true
    → Versioned (does.step core event)
step_versioned core sound versioned event allowed =
    let v = event_versioned core sound.fits versioned event (and_parts (may.allows_locally core event) _ allowed).0 in
    record {
      numbered = record {
        begun = v.numbered.begun;
        apart = v.numbered.apart;
        pointed = v.numbered.pointed;
        commits_apart = v.numbered.commits_apart;
        stamped = v.numbered.stamped;
      };
      placed = record { committed = v.placed.committed; alone = v.placed.alone };
    }

none_live : (place : ℕ) (seat : Seat) (live : Snapshot) → slice_get (first_core [] 0 0).seats place ≡ Some seat
    → seat.live ≡ Some live → ⊥
none_live place seat live at is = not_there live (ap (λ x. x.live) (same_copies SESSIONS place no_seat seat at) ∙ is)

first_versioned : (opened : List Table) (iteration sessions : ℕ) → Versioned (first_core opened iteration sessions)
first_versioned opened iteration sessions = record {
  numbered = record {
    begun = λ place seat live has. absurd (none_live place seat live has.0 has.1);
    apart = λ a b one other live more has also same. absurd (none_live a one live has.0 has.1);
    pointed = λ place seat live number has c. absurd (none_live place seat live has.0 has.1);
    commits_apart = λ a b one other live more number has also c d. absurd (none_live a one live has.0 has.1);
    stamped = λ place seat live number has c. absurd (none_live place seat live has.0 has.1);
  };
  placed = record {
    committed = λ place seat live table row has changes. absurd (none_live place seat live has.0 has.1);
    alone = λ a b one other at also p q. absurd
        (false≢true (subst (λ s. is_placing s ≡ true) (sym (same_copies SESSIONS a no_seat one at)) p));
  };
}

all_versioned : (core : Core) → Sound core → Versioned core → (events : List Event) → all_allowed core events ≡ true
    → Versioned (core_after core events)
all_versioned core sound versioned [] allowed = versioned
all_versioned core sound versioned (event ∷ events) allowed =
    let h = and_parts (may.allows core event) _ allowed in
    all_versioned (does.step core event) (step_keeps core sound event h.0)
    (step_versioned core sound versioned event h.0) events h.1

pub versions_over_every_list : VersionsOverEveryList
versions_over_every_list opened iteration sessions events allowed =
    let v = all_versioned (first_core opened iteration sessions) (first_sound opened iteration sessions)
    (first_versioned opened iteration sessions) events allowed in
    (v.numbered, v.placed)
