-- In a history of one thread a checkpoint is answered the iteration behind the last one, and such a reply may come.
use Rattle.std.proofs.Common.{◌≡◌, ⊎_elim, ℕ, ◌+◌, ◌-◌, ◌<◌, ◌≤◌, Bool, true, false, List, [], ◌∷◌, ◌++◌, map, Option}
use Rattle.std.proofs.Common.{Some, None, ap, ◌∙◌, sym, refl, subst, arith, append-nil}
use Rattle.std.specs.Prelude.{◌&&◌, ◌||◌, not, ◌==◌, nat_lt, nat_le, if◌then◌else◌}
use Rattle.std.specs.List.{list_all, list_any, filter, flat_map}
use Rattle.std.proofs.lemmas.Bool.{true≢false, false≢true, and_from, and_parts, and_right, or_left, or_right, or_cases}
use Rattle.std.proofs.lemmas.Bool.{eq-eqb, eqb-true, ne_eqb, lt-ltb, ltb-true, le-leb, leb-true, not_from_false}
use Rattle.std.proofs.lemmas.List.Folds.{list_all-append, list_any-append, list_all-map}
use Rattle.dk_types.specs.declared.net.Commit.{Commit}
use Rattle.dk_types.specs.declared.net.TableNet.{TableNet}
use Rattle.dk_types.specs.declared.reply.Refusal.{Refusal}
use Rattle.dk_types.specs.declared.reply.Refusal.TheVariants as why
use Rattle.dk_types.specs.declared.reply.Reply.{Reply}
use Rattle.dk_types.specs.declared.reply.Reply.TheVariants as told
use Rattle.dk_syntax.specs.declared.statement.Statement.{Statement}
use Rattle.dk_si.specs.declared.database.Table.{Table}
use Rattle.dk_si.specs.declared.history.Asked.{Asked}
use Rattle.dk_si.specs.declared.history.Asked.TheVariants.{Unread, Bad, Good}
use Rattle.dk_si.specs.declared.history.Entry.TheVariants as history
use Rattle.dk_si.specs.declared.kind.Kind.{Kind}
use Rattle.dk_si.specs.declared.kind.Kind.TheVariants as form
use Rattle.dk_si.specs.declared.limits.TheConstants.{MAX_ITERATION}
use Rattle.dk_si.specs.declared.machine.Machine.{Machine}
use Rattle.dk_si.specs.declared.machine.OpenTransaction.{OpenTransaction}
use Rattle.dk_si.specs.declared.machine.Session.{Session}
use Rattle.dk_si.specs.declared.machine.Transaction.{Transaction}
use Rattle.dk_si.specs.declared.machine.Transaction.TheVariants as state
use Rattle.dk_si.specs.declared.standing.Cause.{Cause}
use Rattle.dk_si.specs.declared.standing.Cause.TheVariants.{Iteration}
use Rattle.dk_si.specs.declared.standing.Flight.{Flight}
use Rattle.dk_si.specs.declared.standing.Need.{Need}
use Rattle.dk_si.specs.declared.standing.Written.{Written}
use Rattle.dk_alone.specs.AnswerHistory.{iteration_behind}
use Rattle.dk_si.specs.Exchanges.{is_checkpoint}
use Rattle.dk_si.specs.Machine.{asks_for, kind_of}
use Rattle.dk_si.specs.MayAnswer.{may_answer, outside_answers, aborted_answers, open_answers, commit_answers}
use Rattle.dk_si.specs.ReplyTests.{has_no_iteration, is_stop, iteration_of}
use Rattle.dk_si.specs.Standing.{FullStanding, first_standing, is_of, may_end, may_end_all, may_pay, are_payable, iterates}
use Rattle.dk_si.specs.Standing.{comes_after, is_only, is_calling, first_stop, is_settled, needs_after, needs_by, owes}
use Rattle.dk_si.specs.Standing.{owes_iteration, pays, standing_and, stands_on, stopped_after, written_after}
use Rattle.dk_si.specs.Standing.{written_at, written_by}
use Rattle.dk_alone.proofs.AnswerLemmas.{follows}
use Rattle.dk_si.proofs.ExchangeLemmas.{same_if}
use Rattle.dk_alone.proofs.FlightLemmas.{Busy, flight_of, only_flight}
use Rattle.dk_si.proofs.FrontLemmas.{all_by}
use Rattle.dk_si.proofs.TestLemmas.{all_and, all_filter}

-- a CHECKPOINT alone is answered an iteration, which is at most the last
pub record IsIteration (asked : Asked) (n : ℕ) : Type 0 where
  pub asks : asks_for is_checkpoint (Some asked) ≡ true
  pub within : n ≤ MAX_ITERATION

neither : (b : Bool) → (if b then false else false) ≡ true → ⊥
neither true e = false≢true e
neither false e = false≢true e

open_iteration : (opened : List Table) (commits : List Commit) (active : OpenTransaction) (statement : Statement)
    (kind : Kind) (n : ℕ)
    → open_answers opened commits active statement kind (told.Checkpointed n) ≡ true → ⊥
open_iteration opened commits active statement form.Begin n e = neither active.fresh e
open_iteration opened commits active statement form.Commit n e = no_commit active.net e
  where
    no_commit : (net : List TableNet) → commit_answers commits net (told.Checkpointed n) ≡ true → ⊥
    no_commit [] e = false≢true e
    no_commit (part ∷ net) e = false≢true e
open_iteration opened commits active statement form.Rollback n e = false≢true e
open_iteration opened commits active statement form.Checkpoint n e = false≢true e
open_iteration opened commits active statement form.Create n e = neither active.fresh e
open_iteration opened commits active statement form.Select n e = false≢true e
open_iteration opened commits active statement form.Change n e = false≢true e

outside_iteration : (commits : List Commit) (kind : Kind) (n : ℕ) → outside_answers commits kind (told.Checkpointed n)
    ≡ true
    → (is_checkpoint kind ≡ true) × (n ≤ MAX_ITERATION)
outside_iteration commits form.Checkpoint n e = (refl, leb-true n MAX_ITERATION e)
outside_iteration commits form.Commit n e = absurd (false≢true e)
outside_iteration commits form.Rollback n e = absurd (false≢true e)
outside_iteration commits form.Begin n e = absurd (false≢true e)
outside_iteration commits form.Create n e = absurd (false≢true e)
outside_iteration commits form.Select n e = absurd (false≢true e)
outside_iteration commits form.Change n e = absurd (false≢true e)

aborted_iteration : (kind : Kind) (n : ℕ) → aborted_answers kind (told.Checkpointed n) ≡ true → ⊥
aborted_iteration form.Rollback n e = false≢true e
aborted_iteration form.Checkpoint n e = false≢true e
aborted_iteration form.Commit n e = false≢true e
aborted_iteration form.Begin n e = false≢true e
aborted_iteration form.Create n e = false≢true e
aborted_iteration form.Select n e = false≢true e
aborted_iteration form.Change n e = false≢true e

pub told_iteration : (opened : List Table) (commits : List Commit) (transaction : Transaction) (asked : Asked) (n : ℕ)
    → may_answer opened commits transaction asked (told.Checkpointed n) ≡ true → IsIteration asked n
told_iteration opened commits transaction Unread n e = absurd (false≢true e)
told_iteration opened commits transaction (Bad at) n e = absurd (false≢true e)
told_iteration opened commits state.Outside (Good statement) n e =
    let h = outside_iteration commits (kind_of statement) n e in
    record { asks = h.0; within = h.1 }
told_iteration opened commits state.Aborted (Good statement) n e = absurd (aborted_iteration (kind_of statement) n e)
told_iteration opened commits (state.Open active) (Good statement) n e = absurd
    (open_iteration opened commits active statement (kind_of statement) n e)

-- the last iteration is the opened one, or a checkpoint was answered it, and all others are smaller
pub record Counts (it last : ℕ) (standing : FullStanding) : Type 0 where
  pub above : it ≤ last
  pub within : last ≤ MAX_ITERATION
  pub most : list_all (λ (written : Written). nat_le written.iteration last) standing.written ≡ true
  pub early : list_all (λ (written : Written). nat_lt written.place standing.place) standing.written ≡ true
  pub told : (last == it || list_any (λ (written : Written). written.iteration == last) standing.written) ≡ true

pub first_counts : (it : ℕ) → it ≤ MAX_ITERATION → Counts it it first_standing
first_counts it within = record {
  above = omega arith;
  within = within;
  most = refl;
  early = refl;
  told = or_left
      (it == it) false (eq-eqb it it refl);
}

later_place : (place : ℕ) (all : List Written) → list_all (λ (written : Written). nat_lt written.place place) all ≡ true
    → list_all (λ (written : Written). nat_lt written.place (place + 1)) all ≡ true
later_place place all early =
    all_by (λ (written : Written). nat_lt written.place place) (λ (written : Written). nat_lt written.place
    (place + 1)) all
    (λ written h. let less = ltb-true written.place place h in lt-ltb written.place (place + 1) (omega (arith, less)))
    early

pub counts_call : (it last : ℕ) (standing : FullStanding) (number : ℕ) (asked : Asked) → Counts it last standing
    → Counts it last (standing_and it standing (history.Call number asked))
counts_call it last standing number asked counts = record {
  above = counts.above;
  within = counts.within;
  most = counts.most;
  early = later_place standing.place standing.written counts.early;
  told = counts.told;
}

pub counts_begun : (it last : ℕ) (standing : FullStanding) (session number start : ℕ) → Counts it last standing
    → Counts it last (standing_and it standing (history.Begun session number start))
counts_begun it last standing session number start counts = record {
  above = counts.above;
  within = counts.within;
  most = counts.most;
  early = later_place standing.place standing.written counts.early;
  told = counts.told;
}

-- what stands while the one call is in flight
abbrev flying : FullStanding → ℕ → ℕ → Asked → FullStanding
flying standing place number asked = record standing { flights = flight_of place number asked ∷ [] }

flying_is : (machine : Machine) (standing : FullStanding) (number : ℕ) (session : Session) (asked : Asked) (place : ℕ)
    → Busy machine standing number session asked place
    → standing ≡ flying standing place number asked
flying_is machine standing number session asked place busy = ap (λ flights. record standing { flights = flights })
    busy.flights

-- the iteration that the reply to the call says
abbrev told_by : Asked → Reply → Option ℕ
told_by asked reply = if asks_for is_checkpoint (Some asked) then iteration_of reply else None

written_is : (standing : FullStanding) (place number : ℕ) (asked : Asked) (reply : Reply)
    → written_after (flying standing place number asked) number reply
    ≡ standing.written ++ written_at standing.place (flight_of place number asked) (told_by asked reply)
written_is standing place number asked reply =
    let flight = flight_of place number asked in
    let own = written_at standing.place flight (told_by asked reply) in
    ap (λ rest. standing.written ++ rest)
    (ap (λ (b : Bool). (if b then own else []) ++ []) (eq-eqb number number refl) ∙ append-nil own)

-- the record of the last iteration behind the reply
counts_none : (it last : ℕ) (standing : FullStanding) → Counts it last standing → (place : ℕ) → place ≡ standing.place + 1
    → (written : List Written) → written ≡ standing.written ++ []
    → (after : FullStanding) → after.written ≡ written → after.place ≡ place → Counts it last after
counts_none it last standing counts place next written is after same at =
    let all : after.written ≡ standing.written = same ∙ (is ∙ append-nil standing.written) in
    record {
      above = counts.above;
      within = counts.within;
      most = subst (λ list. list_all (λ (written : Written). nat_le written.iteration last) list ≡ true)
          (sym all) counts.most;
      early = subst (λ n. list_all (λ (written : Written). nat_lt written.place n) after.written ≡ true)
          (sym (at ∙ next))
          (subst (λ list. list_all (λ (written : Written). nat_lt written.place (standing.place + 1)) list ≡ true)
          (sym all) (later_place standing.place standing.written counts.early));
      told = subst (λ list. (last == it || list_any (λ (written : Written). written.iteration == last) list) ≡ true)
          (sym all) counts.told;
    }

counts_some : (it last n called : ℕ) (standing : FullStanding) → Counts it last standing → last ≤ n → n ≤ MAX_ITERATION
    → (after : FullStanding)
    → after.written ≡ standing.written ++ record { called = called; place = standing.place; iteration = n } ∷ []
    → after.place ≡ standing.place + 1 → Counts it n after
counts_some it last n called standing counts more within after same at =
    let new : Written = record { called = called; place = standing.place; iteration = n } in
    let above = counts.above in
    record {
      above = omega (arith, above, more);
      within = within;
      most = subst (λ list. list_all (λ (written : Written). nat_le written.iteration n) list ≡ true) (sym same)
          (list_all-append (λ (written : Written). nat_le written.iteration n) standing.written (new ∷ [])
          ∙ and_from _ _
          (all_by (λ (written : Written). nat_le written.iteration last)
          (λ (written : Written). nat_le written.iteration n) standing.written
          (λ written h. let less = leb-true written.iteration last h in le-leb written.iteration n
          (omega (arith, less, more))) counts.most)
          (and_from (nat_le n n) true (le-leb n n (omega arith)) refl));
      early = subst (λ k. list_all (λ (written : Written). nat_lt written.place k) after.written ≡ true) (sym at)
          (subst (λ list. list_all (λ (written : Written). nat_lt written.place (standing.place + 1)) list ≡ true)
          (sym same)
          (list_all-append (λ (written : Written). nat_lt written.place (standing.place + 1)) standing.written
          (new ∷ [])
          ∙ and_from _ _ (later_place standing.place standing.written counts.early)
          (and_from (nat_lt standing.place (standing.place + 1)) true (lt-ltb standing.place (standing.place + 1)
          (omega arith)) refl)));
      told = or_right (n == it) (list_any (λ (written : Written). written.iteration == n) after.written)
          (subst (λ list. list_any (λ (written : Written). written.iteration == n) list ≡ true) (sym same)
          (list_any-append (λ (written : Written). written.iteration == n) standing.written (new ∷ [])
          ∙ or_right (list_any (λ (written : Written). written.iteration == n) standing.written) (n == n || false)
          (or_left (n == n) false (eq-eqb n n refl))));
    }

-- an item that passes two tests
any_all : {T : Type 0} → (P Q : T → Bool) (R : Type 0) → ((x : T) → P x ≡ true → Q x ≡ true → R) → (xs : List T)
    → list_any P xs ≡ true → list_all Q xs ≡ true → R
any_all P Q R found [] has all = absurd (false≢true has)
any_all P Q R found (x ∷ xs) has all =
    let h = and_parts (Q x) (list_all Q xs) all in
    ⊎_elim (λ here. found x here h.0) (λ there. any_all P Q R found xs there h.1) (or_cases (P x) (list_any P xs) has)

filter_none : {T : Type 0} → (P : T → Bool) (xs : List T) → list_all P xs ≡ true → filter (λ x. not (P x)) xs ≡ []
filter_none P [] all = refl
filter_none P (x ∷ xs) all =
    let h = and_parts (P x) (list_all P xs) all in
    ap (λ (b : Bool). if not b then x ∷ filter (λ x. not (P x)) xs else filter (λ x. not (P x)) xs) h.0
    ∙ filter_none P xs h.1

-- no reply told a stop, and none has a need that stands
pub record Calm (standing : FullStanding) : Type 0 where
  pub stop : standing.stop ≡ None
  pub needs : standing.needs ≡ []

module _ (it last : ℕ) (standing : FullStanding) (number place : ℕ) (asked : Asked) where
  abbrev now : FullStanding
  now = flying standing place number asked

  abbrev flight : Flight
  flight = flight_of place number asked

  abbrev checkpoint : Bool
  checkpoint = asks_for is_checkpoint (Some asked)

  abbrev Later : Type 0
  Later = list_all (λ (written : Written). nat_lt written.place place) standing.written ≡ true

  abbrev settled : Reply → Cause → Bool
  settled reply cause = is_settled (stopped_after now number reply) (written_after now number reply) cause

  own_end : (reply : Reply) → may_end_all it now number reply ≡ true → may_end it now number reply flight ≡ true
  own_end reply e =
      subst (λ b. (not b || may_end it now number reply flight) ≡ true) (eq-eqb number number refl)
      (and_parts (not (number == number) || may_end it now number reply flight) true e).0

  own_needs : (reply : Reply) → needs_by it now number reply flight
      ≡ map (λ cause. record { cause = cause; place = standing.place }) (filter (λ cause. not (settled reply cause))
      (owes it checkpoint reply))
  own_needs reply =
      ap (λ (b : Bool). if b then map (λ cause. record { cause = cause; place = standing.place })
      (filter (λ cause. not (settled reply cause)) (owes it checkpoint reply)) else [])
      (eq-eqb number number refl)

  -- what the reply needs is settled behind it, since no call is in flight there
  are_settled : (reply : Reply) → are_payable (standing_and it now (history.Reply number reply)) ≡ true
      → list_all (settled reply) (owes it checkpoint reply) ≡ true
  are_settled reply e =
      let nothing : Need → Bool = λ need. false in
      let none : list_all nothing (needs_after it now number reply) ≡ true =
      subst (λ flights. list_all (λ need. list_any (may_pay need) flights) (needs_after it now number reply) ≡ true)
      (only_flight number place asked) e in
      let own =
      (and_parts _ _
      (sym (list_all-append nothing (filter (λ need. not (list_any (pays number reply need) now.flights))
      standing.needs)
      (flat_map (needs_by it now number reply) now.flights)) ∙ none)).1 in
      let needs = (and_parts _ _ (sym (list_all-append nothing (needs_by it now number reply flight) []) ∙ own)).0 in
      let causes = filter (λ cause. not (settled reply cause)) (owes it checkpoint reply) in
      all_by (λ cause. not (not (settled reply cause)) || false) (settled reply) (owes it checkpoint reply)
      (λ cause h. on (settled reply cause) h)
      (sym (all_filter (λ cause. false) (λ cause. not (settled reply cause)) (owes it checkpoint reply))
      ∙ (sym (list_all-map nothing (λ cause. record { cause = cause; place = standing.place }) causes)
      ∙ subst (λ list. list_all nothing list ≡ true) (own_needs reply) needs))
    where
      on : (b : Bool) → (not (not b) || false) ≡ true → b ≡ true
      on true h = refl
      on false h = absurd (false≢true h)

  written_with : (reply : Reply) (found : Option ℕ) → told_by asked reply ≡ found
      → written_after now number reply ≡ standing.written ++ written_at standing.place flight found
  written_with reply found is = written_is standing place number asked reply ∙ ap
      (λ o. standing.written ++ written_at standing.place flight o) is

  -- an iteration that is settled is the last or a smaller one, or the one that the reply says
  settled_in : Counts it last standing → (reply : Reply) (found : Option ℕ) → told_by asked reply ≡ found → (n : ℕ)
      → settled reply (Iteration n) ≡ true
      → list_any (λ (written : Written). written.iteration == n) (written_at standing.place flight found) ≡ false
      → n ≤ last
  settled_in counts reply found is n e other =
      let has = subst (λ list. list_any (λ (written : Written). written.iteration == n) list ≡ true)
      (written_with reply found is) e in
      ⊎_elim
      (λ old. any_all (λ (written : Written). written.iteration == n)
      (λ (written : Written). nat_le written.iteration last) (n ≤ last)
      (λ written same le. let at = eqb-true written.iteration n same in let less = leb-true written.iteration last le
      in omega (arith, at, less)) standing.written old counts.most)
      (λ new. absurd (true≢false (sym new ∙ other)))
      (or_cases _ _ (sym (list_any-append (λ (written : Written). written.iteration == n) standing.written
      (written_at standing.place flight found)) ∙ has))

  owed_in : Counts it last standing → (reply : Reply) (found : Option ℕ) → told_by asked reply ≡ found
      → (n : ℕ) (b : Bool) → (n == it) ≡ b
      → list_all (settled reply) (if b then [] else Iteration n ∷ []) ≡ true
      → list_any (λ (written : Written). written.iteration == n) (written_at standing.place flight found) ≡ false
      → n ≤ last
  owed_in counts reply found is n true same e other = let at = eqb-true n it same in let above = counts.above in omega
      (arith, at, above)
  owed_in counts reply found is n false same e other = settled_in counts reply found is n
      (and_parts (settled reply (Iteration n)) true e).0 other

  -- the iteration that a checkpoint is answered is above the last one
  above_last : Counts it last standing → Later → (n : ℕ) → it < n → list_all (comes_after flight n) standing.written
      ≡ true → last < n
  above_last counts later n above comes =
      ⊎_elim
      (λ opened. let at = eqb-true last it opened in omega (arith, at, above))
      (λ has. any_all (λ (written : Written). written.iteration == last)
      (λ (written : Written). nat_lt written.place place && comes_after flight n written) (last < n)
      (λ written same both.
      let h = and_parts (nat_lt written.place place) (comes_after flight n written) both in
      let k = (and_parts (written.called == place || not (written.iteration == n)) (not (nat_lt written.place place)
      || nat_lt written.iteration n) h.1).1 in
      let less = ltb-true written.iteration n (subst (λ b. (not b || nat_lt written.iteration n) ≡ true) h.0 k) in
      let at = eqb-true written.iteration last same in omega (arith, less, at))
      standing.written has
      (all_and (λ (written : Written). nat_lt written.place place) (comes_after flight n) standing.written
      ∙ and_from _ _ later comes))
      (or_cases (last == it) _ counts.told)

  -- a checkpoint is answered the iteration behind the last one
  behind_last : Counts it last standing → Later → (n : ℕ) → checkpoint ≡ true
      → stands_on it now (history.Reply number (told.Checkpointed n)) ≡ true → n ≡ last + 1
  behind_last counts later n asks e =
      let reply = told.Checkpointed n in
      let h = and_parts (may_end_all it now number reply)
      (are_payable (standing_and it now (history.Reply number reply))) e in
      let iterated = subst (λ b. (not b || iterates it now number flight (Some n)) ≡ true) asks
      (and_parts _ (not checkpoint || iterates it now number flight (Some n)) (own_end reply h.0)).1 in
      let k = and_parts (nat_lt it n) (list_all (comes_after flight n) standing.written && list_all
      (is_only number flight) now.flights) iterated in
      let above = ltb-true it n k.0 in
      let more = above_last counts later n above (and_parts (list_all (comes_after flight n) standing.written) _
      k.1).0 in
      let owed = subst (λ b. list_all (settled reply) (if b then owes_iteration it (n - 1) else []) ≡ true) asks
      (are_settled reply h.1) in
      let least = owed_in counts reply (Some n) (ap (λ (b : Bool). if b then Some n else None) asks) (n - 1)
      (n - 1 == it) refl owed
      (ap (λ b. b || false) (ne_eqb n (n - 1) (λ same. absurd (omega (arith, above, same))))) in
      omega (arith, more, least)

  -- where no further iteration can be written, the last one is the greatest
  at_last : Counts it last standing → (refusal : Refusal) → has_no_iteration refusal ≡ true → checkpoint ≡ true
      → stands_on it now (history.Reply number (told.Refused refusal)) ≡ true → last ≡ MAX_ITERATION
  at_last counts (why.Exhausted numbers) none asks e =
      let reply = told.Refused (why.Exhausted numbers) in
      let h = and_parts (may_end_all it now number reply)
      (are_payable (standing_and it now (history.Reply number reply))) e in
      let first = subst (λ b. list_all (settled reply) (if b && has_no_iteration (why.Exhausted numbers)
      then owes_iteration it MAX_ITERATION else []) ≡ true) asks (are_settled reply h.1) in
      let owed = subst (λ b. list_all (settled reply) (if true && b then owes_iteration it MAX_ITERATION else [])
      ≡ true) none first in
      let least = owed_in counts reply None (same_if {T = Option ℕ} None checkpoint) MAX_ITERATION
      (MAX_ITERATION == it) refl owed refl in
      at_most last MAX_ITERATION counts.within least
    where
      at_most : (a b : ℕ) → a ≤ b → b ≤ a → a ≡ b
      at_most a b le ge = omega (arith, le, ge)
  at_last counts other none asks e = absurd (false≢true none)

  follows_refused : Counts it last standing → (refusal : Refusal) (b : Bool) → has_no_iteration refusal ≡ b
      → checkpoint ≡ true
      → stands_on it now (history.Reply number (told.Refused refusal)) ≡ true → follows last (told.Refused refusal)
      ≡ true
  follows_refused counts refusal true none asks e =
      or_right (not (has_no_iteration refusal)) (last == MAX_ITERATION) (eq-eqb last MAX_ITERATION
      (at_last counts refusal none asks e))
  follows_refused counts refusal false none asks e = or_left (not (has_no_iteration refusal)) (last == MAX_ITERATION)
      (not_from_false (has_no_iteration refusal) none)

  flying_follows : Counts it last standing → Later → (reply : Reply) → checkpoint ≡ true
      → stands_on it now (history.Reply number reply) ≡ true → follows last reply ≡ true
  flying_follows counts later (told.Checkpointed n) asks e = eq-eqb n (last + 1) (behind_last counts later n asks e)
  flying_follows counts later (told.Refused refusal) asks e = follows_refused counts refusal
      (has_no_iteration refusal) refl asks e
  flying_follows counts later other asks e = refl

  flying_counts : (opened : List Table) (commits : List Commit) (transaction : Transaction) → Counts it last standing
      → Later → (reply : Reply)
      → may_answer opened commits transaction asked reply ≡ true → stands_on it now (history.Reply number reply) ≡ true
      → Counts it (iteration_behind last reply) (standing_and it now (history.Reply number reply))
  flying_counts opened commits transaction counts later (told.Checkpointed n) may e =
      let is = told_iteration opened commits transaction asked n may in
      let next = behind_last counts later n is.asks e in
      counts_some it last n place standing counts (omega (arith, next)) is.within
      (standing_and it now (history.Reply number (told.Checkpointed n)))
      (written_with (told.Checkpointed n) (Some n) (ap (λ (b : Bool). if b then Some n else None) is.asks)) refl
  flying_counts opened commits transaction counts later other may e =
      counts_none it last standing counts (standing.place + 1) refl (standing.written ++ []) refl
      (standing_and it now (history.Reply number other))
      (written_with other None (same_if {T = Option ℕ} None checkpoint)) refl

  -- the same the other way: a reply that says the next iteration may come, where no stop and no need stands
  abbrev calm : FullStanding
  calm = record standing { stop = None; flights = flight ∷ []; needs = [] }

  abbrev settled_calm : Reply → Cause → Bool
  settled_calm reply cause = is_settled (stopped_after calm number reply) (written_after calm number reply) cause

  last_settles : Counts it last standing → (reply : Reply) (b : Bool) → (last == it) ≡ b
      → list_all (settled_calm reply) (if b then [] else Iteration last ∷ []) ≡ true
  last_settles counts reply true same = refl
  last_settles counts reply false same =
      and_from (settled_calm reply (Iteration last)) true
      (list_any-append (λ (written : Written). written.iteration == last) standing.written
      (flat_map (written_by number standing.place reply) (flight ∷ []))
      ∙ or_left _ _ (subst (λ b. (b || list_any (λ (written : Written). written.iteration == last) standing.written)
      ≡ true) same counts.told)) refl

  owes_if : Counts it last standing → (reply : Reply) (n : ℕ) (b : Bool) → (b ≡ true → n ≡ last)
      → list_all (settled_calm reply) (if b then owes_iteration it n else []) ≡ true
  owes_if counts reply n true is =
      subst (λ k. list_all (settled_calm reply) (owes_iteration it k) ≡ true) (sym (is refl))
      (last_settles counts reply (last == it) refl)
  owes_if counts reply n false is = refl

  refused_settles : Counts it last standing → (refusal : Refusal) → is_stop (told.Refused refusal) ≡ false
      → follows last (told.Refused refusal) ≡ true
      → list_all (settled_calm (told.Refused refusal)) (owes it checkpoint (told.Refused refusal)) ≡ true
  refused_settles counts (why.Stopped first) stop next = absurd (true≢false stop)
  refused_settles counts (why.Exhausted numbers) stop next =
      owes_if counts (told.Refused (why.Exhausted numbers)) MAX_ITERATION (checkpoint && has_no_iteration
      (why.Exhausted numbers))
      (λ both. sym (eqb-true last MAX_ITERATION
      (subst (λ b. (not b || last == MAX_ITERATION) ≡ true)
      (and_parts checkpoint (has_no_iteration (why.Exhausted numbers)) both).1 next)))
  refused_settles counts other stop next = refl

  all_settled : Counts it last standing → (reply : Reply) → is_stop reply ≡ false → follows last reply ≡ true
      → list_all (settled_calm reply) (owes it checkpoint reply) ≡ true
  all_settled counts (told.Checkpointed n) stop next =
      let is = eqb-true n (last + 1) next in
      owes_if counts (told.Checkpointed n) (n - 1) checkpoint (λ asks. omega (arith, is))
  all_settled counts (told.Refused refusal) stop next = refused_settles counts refusal stop next
  all_settled counts other stop next = refl

  no_needs : Counts it last standing → (reply : Reply) → is_stop reply ≡ false → follows last reply ≡ true
      → needs_after it calm number reply ≡ []
  no_needs counts reply stop next =
      ap (λ (b : Bool). (if b then map (λ cause. record { cause = cause; place = standing.place })
      (filter (λ cause. not (settled_calm reply cause)) (owes it checkpoint reply)) else []) ++ [])
      (eq-eqb number number refl)
      ∙ ap (λ causes. map (λ cause. record { cause = cause; place = standing.place }) causes ++ [])
      (filter_none (settled_calm reply) (owes it checkpoint reply) (all_settled counts reply stop next))

  comes_later : Counts it last standing → (n : ℕ) → n ≡ last + 1 → list_all (comes_after flight n) standing.written
      ≡ true
  comes_later counts n is =
      all_by (λ (written : Written). nat_le written.iteration last) (comes_after flight n) standing.written
      (λ written le.
      let less = leb-true written.iteration last le in
      and_from (written.called == place || not (written.iteration == n)) (not (nat_lt written.place place)
      || nat_lt written.iteration n)
      (or_right (written.called == place) (not (written.iteration == n)) (not_from_false (written.iteration == n)
      (ne_eqb written.iteration n (λ same. absurd (omega (arith, less, is, same))))))
      (or_right (not (nat_lt written.place place)) (nat_lt written.iteration n) (lt-ltb written.iteration n
      (omega (arith, less, is)))))
      counts.most

  iterates_next : Counts it last standing → (reply : Reply) → follows last reply ≡ true
      → iterates it calm number flight (iteration_of reply) ≡ true
  iterates_next counts (told.Checkpointed n) next =
      let is = eqb-true n (last + 1) next in
      let above = counts.above in
      and_from (nat_lt it n) (list_all (comes_after flight n) standing.written && list_all
      (is_only number flight) calm.flights) (lt-ltb it n (omega (arith, is, above)))
      (and_from (list_all (comes_after flight n) standing.written) (list_all (is_only number flight) calm.flights)
      (comes_later counts n is)
      (and_from (is_only number flight flight) true (or_right (not (is_of number flight && checkpoint))
      (place == place) (eq-eqb place place refl)) refl))
  iterates_next counts other next = refl

  ends_calmly : Counts it last standing → (reply : Reply) → follows last reply ≡ true
      → may_end_all it calm number reply ≡ true
  ends_calmly counts reply next =
      and_from (not (number == number) || may_end it calm number reply flight) true
      (or_right (not (number == number)) (may_end it calm number reply flight)
      (or_right (not checkpoint) (iterates it calm number flight (iteration_of reply))
      (iterates_next counts reply next))) refl

  calm_is : Calm standing → standing.flights ≡ flight ∷ [] → standing ≡ calm
  calm_is still flights =
      ap (λ stop. record standing { stop = stop }) still.stop
      ∙ (ap (λ list. record standing { stop = None; flights = list }) flights
      ∙ ap (λ list. record standing { stop = None; flights = flight ∷ []; needs = list }) still.needs)

  calm_goes : Counts it last standing → (reply : Reply) → is_stop reply ≡ false → follows last reply ≡ true
      → (stands_on it calm (history.Reply number reply) ≡ true) × Calm
      (standing_and it calm (history.Reply number reply))
  calm_goes counts reply stop next =
      let after = standing_and it calm (history.Reply number reply) in
      let none = no_needs counts reply stop next in (
        and_from (may_end_all it calm number reply) (are_payable after) (ends_calmly counts reply next)
            (ap (list_all (λ need. list_any (may_pay need) after.flights)) none),
        record {
          stop = ap (λ (b : Bool). if b then first_stop None standing.place else None)
              (and_right (is_calling calm number) (is_stop reply) stop);
          needs = none;
        },
      )

  -- a reply that says the next iteration may come, and behind it no stop and no need stands
  pub goes_on : Counts it last standing → Calm standing → standing.flights ≡ flight ∷ [] → (reply : Reply)
      → is_stop reply ≡ false → follows last reply ≡ true
      → (stands_on it standing (history.Reply number reply) ≡ true) × Calm (standing_and it standing
      (history.Reply number reply))
  goes_on counts still flights reply stop next =
      subst (λ stands. (stands_on it stands (history.Reply number reply) ≡ true) × Calm (standing_and it stands
      (history.Reply number reply)))
      (sym (calm_is still flights)) (calm_goes counts reply stop next)

-- what a reply to the call in flight follows
pub busy_follows : (it last : ℕ) (machine : Machine) (standing : FullStanding) (number : ℕ) (session : Session)
    (asked : Asked) (place : ℕ)
    → Busy machine standing number session asked place → Counts it last standing → (reply : Reply)
    → asks_for is_checkpoint (Some asked) ≡ true → stands_on it standing (history.Reply number reply) ≡ true
    → follows last reply ≡ true
busy_follows it last machine standing number session asked place busy counts reply asks e =
    flying_follows it last standing number place asked counts busy.later reply asks
    (subst (λ stands. stands_on it stands (history.Reply number reply) ≡ true)
    (flying_is machine standing number session asked place busy) e)

pub busy_counts : (opened : List Table) (it last : ℕ) (machine : Machine) (standing : FullStanding) (number : ℕ)
    (session : Session) (asked : Asked) (place : ℕ)
    → Busy machine standing number session asked place → Counts it last standing → (reply : Reply)
    → may_answer opened machine.commits session.transaction asked reply ≡ true
    → stands_on it standing (history.Reply number reply) ≡ true
    → Counts it (iteration_behind last reply) (standing_and it standing (history.Reply number reply))
busy_counts opened it last machine standing number session asked place busy counts reply may e =
    let same = flying_is machine standing number session asked place busy in
    subst (λ stands. Counts it (iteration_behind last reply) (standing_and it stands (history.Reply number reply)))
    (sym same)
    (flying_counts it last standing number place asked opened machine.commits session.transaction counts busy.later
    reply may
    (subst (λ stands. stands_on it stands (history.Reply number reply) ≡ true) same e))
