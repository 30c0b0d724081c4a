-- What is kept of a standing is short: a call in flight for each session at most, and of iterations and needs no
-- more than
-- entries have come since the first call in flight that they may concern.
use Rattle.std.proofs.Common.{arith, ◌≡◌, ◌⊎◌, inl, inr, ⊎_elim, ℕ, zero, suc, ◌+◌, ◌-◌, ◌<◌, ◌≤◌, Bool, true, false}
use Rattle.std.proofs.Common.{List, [], ◌∷◌, ◌++◌}
use Rattle.std.proofs.Common.{length, map, Option, Some, None, ap, ◌∙◌, sym, refl, subst, append-nil, length-append}
use Rattle.std.proofs.Common.{slice_set}
use Rattle.std.specs.Prelude.{◌&&◌, ◌||◌, not, ◌==◌, nat_lt, if◌then◌else◌, is_none}
use Rattle.std.specs.List.{filter, flat_map, fold, list_all, list_any}
use Rattle.std.proofs.lemmas.Bool.{false≢true, and_from, and_parts, or_cases, or_parts, or_left, or_right, ltb-true}
use Rattle.std.proofs.lemmas.Bool.{ltb-false, lt-ltb, le-ltb}
use Rattle.std.proofs.lemmas.Bool.{cases_lt, cases_eq, eq-eqb, eqb-true, not-true}
use Rattle.std.proofs.lemmas.List.{length-map, length-replicate}
use Rattle.std.proofs.lemmas.List.Elements.{filter-append}
use Rattle.std.proofs.lemmas.List.Filters.{length-filter_both}
use Rattle.std.proofs.lemmas.List.Folds.{list_any-append}
use Rattle.std.proofs.lemmas.Option.{slice_get_within}
use Rattle.dk_types.specs.declared.reply.Reply.{Reply}
use Rattle.dk_types.specs.declared.reply.Reply.TheVariants as told
use Rattle.dk_types.specs.declared.reply.Refusal.TheVariants as why
use Rattle.dk_si.specs.declared.database.Table.{Table}
use Rattle.dk_si.specs.declared.history.Asked.{Asked}
use Rattle.dk_si.specs.declared.history.Entry.{Entry}
use Rattle.dk_si.specs.declared.history.Entry.TheVariants as history
use Rattle.dk_si.specs.declared.limits.TheConstants.{MAX_ITERATION, SESSIONS}
use Rattle.dk_si.specs.declared.machine.Machine.{Machine}
use Rattle.dk_si.specs.declared.machine.Session.{Session}
use Rattle.dk_si.specs.declared.standing.Cause.{Cause}
use Rattle.dk_si.specs.declared.standing.Cause.TheVariants.{Iteration}
use Rattle.dk_si.specs.declared.standing.Flight.{Flight}
use Rattle.dk_si.specs.declared.standing.Need.{Need}
use Rattle.dk_si.specs.declared.standing.Standing.{Standing}
use Rattle.dk_si.specs.declared.standing.Written.{Written}
use Rattle.dk_si.specs.Exchanges.{is_checkpoint}
use Rattle.dk_si.specs.IsStep.{are_steps, if_there, is_step, may_begin, may_call, may_reply}
use Rattle.dk_si.specs.Laws.{state_after}
use Rattle.dk_si.specs.Machine.{asks_for, first_state, idle, next, session_at}
use Rattle.dk_si.specs.ReplyTests.{has_no_iteration, iteration_of}
use Rattle.dk_si.specs.ShortStanding.{FlightsAreFew, IsShort, StandingIsShort, add_need, as_full, checkpoints}
use Rattle.dk_si.specs.ShortStanding.{fallen, first_place, first_short}
use Rattle.dk_si.specs.ShortStanding.{is_beside, reply_behind, short_and, short_stands_on}
use Rattle.dk_si.specs.ShortStanding.{is_same_cause, unpaid, with_needs}
use Rattle.dk_si.specs.Standing.{FullStanding, are_payable, first_standing, is_of, may_end_all, may_pay, needs_by}
use Rattle.dk_si.specs.Standing.{owes, pays}
use Rattle.dk_si.specs.Standing.{is_settled, standing_and, standing_from, stands_on, stopped_after, written_after}
use Rattle.dk_si.specs.Standing.{written_at}
use Rattle.dk_si.specs.Standing.{written_by}
use Rattle.dk_si.proofs.FrontLemmas.{all_by, any_by}
use Rattle.dk_si.proofs.PlaceLemmas.{found_at, set_length}
use Rattle.dk_si.proofs.SessionStepLemmas.{is_there, next_begun, next_call, next_reply, reply_sets, session_apart}
use Rattle.dk_si.proofs.SessionStepLemmas.{session_set}
use Rattle.dk_si.proofs.ShortIterationLemmas.{Keeps, Rest, left, news, short_of}
use Rattle.dk_si.proofs.ShortLemmas.{Tells, first_tells, goes_on, reply_stands_short}
use Rattle.dk_si.proofs.ShortNeedLemmas.{is_needed_at, needs_here, own_same}
use Rattle.dk_si.proofs.AmongLemmas.{filter_same, filter_twice}
use Rattle.dk_si.proofs.StandingStateLemmas.{all_if, and_turn, need_of}
use Rattle.dk_si.proofs.TestLemmas.{all_filter, all_flat, all_same, any_filter, any_same, every, no_any}

-- lists that rise: each item stands at a place from the first on, behind the one before it, and before the last
abbrev pub Rises : {T : Type 0} → (T → ℕ) → ℕ → ℕ → List T → Type 0
Rises at from to [] = from ≤ to
Rises at from to (x ∷ xs) = (from ≤ at x) × Rises at (at x + 1) to xs

rises_length : {T : Type 0} → (at : T → ℕ) (from to : ℕ) (xs : List T) → Rises at from to xs → length xs + from ≤ to
rises_length at from to [] rises = omega (arith, rises)
rises_length at from to (x ∷ xs) rises =
    let here = rises.0 in
    let more = rises_length at (at x + 1) to xs rises.1 in
    omega (arith, here, more)

rises_lower : {T : Type 0} → (at : T → ℕ) (low from to : ℕ) (xs : List T) → low ≤ from → Rises at from to xs
    → Rises at low to xs
rises_lower at low from to [] less rises = omega (arith, less, rises)
rises_lower at low from to (x ∷ xs) less rises = let here = rises.0 in (omega (arith, less, here), rises.1)

rises_later : {T : Type 0} → (at : T → ℕ) (from to later : ℕ) (xs : List T) → to ≤ later → Rises at from to xs
    → Rises at from later xs
rises_later at from to later [] less rises = omega (arith, less, rises)
rises_later at from to later (x ∷ xs) less rises = (rises.0, rises_later at (at x + 1) to later xs less rises.1)

rises_filter : {T : Type 0} → (at : T → ℕ) (keep : T → Bool) (from to : ℕ) (xs : List T) → Rises at from to xs
    → Rises at from to (filter keep xs)
rises_filter at keep from to [] rises = rises
rises_filter at keep from to (x ∷ xs) rises = by_kept (keep x) (rises_filter at keep (at x + 1) to xs rises.1)
  where
    by_kept : (kept : Bool) → Rises at (at x + 1) to (filter keep xs)
        → Rises at from to (if kept then x ∷ filter keep xs else filter keep xs)
    by_kept true more = (rises.0, more)
    by_kept false more =
        let here = rises.0 in rises_lower at from (at x + 1) to (filter keep xs) (omega (arith, here)) more

rises_one : {T : Type 0} → (at : T → ℕ) (from to : ℕ) (xs : List T) (last : T) → at last ≡ to → Rises at from to xs
    → Rises at from (to + 1) (xs ++ last ∷ [])
rises_one at from to [] last is rises = (omega (arith, rises, is), omega (arith, is))
rises_one at from to (x ∷ xs) last is rises = (rises.0, rises_one at (at x + 1) to xs last is rises.1)

rises_from : {T : Type 0} → (at : T → ℕ) (from low to : ℕ) (xs : List T) → low ≤ to
    → list_all (λ x. not (nat_lt (at x) low)) xs ≡ true
    → Rises at from to xs → Rises at low to xs
rises_from at from low to [] less all rises = less
rises_from at from low to (x ∷ xs) less all rises =
    let h = and_parts (not (nat_lt (at x) low)) _ all in
    (ltb-false (at x) low (not-true (nat_lt (at x) low) h.0), rises.1)

-- at most one more, at the last place
rises_more : {T : Type 0} → (at : T → ℕ) (from to : ℕ) (xs more : List T) → Rises at from to xs → length more ≤ 1
    → list_all (λ x. at x == to) more ≡ true → Rises at from (to + 1) (xs ++ more)
rises_more at from to xs [] rises few here =
    subst (Rises at from (to + 1)) (sym (append-nil xs)) (rises_later at from to (to + 1) xs (omega arith) rises)
rises_more at from to xs (x ∷ []) rises few here =
    rises_one at from to xs x (eqb-true (at x) to (and_parts (at x == to) true here).0) rises
rises_more at from to xs (x ∷ y ∷ more) rises few here = absurd (omega (arith, few))

-- the first of some calls
first_within : (place : ℕ) (flights : List Flight) → first_place place flights ≤ place
first_within place [] = omega arith
first_within place (flight ∷ flights) =
    by_less (nat_lt flight.place (first_place place flights)) refl (first_within place flights)
  where
    by_less : (less : Bool) → nat_lt flight.place (first_place place flights) ≡ less → first_place place flights ≤ place
        → (if less then flight.place else first_place place flights) ≤ place
    by_less true is more =
        let below = ltb-true flight.place (first_place place flights) is in omega (arith, below, more)
    by_less false is more = more

first_below : (place n : ℕ) (test : Flight → Bool) → ((flight : Flight) → test flight ≡ true → flight.place ≤ n)
    → (flights : List Flight) → list_any test flights ≡ true → first_place place flights ≤ n
first_below place n test by [] some = absurd (false≢true some)
first_below place n test by (flight ∷ flights) some =
    by_less (nat_lt flight.place (first_place place flights)) refl (first_below place n test by flights)
    (or_cases (test flight) (list_any test flights) some)
  where
    by_less : (less : Bool) → nat_lt flight.place (first_place place flights) ≡ less
        → (list_any test flights ≡ true → first_place place flights ≤ n)
        → (test flight ≡ true) ⊎ (list_any test flights ≡ true)
        → (if less then flight.place else first_place place flights) ≤ n
    by_less true is rest (inl here) = by flight here
    by_less true is rest (inr later) =
        let below = ltb-true flight.place (first_place place flights) is in
        let more = rest later in
        omega (arith, below, more)
    by_less false is rest (inl here) =
        let above = ltb-false flight.place (first_place place flights) is in
        let more = by flight here in
        omega (arith, above, more)
    by_less false is rest (inr later) = rest later

-- calls of different sessions, each of which has a number up to the last, are few
abbrev pub AreApart : List Flight → Type 0
AreApart flights = (session : ℕ) → length (filter (is_of session) flights) ≤ 1

pub length_filter : {T : Type 0} → (keep : T → Bool) (xs : List T) → length (filter keep xs) ≤ length xs
length_filter keep [] = omega arith
length_filter keep (x ∷ xs) = by_kept (keep x) (length_filter keep xs)
  where
    by_kept : (kept : Bool) → length (filter keep xs) ≤ length xs
        → length (if kept then x ∷ filter keep xs else filter keep xs) ≤ length (x ∷ xs)
    by_kept true more = omega (arith, more)
    by_kept false more = omega (arith, more)

filter_swap : {T : Type 0} → (P Q : T → Bool) (xs : List T) → filter P (filter Q xs) ≡ filter Q (filter P xs)
filter_swap P Q xs = filter_twice P Q xs ∙ (filter_same _ _ xs (λ x. and_turn (Q x) (P x)) ∙ sym (filter_twice Q P xs))

apart_left : (session : ℕ) (flights : List Flight) → AreApart flights → AreApart (left session flights)
apart_left session flights apart other =
    let shorter = length_filter (λ flight. not (is_of session flight)) (filter (is_of other) flights) in
    let one = apart other in
    subst (λ list. length list ≤ 1) (sym (filter_swap (is_of other) (λ flight. not (is_of session flight)) flights))
    (omega (arith, shorter, one))

abbrev pub is_within : ℕ → Flight → Bool
is_within n flight = nat_lt 0 flight.session && nat_lt flight.session (n + 1)

below_apart : (a n : ℕ) → a < suc n + 1 → (suc n ≡ a → ⊥) → a < n + 1
below_apart a n below other =
    ⊎_elim (λ less. less) (λ more. absurd (other (omega (arith, below, more)))) (cases_lt a (n + 1))

within_or_last : (n : ℕ) (flight : Flight) → is_within (suc n) flight ≡ true
    → (suc n ≡ flight.session) ⊎ (suc n ≡ flight.session → ⊥)
    → (not (not (is_of (suc n) flight)) || is_within n flight) ≡ true
within_or_last n flight h (inl same) = ap (λ b. not (not b) || is_within n flight) (eq-eqb (suc n) flight.session same)
within_or_last n flight h (inr other) =
    let k = and_parts (nat_lt 0 flight.session) (nat_lt flight.session (suc n + 1)) h in
    let below = ltb-true flight.session (suc n + 1) k.1 in
    or_right _ (is_within n flight) (and_from (nat_lt 0 flight.session) (nat_lt flight.session (n + 1)) k.0
    (lt-ltb flight.session (n + 1) (below_apart flight.session n below other)))

apart_few : (n : ℕ) (flights : List Flight) → AreApart flights → list_all (is_within n) flights ≡ true
    → length flights ≤ n
apart_few zero [] apart within = omega arith
apart_few zero (flight ∷ flights) apart within =
    let h = and_parts (nat_lt 0 flight.session) (nat_lt flight.session 1) (and_parts (is_within 0 flight) _ within).0 in
    let above = ltb-true 0 flight.session h.0 in
    let below = ltb-true flight.session 1 h.1 in
    absurd (omega (arith, above, below))
apart_few (suc n) flights apart within =
    let others = left (suc n) flights in
    let both = length-filter_both (is_of (suc n)) (λ flight. not (is_of (suc n) flight)) (λ flight. refl) flights in
    let one = apart (suc n) in
    let rest = apart_few n others (apart_left (suc n) flights apart)
    (all_filter (is_within n) (λ flight. not (is_of (suc n) flight)) flights
    ∙ all_by (is_within (suc n)) _ flights (λ flight h. fewer flight h) within) in
    omega (arith, both, one, rest)
  where
    fewer : (flight : Flight) → is_within (suc n) flight ≡ true
        → (not (not (is_of (suc n) flight)) || is_within n flight) ≡ true
    fewer flight h = within_or_last n flight h (cases_eq (suc n) flight.session)

-- the calls in flight are those of sessions that have one, and of one a session
abbrev pub has_call : Session → Bool
has_call session = not (is_none session.asked)

pub record Orderly (machine : Machine) (full : FullStanding) : Type 0 where
  pub apart : AreApart full.flights
  pub calls : (session : ℕ) → list_any (is_of session) full.flights ≡ true
      → if_there has_call (session_at machine.sessions session) ≡ true
  pub all : length machine.sessions ≡ SESSIONS

none_filter : {T : Type 0} → (P : T → Bool) (xs : List T) → list_any P xs ≡ false → filter P xs ≡ []
none_filter P [] none = refl
none_filter P (x ∷ xs) none =
    let h = or_parts (P x) (list_any P xs) none in
    ap (λ (b : Bool). if b then x ∷ filter P xs else filter P xs) h.0 ∙ none_filter P xs h.1

-- a session changes, and the calls in flight of others stay
calls_set : (flights now : List Flight) (sessions : List Session) (number : ℕ) (old new : Session)
    → session_at sessions number ≡ Some old
    → ((session : ℕ) → list_any (is_of session) flights ≡ true → if_there has_call (session_at sessions session) ≡ true)
    → ((session : ℕ) → (number ≡ session → ⊥) → list_any (is_of session) now ≡ true
    → list_any (is_of session) flights ≡ true)
    → (list_any (is_of number) now ≡ true → has_call new ≡ true)
    → (session : ℕ) → list_any (is_of session) now ≡ true
    → if_there has_call (session_at (slice_set sessions (number - 1) new) session) ≡ true
calls_set flights now sessions number old new is calls others own session some = by_same (cases_eq number session)
  where
    by_same : (number ≡ session) ⊎ (number ≡ session → ⊥)
        → if_there has_call (session_at (slice_set sessions (number - 1) new) session) ≡ true
    by_same (inl same) =
        subst (λ n. if_there has_call (session_at (slice_set sessions (number - 1) new) n) ≡ true) same
        (ap (if_there has_call) (session_set sessions number old new is)
        ∙ own (subst (λ n. list_any (is_of n) now ≡ true) (sym same) some))
    by_same (inr apart) =
        ap (if_there has_call) (session_apart sessions number session new (found_at sessions number old is).1 apart)
        ∙ calls session (others session apart some)

orderly_call : (opened : List Table) (machine : Machine) (full : FullStanding) → Orderly machine full
    → (number : ℕ) (asked : Asked)
    → if_there (may_call asked) (session_at machine.sessions number) ≡ true
    → (it : ℕ) → Orderly (next opened machine (history.Call number asked))
    (standing_and it full (history.Call number asked))
orderly_call opened machine full orderly number asked may it =
    let there = is_there (may_call asked) (session_at machine.sessions number) may in
    let new : Session = record there.session { asked = Some asked; last = None } in
    let call : Flight = record {
      session = number;
      place = full.place;
      checkpoint = asks_for is_checkpoint
          (Some asked);
    } in
    let none = none_yet there.session there.is (and_parts (is_none there.session.asked) _ there.passes).0 in
    subst (λ now. Orderly now (standing_and it full (history.Call number asked)))
    (sym (next_call opened machine number asked there.session there.is))
    (record {
      apart = λ session. one_more session call none;
      calls =
          calls_set full.flights (full.flights ++ call ∷ []) machine.sessions number there.session new there.is orderly.calls
          (λ session apart some. ⊎_elim (λ h. h)
          (λ h. absurd (apart (sym (eqb-true session number
          (⊎_elim (λ k. k) (λ k. absurd (false≢true k)) (or_cases (session == number) false h))))))
          (or_cases _ _ (sym (list_any-append (is_of session) full.flights (call ∷ [])) ∙ some)))
          (λ some. refl);
      all = set_length machine.sessions (number - 1) new ∙ orderly.all;
    })
  where
    none_yet : (session : Session) → session_at machine.sessions number ≡ Some session → is_none session.asked ≡ true
        → list_any (is_of number) full.flights ≡ false
    none_yet session is none = by_any (list_any (is_of number) full.flights) refl
      where
        by_any : (some : Bool) → list_any (is_of number) full.flights ≡ some → some ≡ false
        by_any true any =
            absurd (false≢true (sym (ap not none) ∙ (sym (ap (if_there has_call) is) ∙ orderly.calls number any)))
        by_any false any = refl

    one_more : (session : ℕ) (call : Flight) → list_any (is_of call.session) full.flights ≡ false
        → length (filter (is_of session) (full.flights ++ call ∷ [])) ≤ 1
    one_more session call none = by_same (session == call.session) refl
      where
        by_same : (same : Bool) → (session == call.session) ≡ same
            → length (filter (is_of session) (full.flights ++ call ∷ [])) ≤ 1
        by_same true is =
            let empty = none_filter (is_of session) full.flights
            (ap (λ n. list_any (is_of n) full.flights) (eqb-true session call.session is) ∙ none) in
            subst (λ list. length list ≤ 1)
            (sym (filter-append (is_of session) full.flights (call ∷ [])
            ∙ (ap (λ list. list ++ filter (is_of session) (call ∷ [])) empty
            ∙ ap (λ (b : Bool). if b then call ∷ [] else []) is)))
            (omega arith)
        by_same false is =
            subst (λ list. length list ≤ 1)
            (sym (filter-append (is_of session) full.flights (call ∷ [])
            ∙ (ap (λ (b : Bool). filter (is_of session) full.flights ++ (if b then call ∷ [] else [])) is
            ∙ append-nil (filter (is_of session) full.flights))))
            (orderly.apart session)

orderly_begun : (opened : List Table) (machine : Machine) (full : FullStanding) → Orderly machine full
    → (number transaction start : ℕ)
    → if_there (may_begin machine transaction start) (session_at machine.sessions number) ≡ true
    → (it : ℕ) → Orderly (next opened machine (history.Begun number transaction start))
    (standing_and it full (history.Begun number transaction start))
orderly_begun opened machine full orderly number transaction start may it =
    let there = is_there (may_begin machine transaction start) (session_at machine.sessions number) may in
    subst (λ now. Orderly now (standing_and it full (history.Begun number transaction start)))
    (sym (next_begun opened machine number transaction start there.session there.is))
    (record {
      apart = orderly.apart;
      calls = calls_set full.flights full.flights machine.sessions number there.session _ there.is orderly.calls
          (λ session apart some. some)
          (λ some. sym (ap (if_there has_call) there.is) ∙ orderly.calls number some);
      all = set_length machine.sessions (number - 1) _ ∙ orderly.all;
    })

not_and : (b : Bool) → false ≡ (not b && b)
not_and true = refl
not_and false = refl

none_left : (number : ℕ) (flights : List Flight) → list_any (is_of number) (left number flights) ≡ true → ⊥
none_left number flights some =
    false≢true (sym (no_any flights)
    ∙ (any_same (λ flight. false) (λ flight. not (is_of number flight) && is_of number flight) flights
    (λ flight. not_and (is_of number flight))
    ∙ (sym (any_filter (is_of number) (λ flight. not (is_of number flight)) flights) ∙ some)))

orderly_reply : (opened : List Table) (before : List Entry) (machine : Machine) (full : FullStanding)
    → Orderly machine full → (number : ℕ) (reply : Reply)
    → if_there (may_reply opened number before machine reply) (session_at machine.sessions number) ≡ true
    → (it : ℕ) → Orderly (next opened machine (history.Reply number reply))
    (standing_and it full (history.Reply number reply))
orderly_reply opened before machine full orderly number reply may it =
    let there = is_there (may_reply opened number before machine reply) (session_at machine.sessions number) may in
    let old = there.session in
    let sets = reply_sets opened machine number old.transaction old.asked old.writes old.last reply in
    subst (λ now. Orderly now (standing_and it full (history.Reply number reply)))
    (sym (next_reply opened machine number reply old there.is))
    (record {
      apart = apart_left number full.flights orderly.apart;
      calls = λ session some. ap (λ list. if_there has_call (session_at list session)) sets.is
          ∙ calls_set full.flights (left number full.flights) machine.sessions number old sets.new there.is orderly.calls
          (λ other apart any. any_by _ (is_of other) full.flights
          (λ flight h. (and_parts (not (is_of number flight)) (is_of other flight) h).1)
          (sym (any_filter (is_of other) (λ flight. not (is_of number flight)) full.flights) ∙ any))
          (λ any. absurd (none_left number full.flights any)) session some;
      all = ap length sets.is ∙ (set_length machine.sessions (number - 1) sets.new ∙ orderly.all);
    })

orderly_step : (opened : List Table) (before : List Entry) (machine : Machine) (full : FullStanding)
    → Orderly machine full → (entry : Entry)
    → is_step opened before machine entry ≡ true → (it : ℕ)
    → Orderly (next opened machine entry) (standing_and it full entry)
orderly_step opened before machine full orderly (history.Call number asked) may it =
    orderly_call opened machine full orderly number asked may it
orderly_step opened before machine full orderly (history.Begun number transaction start) may it =
    orderly_begun opened machine full orderly number transaction start may it
orderly_step opened before machine full orderly (history.Reply number reply) may it =
    orderly_reply opened before machine full orderly number reply may it

-- so they are as many as the sessions at most
within_all : (n : ℕ) (flights : List Flight)
    → ((session : ℕ) → list_any (is_of session) flights ≡ true → (nat_lt 0 session && nat_lt session (n + 1)) ≡ true)
    → list_all (is_within n) flights ≡ true
within_all n [] each = refl
within_all n (flight ∷ flights) each =
    and_from (is_within n flight) (list_all (is_within n) flights)
    (each flight.session (or_left _ _ (eq-eqb flight.session flight.session refl)))
    (within_all n flights (λ session some. each session (or_right (is_of session flight) _ some)))

flights_few : (machine : Machine) (full : FullStanding) → Orderly machine full → length full.flights ≤ SESSIONS
flights_few machine full orderly =
    apart_few SESSIONS full.flights orderly.apart
    (within_all SESSIONS full.flights (λ session some.
    let there = is_there has_call (session_at machine.sessions session) (orderly.calls session some) in
    let h = found_at machine.sessions session there.session there.is in
    let above = h.1 in
    let within = slice_get_within machine.sessions (session - 1) there.session h.0 in
    let all = orderly.all in
    and_from (nat_lt 0 session) (nat_lt session (SESSIONS + 1)) (lt-ltb 0 session above)
    (lt-ltb session (SESSIONS + 1) (omega (arith, above, within, all)))))

-- a reply adds one iteration at most, and one need
few_of : {U : Type 0} → (owns : Flight → Bool) (make : Flight → List U) → ((flight : Flight) → length (make flight) ≤ 1)
    → (flights : List Flight) → length
    (flat_map (λ flight. if owns flight then make flight else []) flights) ≤ length (filter owns flights)
few_of owns make one [] = omega arith
few_of {U = U} owns make one (flight ∷ flights) = by_own (owns flight) (few_of owns make one flights)
  where
    rest : List U
    rest = flat_map (λ other. if owns other then make other else []) flights

    by_own : (own : Bool) → length rest ≤ length (filter owns flights)
        → length ((if own then make flight else []) ++ rest) ≤ length
        (if own then flight ∷ filter owns flights else filter owns flights)
    by_own true more =
        let here = one flight in
        let both = length-append (make flight) rest in
        omega (arith, here, more, both)
    by_own false more = more

written_one : (place : ℕ) (flight : Flight) (iteration : Option ℕ) → length (written_at place flight iteration) ≤ 1
written_one place flight None = omega arith
written_one place flight (Some iteration) = omega arith

news_few : (full : FullStanding) (session : ℕ) (reply : Reply) → AreApart full.flights
    → length (news full session reply) ≤ 1
news_few full session reply apart =
    let few = few_of (is_of session)
    (λ flight. written_at full.place flight (if flight.checkpoint then iteration_of reply else None))
    (λ flight. written_one full.place flight (if flight.checkpoint then iteration_of reply else None)) full.flights in
    let one = apart session in
    omega (arith, few, one)

news_here : (full : FullStanding) (session : ℕ) (reply : Reply)
    → list_all (λ written. written.place == full.place) (news full session reply) ≡ true
news_here full session reply =
    all_flat (λ written. written.place == full.place) (written_by session full.place reply) full.flights
    ∙ (all_same _ (λ flight. true) full.flights
    (λ flight. all_if (λ written. written.place == full.place) _ (is_of session flight)
    ∙ or_right (not (is_of session flight)) _
    (at_place flight (if flight.checkpoint then iteration_of reply else None)))
    ∙ every full.flights)
  where
    at_place : (flight : Flight) (iteration : Option ℕ)
        → list_all (λ (written : Written). written.place == full.place) (written_at full.place flight iteration)
        ≡ true
    at_place flight None = refl
    at_place flight (Some i) = and_from (full.place == full.place) true (eq-eqb full.place full.place refl) refl

owes_one : (opened : ℕ) (checkpoint : Bool) (reply : Reply) → length (owes opened checkpoint reply) ≤ 1
owes_one opened false (told.Checkpointed i) = omega arith
owes_one opened true (told.Checkpointed i) = by_opened (i - 1 == opened)
  where
    by_opened : (same : Bool) → length (if same then [] else Iteration (i - 1) ∷ []) ≤ 1
    by_opened true = omega arith
    by_opened false = omega arith
owes_one opened checkpoint (told.Refused (why.Stopped first)) = omega arith
owes_one opened false (told.Refused (why.Exhausted numbers)) = omega arith
owes_one opened true (told.Refused (why.Exhausted numbers)) =
    by_none (has_no_iteration (why.Exhausted numbers)) (MAX_ITERATION == opened)
  where
    by_none : (none same : Bool) → length (if none then (if same then [] else Iteration MAX_ITERATION ∷ []) else []) ≤ 1
    by_none false same = omega arith
    by_none true true = omega arith
    by_none true false = omega arith
owes_one opened checkpoint (told.Refused other) = omega arith
owes_one opened checkpoint other = omega arith

own_few : (opened : ℕ) (full : FullStanding) (session : ℕ) (reply : Reply) → AreApart full.flights
    → length (flat_map (needs_by opened full session reply) full.flights) ≤ 1
own_few opened full session reply apart =
    let one = apart session in
    let few = few_of (is_of session) (λ flight. map need (filter unsettled (owes opened flight.checkpoint reply)))
    (λ flight.
    let same = length-map (filter unsettled (owes opened flight.checkpoint reply)) need in
    let shorter = length_filter unsettled (owes opened flight.checkpoint reply) in
    let owed = owes_one opened flight.checkpoint reply in
    omega (arith, same, shorter, owed)) full.flights in
    omega (arith, few, one)
  where
    need : Cause → Need
    need cause = need_of cause full.place

    unsettled : Cause → Bool
    unsettled cause = not (is_settled (stopped_after full session reply) (written_after full session reply) cause)

abbrev pub at_written : Written → ℕ
at_written written = written.place

abbrev pub at_need : Need → ℕ
at_need need = need.place

rises_add : (place : ℕ) (needs : List Need) (need : Need) → need.place ≡ place → Rises at_need 0 place needs
    → Rises at_need 0 (place + 1) (add_need needs need)
rises_add place needs need is rises = by_there (list_any (λ other. is_same_cause other.cause need.cause) needs)
  where
    by_there : (there : Bool) → Rises at_need 0 (place + 1) (if there then needs else needs ++ need ∷ [])
    by_there true = rises_later at_need 0 place (place + 1) needs (omega arith) rises
    by_there false = rises_one at_need 0 place needs need is rises

rises_with : (place : ℕ) (needs more : List Need) → Rises at_need 0 place needs → length more ≤ 1
    → list_all (is_needed_at place) more ≡ true
    → Rises at_need 0 (place + 1) (with_needs needs more)
rises_with place needs [] rises few here = rises_later at_need 0 place (place + 1) needs (omega arith) rises
rises_with place needs (need ∷ []) rises few here =
    rises_add place needs need (eqb-true need.place place (and_parts (need.place == place) true here).0) rises
rises_with place needs (need ∷ other ∷ more) rises few here = absurd (omega (arith, few))

-- the needs that are kept rise, and a call in flight may settle each of them
pub record Small (short : Standing) : Type 0 where
  pub rises : Rises at_need 0 short.place short.needs
  pub payable : are_payable (as_full short) ≡ true

fallen_small : (place : ℕ) → Small (fallen place)
fallen_small place = record { rises = omega arith; payable = refl }

reply_small : (opened session : ℕ) (reply : Reply) (full : FullStanding) (rest : Rest) → Keeps full rest
    → AreApart full.flights → Small (short_of full rest)
    → Small (short_and opened (short_of full rest) (history.Reply session reply))
reply_small opened session reply full rest keeps apart small =
    by_stands (short_stands_on opened (short_of full rest) (history.Reply session reply)) refl
  where
    by_stands : (stands : Bool) → short_stands_on opened (short_of full rest) (history.Reply session reply) ≡ stands
        → Small (if stands then reply_behind opened (short_of full rest) session reply else fallen (full.place + 1))
    by_stands false is = fallen_small (full.place + 1)
    by_stands true is =
        let may = (and_parts (may_end_all opened full session reply) _
        (reply_stands_short opened session reply full rest keeps ∙ is)).0 in
        let paid : Need → Bool = λ need. not (list_any (pays session reply need) full.flights) in record {
          rises = subst (λ own. Rises at_need 0 (full.place + 1) (with_needs (unpaid
              (short_of full rest) session reply) own))
              (own_same opened session reply full rest keeps may)
              (rises_with full.place (unpaid (short_of full rest) session reply)
              (flat_map (needs_by opened full session reply) full.flights)
              (rises_filter at_need paid 0 full.place rest.needs small.rises)
              (own_few opened full session reply apart) (needs_here opened session reply full));
          payable = (and_parts _ (are_payable (as_full (reply_behind opened (short_of full rest) session reply))) is).1;
        }

well_small : (opened : ℕ) (full : FullStanding) (rest : Rest) → Keeps full rest → AreApart full.flights
    → Small (short_of full rest) → (entry : Entry)
    → Small (short_and opened (short_of full rest) entry)
well_small opened full rest keeps apart small (history.Call session asked) = record {
  rises = rises_later at_need 0 full.place (full.place + 1) rest.needs (omega arith) small.rises;
  payable = all_by (λ need. list_any (may_pay need) full.flights) _ rest.needs
      (λ need h. list_any-append (may_pay need) full.flights _
      ∙ or_left (list_any (may_pay need) full.flights) _ h) small.payable;
}
well_small opened full rest keeps apart small (history.Begun session number start) = record {
  rises = rises_later at_need 0 full.place (full.place + 1) rest.needs (omega arith) small.rises;
  payable = small.payable;
}
well_small opened full rest keeps apart small (history.Reply session reply) =
    reply_small opened session reply full rest keeps apart small

gone_small : (opened place : ℕ) (entry : Entry) → Small (short_and opened (fallen place) entry)
gone_small opened place (history.Call session asked) = fallen_small (place + 1)
gone_small opened place (history.Begun session number start) = fallen_small (place + 1)
gone_small opened place (history.Reply session reply) = fallen_small (place + 1)

step_small : (opened : ℕ) (well : Bool) (full : FullStanding) (short : Standing) → Tells well full short
    → AreApart full.flights → Small short → (entry : Entry)
    → Small (short_and opened short entry)
step_small opened true full short tells apart small entry =
    subst (λ now. Small (short_and opened now entry)) (sym tells.is)
    (well_small opened full tells.rest tells.keeps apart (subst Small tells.is small) entry)
step_small opened false full short tells apart small entry =
    subst (λ now. Small (short_and opened now entry)) (sym tells) (gone_small opened full.place entry)

-- the iterations of the full standing rise
rises_step : (opened : ℕ) (full : FullStanding) → AreApart full.flights → (entry : Entry)
    → Rises at_written 0 full.place full.written
    → Rises at_written 0 (standing_and opened full entry).place (standing_and opened full entry).written
rises_step opened full apart (history.Call session asked) rises =
    rises_later at_written 0 full.place (full.place + 1) full.written (omega arith) rises
rises_step opened full apart (history.Begun session number start) rises =
    rises_later at_written 0 full.place (full.place + 1) full.written (omega arith) rises
rises_step opened full apart (history.Reply session reply) rises =
    rises_more at_written 0 full.place full.written (news full session reply) rises
    (news_few full session reply apart) (news_here full session reply)

-- what holds of a list of steps
pub record Goes (machine : Machine) (full : FullStanding) (short : Standing) : Type 0 where
  pub well : Bool
  pub tells : Tells well full short
  pub orderly : Orderly machine full
  pub rises : Rises at_written 0 full.place full.written
  pub small : Small short

goes_from : (opened : List Table) (it : ℕ) (before : List Entry) (machine : Machine) (full : FullStanding)
    (short : Standing) → Goes machine full short
    → (entries : List Entry) → are_steps opened before machine entries ≡ true
    → Goes (state_after opened machine entries) (standing_from it full entries) (fold (short_and it) short entries)
goes_from opened it before machine full short goes [] steps = goes
goes_from opened it before machine full short goes (entry ∷ entries) steps =
    let h = and_parts (is_step opened before machine entry) _ steps in
    goes_from opened it (before ++ entry ∷ []) (next opened machine entry) (standing_and it full entry)
    (short_and it short entry)
    (record {
      well = goes.well && stands_on it full entry;
      tells = (goes_on it goes.well full short goes.tells entry).tells;
      orderly = orderly_step opened before machine full goes.orderly entry h.0 it;
      rises = rises_step it full goes.orderly.apart entry goes.rises;
      small = step_small it goes.well full short goes.tells goes.orderly.apart goes.small entry;
    }) entries h.1

first_goes : Goes first_state first_standing first_short
first_goes = record {
  well = true;
  tells = first_tells;
  orderly = record {
    apart = λ session. omega arith;
    calls = λ session some. absurd (false≢true some);
    all = length-replicate SESSIONS idle;
  };
  rises = omega arith;
  small = record { rises = omega arith; payable = refl };
}

-- and so it is short
written_few : (full : FullStanding) → Rises at_written 0 full.place full.written
    → length (filter (is_beside full.flights) full.written) ≤ full.place - first_place full.place
    (checkpoints full.flights)
written_few full rises =
    let first = first_place full.place (checkpoints full.flights) in
    let within = first_within full.place (checkpoints full.flights) in
    let few = rises_length at_written first full.place (filter (is_beside full.flights) full.written)
    (rises_from at_written 0 first full.place (filter (is_beside full.flights) full.written) within
    (all_filter (λ (written : Written). not (nat_lt written.place first)) (is_beside full.flights) full.written
    ∙ (all_same _ (λ (written : Written). true) full.written
    (λ written. since written (is_beside full.flights written) refl) ∙ every full.written))
    (rises_filter at_written (is_beside full.flights) 0 full.place full.written rises)) in
    omega (arith, within, few)
  where
    since : (written : Written) (beside : Bool) → is_beside full.flights written ≡ beside
        → (not beside || not (nat_lt written.place (first_place full.place (checkpoints full.flights)))) ≡ true
    since written false is = refl
    since written true is =
        ap not (le-ltb written.place (first_place full.place (checkpoints full.flights))
        (first_below full.place written.place (λ flight. not (nat_lt written.place flight.place))
        (λ flight h. ltb-false written.place flight.place (not-true (nat_lt written.place flight.place) h))
        (checkpoints full.flights)
        (any_filter (λ flight. not (nat_lt written.place flight.place)) (λ flight. flight.checkpoint) full.flights
        ∙ is)))

needs_few : (short : Standing) → Small short → length short.needs ≤ short.place - first_place short.place short.flights
needs_few short small =
    let first = first_place short.place short.flights in
    let within = first_within short.place short.flights in
    let few = rises_length at_need first short.place short.needs
    (rises_from at_need 0 first short.place short.needs within
    (all_by (λ need. list_any (may_pay need) short.flights) _ short.needs
    (λ need h. ap not (le-ltb need.place first
    (first_below short.place need.place (may_pay need)
    (λ flight k. let less = ltb-true flight.place need.place
    (and_parts (nat_lt flight.place need.place) _ k).0 in omega (arith, less))
    short.flights h))) small.payable)
    small.rises) in
    omega (arith, within, few)

short_well : (well : Bool) (machine : Machine) (full : FullStanding) (short : Standing) → Tells well full short
    → Orderly machine full
    → Rises at_written 0 full.place full.written → Small short → IsShort short
short_well true machine full short tells orderly rises small =
    subst IsShort (sym tells.is)
    (record {
      flights = flights_few machine full orderly;
      written = written_few full rises;
      needs = needs_few (short_of full tells.rest) (subst Small tells.is small);
    })
short_well false machine full short tells orderly rises small =
    subst IsShort (sym tells) (record { flights = omega arith; written = omega arith; needs = omega arith })

pub standing_is_short : StandingIsShort
standing_is_short opened iteration entries steps =
    let goes = goes_from opened iteration [] first_state first_standing first_short first_goes entries steps in
    short_well goes.well (state_after opened first_state entries) (standing_from iteration first_standing entries)
    (fold (short_and iteration) first_short entries)
    goes.tells goes.orderly goes.rises goes.small

pub flights_are_few : FlightsAreFew
flights_are_few opened iteration entries steps =
    let goes = goes_from opened iteration [] first_state first_standing first_short first_goes entries steps in
    flights_few (state_after opened first_state entries) (standing_from iteration first_standing entries) goes.orderly
