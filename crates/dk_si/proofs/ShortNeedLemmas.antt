-- Of the needs of one cause, the earliest says what the others do.
use Rattle.std.proofs.Common.{arith, ◌≡◌, ◌⊎◌, inl, inr, ⊎_elim, ℕ, ◌+◌, ◌-◌, ◌<◌, ◌≤◌, Bool, true, false, List, []}
use Rattle.std.proofs.Common.{◌∷◌, ◌++◌, map, Some, ap, ◌∙◌, sym, refl, subst}
use Rattle.std.specs.Prelude.{◌&&◌, ◌||◌, not, ◌==◌, nat_lt, if◌then◌else◌}
use Rattle.std.specs.List.{filter, flat_map, list_all, list_any}
use Rattle.std.proofs.lemmas.Bool.{false≢true, or_cases, and_from, and_parts, or_left, or_right, ltb-true, lt-ltb}
use Rattle.std.proofs.lemmas.Bool.{eq-eqb, eqb-true, cases_lt}
use Rattle.std.proofs.lemmas.List.Folds.{list_all-append, list_any-append, list_all-map}
use Rattle.dk_types.specs.declared.reply.Reply.{Reply}
use Rattle.dk_types.specs.declared.reply.Reply.TheVariants as told
use Rattle.dk_types.specs.declared.reply.Refusal.TheVariants as why
use Rattle.dk_si.specs.declared.limits.TheConstants.{MAX_ITERATION}
use Rattle.dk_si.specs.declared.standing.Cause.{Cause}
use Rattle.dk_si.specs.declared.standing.Cause.TheVariants.{Stop, Iteration}
use Rattle.dk_si.specs.declared.standing.Flight.{Flight}
use Rattle.dk_si.specs.declared.standing.Need.{Need}
use Rattle.dk_si.specs.declared.standing.Standing.{Standing}
use Rattle.dk_si.specs.declared.standing.Written.{Written}
use Rattle.dk_si.specs.ReplyTests.{has_no_iteration, iteration_of}
use Rattle.dk_si.specs.Standing.{FullStanding, is_of, is_settled, iterates}
use Rattle.dk_si.specs.Standing.{may_end, may_end_all, may_pay, needs_after, needs_by, owes, pays, settles}
use Rattle.dk_si.specs.Standing.{stopped_after, waits}
use Rattle.dk_si.specs.ShortStanding.{add_need, as_full, is_beside}
use Rattle.dk_si.specs.ShortStanding.{is_last, is_passed, is_same_cause, rises}
use Rattle.dk_si.specs.ShortStanding.{short_needs_after, short_needs_by, unpaid, with_needs}
use Rattle.dk_si.proofs.ForwardLemmas.{and_assoc, and_true}
use Rattle.dk_si.proofs.FrontLemmas.{all_by, any_by}
use Rattle.dk_si.proofs.StandingStateLemmas.{all_if, and_on, need_of, or_turn}
use Rattle.dk_si.proofs.TestLemmas.{all_filter, all_flat, all_same, every, twice}
use Rattle.dk_si.proofs.AmongLemmas.{IsAmong, all_among, filter_map_filter, flat_same_among}
use Rattle.dk_si.proofs.ShortIterationLemmas.{IsMonotone, Keeps, Rest, any_absorbs, is_needed_before, iterates_short}
use Rattle.dk_si.proofs.ShortIterationLemmas.{iteration_split, news, short_of}

-- needs of one cause
same_causes : (a b : Cause) → is_same_cause a b ≡ true → a ≡ b
same_causes Stop Stop e = refl
same_causes Stop (Iteration second) e = absurd (false≢true e)
same_causes (Iteration first) Stop e = absurd (false≢true e)
same_causes (Iteration first) (Iteration second) e = ap Iteration (eqb-true first second e)

cause_passes : (test : Need → Bool) → IsMonotone test → (need : Need) (needs : List Need)
    → list_any (λ other. is_same_cause other.cause need.cause) needs ≡ true
    → list_all (is_needed_before (need.place + 1)) needs ≡ true → list_all test needs ≡ true → test need ≡ true
cause_passes test mono need [] there early all = absurd (false≢true there)
cause_passes test mono need (other ∷ needs) there early all =
    let passes = and_parts (test other) (list_all test needs) all in
    let before = and_parts (nat_lt other.place (need.place + 1)) _ early in
    ⊎_elim
    (λ same.
    let less = ltb-true other.place (need.place + 1) before.0 in
    mono need.cause other.place need.place (omega (arith, less))
    (subst (λ cause. test (need_of cause other.place) ≡ true) (same_causes other.cause need.cause same) passes.0))
    (λ rest. cause_passes test mono need needs rest before.1 passes.1)
    (or_cases (is_same_cause other.cause need.cause) _ there)

all_add : (test : Need → Bool) → IsMonotone test → (need : Need) (needs : List Need)
    → list_all (is_needed_before (need.place + 1)) needs ≡ true
    → list_all test (add_need needs need) ≡ (list_all test needs && test need)
all_add test mono need needs early =
    by_there (list_any (λ other. is_same_cause other.cause need.cause) needs) refl
  where
    absorbed : (a b : Bool) → (a ≡ true → b ≡ true) → a ≡ (a && b)
    absorbed true b by = sym (by refl)
    absorbed false b by = refl

    by_there : (there : Bool) → list_any (λ other. is_same_cause other.cause need.cause) needs ≡ there
        → list_all test (if there then needs else needs ++ need ∷ []) ≡ (list_all test needs && test need)
    by_there true is = absorbed (list_all test needs) (test need) (cause_passes test mono need needs is early)
    by_there false is =
        list_all-append test needs (need ∷ []) ∙ ap (λ b. list_all test needs && b) (and_true (test need))

holds_add : (P : Need → Bool) (need : Need) (needs : List Need) → list_all P needs ≡ true → P need ≡ true
    → list_all P (add_need needs need) ≡ true
holds_add P need needs all is = by_there (list_any (λ other. is_same_cause other.cause need.cause) needs)
  where
    by_there : (there : Bool) → list_all P (if there then needs else needs ++ need ∷ []) ≡ true
    by_there true = all
    by_there false =
        list_all-append P needs (need ∷ [])
        ∙ and_from (list_all P needs) (P need && true) all (and_from (P need) true is refl)

pub holds_with : (P : Need → Bool) (needs more : List Need) → list_all P needs ≡ true → list_all P more ≡ true
    → list_all P (with_needs needs more) ≡ true
holds_with P needs [] all rest = all
holds_with P needs (need ∷ more) all rest =
    let h = and_parts (P need) (list_all P more) rest in
    holds_with P (add_need needs need) more (holds_add P need needs all h.0) h.1

abbrev pub is_needed_at : ℕ → Need → Bool
is_needed_at place need = need.place == place

all_with : (test : Need → Bool) → IsMonotone test → (place : ℕ) (needs more : List Need)
    → list_all (is_needed_before (place + 1)) needs ≡ true
    → list_all (is_needed_at place) more ≡ true
    → list_all test (with_needs needs more) ≡ (list_all test needs && list_all test more)
all_with test mono place needs [] early here = and_on (list_all test needs)
all_with test mono place needs (need ∷ more) early here =
    let h = and_parts (need.place == place) (list_all (is_needed_at place) more) here in
    let is = eqb-true need.place place h.0 in
    all_with test mono place (add_need needs need) more
    (holds_add (is_needed_before (place + 1)) need needs early (lt-ltb need.place (place + 1) (omega (arith, is)))) h.1
    ∙ (ap (λ b. b && list_all test more)
    (all_add test mono need needs (subst (λ n. list_all (is_needed_before (n + 1)) needs ≡ true) (sym is) early))
    ∙ sym (and_assoc (list_all test needs) (test need) (list_all test more)))

-- what a reply needs, and which of it is settled
owed_same : (P Q : Cause → Bool) (opened : ℕ) (checkpoint : Bool) (reply : Reply)
    → P Stop ≡ Q Stop → P (Iteration MAX_ITERATION) ≡ Q (Iteration MAX_ITERATION)
    → ((i : ℕ) → checkpoint ≡ true → iteration_of reply ≡ Some i → (i - 1 == opened) ≡ false
    → P (Iteration (i - 1)) ≡ Q (Iteration (i - 1)))
    → filter P (owes opened checkpoint reply) ≡ filter Q (owes opened checkpoint reply)
owed_same P Q opened false (told.Checkpointed i) stop last other = refl
owed_same P Q opened true (told.Checkpointed i) stop last other = by_opened (i - 1 == opened) refl
  where
    by_opened : (same : Bool) → (i - 1 == opened) ≡ same
        → filter P (if same then [] else Iteration (i - 1) ∷ []) ≡ filter Q
        (if same then [] else Iteration (i - 1) ∷ [])
    by_opened true is = refl
    by_opened false is = ap (λ (b : Bool). if b then Iteration (i - 1) ∷ [] else []) (other i refl refl is)
owed_same P Q opened checkpoint (told.Refused (why.Stopped first)) stop last other =
    ap (λ (b : Bool). if b then Stop ∷ [] else []) stop
owed_same P Q opened false (told.Refused (why.Exhausted numbers)) stop last other = refl
owed_same P Q opened true (told.Refused (why.Exhausted numbers)) stop last other =
    by_none (has_no_iteration (why.Exhausted numbers)) (MAX_ITERATION == opened)
  where
    by_none : (none same : Bool)
        → filter P (if none then (if same then [] else Iteration MAX_ITERATION ∷ []) else []) ≡ filter Q
        (if none then (if same then [] else Iteration MAX_ITERATION ∷ []) else [])
    by_none false same = refl
    by_none true true = refl
    by_none true false = ap (λ (b : Bool). if b then Iteration MAX_ITERATION ∷ [] else []) last
owed_same P Q opened false (told.Refused other) stop last by = refl
owed_same P Q opened true (told.Refused other) stop last by = refl
owed_same P Q opened false other stop last by = refl
owed_same P Q opened true other stop last by = refl

not_both : (old kept passed new : Bool) → old ≡ (kept || passed) → not (old || new) ≡ (not (kept || new) && not passed)
not_both old true passed new is = ap (λ b. not (b || new)) is
not_both old false true true is = ap (λ b. not (b || true)) is
not_both old false true false is = ap (λ b. not (b || false)) is
not_both old false false true is = ap (λ b. not (b || true)) is
not_both old false false false is = ap (λ b. not (b || false)) is

unsettled : (full : FullStanding) (rest : Rest) (session : ℕ) (reply : Reply) (stopped : Bool) (j : ℕ)
    → list_any (λ written. written.iteration == j) full.written
    ≡ (list_any (λ written. written.iteration == j) (filter (is_beside full.flights) full.written) || is_passed
    (short_of full rest) (Iteration j))
    → not (is_settled stopped (full.written ++ news full session reply) (Iteration j))
    ≡ (not (is_settled stopped (filter (is_beside full.flights) full.written ++ news full session reply)
    (Iteration j)) && not (is_passed (short_of full rest) (Iteration j)))
unsettled full rest session reply stopped j is =
    let same : Written → Bool = λ written. written.iteration == j in
    let new = news full session reply in
    ap not (list_any-append same full.written new)
    ∙ (not_both (list_any same full.written) (list_any same (filter (is_beside full.flights) full.written))
    (is_passed (short_of full rest) (Iteration j)) (list_any same new) is
    ∙ ap (λ b. not b && not (is_passed (short_of full rest) (Iteration j)))
    (sym (list_any-append same (filter (is_beside full.flights) full.written) new)))

last_passed : (full : FullStanding) (rest : Rest) → Keeps full rest → (j : ℕ) → j ≡ MAX_ITERATION
    → list_any (λ written. written.iteration == j) full.written
    ≡ (list_any (λ written. written.iteration == j) (filter (is_beside full.flights) full.written) || is_passed
    (short_of full rest) (Iteration j))
last_passed full rest keeps j is =
    subst (λ n. list_any (λ (written : Written). written.iteration == n) full.written
    ≡ (list_any (λ written. written.iteration == n) (filter (is_beside full.flights) full.written) || is_passed
    (short_of full rest) (Iteration n)))
    (sym is)
    (sym (any_absorbs is_last (is_beside full.flights) full.written)
    ∙ (or_turn (list_any is_last full.written) (list_any is_last (filter (is_beside full.flights) full.written))
    ∙ ap (λ b. list_any is_last (filter (is_beside full.flights) full.written) || b)
    (sym keeps.spent ∙ sym (ap (λ (b : Bool). if b then rest.spent else rest.greatest == MAX_ITERATION)
    (eq-eqb MAX_ITERATION MAX_ITERATION refl)))))

next_passed : (full : FullStanding) (rest : Rest) → Keeps full rest → (j : ℕ) → nat_lt 0 j ≡ true
    → nat_lt rest.greatest (j + 1) ≡ true
    → list_any (λ written. written.iteration == j) full.written
    ≡ (list_any (λ written. written.iteration == j) (filter (is_beside full.flights) full.written) || is_passed
    (short_of full rest) (Iteration j))
next_passed full rest keeps j above under = by_last (j == MAX_ITERATION) refl
  where
    by_last : (last : Bool) → (j == MAX_ITERATION) ≡ last
        → list_any (λ written. written.iteration == j) full.written
        ≡ (list_any (λ written. written.iteration == j) (filter (is_beside full.flights) full.written) || is_passed
        (short_of full rest) (Iteration j))
    by_last true is = last_passed full rest keeps j (eqb-true j MAX_ITERATION is)
    by_last false is =
        iteration_split full.flights rest.greatest j full.written above under keeps.greatest
        ∙ ap (λ b. list_any (λ written. written.iteration == j) (filter (is_beside full.flights) full.written) || b)
        (sym (ap (λ (b : Bool). if b then rest.spent else rest.greatest == j) is))

-- the number below an iteration that is above the opened one
below_next : (opened i : ℕ) → nat_lt opened i ≡ true → (i - 1 == opened) ≡ false
    → (nat_lt 0 (i - 1) ≡ true) × (i - 1 + 1 ≡ i)
below_next opened i above apart =
    let less = ltb-true opened i above in
    let other : i - 1 ≡ opened → ⊥ = λ same. false≢true (sym apart ∙ eq-eqb (i - 1) opened same) in
    (lt-ltb 0 (i - 1) (by_zero (cases_lt 0 (i - 1)) less other), omega (arith, less))
  where
    by_zero : (0 < i - 1) ⊎ (i - 1 ≤ 0) → opened < i → (i - 1 ≡ opened → ⊥) → 0 < i - 1
    by_zero (inl more) less other = more
    by_zero (inr none) less other = absurd (other (omega (arith, none, less)))

-- what a call in flight was told, where it may be told so
record Ends (opened session i : ℕ) (full : FullStanding) (rest : Rest) : Type 0 where
  above : nat_lt opened i ≡ true
  rises : nat_lt rest.greatest i ≡ true

ends_with : (opened session : ℕ) (reply : Reply) (full : FullStanding) (rest : Rest) → Keeps full rest
    → may_end_all opened full session reply ≡ true
    → (flight : Flight) → IsAmong full.flights flight → is_of session flight ≡ true → flight.checkpoint ≡ true
    → (i : ℕ) → iteration_of reply ≡ Some i → Ends opened session i full rest
ends_with opened session reply full rest keeps may flight among ours checkpoint i is =
    let ends = all_among (λ other. not (is_of session other)
    || may_end opened full session reply other) full.flights flight may among in
    let one = ap (λ b. not b || may_end opened full session reply flight) (sym ours) ∙ ends in
    let two = (and_parts _ (not flight.checkpoint || iterates opened full session flight (iteration_of reply)) one).1 in
    let three = ap (λ b. not b || iterates opened full session flight (iteration_of reply)) (sym checkpoint) ∙ two in
    let four = ap (iterates opened full session flight) (sym is) ∙ three in
    let five = sym (iterates_short opened session full rest keeps flight among checkpoint (Some i)) ∙ four in
    record {
      above = (and_parts (nat_lt opened i) _ four).0;
      rises = (and_parts (iterates opened (as_full (short_of full rest)) session flight (Some i)) _ five).1;
    }

needs_by_short : (opened session : ℕ) (reply : Reply) (full : FullStanding) (rest : Rest) → Keeps full rest
    → may_end_all opened full session reply ≡ true
    → (flight : Flight) → IsAmong full.flights flight
    → needs_by opened full session reply flight ≡ short_needs_by opened (short_of full rest) session reply flight
needs_by_short opened session reply full rest keeps may flight among = by_ours (is_of session flight) refl
  where
    short : Standing
    short = short_of full rest

    stopped : Bool
    stopped = stopped_after full session reply

    need : Cause → Need
    need cause = need_of cause full.place

    settled : List Written → Cause → Bool
    settled all cause = is_settled stopped (all ++ news full session reply) cause

    by_ours : (ours : Bool) → is_of session flight ≡ ours
        → (if ours then map need (filter (λ cause. not (settled full.written cause))
        (owes opened flight.checkpoint reply)) else [])
        ≡ filter (λ n. not (is_passed short n.cause))
        (if ours then map need (filter (λ cause. not (settled (filter (is_beside full.flights) full.written) cause))
        (owes opened flight.checkpoint reply)) else [])
    by_ours false is = refl
    by_ours true ours =
        ap (map need)
        (owed_same (λ cause. not (settled full.written cause))
        (λ cause. not (settled (filter (is_beside full.flights) full.written) cause) && not
        (is_passed short cause)) opened flight.checkpoint reply
        (and_on (not stopped))
        (unsettled full rest session reply stopped MAX_ITERATION (last_passed full rest keeps MAX_ITERATION refl))
        (λ i checkpoint is apart.
        let ends = ends_with opened session reply full rest keeps may flight among ours checkpoint i is in
        let h = below_next opened i ends.above apart in
        unsettled full rest session reply stopped (i - 1)
        (next_passed full rest keeps (i - 1) h.0 (ap (nat_lt rest.greatest) h.1 ∙ ends.rises))))
        ∙ sym (filter_map_filter (λ (n : Need). not (is_passed short n.cause)) need
        (λ cause. not (settled (filter (is_beside full.flights) full.written) cause))
        (owes opened flight.checkpoint reply))

-- the needs behind a reply
pub later_is : (a m n : ℕ) → m ≤ n → nat_lt a m ≡ true → nat_lt a n ≡ true
later_is a m n more is = let less = ltb-true a m is in lt-ltb a n (omega (arith, less, more))

pub payable_monotone : (flights : List Flight) → IsMonotone (λ need. list_any (may_pay need) flights)
payable_monotone flights cause m n more is =
    any_by (may_pay (need_of cause m)) (may_pay (need_of cause n)) flights
    (λ flight h. let k = and_parts (nat_lt flight.place m) (waits cause flight.checkpoint) h in
    and_from (nat_lt flight.place n) (waits cause flight.checkpoint) (later_is flight.place m n more k.0) k.1) is

paid_monotone : (session : ℕ) (reply : Reply) (flights : List Flight) (test : Need → Bool) → IsMonotone test
    → IsMonotone (λ need. list_any (pays session reply need) flights || test need)
paid_monotone session reply flights test mono cause m n more is =
    ⊎_elim
    (λ paid. or_left _ (test (need_of cause n))
    (any_by (pays session reply (need_of cause m)) (pays session reply (need_of cause n)) flights
    (λ flight h.
    let k = and_parts (is_of session flight) (nat_lt flight.place m && settles cause flight.checkpoint reply) h in
    let l = and_parts (nat_lt flight.place m) (settles cause flight.checkpoint reply) k.1 in
    and_from (is_of session flight) (nat_lt flight.place n && settles cause flight.checkpoint reply) k.0
    (and_from (nat_lt flight.place n) (settles cause flight.checkpoint reply)
    (later_is flight.place m n more l.0) l.1)) paid))
    (λ passes. or_right _ (test (need_of cause n)) (mono cause m n more passes))
    (or_cases (list_any (pays session reply (need_of cause m)) flights) (test (need_of cause m)) is)

all_kept_place : (place : ℕ) (causes : List Cause)
    → list_all (is_needed_at place) (map (λ cause. need_of cause place) causes) ≡ true
all_kept_place place causes =
    list_all-map (is_needed_at place) (λ cause. need_of cause place) causes
    ∙ (all_same (λ (cause : Cause). place == place) (λ cause. true) causes (λ cause. eq-eqb place place refl)
    ∙ every causes)

pub needs_here : (opened session : ℕ) (reply : Reply) (full : FullStanding)
    → list_all (is_needed_at full.place) (flat_map (needs_by opened full session reply) full.flights) ≡ true
needs_here opened session reply full =
    all_flat (is_needed_at full.place) (needs_by opened full session reply) full.flights
    ∙ (all_same _ (λ flight. true) full.flights
    (λ flight. all_if (is_needed_at full.place) _ (is_of session flight)
    ∙ or_right (not (is_of session flight)) _ (all_kept_place full.place _))
    ∙ every full.flights)

all_filtered : {T : Type 0} → (P keep : T → Bool) (xs : List T) → list_all P xs ≡ true
    → list_all P (filter keep xs) ≡ true
all_filtered P keep xs all = all_filter P keep xs ∙ all_by P _ xs (λ x h. or_right (not (keep x)) (P x) h) all

pub before_next : (place : ℕ) (needs : List Need) → list_all (is_needed_before place) needs ≡ true
    → list_all (is_needed_before (place + 1)) needs ≡ true
before_next place needs early =
    all_by (is_needed_before place) (is_needed_before (place + 1)) needs
    (λ need h. later_is need.place place (place + 1) (omega arith) h) early

at_before : (place : ℕ) (needs : List Need) → list_all (is_needed_at place) needs ≡ true
    → list_all (is_needed_before (place + 1)) needs ≡ true
at_before place needs here =
    all_by (is_needed_at place) (is_needed_before (place + 1)) needs
    (λ need h. let is = eqb-true need.place place h in lt-ltb need.place (place + 1) (omega (arith, is))) here

pub own_same : (opened session : ℕ) (reply : Reply) (full : FullStanding) (rest : Rest) → Keeps full rest
    → may_end_all opened full session reply ≡ true
    → flat_map (needs_by opened full session reply) full.flights ≡ flat_map
    (short_needs_by opened (short_of full rest) session reply) full.flights
own_same opened session reply full rest keeps may =
    flat_same_among _ _ full.flights
    (λ flight among. needs_by_short opened session reply full rest keeps may flight among)

pub needs_short : (opened session : ℕ) (reply : Reply) (full : FullStanding) (rest : Rest) → Keeps full rest
    → may_end_all opened full session reply ≡ true
    → (test : Need → Bool) → IsMonotone test
    → list_all test (needs_after opened full session reply) ≡ list_all test
    (short_needs_after opened (short_of full rest) session reply)
needs_short opened session reply full rest keeps may test mono =
    let paid : Need → Bool = λ need. list_any (pays session reply need) full.flights in
    let own = flat_map (needs_by opened full session reply) full.flights in
    let kept = unpaid (short_of full rest) session reply in
    let left_or : (needs : List Need)
    → list_all test (filter (λ need. not (paid need)) needs) ≡ list_all (λ need. paid need || test need) needs =
    λ needs. all_filter test (λ need. not (paid need)) needs
    ∙ all_same _ _ needs (λ need. ap (λ b. b || test need) (sym (twice (paid need)))) in
    list_all-append test (filter (λ need. not (paid need)) full.needs) own
    ∙ (ap (λ b. b && list_all test own)
    (left_or full.needs ∙ (keeps.needs (λ need. paid need || test need)
    (paid_monotone session reply full.flights test mono) ∙ sym (left_or rest.needs)))
    ∙ (sym (all_with test mono full.place kept own
    (before_next full.place kept (all_filtered (is_needed_before full.place)
    (λ need. not (paid need)) rest.needs keeps.needs_early))
    (needs_here opened session reply full))
    ∙ ap (λ list. list_all test (with_needs kept list)) (own_same opened session reply full rest keeps may)))

pub needs_early_short : (opened session : ℕ) (reply : Reply) (full : FullStanding) (rest : Rest) → Keeps full rest
    → may_end_all opened full session reply ≡ true
    → list_all (is_needed_before (full.place + 1)) (short_needs_after opened (short_of full rest) session reply) ≡ true
needs_early_short opened session reply full rest keeps may =
    let kept = unpaid (short_of full rest) session reply in
    ap (λ list. list_all (is_needed_before (full.place + 1)) (with_needs kept list))
    (sym (own_same opened session reply full rest keeps may))
    ∙ holds_with (is_needed_before (full.place + 1)) kept (flat_map (needs_by opened full session reply) full.flights)
    (before_next full.place kept (all_filtered (is_needed_before full.place) _ rest.needs keeps.needs_early))
    (at_before full.place _ (needs_here opened session reply full))
