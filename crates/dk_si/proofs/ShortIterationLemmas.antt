-- Of the iterations that were answered, what is kept says what the others do.
use Rattle.std.proofs.Common.{arith, ◌≡◌, ◌⊎◌, inl, inr, ℕ, ◌+◌, ◌-◌, ◌<◌, ◌≤◌, Bool, true, false, List, [], ◌∷◌}
use Rattle.std.proofs.Common.{◌++◌, Option, Some, None, ap, ◌∙◌, sym, refl}
use Rattle.std.specs.Prelude.{◌&&◌, ◌||◌, not, ◌==◌, nat_lt, if◌then◌else◌}
use Rattle.std.specs.List.{filter, flat_map, list_all, list_any}
use Rattle.std.proofs.lemmas.Bool.{false≢true, and_from, and_parts, or_right, ltb-true, ltb-false, lt-ltb, le-ltb}
use Rattle.std.proofs.lemmas.Bool.{ne_eqb, eq-eqb, cases_lt}
use Rattle.std.proofs.lemmas.List.Elements.{filter-append}
use Rattle.std.proofs.lemmas.List.Folds.{list_all-append, list_any-append}
use Rattle.dk_types.specs.declared.reply.Reply.{Reply}
use Rattle.dk_si.specs.declared.standing.Cause.{Cause}
use Rattle.dk_si.specs.declared.standing.Flight.{Flight}
use Rattle.dk_si.specs.declared.standing.Need.{Need}
use Rattle.dk_si.specs.declared.standing.Standing.{Standing}
use Rattle.dk_si.specs.declared.standing.Written.{Written}
use Rattle.dk_si.specs.ReplyTests.{iteration_of}
use Rattle.dk_si.specs.Standing.{FullStanding, comes_after, is_of, is_only, iterates}
use Rattle.dk_si.specs.Standing.{may_end, may_end_all}
use Rattle.dk_si.specs.Standing.{written_by}
use Rattle.dk_si.specs.ShortStanding.{as_full, greater, greatest_past, is_above, is_beside}
use Rattle.dk_si.specs.ShortStanding.{is_last, rises, rises_all}
use Rattle.dk_si.proofs.ForwardLemmas.{and_assoc, and_true}
use Rattle.dk_si.proofs.FrontLemmas.{any_by}
use Rattle.dk_si.proofs.StandingStateLemmas.{and_on, and_turn, any_given, need_of, or_false}
use Rattle.dk_si.proofs.TestLemmas.{all_and, all_filter, all_not, all_same, any_filter, any_or, any_same, twice}
use Rattle.dk_si.proofs.AmongLemmas.{IsAmong, all_same_among, filter_same, filter_twice}

-- numbers
less_not_same : (a b : ℕ) (called : Bool) → ((called || not (a == b)) && (not true || nat_lt a b)) ≡ nat_lt a b
less_not_same a b called = by_less (nat_lt a b) refl
  where
    by_less : (less : Bool) → nat_lt a b ≡ less → ((called || not (a == b)) && (not true || nat_lt a b)) ≡ nat_lt a b
    by_less true is =
        let below = ltb-true a b is in
        and_from (called || not (a == b)) (nat_lt a b)
        (or_right called (not (a == b)) (ap not (ne_eqb a b (λ same. absurd (omega (arith, below, same)))))) is
        ∙ sym is
    by_less false is = ap (λ last. (called || not (a == b)) && last) is ∙ (none (called || not (a == b)) ∙ sym is)
      where
        none : (x : Bool) → (x && false) ≡ false
        none true = refl
        none false = refl

-- what the iteration of a CHECKPOINT in flight must come after
past_or_beside : (flight : Flight) (i : ℕ) (written : Written) (beside : Bool)
    → (beside ≡ false → nat_lt written.place flight.place ≡ true)
    → comes_after flight i written ≡
    ((not beside || comes_after flight i written) && (beside || nat_lt written.iteration i))
past_or_beside flight i written true past = and_on (comes_after flight i written)
past_or_beside flight i written false past =
    ap (λ (b : Bool). (written.called == flight.place || not (written.iteration == i)) &&
    (not b || nat_lt written.iteration i)) (past refl)
    ∙ less_not_same written.iteration i (written.called == flight.place)

comes_split : (flights : List Flight) (flight : Flight) (i : ℕ)
    → ((written : Written) → is_beside flights written ≡ false → nat_lt written.place flight.place ≡ true)
    → (all : List Written)
    → list_all (comes_after flight i) all
    ≡ (list_all (comes_after flight i) (filter (is_beside flights) all) && list_all
    (λ written. is_beside flights written || nat_lt written.iteration i) all)
comes_split flights flight i past all =
    all_same _ _ all (λ written. past_or_beside flight i written (is_beside flights written) (past written))
    ∙ (all_and (λ written. not (is_beside flights written) || comes_after flight i written)
    (λ written. is_beside flights written || nat_lt written.iteration i) all
    ∙ ap (λ b. b && list_all (λ written. is_beside flights written || nat_lt written.iteration i) all)
    (sym (all_filter (comes_after flight i) (is_beside flights) all)))

-- the greatest iteration, by what is above it
and_if : (a b : Bool) → (b ≡ true → a ≡ true) → (a && b) ≡ b
and_if true b by = refl
and_if false true by = by refl
and_if false false by = refl

greater_below : (g x i : ℕ) → nat_lt (greater g x) i ≡ (nat_lt g i && nat_lt x i)
greater_below g x i = by_less (nat_lt g x) refl
  where
    below : (a b : ℕ) → a ≤ b → nat_lt b i ≡ true → nat_lt a i ≡ true
    below a b more is = let less = ltb-true b i is in lt-ltb a i (omega (arith, less, more))

    by_less : (less : Bool) → nat_lt g x ≡ less → nat_lt (if less then x else g) i ≡ (nat_lt g i && nat_lt x i)
    by_less true is =
        let less = ltb-true g x is in
        sym (and_if (nat_lt g i) (nat_lt x i) (below g x (omega (arith, less))))
    by_less false is =
        sym (and_turn (nat_lt g i) (nat_lt x i) ∙ and_if (nat_lt x i) (nat_lt g i) (below x g (ltb-false g x is)))

greatest_step : (g x i : ℕ) (beside : Bool)
    → nat_lt (if beside then g else greater g x) i ≡ (nat_lt g i && (beside || nat_lt x i))
greatest_step g x i true = and_on (nat_lt g i)
greatest_step g x i false = greater_below g x i

pub greatest_below : (flights : List Flight) (i g : ℕ) (all : List Written)
    → nat_lt (greatest_past flights g all) i ≡
    (nat_lt g i && list_all (λ written. is_beside flights written || nat_lt written.iteration i) all)
greatest_below flights i g [] = and_on (nat_lt g i)
greatest_below flights i g (written ∷ all) =
    greatest_below flights i (if is_beside flights written then g else greater g written.iteration) all
    ∙ (ap (λ b. b && list_all (λ other. is_beside flights other || nat_lt other.iteration i) all)
    (greatest_step g written.iteration i (is_beside flights written))
    ∙ sym (and_assoc (nat_lt g i) (is_beside flights written || nat_lt written.iteration i)
    (list_all (λ other. is_beside flights other || nat_lt other.iteration i) all)))

-- an iteration that is the greatest of those that are past
same_or_below : (x j : ℕ) → nat_lt x (j + 1) ≡ true → (x == j) ≡ not (nat_lt x j)
same_or_below x j under = by_order (cases_lt x j)
  where
    by_order : (x < j) ⊎ (j ≤ x) → (x == j) ≡ not (nat_lt x j)
    by_order (inl less) = ne_eqb x j (λ same. omega (arith, less, same)) ∙ sym (ap not (lt-ltb x j less))
    by_order (inr more) =
        let below = ltb-true x (j + 1) under in
        eq-eqb x j (omega (arith, below, more)) ∙ sym (ap not (le-ltb x j more))

same_or_less : (x j : ℕ) (beside : Bool) → (beside || nat_lt x (j + 1)) ≡ true
    → (x == j) ≡ ((beside && x == j) || not (beside || nat_lt x j))
same_or_less x j true under = or_false (x == j)
same_or_less x j false under = same_or_below x j under

pub iteration_split : (flights : List Flight) (g j : ℕ) (all : List Written) → nat_lt 0 j ≡ true
    → nat_lt g (j + 1) ≡ true
    → ((i : ℕ) → nat_lt g i ≡ (nat_lt 0 i && list_all
    (λ written. is_beside flights written || nat_lt written.iteration i) all))
    → list_any (λ written. written.iteration == j) all
    ≡ (list_any (λ written. written.iteration == j) (filter (is_beside flights) all) || g == j)
iteration_split flights g j all above under below =
    let beside : Written → Bool = is_beside flights in
    let same : Written → Bool = λ written. written.iteration == j in
    let less : ℕ → Written → Bool = λ i written. beside written || nat_lt written.iteration i in
    any_given (less (j + 1)) same (λ written. (beside written && same written) || not (less j written)) all
    (λ written h. same_or_less written.iteration j (beside written) h)
    (and_parts (nat_lt 0 (j + 1)) (list_all (less (j + 1)) all) (sym (below (j + 1)) ∙ under)).1
    ∙ (any_or (λ written. beside written && same written) (λ written. not (less j written)) all
    ∙ (ap (λ b. b || list_any (λ written. not (less j written)) all) (sym (any_filter same beside all))
    ∙ ap (λ b. list_any same (filter beside all) || b)
    (twice (list_any (λ written. not (less j written)) all)
    ∙ (ap not (sym (all_not (less j) all))
    ∙ (ap not (sym (below j ∙ ap (λ b. b && list_all (less j) all) above)) ∙ sym (same_or_below g j under))))))

-- the parts of a short standing that a full one does not say
pub record Rest : Type 0 where
  pub greatest : ℕ
  pub spent : Bool
  pub needs : List Need

abbrev pub short_of : FullStanding → Rest → Standing
short_of full rest = record {
  place = full.place;
  well = true;
  stop = full.stop;
  stopped = full.stopped;
  flights = full.flights;
  greatest = rest.greatest;
  spent = rest.spent;
  written = filter (is_beside full.flights) full.written;
  needs = rest.needs;
}

-- a test that a later need of the same cause passes too
abbrev pub IsMonotone : (Need → Bool) → Type 0
IsMonotone test = (cause : Cause) (m n : ℕ) → m ≤ n → test (need_of cause m) ≡ true → test (need_of cause n) ≡ true

abbrev pub is_written_before : ℕ → Written → Bool
is_written_before place written = nat_lt written.place place

abbrev pub is_needed_before : ℕ → Need → Bool
is_needed_before place need = nat_lt need.place place

-- the short one keeps what the full one answers by
pub record Keeps (full : FullStanding) (rest : Rest) : Type 0 where
  pub early : list_all (is_written_before full.place) full.written ≡ true
  pub greatest : (i : ℕ) → nat_lt rest.greatest i
      ≡ (nat_lt 0 i && list_all (λ written. is_beside full.flights written || nat_lt written.iteration i) full.written)
  pub spent : rest.spent ≡ list_any is_last full.written
  pub needs_early : list_all (is_needed_before full.place) rest.needs ≡ true
  pub needs : (test : Need → Bool) → IsMonotone test → list_all test full.needs ≡ list_all test rest.needs

-- whether a call in flight may be answered so
part_is : (ours checkpoint stops whole short rises : Bool) → (checkpoint ≡ true → whole ≡ (short && rises))
    → (not ours || (stops && (not checkpoint || whole))) ≡
    ((not ours || (stops && (not checkpoint || short))) && (not (ours && checkpoint) || rises))
part_is false checkpoint stops whole short rises is = refl
part_is true false stops whole short rises is = and_on (stops && true)
part_is true true stops whole short rises is = ap (λ b. stops && b) (is refl) ∙ and_assoc stops short rises

and_last : (a b c d : Bool) → (a && ((b && c) && d)) ≡ ((a && (b && d)) && c)
and_last true true true d = and_on d
and_last true true false true = refl
and_last true true false false = refl
and_last true false c d = refl
and_last false b c d = refl

pub iterates_short : (opened session : ℕ) (full : FullStanding) (rest : Rest) → Keeps full rest → (flight : Flight)
    → IsAmong full.flights flight
    → flight.checkpoint ≡ true → (iteration : Option ℕ)
    → iterates opened full session flight iteration
    ≡ (iterates opened (as_full (short_of full rest)) session flight iteration && is_above rest.greatest iteration)
iterates_short opened session full rest keeps flight among checkpoint None = refl
iterates_short opened session full rest keeps flight among checkpoint (Some i) = by_opened (nat_lt opened i) refl
  where
    only : Bool
    only = list_all (is_only session flight) full.flights

    past : (written : Written) → is_beside full.flights written ≡ false → nat_lt written.place flight.place ≡ true
    past written none =
        twice (nat_lt written.place flight.place)
        ∙ ap not (ap (λ b. b && not (nat_lt written.place flight.place)) (sym checkpoint)
        ∙ among (λ other. other.checkpoint && not (nat_lt written.place other.place)) none)

    by_opened : (above : Bool) → nat_lt opened i ≡ above
        → (nat_lt opened i && (list_all (comes_after flight i) full.written && only))
        ≡ ((nat_lt opened i && (list_all (comes_after flight i) (filter (is_beside full.flights) full.written)
        && only)) && nat_lt rest.greatest i)
    by_opened false is =
        ap (λ b. b && (list_all (comes_after flight i) full.written && only)) is
        ∙ sym (ap (λ b. (b && (list_all (comes_after flight i) (filter (is_beside full.flights) full.written)
        && only)) && nat_lt rest.greatest i) is)
    by_opened true is =
        let less = ltb-true opened i is in
        ap (λ b. nat_lt opened i && (b && only))
        (comes_split full.flights flight i past full.written
        ∙ ap (λ b. list_all (comes_after flight i) (filter (is_beside full.flights) full.written) && b)
        (ap (λ b. b && list_all (λ written. is_beside full.flights written
        || nat_lt written.iteration i) full.written) (sym (lt-ltb 0 i (omega (arith, less))))
        ∙ sym (keeps.greatest i)))
        ∙ and_last (nat_lt opened i) (list_all (comes_after flight i) (filter (is_beside full.flights) full.written))
        (nat_lt rest.greatest i) only

pub may_end_short : (opened session : ℕ) (reply : Reply) (full : FullStanding) (rest : Rest) → Keeps full rest
    → may_end_all opened full session reply
    ≡ (may_end_all opened (as_full (short_of full rest)) session reply && rises_all (short_of full rest) session reply)
may_end_short opened session reply full rest keeps =
    let short = short_of full rest in
    all_same_among _ (λ flight. (not (is_of session flight) || may_end opened (as_full short) session reply flight)
    && rises short session reply flight) full.flights
    (λ flight among. part_is (is_of session flight) flight.checkpoint _ _ _ _
    (λ checkpoint. iterates_short opened session full rest keeps flight among checkpoint (iteration_of reply)))
    ∙ all_and (λ flight. not (is_of session flight) || may_end opened (as_full short) session reply flight)
    (rises short session reply) full.flights

-- the calls in flight behind a reply
abbrev pub left : ℕ → List Flight → List Flight
left session flights = filter (λ flight. not (is_of session flight)) flights

beside_before : (session : ℕ) (flights : List Flight) (written : Written)
    → is_beside (left session flights) written ≡ true → is_beside flights written ≡ true
beside_before session flights written beside =
    any_by _ (λ flight. flight.checkpoint && not (nat_lt written.place flight.place)) flights
    (λ flight h. (and_parts (not (is_of session flight)) _ h).1)
    (sym (any_filter (λ flight. flight.checkpoint && not (nat_lt written.place flight.place))
    (λ flight. not (is_of session flight)) flights) ∙ beside)

-- the iterations behind a reply
abbrev pub news : FullStanding → ℕ → Reply → List Written
news full session reply = flat_map (written_by session full.place reply) full.flights

pub written_short : (session : ℕ) (reply : Reply) (full : FullStanding)
    → filter (is_beside (left session full.flights))
    (filter (is_beside full.flights) full.written ++ news full session reply)
    ≡ filter (is_beside (left session full.flights)) (full.written ++ news full session reply)
written_short session reply full =
    let now : Written → Bool = is_beside (left session full.flights) in
    filter-append now (filter (is_beside full.flights) full.written) (news full session reply)
    ∙ (ap (λ list. list ++ filter now (news full session reply))
    (filter_twice now (is_beside full.flights) full.written
    ∙ filter_same _ now full.written
    (λ written. and_if (is_beside full.flights written) (now written) (beside_before session full.flights written)))
    ∙ sym (filter-append now full.written (news full session reply)))

below_both : (before now less : Bool) → (now ≡ true → before ≡ true)
    → ((before || less) && (not before || (now || less))) ≡ (now || less)
below_both true now less by = refl
below_both false true less by = absurd (false≢true (by refl))
below_both false false less by = and_true less

pub greatest_short : (session : ℕ) (reply : Reply) (full : FullStanding) (rest : Rest) → Keeps full rest → (i : ℕ)
    → nat_lt (greatest_past (left session full.flights) rest.greatest
    (filter (is_beside full.flights) full.written ++ news full session reply)) i
    ≡ (nat_lt 0 i && list_all (λ written. is_beside (left session full.flights) written
    || nat_lt written.iteration i) (full.written ++ news full session reply))
greatest_short session reply full rest keeps i =
    let before : Written → Bool = is_beside full.flights in
    let now : Written → Bool = is_beside (left session full.flights) in
    let less : Written → Bool = λ written. nat_lt written.iteration i in
    let new = news full session reply in
    let of_new = list_all (λ written. now written || less written) new in
    let of_old = list_all (λ written. now written || less written) full.written in
    greatest_below (left session full.flights) i rest.greatest (filter before full.written ++ new)
    ∙ (ap (λ b. nat_lt rest.greatest i && b)
    (list_all-append (λ written. now written || less written) (filter before full.written) new
    ∙ ap (λ b. b && of_new) (all_filter (λ written. now written || less written) before full.written))
    ∙ (ap (λ b. b && (list_all (λ written. not (before written) || (now written || less written)) full.written
    && of_new)) (keeps.greatest i)
    ∙ (and_four (nat_lt 0 i) (list_all (λ written. before written || less written) full.written)
    (list_all (λ written. not (before written) || (now written || less written)) full.written) of_new
    ∙ ap (λ b. nat_lt 0 i && b)
    (ap (λ b. b && of_new)
    (sym (all_and (λ written. before written || less written)
    (λ written. not (before written) || (now written || less written)) full.written)
    ∙ all_same _ _ full.written (λ written. below_both (before written) (now written) (less written)
    (beside_before session full.flights written)))
    ∙ sym (list_all-append (λ written. now written || less written) full.written new)))))
  where
    and_four : (a b c d : Bool) → ((a && b) && (c && d)) ≡ (a && ((b && c) && d))
    and_four true true c d = refl
    and_four true false c d = refl
    and_four false b c d = refl

pub any_absorbs : {T : Type 0} → (P keep : T → Bool) (xs : List T)
    → (list_any P xs || list_any P (filter keep xs)) ≡ list_any P xs
any_absorbs P keep xs =
    ap (λ b. list_any P xs || b) (any_filter P keep xs)
    ∙ (sym (any_or P (λ x. keep x && P x) xs) ∙ any_same _ P xs (λ x. absorbs (P x) (keep x)))
  where
    absorbs : (p k : Bool) → (p || (k && p)) ≡ p
    absorbs true k = refl
    absorbs false true = refl
    absorbs false false = refl

or_assoc : (a b c : Bool) → (a || (b || c)) ≡ ((a || b) || c)
or_assoc true b c = refl
or_assoc false b c = refl

pub spent_short : (session : ℕ) (reply : Reply) (full : FullStanding) (rest : Rest) → Keeps full rest
    → (rest.spent || list_any is_last (filter (is_beside full.flights) full.written ++ news full session reply))
    ≡ list_any is_last (full.written ++ news full session reply)
spent_short session reply full rest keeps =
    let new = list_any is_last (news full session reply) in
    let beside = list_any is_last (filter (is_beside full.flights) full.written) in
    ap (λ b. rest.spent || b) (list_any-append is_last (filter (is_beside full.flights) full.written)
    (news full session reply))
    ∙ (ap (λ b. b || (beside || new)) keeps.spent
    ∙ (or_assoc (list_any is_last full.written) beside new
    ∙ (ap (λ b. b || new) (any_absorbs is_last (is_beside full.flights) full.written)
    ∙ sym (list_any-append is_last full.written (news full session reply)))))
