-- What is carried of stops and iterations is what the list says, behind a reply, a call and a begun transaction.
use Rattle.std.proofs.Common.{arith, ◌≡◌, ℕ, ◌+◌, ◌<◌, Bool, true, false, List, [], ◌∷◌, ◌++◌, map, Option, Some, None, ap, ◌∙◌, sym, refl}
use Rattle.std.specs.Prelude.{◌&&◌, ◌||◌, not, ◌==◌, nat_lt, if◌then◌else◌}
use Rattle.std.specs.List.{list_all, list_any, filter, flat_map}
use Rattle.std.proofs.lemmas.Bool.{and_from, and_parts, ltb-true, lt-ltb}
use Rattle.std.proofs.lemmas.List.Folds.{list_all-append, list_any-append, list_all-map}
use Rattle.dk_types.specs.declared.reply.Reply.{Reply}
use Rattle.dk_types.specs.declared.reply.Reply.TheVariants as told
use Rattle.dk_si.specs.declared.history.Entry.TheVariants as history
use Rattle.dk_si.specs.declared.exchange.Replied.{Replied}
use Rattle.dk_si.specs.declared.exchange.Exchange.{Exchange}
use Rattle.dk_si.specs.declared.standing.Flight.{Flight}
use Rattle.dk_si.specs.declared.standing.Cause.{Cause}
use Rattle.dk_si.specs.declared.standing.Cause.TheVariants.{Stop, Iteration}
use Rattle.dk_si.specs.declared.standing.Need.{Need}
use Rattle.dk_si.specs.declared.standing.Written.{Written}
use Rattle.dk_si.specs.ReplyTests.{is_refused, is_disk_stop, is_stop, iteration_of}
use Rattle.dk_si.specs.Exchanges.{with_reply}
use Rattle.dk_si.specs.Standing.{FullStanding, first_standing, settles, owes, stop_before, is_of, pays, first_stop, is_calling, written_at, written_by, is_settled, stopped_after, written_after, needs_by, needs_after, standing_and}
use Rattle.dk_si.proofs.ExchangeLemmas.{exchange_of, replied_stays, is_before}
use Rattle.dk_si.proofs.FrontLemmas.{all_by, any_map, answered}
use Rattle.dk_si.proofs.TestLemmas.{all_same, any_same, any_or, all_and, twice, all_not, any_filter, all_filter, any_flat, all_flat, any_and}

-- tests of an exchange: what is asked of a call in flight, and of one that has its reply
abbrev pub flight_of : Exchange → Flight
flight_of exchange = record { session = exchange.session; place = exchange.place; checkpoint = exchange.checkpoint }

abbrev pub in_flight : (Flight → Bool) → Exchange → Bool
in_flight test exchange = elim exchange.replied [ None ↦ test (flight_of exchange) | Some replied ↦ false ]

abbrev pub told_in : (Flight → Replied → Bool) → Exchange → Bool
told_in test exchange = elim exchange.replied [ None ↦ false | Some replied ↦ test (flight_of exchange) replied ]

abbrev pub asked_in : (Flight → Replied → Bool) → Exchange → Bool
asked_in test exchange = elim exchange.replied [ None ↦ true | Some replied ↦ test (flight_of exchange) replied ]

abbrev pub all_in_flight : (Flight → Bool) → Exchange → Bool
all_in_flight test exchange = elim exchange.replied [ None ↦ test (flight_of exchange) | Some replied ↦ true ]

abbrev pub flight_with : ℕ → ℕ → Bool → Flight
flight_with session place checkpoint = record { session = session; place = place; checkpoint = checkpoint }

abbrev pub reply_at : ℕ → Reply → Replied
reply_at place reply = record { place = place; reply = reply }

-- a list behind a reply
pub told_none : (test : Flight → Replied → Bool) (session n : ℕ) (reply : Reply) (caller at : ℕ) (checkpoint here : Bool)
    → told_in test (if here && true then exchange_of caller at checkpoint (Some (reply_at n reply)) else exchange_of caller at checkpoint None)
    ≡ ((here && test (flight_with caller at checkpoint) (reply_at n reply)) || false)
told_none test session n reply caller at checkpoint true = or_false (test (flight_with caller at checkpoint) (reply_at n reply))
  where
    or_false : (b : Bool) → b ≡ (b || false)
    or_false true = refl
    or_false false = refl
told_none test session n reply caller at checkpoint false = refl

pub told_each : (test : Flight → Replied → Bool) (session n : ℕ) (reply : Reply) (caller at : ℕ) (checkpoint : Bool) (replied : Option Replied)
    → told_in test (with_reply session n reply (exchange_of caller at checkpoint replied))
    ≡ (in_flight (λ flight. is_of session flight && test flight (reply_at n reply)) (exchange_of caller at checkpoint replied) || told_in test (exchange_of caller at checkpoint replied))
told_each test session n reply caller at checkpoint None = told_none test session n reply caller at checkpoint (session == caller)
told_each test session n reply caller at checkpoint (Some replied) = ap (told_in test) (replied_stays session n reply caller at checkpoint replied)

pub told_behind : (test : Flight → Replied → Bool) (session n : ℕ) (reply : Reply) (all : List Exchange)
    → list_any (told_in test) (answered session n reply all)
    ≡ (list_any (in_flight (λ flight. is_of session flight && test flight (reply_at n reply))) all || list_any (told_in test) all)
told_behind test session n reply all =
    any_map (told_in test) (with_reply session n reply) all
    ∙ (any_same _ _ all (λ e. told_each test session n reply e.session e.place e.checkpoint e.replied)
    ∙ any_or _ (told_in test) all)

pub flight_none : (test : Flight → Bool) (session n : ℕ) (reply : Reply) (caller at : ℕ) (checkpoint here : Bool)
    → in_flight test (if here && true then exchange_of caller at checkpoint (Some (reply_at n reply)) else exchange_of caller at checkpoint None)
    ≡ (not here && test (flight_with caller at checkpoint))
flight_none test session n reply caller at checkpoint true = refl
flight_none test session n reply caller at checkpoint false = refl

pub flight_each : (test : Flight → Bool) (session n : ℕ) (reply : Reply) (caller at : ℕ) (checkpoint : Bool) (replied : Option Replied)
    → in_flight test (with_reply session n reply (exchange_of caller at checkpoint replied))
    ≡ in_flight (λ flight. not (is_of session flight) && test flight) (exchange_of caller at checkpoint replied)
flight_each test session n reply caller at checkpoint None = flight_none test session n reply caller at checkpoint (session == caller)
flight_each test session n reply caller at checkpoint (Some replied) = ap (in_flight test) (replied_stays session n reply caller at checkpoint replied)

pub flights_behind : (test : Flight → Bool) (session n : ℕ) (reply : Reply) (all : List Exchange)
    → list_any (in_flight test) (answered session n reply all) ≡ list_any (in_flight (λ flight. not (is_of session flight) && test flight)) all
flights_behind test session n reply all =
    any_map (in_flight test) (with_reply session n reply) all
    ∙ any_same _ _ all (λ e. flight_each test session n reply e.session e.place e.checkpoint e.replied)

pub asked_none : (test : Flight → Replied → Bool) (session n : ℕ) (reply : Reply) (caller at : ℕ) (checkpoint here : Bool)
    → asked_in test (if here && true then exchange_of caller at checkpoint (Some (reply_at n reply)) else exchange_of caller at checkpoint None)
    ≡ ((not here || test (flight_with caller at checkpoint) (reply_at n reply)) && true)
asked_none test session n reply caller at checkpoint true = and_on (test (flight_with caller at checkpoint) (reply_at n reply))
  where
    and_on : (b : Bool) → b ≡ (b && true)
    and_on true = refl
    and_on false = refl
asked_none test session n reply caller at checkpoint false = refl

pub asked_each : (test : Flight → Replied → Bool) (session n : ℕ) (reply : Reply) (caller at : ℕ) (checkpoint : Bool) (replied : Option Replied)
    → asked_in test (with_reply session n reply (exchange_of caller at checkpoint replied))
    ≡ (all_in_flight (λ flight. not (is_of session flight) || test flight (reply_at n reply)) (exchange_of caller at checkpoint replied) && asked_in test (exchange_of caller at checkpoint replied))
asked_each test session n reply caller at checkpoint None = asked_none test session n reply caller at checkpoint (session == caller)
asked_each test session n reply caller at checkpoint (Some replied) = ap (asked_in test) (replied_stays session n reply caller at checkpoint replied)

pub asked_behind : (test : Flight → Replied → Bool) (session n : ℕ) (reply : Reply) (all : List Exchange)
    → list_all (asked_in test) (answered session n reply all)
    ≡ (list_all (all_in_flight (λ flight. not (is_of session flight) || test flight (reply_at n reply))) all && list_all (asked_in test) all)
asked_behind test session n reply all =
    list_all-map (asked_in test) (with_reply session n reply) all
    ∙ (all_same _ _ all (λ e. asked_each test session n reply e.session e.place e.checkpoint e.replied)
    ∙ all_and _ (asked_in test) all)

-- what the list says of stops, iterations and needs
abbrev pub stops_at : ℕ → Flight → Replied → Bool
stops_at place flight replied = is_stop replied.reply && nat_lt replied.place place

abbrev pub settled_at : Cause → Flight → Replied → Bool
settled_at cause flight replied = settles cause flight.checkpoint replied.reply

abbrev pub paid_at : ℕ → Cause → Flight → Replied → Bool
paid_at place cause flight replied = nat_lt flight.place place && settles cause flight.checkpoint replied.reply

abbrev pub written_as : (Written → Bool) → Flight → Replied → Bool
written_as test flight replied = list_any test (written_at replied.place flight (if flight.checkpoint then iteration_of replied.reply else None))

abbrev pub need_of : Cause → ℕ → Need
need_of cause place = record { cause = cause; place = place }

abbrev pub needs_at : ℕ → List Exchange → (Need → Bool) → Flight → Replied → Bool
needs_at opened all test flight replied =
    list_all (λ cause. list_any (told_in (paid_at replied.place cause)) all || test (need_of cause replied.place)) (owes opened flight.checkpoint replied.reply)

-- what is carried is what the list says
pub record Stands (opened : ℕ) (standing : FullStanding) (all : List Exchange) : Type 0 where
  pub before : list_all (is_before standing.place) all ≡ true
  pub flights : (test : Flight → Bool) → list_any test standing.flights ≡ list_any (in_flight test) all
  pub stop : (place : ℕ) → stop_before standing.stop place ≡ list_any (told_in (stops_at place)) all
  pub within : (first : ℕ) → standing.stop ≡ Some first → first < standing.place
  pub stopped : standing.stopped ≡ list_any (told_in (settled_at Stop)) all
  pub written : (test : Written → Bool) → list_any test standing.written ≡ list_any (told_in (written_as test)) all
  pub needs : (test : Need → Bool) → list_all test standing.needs ≡ list_all (asked_in (needs_at opened all test)) all

pub first_stands : (opened : ℕ) → Stands opened first_standing []
first_stands opened = record {
  before = refl;
  flights = λ test. refl;
  stop = λ place. refl;
  within = λ first is. cc;
  stopped = refl;
  written = λ test. refl;
  needs = λ test. refl;
}

pub or_false : (b : Bool) → b ≡ (b || false)
or_false true = refl
or_false false = refl

pub and_on : (b : Bool) → b ≡ (b && true)
and_on true = refl
and_on false = refl

pub or_turn : (a b : Bool) → (a || b) ≡ (b || a)
or_turn true true = refl
or_turn true false = refl
or_turn false true = refl
or_turn false false = refl

pub and_turn : (a b : Bool) → (a && b) ≡ (b && a)
and_turn true true = refl
and_turn true false = refl
and_turn false true = refl
and_turn false false = refl

pub or_mix : (a b c : Bool) → ((a || b) || c) ≡ (b || (a || c))
or_mix true true c = refl
or_mix true false c = refl
or_mix false b c = refl

pub any_if : {T : Type 0} → (test : T → Bool) (xs : List T) (b : Bool) → list_any test (if b then xs else []) ≡ (b && list_any test xs)
any_if test xs true = refl
any_if test xs false = refl

pub all_if : {T : Type 0} → (test : T → Bool) (xs : List T) (b : Bool) → list_all test (if b then xs else []) ≡ (not b || list_all test xs)
all_if test xs true = refl
all_if test xs false = refl

pub any_given : {T : Type 0} → (G P Q : T → Bool) → (xs : List T) → ((x : T) → G x ≡ true → P x ≡ Q x) → list_all G xs ≡ true → list_any P xs ≡ list_any Q xs
any_given G P Q [] same good = refl
any_given G P Q (x ∷ xs) same good =
    let h = and_parts (G x) (list_all G xs) good in
    ap (λ b. b || list_any P xs) (same x h.0) ∙ ap (λ b. Q x || b) (any_given G P Q xs same h.1)

-- the calls in flight, where each is asked something
pub not_flight : (test : Flight → Bool) (session place : ℕ) (checkpoint : Bool) (replied : Option Replied)
    → not (in_flight (λ flight. not (test flight)) (exchange_of session place checkpoint replied)) ≡ all_in_flight test (exchange_of session place checkpoint replied)
not_flight test session place checkpoint None = sym (twice (test (flight_with session place checkpoint)))
not_flight test session place checkpoint (Some replied) = refl

pub not_all : {T : Type 0} → (P : T → Bool) → (xs : List T) → not (list_any P xs) ≡ list_all (λ x. not (P x)) xs
not_all P [] = refl
not_all P (x ∷ xs) = or_not (P x) (list_any P xs) ∙ ap (λ b. not (P x) && b) (not_all P xs)
  where
    or_not : (a b : Bool) → not (a || b) ≡ (not a && not b)
    or_not true b = refl
    or_not false b = refl

pub flights_all : (opened : ℕ) (standing : FullStanding) (all : List Exchange) → Stands opened standing all → (test : Flight → Bool)
    → list_all test standing.flights ≡ list_all (all_in_flight test) all
flights_all opened standing all stands test =
    all_not test standing.flights
    ∙ (ap not (stands.flights (λ flight. not (test flight)))
    ∙ (not_all (in_flight (λ flight. not (test flight))) all
    ∙ all_same _ _ all (λ e. not_flight test e.session e.place e.checkpoint e.replied)))

-- a test of replies, behind one more
pub told_more : (opened : ℕ) (standing : FullStanding) (all : List Exchange) → Stands opened standing all
    → (test : Flight → Replied → Bool) (session : ℕ) (reply : Reply)
    → list_any (told_in test) (answered session standing.place reply all)
    ≡ (list_any (λ flight. is_of session flight && test flight (reply_at standing.place reply)) standing.flights || list_any (told_in test) all)
told_more opened standing all stands test session reply =
    told_behind test session standing.place reply all
    ∙ ap (λ b. b || list_any (told_in test) all) (sym (stands.flights (λ flight. is_of session flight && test flight (reply_at standing.place reply))))

pub less_both : (first n x : ℕ) (less : Bool) → first < n → nat_lt n x ≡ less → nat_lt first x ≡ (less || nat_lt first x)
less_both first n x true within is =
    let less = ltb-true n x is in
    lt-ltb first x (omega (arith, within, less))
less_both first n x false within is = refl

pub stop_more : (stop : Option ℕ) (n x : ℕ) (calls stops : Bool) → ((first : ℕ) → stop ≡ Some first → first < n)
    → stop_before (if calls && stops then first_stop stop n else stop) x ≡ ((calls && (stops && nat_lt n x)) || stop_before stop x)
stop_more None n x true true within = or_false (nat_lt n x)
stop_more (Some first) n x true true within = less_both first n x (nat_lt n x) (within first refl) refl
stop_more stop n x true false within = refl
stop_more stop n x false stops within = refl

pub some_same : (a b : ℕ) → Some a ≡ Some b → a ≡ b
some_same a b e = cc

pub within_more : (stop : Option ℕ) (n : ℕ) (stops : Bool) → ((first : ℕ) → stop ≡ Some first → first < n)
    → (first : ℕ) → (if stops then first_stop stop n else stop) ≡ Some first → first < n + 1
within_more None n true within first is = let same = some_same n first is in omega (arith, same)
within_more (Some other) n true within first is = let less = within first is in omega (arith, less)
within_more stop n false within first is = let less = within first is in omega (arith, less)

-- each call stands before the next place
pub early_each : (session n : ℕ) (reply : Reply) (caller at : ℕ) (checkpoint : Bool) (replied : Option Replied)
    → (with_reply session n reply (exchange_of caller at checkpoint replied)).place ≡ at
early_each session n reply caller at checkpoint None = place_if (session == caller)
  where
    place_if : (here : Bool)
        → (if here && true then exchange_of caller at checkpoint (Some (reply_at n reply)) else exchange_of caller at checkpoint None).place ≡ at
    place_if true = refl
    place_if false = refl
early_each session n reply caller at checkpoint (Some replied) = ap (λ e. e.place) (replied_stays session n reply caller at checkpoint replied)

abbrev pub is_early : ℕ → Exchange → Bool
is_early n exchange = nat_lt exchange.place n

pub early : (session n : ℕ) (reply : Reply) (all : List Exchange) → list_all (is_before n) all ≡ true → list_all (is_early n) (answered session n reply all) ≡ true
early session n reply all before =
    list_all-map (is_early n) (with_reply session n reply) all
    ∙ all_by (is_before n) _ all
    (λ e h. ap (λ place. nat_lt place n) (early_each session n reply e.session e.place e.checkpoint e.replied) ∙ (and_parts (nat_lt e.place n) _ h).0) before

pub paid_early : (n : ℕ) (cause : Cause) (session at : ℕ) (checkpoint : Bool) (replied : Option Replied) → nat_lt at n ≡ true
    → told_in (paid_at n cause) (exchange_of session at checkpoint replied) ≡ told_in (settled_at cause) (exchange_of session at checkpoint replied)
paid_early n cause session at checkpoint None less = refl
paid_early n cause session at checkpoint (Some replied) less = ap (λ b. b && settles cause checkpoint replied.reply) less

-- what is settled is told by what is carried
pub iteration_told : (iteration place called at : ℕ) (checkpoint : Bool) (reply : Reply)
    → written_as (λ other. other.iteration == iteration) (flight_with called at checkpoint) (reply_at place reply)
    ≡ settles (Iteration iteration) checkpoint reply
iteration_told iteration place called at false reply = refl
iteration_told iteration place called at true (told.Checkpointed other) = sym (or_false (other == iteration))
iteration_told iteration place called at true other = refl

pub iteration_each : (iteration session at : ℕ) (checkpoint : Bool) (replied : Option Replied)
    → told_in (written_as (λ other. other.iteration == iteration)) (exchange_of session at checkpoint replied)
    ≡ told_in (settled_at (Iteration iteration)) (exchange_of session at checkpoint replied)
iteration_each iteration session at checkpoint None = refl
iteration_each iteration session at checkpoint (Some replied) = iteration_told iteration replied.place session at checkpoint replied.reply

pub settled_is : (stopped : Bool) (written : List Written) (all : List Exchange) → stopped ≡ list_any (told_in (settled_at Stop)) all
    → ((test : Written → Bool) → list_any test written ≡ list_any (told_in (written_as test)) all)
    → (cause : Cause) → is_settled stopped written cause ≡ list_any (told_in (settled_at cause)) all
settled_is stopped written all one other Stop = one
settled_is stopped written all one other (Iteration iteration) =
    other (λ written. written.iteration == iteration)
    ∙ any_same _ _ all (λ e. iteration_each iteration e.session e.place e.checkpoint e.replied)

-- what stands behind a reply
pub stopped_more : (opened : ℕ) (standing : FullStanding) (all : List Exchange) → Stands opened standing all → (session : ℕ) (reply : Reply)
    → stopped_after standing session reply ≡ list_any (told_in (settled_at Stop)) (answered session standing.place reply all)
stopped_more opened standing all stands session reply = sym
    (told_more opened standing all stands (settled_at Stop) session reply
    ∙ (ap (λ b. b || list_any (told_in (settled_at Stop)) all) (any_and (is_refused is_disk_stop reply) (is_of session) standing.flights)
    ∙ ap (λ b. (is_calling standing session && is_refused is_disk_stop reply) || b) (sym stands.stopped)))

pub written_more : (opened : ℕ) (standing : FullStanding) (all : List Exchange) → Stands opened standing all → (session : ℕ) (reply : Reply) (test : Written → Bool)
    → list_any test (written_after standing session reply) ≡ list_any (told_in (written_as test)) (answered session standing.place reply all)
written_more opened standing all stands session reply test =
    list_any-append test standing.written (flat_map (written_by session standing.place reply) standing.flights)
    ∙ (or_turn (list_any test standing.written) _
    ∙ (ap (λ b. b || list_any test standing.written)
    (any_flat test (written_by session standing.place reply) standing.flights
    ∙ any_same _ _ standing.flights (λ flight. any_if test (written_at standing.place flight (if flight.checkpoint then iteration_of reply else None)) (is_of session flight)))
    ∙ (ap (λ b. list_any (λ flight. is_of session flight && written_as test flight (reply_at standing.place reply)) standing.flights || b) (stands.written test)
    ∙ sym (told_more opened standing all stands (written_as test) session reply))))

-- a need that the reply pays, or that was paid
pub paid_more : (opened : ℕ) (standing : FullStanding) (all : List Exchange) → Stands opened standing all → (session : ℕ) (reply : Reply)
    → (test : Need → Bool) (flight : Flight) (replied : Replied)
    → needs_at opened (answered session standing.place reply all) test flight replied
    ≡ needs_at opened all (λ need. list_any (pays session reply need) standing.flights || test need) flight replied
paid_more opened standing all stands session reply test flight replied =
    all_same _ _ (owes opened flight.checkpoint replied.reply)
    (λ cause. ap (λ b. b || test (need_of cause replied.place)) (told_more opened standing all stands (paid_at replied.place cause) session reply)
    ∙ or_mix (list_any (pays session reply (need_of cause replied.place)) standing.flights) (list_any (told_in (paid_at replied.place cause)) all) (test (need_of cause replied.place)))

pub asked_same : (a b : Flight → Replied → Bool) → ((flight : Flight) (replied : Replied) → a flight replied ≡ b flight replied)
    → (session at : ℕ) (checkpoint : Bool) (replied : Option Replied)
    → asked_in a (exchange_of session at checkpoint replied) ≡ asked_in b (exchange_of session at checkpoint replied)
asked_same a b same session at checkpoint None = refl
asked_same a b same session at checkpoint (Some replied) = same (flight_with session at checkpoint) replied

pub needs_new : (opened : ℕ) (standing : FullStanding) (all : List Exchange) → Stands opened standing all → (session : ℕ) (reply : Reply)
    → (test : Need → Bool) (flight : Flight)
    → list_all test (needs_by opened standing session reply flight)
    ≡ (not (is_of session flight) || needs_at opened (answered session standing.place reply all) test flight (reply_at standing.place reply))
needs_new opened standing all stands session reply test flight =
    let behind = answered session standing.place reply all in
    let settled = is_settled (stopped_after standing session reply) (written_after standing session reply) in
    let owed = owes opened flight.checkpoint reply in
    all_if test (map (λ cause. need_of cause standing.place) (filter (λ cause. not (settled cause)) owed)) (is_of session flight)
    ∙ ap (λ b. not (is_of session flight) || b)
    (list_all-map test (λ cause. need_of cause standing.place) (filter (λ cause. not (settled cause)) owed)
    ∙ (all_filter (λ cause. test (need_of cause standing.place)) (λ cause. not (settled cause)) owed
    ∙ all_same _ _ owed (λ cause. ap (λ b. b || test (need_of cause standing.place))
    (sym (twice (settled cause))
    ∙ (settled_is (stopped_after standing session reply) (written_after standing session reply) behind
    (stopped_more opened standing all stands session reply) (written_more opened standing all stands session reply) cause
    ∙ sym (any_given (is_early standing.place) (told_in (paid_at standing.place cause)) (told_in (settled_at cause)) behind
    (λ e less. paid_early standing.place cause e.session e.place e.checkpoint e.replied less) (early session standing.place reply all stands.before)))))))

pub needs_more : (opened : ℕ) (standing : FullStanding) (all : List Exchange) → Stands opened standing all → (session : ℕ) (reply : Reply) (test : Need → Bool)
    → list_all test (needs_after opened standing session reply)
    ≡ list_all (asked_in (needs_at opened (answered session standing.place reply all) test)) (answered session standing.place reply all)
needs_more opened standing all stands session reply test =
    let behind = answered session standing.place reply all in
    let pay : Need → Bool = λ need. list_any (pays session reply need) standing.flights in
    list_all-append test (filter (λ need. not (pay need)) standing.needs) (flat_map (needs_by opened standing session reply) standing.flights)
    ∙ (and_turn (list_all test (filter (λ need. not (pay need)) standing.needs)) (list_all test (flat_map (needs_by opened standing session reply) standing.flights))
    ∙ (ap (λ b. b && list_all test (filter (λ need. not (pay need)) standing.needs))
    (all_flat test (needs_by opened standing session reply) standing.flights
    ∙ (all_same _ _ standing.flights (λ flight. needs_new opened standing all stands session reply test flight)
    ∙ flights_all opened standing all stands (λ flight. not (is_of session flight) || needs_at opened behind test flight (reply_at standing.place reply))))
    ∙ (ap (λ b. list_all (all_in_flight (λ flight. not (is_of session flight) || needs_at opened behind test flight (reply_at standing.place reply))) all && b)
    (all_filter test (λ need. not (pay need)) standing.needs
    ∙ (all_same _ _ standing.needs (λ need. ap (λ b. b || test need) (sym (twice (pay need))))
    ∙ (stands.needs (λ need. pay need || test need)
    ∙ all_same _ _ all (λ e. sym (asked_same (needs_at opened behind test) (needs_at opened all (λ need. pay need || test need))
    (λ flight replied. paid_more opened standing all stands session reply test flight replied) e.session e.place e.checkpoint e.replied)))))
    ∙ sym (asked_behind (needs_at opened behind test) session standing.place reply all))))

pub before_if : (n : ℕ) (session : ℕ) (reply : Reply) (caller at : ℕ) (checkpoint : Bool) (replied : Option Replied)
    → is_before n (exchange_of caller at checkpoint replied) ≡ true
    → is_before (n + 1) (with_reply session n reply (exchange_of caller at checkpoint replied)) ≡ true
before_if n session reply caller at checkpoint None h = none_if (session == caller)
  where
    none_if : (here : Bool)
        → is_before (n + 1) (if here && true then exchange_of caller at checkpoint (Some (reply_at n reply)) else exchange_of caller at checkpoint None) ≡ true
    none_if true =
        let less = ltb-true at n (and_parts (nat_lt at n) true h).0 in
        and_from (nat_lt at (n + 1)) (nat_lt n (n + 1)) (lt-ltb at (n + 1) (omega (arith, less))) (lt-ltb n (n + 1) (omega arith))
    none_if false =
        let less = ltb-true at n (and_parts (nat_lt at n) true h).0 in
        and_from (nat_lt at (n + 1)) true (lt-ltb at (n + 1) (omega (arith, less))) refl
before_if n session reply caller at checkpoint (Some replied) h =
    let k = and_parts (nat_lt at n) (nat_lt replied.place n) h in
    let one = ltb-true at n k.0 in
    let other = ltb-true replied.place n k.1 in
    ap (is_before (n + 1)) (replied_stays session n reply caller at checkpoint replied)
    ∙ and_from (nat_lt at (n + 1)) (nat_lt replied.place (n + 1)) (lt-ltb at (n + 1) (omega (arith, one))) (lt-ltb replied.place (n + 1) (omega (arith, other)))

pub reply_stands : (opened : ℕ) (standing : FullStanding) (all : List Exchange) → Stands opened standing all → (session : ℕ) (reply : Reply)
    → Stands opened (standing_and opened standing (history.Reply session reply)) (answered session standing.place reply all)
reply_stands opened standing all stands session reply = record {
  before = list_all-map (is_before (standing.place + 1)) (with_reply session standing.place reply) all
      ∙ all_by (is_before standing.place) _ all (λ e h. before_if standing.place session reply e.session e.place e.checkpoint e.replied h) stands.before;
  flights = λ test. any_filter test (λ flight. not (is_of session flight)) standing.flights
      ∙ (stands.flights (λ flight. not (is_of session flight) && test flight) ∙ sym (flights_behind test session standing.place reply all));
  stop = λ place. stop_more standing.stop standing.place place (is_calling standing session) (is_stop reply) stands.within
      ∙ (ap (λ b. b || stop_before standing.stop place) (sym (any_and (is_stop reply && nat_lt standing.place place) (is_of session) standing.flights))
      ∙ (ap (λ b. list_any (λ flight. is_of session flight && (is_stop reply && nat_lt standing.place place)) standing.flights || b) (stands.stop place)
      ∙ sym (told_more opened standing all stands (stops_at place) session reply)));
  within = λ first is. within_more standing.stop standing.place (is_calling standing session && is_stop reply) stands.within first is;
  stopped = stopped_more opened standing all stands session reply;
  written = λ test. written_more opened standing all stands session reply test;
  needs = λ test. needs_more opened standing all stands session reply test;
}

-- what stands behind a call
abbrev pub called : ℕ → ℕ → Bool → List Exchange → List Exchange
called session n checkpoint all = all ++ exchange_of session n checkpoint None ∷ []

pub told_call : (test : Flight → Replied → Bool) (session n : ℕ) (checkpoint : Bool) (all : List Exchange)
    → list_any (told_in test) all ≡ list_any (told_in test) (called session n checkpoint all)
told_call test session n checkpoint all =
    or_false (list_any (told_in test) all) ∙ sym (list_any-append (told_in test) all (exchange_of session n checkpoint None ∷ []))

pub needs_call : (opened : ℕ) (session n : ℕ) (checkpoint : Bool) (all : List Exchange) (test : Need → Bool)
    → list_all (asked_in (needs_at opened all test)) all ≡ list_all (asked_in (needs_at opened (called session n checkpoint all) test)) (called session n checkpoint all)
needs_call opened session n checkpoint all test =
    let behind = called session n checkpoint all in
    all_same _ _ all (λ e. asked_same (needs_at opened all test) (needs_at opened behind test)
    (λ flight replied. all_same _ _ (owes opened flight.checkpoint replied.reply)
    (λ cause. ap (λ b. b || test (need_of cause replied.place)) (told_call (paid_at replied.place cause) session n checkpoint all)))
    e.session e.place e.checkpoint e.replied)
    ∙ (and_on (list_all (asked_in (needs_at opened behind test)) all)
    ∙ sym (list_all-append (asked_in (needs_at opened behind test)) all (exchange_of session n checkpoint None ∷ [])))

pub before_later : (n session at : ℕ) (checkpoint : Bool) (replied : Option Replied)
    → is_before n (exchange_of session at checkpoint replied) ≡ true → is_before (n + 1) (exchange_of session at checkpoint replied) ≡ true
before_later n session at checkpoint None h =
    let less = ltb-true at n (and_parts (nat_lt at n) true h).0 in
    and_from (nat_lt at (n + 1)) true (lt-ltb at (n + 1) (omega (arith, less))) refl
before_later n session at checkpoint (Some replied) h =
    let k = and_parts (nat_lt at n) (nat_lt replied.place n) h in
    let one = ltb-true at n k.0 in
    let other = ltb-true replied.place n k.1 in
    and_from (nat_lt at (n + 1)) (nat_lt replied.place (n + 1)) (lt-ltb at (n + 1) (omega (arith, one))) (lt-ltb replied.place (n + 1) (omega (arith, other)))

pub all_later : (n : ℕ) (all : List Exchange) → list_all (is_before n) all ≡ true → list_all (is_before (n + 1)) all ≡ true
all_later n all before = all_by (is_before n) (is_before (n + 1)) all (λ e h. before_later n e.session e.place e.checkpoint e.replied h) before

pub within_later : (stop : Option ℕ) (n : ℕ) → ((first : ℕ) → stop ≡ Some first → first < n) → (first : ℕ) → stop ≡ Some first → first < n + 1
within_later stop n within first is = let less = within first is in omega (arith, less)

pub call_stands : (opened : ℕ) (standing : FullStanding) (all : List Exchange) → Stands opened standing all → (session : ℕ) (checkpoint : Bool)
    → Stands opened
    (record standing { place = standing.place + 1; flights = standing.flights ++ flight_with session standing.place checkpoint ∷ [] })
    (called session standing.place checkpoint all)
call_stands opened standing all stands session checkpoint = record {
  before = list_all-append (is_before (standing.place + 1)) all (exchange_of session standing.place checkpoint None ∷ [])
      ∙ and_from _ _ (all_later standing.place all stands.before)
      (and_from (is_before (standing.place + 1) (exchange_of session standing.place checkpoint None)) true
      (and_from (nat_lt standing.place (standing.place + 1)) true (lt-ltb standing.place (standing.place + 1) (omega arith)) refl) refl);
  flights = λ test. list_any-append test standing.flights (flight_with session standing.place checkpoint ∷ [])
      ∙ (ap (λ b. b || (test (flight_with session standing.place checkpoint) || false)) (stands.flights test)
      ∙ sym (list_any-append (in_flight test) all (exchange_of session standing.place checkpoint None ∷ [])));
  stop = λ place. stands.stop place ∙ told_call (stops_at place) session standing.place checkpoint all;
  within = within_later standing.stop standing.place stands.within;
  stopped = stands.stopped ∙ told_call (settled_at Stop) session standing.place checkpoint all;
  written = λ test. stands.written test ∙ told_call (written_as test) session standing.place checkpoint all;
  needs = λ test. stands.needs test ∙ needs_call opened session standing.place checkpoint all test;
}

pub begun_stands : (opened : ℕ) (standing : FullStanding) (all : List Exchange) → Stands opened standing all
    → Stands opened (record standing { place = standing.place + 1 }) all
begun_stands opened standing all stands = record {
  before = all_later standing.place all stands.before;
  flights = stands.flights;
  stop = stands.stop;
  within = within_later standing.stop standing.place stands.within;
  stopped = stands.stopped;
  written = stands.written;
  needs = stands.needs;
}
