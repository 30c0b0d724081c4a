-- What a reply needs of what is carried is what the two conditions over the whole list ask.
use Rattle.std.proofs.Common.{arith, ◌≡◌, ⊎_elim, ℕ, ◌+◌, ◌-◌, ◌<◌, Bool, true, false, List, [], ◌∷◌, ◌++◌, length, Option, Some, None, ap, ◌∙◌, sym, refl, subst, append_assoc, append-nil}
use Rattle.std.specs.Prelude.{◌&&◌, ◌||◌, not, is_some, ◌==◌, nat_lt, if◌then◌else◌}
use Rattle.std.specs.List.{list_all, list_any}
use Rattle.std.proofs.lemmas.Bool.{and_from, and_parts, or_left, or_right, ltb-true, le-ltb, lt-ltb, eq-eqb, ne_eqb, cases_eq}
use Rattle.std.proofs.lemmas.List.Folds.{list_all-append, list_any-append}
use Rattle.dk_types.specs.declared.reply.Reply.{Reply}
use Rattle.dk_types.specs.declared.reply.Reply.TheVariants as told
use Rattle.dk_types.specs.declared.reply.Refusal.TheVariants as why
use Rattle.dk_si.specs.declared.history.Entry.{Entry}
use Rattle.dk_si.specs.declared.history.Entry.TheVariants as history
use Rattle.dk_si.specs.declared.exchange.Replied.{Replied}
use Rattle.dk_si.specs.declared.exchange.Exchange.{Exchange}
use Rattle.dk_si.specs.declared.limits.TheConstants.{MAX_ITERATION}
use Rattle.dk_si.specs.declared.standing.Flight.{Flight}
use Rattle.dk_si.specs.declared.standing.Cause.{Cause}
use Rattle.dk_si.specs.declared.standing.Cause.TheVariants.{Iteration}
use Rattle.dk_si.specs.declared.standing.Need.{Need}
use Rattle.dk_si.specs.declared.standing.Written.{Written}
use Rattle.dk_si.specs.Machine.{asks_for}
use Rattle.dk_si.specs.ReplyTests.{is_refused, has_no_iteration, is_commit, is_stopped_refusal, is_stop, iteration_of}
use Rattle.dk_si.specs.Exchanges.{is_checkpoint, exchanges, exchanges_and}
use Rattle.dk_si.specs.IsLegal.{keeps_stop, may_have_stopped, is_reached, are_in_order, follows_at, spent_at, stands_in_order, stops_well, iterates_well}
use Rattle.dk_si.specs.Standing.{FullStanding, first_standing, waits, settles, owes_iteration, owes, stop_before, is_of, may_pay, are_payable, comes_after, is_only, iterates, may_end_all, written_at, standing_and, stands_on, standing_from, standing_after, StandingAndOne, StandsWell}
use Rattle.dk_si.proofs.ForwardLemmas.{and_assoc}
use Rattle.dk_si.proofs.ExchangeLemmas.{exchange_of, exchanges_and_one, is_before}
use Rattle.dk_si.proofs.FrontLemmas.{all_by, all_with, answered, well_before_reply, well_before_call}
use Rattle.dk_si.proofs.TestLemmas.{all_same, any_same, any_or, and_swap, all_and, all_not, every, any_and}
use Rattle.dk_si.proofs.StandingStateLemmas.{in_flight, told_in, asked_in, all_in_flight, flight_with, reply_at, asked_behind, stops_at, paid_at, written_as, need_of, needs_at, Stands, first_stands, or_false, and_on, and_turn, not_all, flights_all, asked_same, reply_stands, called, call_stands, begun_stands}

-- what a reply needs of the calls before it, in the words of the whole list
abbrev explains : ℕ → Cause → Exchange → Bool
explains place cause exchange =
    nat_lt exchange.place place && elim exchange.replied [ None ↦ waits cause exchange.checkpoint | Some replied ↦ settles cause exchange.checkpoint replied.reply ]

abbrev owed_at : ℕ → List Exchange → Flight → Replied → Bool
owed_at opened all flight replied = list_all (λ cause. list_any (explains replied.place cause) all) (owes opened flight.checkpoint replied.reply)

explains_each : (place : ℕ) (cause : Cause) (session at : ℕ) (checkpoint : Bool) (replied : Option Replied)
    → explains place cause (exchange_of session at checkpoint replied)
    ≡ (told_in (paid_at place cause) (exchange_of session at checkpoint replied) || in_flight (may_pay (need_of cause place)) (exchange_of session at checkpoint replied))
explains_each place cause session at checkpoint None = refl
explains_each place cause session at checkpoint (Some replied) = or_false (nat_lt at place && settles cause checkpoint replied.reply)

explained_is : (opened : ℕ) (standing : FullStanding) (all : List Exchange) → Stands opened standing all → (place : ℕ) (cause : Cause)
    → list_any (explains place cause) all
    ≡ (list_any (told_in (paid_at place cause)) all || list_any (may_pay (need_of cause place)) standing.flights)
explained_is opened standing all stands place cause =
    any_same _ _ all (λ e. explains_each place cause e.session e.place e.checkpoint e.replied)
    ∙ (any_or (told_in (paid_at place cause)) (in_flight (may_pay (need_of cause place))) all
    ∙ ap (λ b. list_any (told_in (paid_at place cause)) all || b) (sym (stands.flights (may_pay (need_of cause place)))))

owed_is : (opened : ℕ) (standing : FullStanding) (all : List Exchange) → Stands opened standing all
    → list_all (asked_in (owed_at opened all)) all ≡ are_payable standing
owed_is opened standing all stands =
    let payable : Need → Bool = λ need. list_any (may_pay need) standing.flights in
    all_same _ _ all (λ e. asked_same (owed_at opened all) (needs_at opened all payable)
    (λ flight replied. all_same _ _ (owes opened flight.checkpoint replied.reply) (λ cause. explained_is opened standing all stands replied.place cause))
    e.session e.place e.checkpoint e.replied)
    ∙ sym (stands.needs payable)

-- the two conditions in parts
abbrev above : ℕ → Option ℕ → Bool
above opened None = true
above opened (Some iteration) = nat_lt opened iteration

abbrev above_at : ℕ → Flight → Replied → Bool
above_at opened flight replied = not flight.checkpoint || above opened (iteration_of replied.reply)

abbrev stop_told : List Exchange → Replied → Bool
stop_told all replied = not (is_refused is_stopped_refusal replied.reply) || list_any (may_have_stopped replied.place) all

owed_one : (test : Cause → Bool) (iteration : ℕ) (here : Bool)
    → (here || test (Iteration iteration)) ≡ list_all test (if here then [] else Iteration iteration ∷ [])
owed_one test iteration true = refl
owed_one test iteration false = and_on (test (Iteration iteration))

spent_owes : (test : Cause → Bool) (opened : ℕ) (none : Bool)
    → (not none || (MAX_ITERATION == opened || test (Iteration MAX_ITERATION))) ≡ list_all test (if none then owes_iteration opened MAX_ITERATION else [])
spent_owes test opened true = owed_one test MAX_ITERATION (MAX_ITERATION == opened)
spent_owes test opened false = refl

split_at : (opened : ℕ) (all : List Exchange) (session at : ℕ) (checkpoint : Bool) (place : ℕ) (reply : Reply)
    → (stop_told all (reply_at place reply) && (not checkpoint || (follows_at opened all (reply_at place reply) && spent_at opened all (reply_at place reply))))
    ≡ (above_at opened (flight_with session at checkpoint) (reply_at place reply) && owed_at opened all (flight_with session at checkpoint) (reply_at place reply))
split_at opened all session at false place (told.Checkpointed iteration) = refl
split_at opened all session at true place (told.Checkpointed iteration) =
    sym (and_on (nat_lt opened iteration && is_reached opened all place (iteration - 1)))
    ∙ ap (λ b. nat_lt opened iteration && b) (owed_one (λ cause. list_any (explains place cause) all) (iteration - 1) (iteration - 1 == opened))
split_at opened all session at false place (told.Refused (why.Stopped first)) = refl
split_at opened all session at true place (told.Refused (why.Stopped first)) = refl
split_at opened all session at false place (told.Refused (why.Exhausted numbers)) = refl
split_at opened all session at true place (told.Refused (why.Exhausted numbers)) =
    spent_owes (λ cause. list_any (explains place cause) all) opened (has_no_iteration (why.Exhausted numbers))
split_at opened all session at false place (told.Refused other) = refl
split_at opened all session at true place (told.Refused other) = refl
split_at opened all session at false place other = refl
split_at opened all session at true place other = refl

asked_and : (a b : Flight → Replied → Bool) (session at : ℕ) (checkpoint : Bool) (replied : Option Replied)
    → asked_in (λ flight replied. a flight replied && b flight replied) (exchange_of session at checkpoint replied)
    ≡ (asked_in a (exchange_of session at checkpoint replied) && asked_in b (exchange_of session at checkpoint replied))
asked_and a b session at checkpoint None = refl
asked_and a b session at checkpoint (Some replied) = refl

all_asked_and : (a b : Flight → Replied → Bool) (all : List Exchange)
    → list_all (asked_in (λ flight replied. a flight replied && b flight replied)) all ≡ (list_all (asked_in a) all && list_all (asked_in b) all)
all_asked_and a b all =
    all_same _ _ all (λ e. asked_and a b e.session e.place e.checkpoint e.replied) ∙ all_and (asked_in a) (asked_in b) all

all_asked_same : (a b : Flight → Replied → Bool) (all : List Exchange) → ((flight : Flight) (replied : Replied) → a flight replied ≡ b flight replied)
    → list_all (asked_in a) all ≡ list_all (asked_in b) all
all_asked_same a b all same = all_same _ _ all (λ e. asked_same a b same e.session e.place e.checkpoint e.replied)

abbrev pair_at : List Exchange → Flight → Replied → Bool
pair_at all flight replied = not (is_stop replied.reply) || list_all (keeps_stop replied.place) all

abbrev whole : ℕ → List Exchange → Bool
whole opened all = stops_well all && iterates_well opened all

abbrev parts : ℕ → List Exchange → Bool
parts opened all =
    (list_all (asked_in (pair_at all)) all && list_all (stands_in_order all) all)
    && (list_all (asked_in (above_at opened)) all && list_all (asked_in (owed_at opened all)) all)

whole_is : (opened : ℕ) (all : List Exchange) → whole opened all ≡ parts opened all
whole_is opened all =
    let stops : Flight → Replied → Bool = λ flight replied. stop_told all replied in
    let follows : Flight → Replied → Bool = λ flight replied. not flight.checkpoint || (follows_at opened all replied && spent_at opened all replied) in
    ap (λ b. b && (list_all (stands_in_order all) all && list_all (asked_in follows) all)) (all_asked_and (pair_at all) stops all)
    ∙ (and_swap (list_all (asked_in (pair_at all)) all) (list_all (asked_in stops) all) (list_all (stands_in_order all) all) (list_all (asked_in follows) all)
    ∙ ap (λ b. (list_all (asked_in (pair_at all)) all && list_all (stands_in_order all) all) && b)
    (sym (all_asked_and stops follows all)
    ∙ (all_asked_same _ _ all (λ flight replied. split_at opened all flight.session flight.place flight.checkpoint replied.place replied.reply)
    ∙ all_asked_and (above_at opened) (owed_at opened all) all)))

-- a condition on replies, behind one more
asked_more : (opened : ℕ) (standing : FullStanding) (all : List Exchange) → Stands opened standing all
    → (test : Flight → Replied → Bool) (session : ℕ) (reply : Reply)
    → list_all (asked_in test) (answered session standing.place reply all)
    ≡ (list_all (λ flight. not (is_of session flight) || test flight (reply_at standing.place reply)) standing.flights && list_all (asked_in test) all)
asked_more opened standing all stands test session reply =
    asked_behind test session standing.place reply all
    ∙ ap (λ b. b && list_all (asked_in test) all) (sym (flights_all opened standing all stands (λ flight. not (is_of session flight) || test flight (reply_at standing.place reply))))

-- quantifiers in the other order
all_swap : {T U : Type 0} → (R : T → U → Bool) → (xs : List T) (ys : List U) → list_all (λ x. list_all (R x) ys) xs ≡ list_all (λ y. list_all (λ x. R x y) xs) ys
all_swap R [] ys = sym (every ys)
all_swap R (x ∷ xs) ys =
    ap (λ b. list_all (R x) ys && b) (all_swap R xs ys) ∙ sym (all_and (R x) (λ y. list_all (λ x. R x y) xs) ys)

asked_inside : (R : Flight → Flight → Replied → Bool) (flights : List Flight) (session at : ℕ) (checkpoint : Bool) (replied : Option Replied)
    → asked_in (λ flight replied. list_all (λ other. R other flight replied) flights) (exchange_of session at checkpoint replied)
    ≡ list_all (λ other. asked_in (R other) (exchange_of session at checkpoint replied)) flights
asked_inside R flights session at checkpoint None = sym (every flights)
asked_inside R flights session at checkpoint (Some replied) = refl

asked_swap : (R : Flight → Flight → Replied → Bool) (flights : List Flight) (all : List Exchange)
    → list_all (asked_in (λ flight replied. list_all (λ other. R other flight replied) flights)) all
    ≡ list_all (λ other. list_all (asked_in (R other)) all) flights
asked_swap R flights all =
    all_same _ _ all (λ e. asked_inside R flights e.session e.place e.checkpoint e.replied)
    ∙ all_swap (λ e other. asked_in (R other) e) all flights

or_and : (a b c : Bool) → (a || (b && c)) ≡ ((a || b) && (a || c))
or_and true b c = refl
or_and false b c = refl

asked_or : (a : Bool) (test : Flight → Replied → Bool) (session at : ℕ) (checkpoint : Bool) (replied : Option Replied)
    → asked_in (λ flight replied. a || test flight replied) (exchange_of session at checkpoint replied) ≡ (a || asked_in test (exchange_of session at checkpoint replied))
asked_or true test session at checkpoint None = refl
asked_or false test session at checkpoint None = refl
asked_or a test session at checkpoint (Some replied) = refl

all_or : {T : Type 0} → (a : Bool) (P : T → Bool) → (xs : List T) → list_all (λ x. a || P x) xs ≡ (a || list_all P xs)
all_or true P xs = every xs
all_or false P xs = refl

all_asked_or : (a : Bool) (test : Flight → Replied → Bool) (all : List Exchange)
    → list_all (asked_in (λ flight replied. a || test flight replied)) all ≡ (a || list_all (asked_in test) all)
all_asked_or a test all = all_same _ _ all (λ e. asked_or a test e.session e.place e.checkpoint e.replied) ∙ all_or a (asked_in test) all

or_turn_in : (a b c : Bool) → (a || (b || c)) ≡ (b || (a || c))
or_turn_in true true c = refl
or_turn_in true false c = refl
or_turn_in false b c = refl

-- no commit behind a stop
abbrev keep_at : ℕ → Flight → Replied → Bool
keep_at place flight replied =
    not ((nat_lt place replied.place && is_commit replied.reply) || (nat_lt place flight.place && is_some (iteration_of replied.reply)))

keep_each : (place session at : ℕ) (checkpoint : Bool) (replied : Option Replied)
    → keeps_stop place (exchange_of session at checkpoint replied) ≡ asked_in (keep_at place) (exchange_of session at checkpoint replied)
keep_each place session at checkpoint None = refl
keep_each place session at checkpoint (Some replied) = refl

keeps_is : (place : ℕ) (all : List Exchange) → list_all (keeps_stop place) all ≡ list_all (asked_in (keep_at place)) all
keeps_is place all = all_same _ _ all (λ e. keep_each place e.session e.place e.checkpoint e.replied)

none_behind : (n session at : ℕ) (checkpoint : Bool) (replied : Option Replied) → is_before (n + 1) (exchange_of session at checkpoint replied) ≡ true
    → asked_in (keep_at n) (exchange_of session at checkpoint replied) ≡ true
none_behind n session at checkpoint None h = refl
none_behind n session at checkpoint (Some replied) h =
    let k = and_parts (nat_lt at (n + 1)) (nat_lt replied.place (n + 1)) h in
    let one = ltb-true at (n + 1) k.0 in
    let other = ltb-true replied.place (n + 1) k.1 in
    ap (λ b. not ((b && is_commit replied.reply) || (nat_lt n at && is_some (iteration_of replied.reply)))) (le-ltb n replied.place (omega (arith, other)))
    ∙ ap (λ b. not (b && is_some (iteration_of replied.reply))) (le-ltb n at (omega (arith, one)))

stop_told_each : (n x : ℕ) (commits writes : Bool) (session at : ℕ) (checkpoint : Bool) (replied : Option Replied)
    → asked_in (λ flight replied. not (is_stop replied.reply) || not ((nat_lt replied.place n && commits) || (nat_lt replied.place x && writes))) (exchange_of session at checkpoint replied)
    ≡ not ((told_in (stops_at n) (exchange_of session at checkpoint replied) && commits) || (told_in (stops_at x) (exchange_of session at checkpoint replied) && writes))
stop_told_each n x commits writes session at checkpoint None = refl
stop_told_each n x commits writes session at checkpoint (Some replied) = either_stop (is_stop replied.reply) (nat_lt replied.place n) (nat_lt replied.place x) commits writes
  where
    either_stop : (stops a b commits writes : Bool)
        → (not stops || not ((a && commits) || (b && writes))) ≡ not (((stops && a) && commits) || ((stops && b) && writes))
    either_stop true a b commits writes = refl
    either_stop false a b commits writes = refl

some_stop : (stop : Option ℕ) (n : ℕ) → ((first : ℕ) → stop ≡ Some first → first < n) → stop_before stop n ≡ is_some stop
some_stop None n within = refl
some_stop (Some first) n within = lt-ltb first n (within first refl)

stops_told : (opened : ℕ) (standing : FullStanding) (all : List Exchange) → Stands opened standing all → (x : ℕ) (commits writes : Bool)
    → list_all (asked_in (λ flight replied. not (is_stop replied.reply) || not ((nat_lt replied.place standing.place && commits) || (nat_lt replied.place x && writes)))) all
    ≡ not ((is_some standing.stop && commits) || (stop_before standing.stop x && writes))
stops_told opened standing all stands x commits writes =
    let n = standing.place in
    all_same _ _ all (λ e. stop_told_each n x commits writes e.session e.place e.checkpoint e.replied)
    ∙ (sym (not_all (λ e. (told_in (stops_at n) e && commits) || (told_in (stops_at x) e && writes)) all)
    ∙ ap not
    (any_or (λ e. told_in (stops_at n) e && commits) (λ e. told_in (stops_at x) e && writes) all
    ∙ (ap (λ b. b || list_any (λ e. told_in (stops_at x) e && writes) all)
    (any_and commits (told_in (stops_at n)) all ∙ ap (λ b. b && commits) (sym (stands.stop n) ∙ some_stop standing.stop n stands.within))
    ∙ ap (λ b. (is_some standing.stop && commits) || b) (any_and writes (told_in (stops_at x)) all ∙ ap (λ b. b && writes) (sym (stands.stop x))))))

abbrev ends_stop : FullStanding → Reply → Flight → Bool
ends_stop standing reply flight =
    not ((is_some standing.stop && is_commit reply) || (stop_before standing.stop flight.place && is_some (iteration_of reply)))

all_on : {T : Type 0} → (P : T → Bool) → (xs : List T) → ((x : T) → P x ≡ true) → list_all P xs ≡ true
all_on P [] on = refl
all_on P (x ∷ xs) on = and_from _ _ (on x) (all_on P xs on)

pairs_more : (opened : ℕ) (standing : FullStanding) (all : List Exchange) → Stands opened standing all → (session : ℕ) (reply : Reply)
    → list_all (asked_in (pair_at (answered session standing.place reply all))) (answered session standing.place reply all)
    ≡ (list_all (λ flight. not (is_of session flight) || ends_stop standing reply flight) standing.flights && list_all (asked_in (pair_at all)) all)
pairs_more opened standing all stands session reply =
    let n = standing.place in
    let behind = answered session n reply all in
    let new = reply_at n reply in
    let rest : Flight → Replied → Bool = λ flight replied. not (is_stop replied.reply) || list_all (λ other. not (is_of session other) || keep_at replied.place other new) standing.flights in
    let after = reply_stands opened standing all stands session reply in
    let last : list_all (keeps_stop n) behind ≡ true = keeps_is n behind ∙ all_by (is_before (n + 1)) _ behind (λ e h. none_behind n e.session e.place e.checkpoint e.replied h) after.before in
    asked_more opened standing all stands (pair_at behind) session reply
    ∙ (ap (λ b. b && list_all (asked_in (pair_at behind)) all)
    (all_on (λ flight. not (is_of session flight) || pair_at behind flight new) standing.flights
    (λ flight. or_right (not (is_of session flight)) _ (or_right (not (is_stop reply)) _ last)))
    ∙ (all_asked_same (pair_at behind) (λ flight replied. rest flight replied && pair_at all flight replied) all
    (λ flight replied. ap (λ b. not (is_stop replied.reply) || b)
    (keeps_is replied.place behind ∙ (asked_more opened standing all stands (keep_at replied.place) session reply
    ∙ ap (λ b. list_all (λ other. not (is_of session other) || keep_at replied.place other new) standing.flights && b) (sym (keeps_is replied.place all))))
    ∙ or_and (not (is_stop replied.reply)) _ _)
    ∙ (all_asked_and rest (pair_at all) all
    ∙ ap (λ b. b && list_all (asked_in (pair_at all)) all)
    (all_asked_same rest (λ flight replied. list_all (λ other. not (is_of session other) || (not (is_stop replied.reply) || keep_at replied.place other new)) standing.flights) all
    (λ flight replied. sym (all_or (not (is_stop replied.reply)) (λ other. not (is_of session other) || keep_at replied.place other new) standing.flights)
    ∙ all_same _ _ standing.flights (λ other. or_turn_in (not (is_stop replied.reply)) (not (is_of session other)) (keep_at replied.place other new)))
    ∙ (asked_swap (λ other flight replied. not (is_of session other) || (not (is_stop replied.reply) || keep_at replied.place other new)) standing.flights all
    ∙ all_same _ _ standing.flights (λ other.
    all_asked_or (not (is_of session other)) (λ flight replied. not (is_stop replied.reply) || keep_at replied.place other new) all
    ∙ ap (λ b. not (is_of session other) || b) (stops_told opened standing all stands other.place (is_commit reply) (is_some (iteration_of reply)))))))))

-- the order of iterations
abbrev ordered : ℕ → ℕ → Option ℕ → ℕ → Option ℕ → Bool
ordered at place None to other = true
ordered at place (Some a) to None = true
ordered at place (Some a) to (Some b) = (at == to || not (a == b)) && (not (nat_lt place to) || nat_lt a b)

ordered_none : (at place to : ℕ) (found : Option ℕ) → ordered at place found to None ≡ true
ordered_none at place to None = refl
ordered_none at place to (Some a) = refl

abbrev iteration_by : Flight → Reply → Option ℕ
iteration_by flight reply = if flight.checkpoint then iteration_of reply else None

abbrev order_at : Flight → Replied → Flight → Replied → Bool
order_at flight replied other answer =
    ordered flight.place replied.place (iteration_by flight replied.reply) other.place (iteration_by other answer.reply)

unanswered : (found : Option ℕ) → elim found as (λ x. Bool) [ None ↦ true | Some a ↦ true ] ≡ true
unanswered None = refl
unanswered (Some a) = refl

order_found : (at place to : ℕ) (first second : Option ℕ)
    → elim first as (λ x. Bool) [
      | None ↦ true
      | Some a ↦ elim second as (λ x. Bool) [ None ↦ true | Some b ↦ (at == to || not (a == b)) && (not (nat_lt place to) || nat_lt a b) ]
    ] ≡ ordered at place first to second
order_found at place to None second = refl
order_found at place to (Some a) None = refl
order_found at place to (Some a) (Some b) = refl

order_each : (session at : ℕ) (checkpoint : Bool) (replied : Replied) (other to : ℕ) (also : Bool) (answer : Option Replied)
    → are_in_order (exchange_of session at checkpoint (Some replied)) (exchange_of other to also answer)
    ≡ asked_in (order_at (flight_with session at checkpoint) replied) (exchange_of other to also answer)
order_each session at checkpoint replied other to also None = unanswered (if checkpoint then iteration_of replied.reply else None)
order_each session at checkpoint replied other to also (Some answer) =
    order_found at replied.place to (if checkpoint then iteration_of replied.reply else None) (if also then iteration_of answer.reply else None)

abbrev orders : List Exchange → Flight → Replied → Bool
orders all flight replied = list_all (asked_in (order_at flight replied)) all

order_in : (all : List Exchange) (session at : ℕ) (checkpoint : Bool) (replied : Option Replied)
    → stands_in_order all (exchange_of session at checkpoint replied) ≡ asked_in (orders all) (exchange_of session at checkpoint replied)
order_in all session at checkpoint None = all_on _ all (λ e. refl)
order_in all session at checkpoint (Some replied) =
    all_same _ _ all (λ e. order_each session at checkpoint replied e.session e.place e.checkpoint e.replied)

order_is : (all : List Exchange) → list_all (stands_in_order all) all ≡ list_all (asked_in (orders all)) all
order_is all = all_same _ _ all (λ e. order_in all e.session e.place e.checkpoint e.replied)

abbrev among : FullStanding → ℕ → Reply → Flight → Bool
among standing session reply flight =
    list_all (λ other. not (is_of session other) || order_at flight (reply_at standing.place reply) other (reply_at standing.place reply)) standing.flights

abbrev behind_all : List Exchange → ℕ → Reply → Flight → Bool
behind_all all n reply flight = list_all (asked_in (λ other answer. order_at other answer flight (reply_at n reply))) all

order_more : (opened : ℕ) (standing : FullStanding) (all : List Exchange) → Stands opened standing all → (session : ℕ) (reply : Reply)
    → list_all (stands_in_order (answered session standing.place reply all)) (answered session standing.place reply all)
    ≡ (list_all (λ flight. not (is_of session flight) || (among standing session reply flight && orders all flight (reply_at standing.place reply))) standing.flights
    && (list_all (λ flight. not (is_of session flight) || behind_all all standing.place reply flight) standing.flights && list_all (stands_in_order all) all))
order_more opened standing all stands session reply =
    let n = standing.place in
    let new = reply_at n reply in
    let behind = answered session n reply all in
    let more : Flight → Replied → Bool = λ flight replied. list_all (λ other. not (is_of session other) || order_at flight replied other new) standing.flights in
    order_is behind
    ∙ (asked_more opened standing all stands (orders behind) session reply
    ∙ (ap (λ b. b && list_all (asked_in (orders behind)) all)
    (all_same _ _ standing.flights (λ flight. ap (λ b. not (is_of session flight) || b) (asked_more opened standing all stands (order_at flight new) session reply)))
    ∙ ap (λ b. list_all (λ flight. not (is_of session flight) || (among standing session reply flight && orders all flight new)) standing.flights && b)
    (all_asked_same (orders behind) (λ flight replied. more flight replied && orders all flight replied) all
    (λ flight replied. asked_more opened standing all stands (order_at flight replied) session reply)
    ∙ (all_asked_and more (orders all) all
    ∙ (ap (λ b. b && list_all (asked_in (orders all)) all)
    (asked_swap (λ other flight replied. not (is_of session other) || order_at flight replied other new) standing.flights all
    ∙ all_same _ _ standing.flights (λ other. all_asked_or (not (is_of session other)) (λ flight replied. order_at flight replied other new) all))
    ∙ ap (λ b. list_all (λ flight. not (is_of session flight) || behind_all all n reply flight) standing.flights && b) (sym (order_is all)))))))

all_given : {T : Type 0} → (G P Q : T → Bool) → (xs : List T) → ((x : T) → G x ≡ true → P x ≡ Q x) → list_all G xs ≡ true → list_all P xs ≡ list_all Q xs
all_given G P Q [] same good = refl
all_given G P Q (x ∷ xs) same good =
    let h = and_parts (G x) (list_all G xs) good in
    ap (λ b. b && list_all P xs) (same x h.0) ∙ ap (λ b. Q x && b) (all_given G P Q xs same h.1)

early_flight : (n session at : ℕ) (checkpoint : Bool) (replied : Option Replied) → is_before n (exchange_of session at checkpoint replied) ≡ true
    → all_in_flight (λ flight. nat_lt flight.place n) (exchange_of session at checkpoint replied) ≡ true
early_flight n session at checkpoint None h = (and_parts (nat_lt at n) true h).0
early_flight n session at checkpoint (Some replied) h = refl

early_flights : (opened : ℕ) (standing : FullStanding) (all : List Exchange) → Stands opened standing all
    → list_all (λ flight. nat_lt flight.place standing.place) standing.flights ≡ true
early_flights opened standing all stands =
    flights_all opened standing all stands (λ flight. nat_lt flight.place standing.place)
    ∙ all_by (is_before standing.place) _ all (λ e h. early_flight standing.place e.session e.place e.checkpoint e.replied h) stands.before

-- the iterations that were answered
not_written : (test : Written → Bool) (session at : ℕ) (checkpoint : Bool) (replied : Option Replied)
    → not (told_in (written_as (λ written. not (test written))) (exchange_of session at checkpoint replied))
    ≡ asked_in (λ flight replied. list_all test (written_at replied.place flight (iteration_by flight replied.reply))) (exchange_of session at checkpoint replied)
not_written test session at checkpoint None = refl
not_written test session at checkpoint (Some replied) =
    sym (all_not test (written_at replied.place (flight_with session at checkpoint) (if checkpoint then iteration_of replied.reply else None)))

written_all : (opened : ℕ) (standing : FullStanding) (all : List Exchange) → Stands opened standing all → (test : Written → Bool)
    → list_all test standing.written ≡ list_all (asked_in (λ flight replied. list_all test (written_at replied.place flight (iteration_by flight replied.reply)))) all
written_all opened standing all stands test =
    all_not test standing.written
    ∙ (ap not (stands.written (λ written. not (test written)))
    ∙ (not_all (told_in (written_as (λ written. not (test written)))) all
    ∙ all_same _ _ all (λ e. not_written test e.session e.place e.checkpoint e.replied)))

-- the order with the iterations that were answered
abbrev after_written : FullStanding → Flight → ℕ → Bool
after_written standing flight iteration = list_all (comes_after flight iteration) standing.written

after_found : (flight : Flight) (iteration place : ℕ) (other : Flight) (found : Option ℕ)
    → list_all (comes_after flight iteration) (written_at place other found) ≡ ordered other.place place found flight.place (Some iteration)
after_found flight iteration place other None = refl
after_found flight iteration place other (Some a) =
    sym (and_on ((other.place == flight.place || not (a == iteration)) && (not (nat_lt place flight.place) || nat_lt a iteration)))

after_is : (opened : ℕ) (standing : FullStanding) (all : List Exchange) → Stands opened standing all → (flight : Flight) (iteration : ℕ)
    → list_all (asked_in (λ other answer. ordered other.place answer.place (iteration_by other answer.reply) flight.place (Some iteration))) all ≡ after_written standing flight iteration
after_is opened standing all stands flight iteration = sym
    (written_all opened standing all stands (comes_after flight iteration)
    ∙ all_asked_same _ _ all (λ other answer. after_found flight iteration answer.place other (iteration_by other answer.reply)))

eq_turn : (x y : ℕ) → (x == y) ≡ (y == x)
eq_turn x y = ⊎_elim
    (λ same. eq-eqb x y same ∙ sym (eq-eqb y x (sym same)))
    (λ apart. ne_eqb x y apart ∙ sym (ne_eqb y x (λ e. apart (sym e))))
    (cases_eq x y)

turned : (n at iteration to place : ℕ) (found : Option ℕ) → nat_lt to n ≡ true → ordered to place found at (Some iteration) ≡ true
    → ordered at n (Some iteration) to found ≡ true
turned n at iteration to place None less e = refl
turned n at iteration to place (Some a) less e =
    let h = (and_parts (to == at || not (a == iteration)) _ e).0 in
    let before = ltb-true to n less in
    and_from (at == to || not (iteration == a)) (not (nat_lt n to) || nat_lt iteration a)
    (ap (λ b. b || not (iteration == a)) (eq_turn at to) ∙ (ap (λ b. to == at || not b) (eq_turn iteration a) ∙ h))
    (ap (λ b. not b || nat_lt iteration a) (le-ltb n to (omega (arith, before))))

turned_each : (n at iteration : ℕ) (session to : ℕ) (also : Bool) (answer : Option Replied) → is_before n (exchange_of session to also answer) ≡ true
    → asked_in (λ other answer. ordered other.place answer.place (iteration_by other answer.reply) at (Some iteration)) (exchange_of session to also answer) ≡ true
    → asked_in (λ other answer. ordered at n (Some iteration) other.place (iteration_by other answer.reply)) (exchange_of session to also answer) ≡ true
turned_each n at iteration session to also None before e = refl
turned_each n at iteration session to also (Some answer) before e =
    turned n at iteration to answer.place (if also then iteration_of answer.reply else None) (and_parts (nat_lt to n) (nat_lt answer.place n) before).0 e

absorbed : (a b : Bool) → (b ≡ true → a ≡ true) → (a && b) ≡ b
absorbed true b by = refl
absorbed false true by = by refl
absorbed false false by = refl

only_if : (a e l m : Bool) → e ≡ true → l ≡ false → ((a || not e) && (not l || m)) ≡ a
only_if a e l m one none =
    ap (λ b. (a || not b) && (not l || m)) one ∙ (ap (λ b. (a || false) && (not b || m)) none ∙ (sym (and_on (a || false)) ∙ sym (or_false a)))

only_each : (session n at iteration : ℕ) (to : ℕ) (also here : Bool) → nat_lt to n ≡ true
    → (not here || ordered at n (Some iteration) to (if also then Some iteration else None)) ≡ (not (here && also) || at == to)
only_each session n at iteration to also false less = refl
only_each session n at iteration to false true less = refl
only_each session n at iteration to true true less =
    let before = ltb-true to n less in
    only_if (at == to) (iteration == iteration) (nat_lt n to) (nat_lt iteration iteration) (eq-eqb iteration iteration refl) (le-ltb n to (omega (arith, before)))

abbrev in_order : FullStanding → ℕ → Flight → Option ℕ → Bool
in_order standing session flight None = true
in_order standing session flight (Some iteration) = after_written standing flight iteration && list_all (is_only session flight) standing.flights

abbrev order_parts : FullStanding → List Exchange → ℕ → Flight → Option ℕ → Bool → Bool
order_parts standing all session flight found checkpoint =
    (list_all (λ other. not (is_of session other) || ordered flight.place standing.place (if checkpoint then found else None) other.place (if other.checkpoint then found else None)) standing.flights
    && list_all (asked_in (λ other answer. ordered flight.place standing.place (if checkpoint then found else None) other.place (iteration_by other answer.reply))) all)
    && list_all (asked_in (λ other answer. ordered other.place answer.place (iteration_by other answer.reply) flight.place (if checkpoint then found else None))) all

asked_on : (test : Flight → Replied → Bool) (session at : ℕ) (checkpoint : Bool) (replied : Option Replied)
    → ((flight : Flight) (replied : Replied) → test flight replied ≡ true) → asked_in test (exchange_of session at checkpoint replied) ≡ true
asked_on test session at checkpoint None on = refl
asked_on test session at checkpoint (Some replied) on = on (flight_with session at checkpoint) replied

no_parts : (standing : FullStanding) (all : List Exchange) (session : ℕ) (flight : Flight) (found : Option ℕ)
    → ((list_all (λ other. not (is_of session other) || ordered flight.place standing.place None other.place (if other.checkpoint then found else None)) standing.flights
    && list_all (asked_in (λ other answer. ordered flight.place standing.place None other.place (iteration_by other answer.reply))) all)
    && list_all (asked_in (λ other answer. ordered other.place answer.place (iteration_by other answer.reply) flight.place None)) all) ≡ true
no_parts standing all session flight found =
    and_from _ _
    (and_from _ _
    (all_on (λ other. not (is_of session other) || ordered flight.place standing.place None other.place (if other.checkpoint then found else None)) standing.flights (λ other. or_right (not (is_of session other)) true refl))
    (all_on (asked_in (λ other answer. ordered flight.place standing.place None other.place (iteration_by other answer.reply))) all
    (λ e. asked_on (λ other answer. ordered flight.place standing.place None other.place (iteration_by other answer.reply)) e.session e.place e.checkpoint e.replied (λ other answer. refl))))
    (all_on (asked_in (λ other answer. ordered other.place answer.place (iteration_by other answer.reply) flight.place None)) all
    (λ e. asked_on (λ other answer. ordered other.place answer.place (iteration_by other answer.reply) flight.place None) e.session e.place e.checkpoint e.replied
    (λ other answer. ordered_none other.place answer.place flight.place (iteration_by other answer.reply))))

parts_is : (opened : ℕ) (standing : FullStanding) (all : List Exchange) → Stands opened standing all → (session : ℕ) (flight : Flight) (found : Option ℕ) (checkpoint : Bool)
    → order_parts standing all session flight found checkpoint ≡ (not checkpoint || in_order standing session flight found)
parts_is opened standing all stands session flight found false = no_parts standing all session flight found
parts_is opened standing all stands session flight None true = no_parts standing all session flight None
parts_is opened standing all stands session flight (Some iteration) true =
    let n = standing.place in
    let one = list_all (λ other. not (is_of session other) || ordered flight.place n (Some iteration) other.place (if other.checkpoint then Some iteration else None)) standing.flights in
    let two = list_all (asked_in (λ other answer. ordered flight.place n (Some iteration) other.place (iteration_by other answer.reply))) all in
    let three = list_all (asked_in (λ other answer. ordered other.place answer.place (iteration_by other answer.reply) flight.place (Some iteration))) all in
    sym (and_assoc one two three)
    ∙ (ap (λ b. one && b) (absorbed two three
    (λ e. all_with (is_before n) _ _ all (λ x before h. turned_each n flight.place iteration x.session x.place x.checkpoint x.replied before h) stands.before e))
    ∙ (ap (λ b. b && three)
    (all_given (λ other. nat_lt other.place n) _ (is_only session flight) standing.flights
    (λ other less. only_each session n flight.place iteration other.place other.checkpoint (is_of session other) less) (early_flights opened standing all stands))
    ∙ (ap (λ b. list_all (is_only session flight) standing.flights && b) (after_is opened standing all stands flight iteration)
    ∙ and_turn (list_all (is_only session flight) standing.flights) (after_written standing flight iteration))))

-- what a reply asks of what stands
ends_in : (opened : ℕ) (standing : FullStanding) (session : ℕ) (flight : Flight) (checkpoint : Bool) (found : Option ℕ)
    → (not checkpoint || iterates opened standing session flight found) ≡ ((not checkpoint || above opened found) && (not checkpoint || in_order standing session flight found))
ends_in opened standing session flight false found = refl
ends_in opened standing session flight true None = refl
ends_in opened standing session flight true (Some iteration) = refl

abbrev each_call : ℕ → FullStanding → (Flight → Bool) → Bool
each_call session standing test = list_all (λ flight. not (is_of session flight) || test flight) standing.flights

each_and : (session : ℕ) (standing : FullStanding) (a b : Flight → Bool)
    → each_call session standing (λ flight. a flight && b flight) ≡ (each_call session standing a && each_call session standing b)
each_and session standing a b =
    all_same _ _ standing.flights (λ flight. or_and (not (is_of session flight)) (a flight) (b flight))
    ∙ all_and (λ flight. not (is_of session flight) || a flight) (λ flight. not (is_of session flight) || b flight) standing.flights

may_end_is : (opened : ℕ) (standing : FullStanding) (session : ℕ) (reply : Reply)
    → may_end_all opened standing session reply
    ≡ (each_call session standing (ends_stop standing reply)
    && (each_call session standing (λ flight. not flight.checkpoint || above opened (iteration_of reply))
    && each_call session standing (λ flight. not flight.checkpoint || in_order standing session flight (iteration_of reply))))
may_end_is opened standing session reply =
    each_and session standing (ends_stop standing reply) (λ flight. not flight.checkpoint || iterates opened standing session flight (iteration_of reply))
    ∙ ap (λ b. each_call session standing (ends_stop standing reply) && b)
    (all_same _ _ standing.flights (λ flight. ap (λ b. not (is_of session flight) || b) (ends_in opened standing session flight flight.checkpoint (iteration_of reply)))
    ∙ each_and session standing (λ flight. not flight.checkpoint || above opened (iteration_of reply)) (λ flight. not flight.checkpoint || in_order standing session flight (iteration_of reply)))

order_told : (opened : ℕ) (standing : FullStanding) (all : List Exchange) → Stands opened standing all → (session : ℕ) (reply : Reply)
    → list_all (stands_in_order (answered session standing.place reply all)) (answered session standing.place reply all)
    ≡ (each_call session standing (λ flight. not flight.checkpoint || in_order standing session flight (iteration_of reply)) && list_all (stands_in_order all) all)
order_told opened standing all stands session reply =
    let first : Flight → Bool = λ flight. among standing session reply flight && orders all flight (reply_at standing.place reply) in
    let second : Flight → Bool = λ flight. behind_all all standing.place reply flight in
    order_more opened standing all stands session reply
    ∙ (and_assoc (each_call session standing first) (each_call session standing second) (list_all (stands_in_order all) all)
    ∙ ap (λ b. b && list_all (stands_in_order all) all)
    (sym (each_and session standing first second)
    ∙ all_same _ _ standing.flights (λ flight. ap (λ b. not (is_of session flight) || b)
    (parts_is opened standing all stands session flight (iteration_of reply) flight.checkpoint))))

same_bool : (a b : Bool) → (a ≡ true → b ≡ true) → (b ≡ true → a ≡ true) → a ≡ b
same_bool true true one other = refl
same_bool true false one other = sym (one refl)
same_bool false true one other = other refl
same_bool false false one other = refl

reply_parts : (opened : ℕ) (standing : FullStanding) (all : List Exchange) → Stands opened standing all → (session : ℕ) (reply : Reply)
    → whole opened (answered session standing.place reply all)
    ≡ (((each_call session standing (ends_stop standing reply) && list_all (asked_in (pair_at all)) all)
    && (each_call session standing (λ flight. not flight.checkpoint || in_order standing session flight (iteration_of reply)) && list_all (stands_in_order all) all))
    && ((each_call session standing (λ flight. not flight.checkpoint || above opened (iteration_of reply)) && list_all (asked_in (above_at opened)) all)
    && are_payable (standing_and opened standing (history.Reply session reply))))
reply_parts opened standing all stands session reply =
    let behind = answered session standing.place reply all in
    let pairs = list_all (asked_in (pair_at behind)) behind in
    let order = list_all (stands_in_order behind) behind in
    let aboves = list_all (asked_in (above_at opened)) behind in
    let owed = list_all (asked_in (owed_at opened behind)) behind in
    whole_is opened behind
    ∙ (ap (λ b. (b && order) && (aboves && owed)) (pairs_more opened standing all stands session reply)
    ∙ (ap (λ b. ((each_call session standing (ends_stop standing reply) && list_all (asked_in (pair_at all)) all) && b) && (aboves && owed)) (order_told opened standing all stands session reply)
    ∙ (ap (λ b. ((each_call session standing (ends_stop standing reply) && list_all (asked_in (pair_at all)) all)
    && (each_call session standing (λ flight. not flight.checkpoint || in_order standing session flight (iteration_of reply)) && list_all (stands_in_order all) all)) && (b && owed))
    (asked_more opened standing all stands (above_at opened) session reply)
    ∙ ap (λ b. ((each_call session standing (ends_stop standing reply) && list_all (asked_in (pair_at all)) all)
    && (each_call session standing (λ flight. not flight.checkpoint || in_order standing session flight (iteration_of reply)) && list_all (stands_in_order all) all))
    && ((each_call session standing (λ flight. not flight.checkpoint || above opened (iteration_of reply)) && list_all (asked_in (above_at opened)) all) && b))
    (owed_is opened (standing_and opened standing (history.Reply session reply)) behind (reply_stands opened standing all stands session reply)))))

regrouped : (stop pair order ordered above aboves after : Bool) → (((stop && pair) && (order && ordered)) && ((above && aboves) && after)) ≡ true
    → ((stop && (above && order)) && after) ≡ true
regrouped stop pair order ordered above aboves after e =
    let h = and_parts ((stop && pair) && (order && ordered)) ((above && aboves) && after) e in
    let k = and_parts (stop && pair) (order && ordered) h.0 in
    let m = and_parts (above && aboves) after h.1 in
    and_from (stop && (above && order)) after
    (and_from stop (above && order) (and_parts stop pair k.0).0 (and_from above order (and_parts above aboves m.0).0 (and_parts order ordered k.1).0)) m.1

grouped : (stop pair order ordered above aboves owed after : Bool) → ((pair && ordered) && (aboves && owed)) ≡ true → ((stop && (above && order)) && after) ≡ true
    → (((stop && pair) && (order && ordered)) && ((above && aboves) && after)) ≡ true
grouped stop pair order ordered above aboves owed after e f =
    let h = and_parts (pair && ordered) (aboves && owed) e in
    let p = and_parts pair ordered h.0 in
    let k = and_parts (stop && (above && order)) after f in
    let m = and_parts stop (above && order) k.0 in
    let l = and_parts above order m.1 in
    and_from ((stop && pair) && (order && ordered)) ((above && aboves) && after)
    (and_from (stop && pair) (order && ordered) (and_from stop pair m.0 p.0) (and_from order ordered l.1 p.1))
    (and_from (above && aboves) after (and_from above aboves l.0 (and_parts aboves owed h.1).0) k.1)

reply_well : (opened : ℕ) (standing : FullStanding) (all : List Exchange) → Stands opened standing all → (session : ℕ) (reply : Reply)
    → whole opened (answered session standing.place reply all) ≡ (whole opened all && stands_on opened standing (history.Reply session reply))
reply_well opened standing all stands session reply =
    let after = are_payable (standing_and opened standing (history.Reply session reply)) in
    let behind = answered session standing.place reply all in
    let stop = each_call session standing (ends_stop standing reply) in
    let order = each_call session standing (λ flight. not flight.checkpoint || in_order standing session flight (iteration_of reply)) in
    let aboves = each_call session standing (λ flight. not flight.checkpoint || above opened (iteration_of reply)) in
    let may = ap (λ b. b && after) (may_end_is opened standing session reply) in
    same_bool (whole opened behind) (whole opened all && (may_end_all opened standing session reply && after))
    (λ e. and_from (whole opened all) (may_end_all opened standing session reply && after)
    (well_before_reply opened session standing.place reply all e)
    (may ∙ regrouped stop (list_all (asked_in (pair_at all)) all) order (list_all (stands_in_order all) all) aboves (list_all (asked_in (above_at opened)) all) after
    (sym (reply_parts opened standing all stands session reply) ∙ e)))
    (λ e.
    let h = and_parts (whole opened all) (may_end_all opened standing session reply && after) e in
    reply_parts opened standing all stands session reply
    ∙ grouped stop (list_all (asked_in (pair_at all)) all) order (list_all (stands_in_order all) all) aboves (list_all (asked_in (above_at opened)) all)
    (list_all (asked_in (owed_at opened all)) all) after (sym (whole_is opened all) ∙ h.0) (sym may ∙ h.1))

-- one more call
all_call : (test : Exchange → Bool) (all : List Exchange) (last : Exchange) → list_all test all ≡ true → test last ≡ true → list_all test (all ++ last ∷ []) ≡ true
all_call test all last front is = list_all-append test all (last ∷ []) ∙ and_from _ _ front (and_from (test last) true is refl)

pair_call : (all : List Exchange) (session n : ℕ) (checkpoint : Bool) (caller at : ℕ) (also : Bool) (replied : Option Replied)
    → asked_in (pair_at all) (exchange_of caller at also replied) ≡ true → asked_in (pair_at (called session n checkpoint all)) (exchange_of caller at also replied) ≡ true
pair_call all session n checkpoint caller at also None e = refl
pair_call all session n checkpoint caller at also (Some replied) e =
    or_kept (is_stop replied.reply) _ _ (λ h. all_call (keeps_stop replied.place) all (exchange_of session n checkpoint None) h refl) e
  where
    or_kept : (a b c : Bool) → (b ≡ true → c ≡ true) → (not a || b) ≡ true → (not a || c) ≡ true
    or_kept true b c by e = by e
    or_kept false b c by e = refl

order_call : (all : List Exchange) (session n : ℕ) (checkpoint : Bool) (caller at : ℕ) (also : Bool) (replied : Option Replied)
    → stands_in_order all (exchange_of caller at also replied) ≡ true → stands_in_order (called session n checkpoint all) (exchange_of caller at also replied) ≡ true
order_call all session n checkpoint caller at also None e = all_on _ (called session n checkpoint all) (λ x. refl)
order_call all session n checkpoint caller at also (Some replied) e =
    all_call (are_in_order (exchange_of caller at also (Some replied))) all (exchange_of session n checkpoint None) e
    (unanswered (if also then iteration_of replied.reply else None))

call_well : (opened : ℕ) (standing : FullStanding) (all : List Exchange) → Stands opened standing all → (session : ℕ) (checkpoint : Bool)
    → whole opened (called session standing.place checkpoint all) ≡ (whole opened all && true)
call_well opened standing all stands session checkpoint =
    let last = exchange_of session standing.place checkpoint None in
    let behind = called session standing.place checkpoint all in
    let now : FullStanding = record standing { place = standing.place + 1; flights = standing.flights ++ flight_with session standing.place checkpoint ∷ [] } in
    same_bool (whole opened behind) (whole opened all && true)
    (λ e. and_from (whole opened all) true (well_before_call opened session standing.place checkpoint all stands.before e) refl)
    (λ e.
    let p = and_parts _ _ (sym (whole_is opened all) ∙ (and_parts (whole opened all) true e).0) in
    let q = and_parts _ _ p.0 in
    let r = and_parts _ _ p.1 in
    whole_is opened behind
    ∙ and_from _ _
    (and_from _ _
    (all_call (asked_in (pair_at behind)) all last (all_by _ _ all (λ x h. pair_call all session standing.place checkpoint x.session x.place x.checkpoint x.replied h) q.0) refl)
    (all_call (stands_in_order behind) all last (all_by _ _ all (λ x h. order_call all session standing.place checkpoint x.session x.place x.checkpoint x.replied h) q.1)
    (all_on _ behind (λ x. refl))))
    (and_from _ _
    (all_call (asked_in (above_at opened)) all last r.0 refl)
    (owed_is opened now behind (call_stands opened standing all stands session checkpoint)
    ∙ all_by (λ need. list_any (may_pay need) standing.flights) (λ need. list_any (may_pay need) now.flights) standing.needs
    (λ need h. list_any-append (may_pay need) standing.flights (flight_with session standing.place checkpoint ∷ []) ∙ or_left _ _ h)
    (sym (owed_is opened standing all stands) ∙ r.1))))

entry_stands : (opened : ℕ) (standing : FullStanding) (all : List Exchange) → Stands opened standing all → (entry : Entry)
    → Stands opened (standing_and opened standing entry) (exchanges_and all standing.place entry)
entry_stands opened standing all stands (history.Call session asked) = call_stands opened standing all stands session (asks_for is_checkpoint (Some asked))
entry_stands opened standing all stands (history.Begun session number start) = begun_stands opened standing all stands
entry_stands opened standing all stands (history.Reply session reply) = reply_stands opened standing all stands session reply

entry_well : (opened : ℕ) (standing : FullStanding) (all : List Exchange) → Stands opened standing all → (entry : Entry)
    → whole opened (exchanges_and all standing.place entry) ≡ (whole opened all && stands_on opened standing entry)
entry_well opened standing all stands (history.Call session asked) = call_well opened standing all stands session (asks_for is_checkpoint (Some asked))
entry_well opened standing all stands (history.Begun session number start) = and_on (whole opened all)
entry_well opened standing all stands (history.Reply session reply) = reply_well opened standing all stands session reply

place_next : (opened : ℕ) (standing : FullStanding) (entry : Entry) → (standing_and opened standing entry).place ≡ standing.place + 1
place_next opened standing (history.Call session asked) = refl
place_next opened standing (history.Begun session number start) = refl
place_next opened standing (history.Reply session reply) = refl

length_one : (entries : List Entry) (entry : Entry) → length (entries ++ entry ∷ []) ≡ length entries + 1
length_one [] entry = omega arith
length_one (first ∷ entries) entry = let more = length_one entries entry in omega (arith, more)

-- what is carried to an entry is what the entries before it say
pub record Carried (opened : ℕ) (entries : List Entry) (standing : FullStanding) : Type 0 where
  pub stands : Stands opened standing (exchanges entries)
  pub place : standing.place ≡ length entries

carried_one : (opened : ℕ) (entries : List Entry) (standing : FullStanding) → Carried opened entries standing → (entry : Entry)
    → Carried opened (entries ++ entry ∷ []) (standing_and opened standing entry)
carried_one opened entries standing carried entry = record {
  stands = subst (Stands opened (standing_and opened standing entry))
      (ap (λ n. exchanges_and (exchanges entries) n entry) carried.place ∙ sym (exchanges_and_one entries entry))
      (entry_stands opened standing (exchanges entries) carried.stands entry);
  place = place_next opened standing entry ∙ (ap (λ n. n + 1) carried.place ∙ sym (length_one entries entry));
}

carried_from : (opened : ℕ) (front : List Entry) (standing : FullStanding) → Carried opened front standing → (entries : List Entry)
    → Carried opened (front ++ entries) (standing_from opened standing entries)
carried_from opened front standing carried [] = subst (λ list. Carried opened list standing) (sym (append-nil front)) carried
carried_from opened front standing carried (entry ∷ entries) =
    subst (λ list. Carried opened list (standing_from opened (standing_and opened standing entry) entries)) (append_assoc front (entry ∷ []) entries)
    (carried_from opened (front ++ entry ∷ []) (standing_and opened standing entry) (carried_one opened front standing carried entry) entries)

pub carried : (opened : ℕ) (entries : List Entry) → Carried opened entries (standing_after opened entries)
carried opened entries = carried_from opened [] first_standing (record { stands = first_stands opened; place = refl }) entries

pub stands_well : StandsWell
stands_well opened entries entry =
    let c = carried opened entries in
    ap (whole opened) (exchanges_and_one entries entry ∙ ap (λ n. exchanges_and (exchanges entries) n entry) (sym c.place))
    ∙ entry_well opened (standing_after opened entries) (exchanges entries) c.stands entry

standing_more : (opened : ℕ) (standing : FullStanding) (entries : List Entry) (entry : Entry)
    → standing_from opened standing (entries ++ entry ∷ []) ≡ standing_and opened (standing_from opened standing entries) entry
standing_more opened standing [] entry = refl
standing_more opened standing (first ∷ entries) entry = standing_more opened (standing_and opened standing first) entries entry

pub standing_and_one : StandingAndOne
standing_and_one opened entries entry = standing_more opened first_standing entries entry
