-- The fronts of a legal history are legal.
use Rattle.std.proofs.Common.{arith, ◌≡◌, ⊎_elim, ℕ, ◌-◌, ◌≤◌, Bool, true, false, List, [], ◌∷◌, ◌++◌, map, length, Option, Some, None, ap, ◌∙◌, sym, refl, subst, append_assoc, append-nil}
use Rattle.std.specs.Prelude.{◌&&◌, ◌||◌, not, ◌==◌, nat_lt, if◌then◌else◌}
use Rattle.std.specs.List.{list_all, list_any}
use Rattle.std.proofs.lemmas.Bool.{false≢true, and_from, and_parts, or_cases, or_left, or_right, both_ways, ltb-true, le-ltb}
use Rattle.std.proofs.lemmas.List.Folds.{list_all-append, list_any-append, list_all-map}
use Rattle.dk_types.specs.declared.reply.Reply.{Reply}
use Rattle.dk_si.specs.declared.database.Table.{Table}
use Rattle.dk_si.specs.declared.history.Entry.{Entry}
use Rattle.dk_si.specs.declared.history.Entry.TheVariants as history
use Rattle.dk_si.specs.declared.exchange.Replied.{Replied}
use Rattle.dk_si.specs.declared.exchange.Exchange.{Exchange}
use Rattle.dk_si.specs.declared.limits.TheConstants.{MAX_ITERATION}
use Rattle.dk_si.specs.Machine.{asks_for}
use Rattle.dk_si.specs.ReplyTests.{is_refused, has_no_iteration, is_stopped_refusal, is_stop, iteration_of, is_iteration}
use Rattle.dk_si.specs.Exchanges.{is_checkpoint, exchanges, with_reply, exchanges_and}
use Rattle.dk_si.specs.IsLegal.{keeps_stop, may_have_stopped, stop_at, may_have_reached, is_reached, are_in_order, follows_at, spent_at, stands_in_order, iterates_at, stops_well, iterates_well, is_legal}
use Rattle.dk_si.specs.Laws.{FrontsAreLegal}
use Rattle.dk_si.proofs.ExchangeLemmas.{exchange_of, replied_stays, exchanges_and_one, is_before, all_before}
use Rattle.dk_si.proofs.ForwardLemmas.{steps_and_one}

pub all_by : {T : Type 0} → (P Q : T → Bool) → (xs : List T) → ((x : T) → P x ≡ true → Q x ≡ true) → list_all P xs ≡ true → list_all Q xs ≡ true
all_by P Q [] by all = refl
all_by P Q (x ∷ xs) by all = let h = and_parts (P x) (list_all P xs) all in and_from _ _ (by x h.0) (all_by P Q xs by h.1)

pub any_by : {T : Type 0} → (P Q : T → Bool) → (xs : List T) → ((x : T) → P x ≡ true → Q x ≡ true) → list_any P xs ≡ true → list_any Q xs ≡ true
any_by P Q [] by some = some
any_by P Q (x ∷ xs) by some = ⊎_elim (λ h. or_left (Q x) (list_any Q xs) (by x h)) (λ h. or_right (Q x) (list_any Q xs) (any_by P Q xs by h)) (or_cases (P x) (list_any P xs) some)

pub any_map : {T U : Type 0} → (P : U → Bool) → (f : T → U) → (xs : List T) → list_any P (map f xs) ≡ list_any (λ x. P (f x)) xs
any_map P f [] = refl
any_map P f (x ∷ xs) = ap (λ b. P (f x) || b) (any_map P f xs)

not_or : (a b c : Bool) → (b ≡ true → c ≡ true) → (not a || b) ≡ true → (not a || c) ≡ true
not_or true b c by e = by e
not_or false b c by e = refl

or_by : (a b c : Bool) → (b ≡ true → c ≡ true) → (a || b) ≡ true → (a || c) ≡ true
or_by true b c by e = refl
or_by false b c by e = by e

and_by : (a b c d : Bool) → (a ≡ true → c ≡ true) → (b ≡ true → d ≡ true) → (a && b) ≡ true → (c && d) ≡ true
and_by a b c d one other e = let h = and_parts a b e in and_from c d (one h.0) (other h.1)

-- before: an exchange as it was before a reply
-- what holds of it behind the reply held of it before
abbrev Held : (Exchange → Bool) → ℕ → ℕ → Reply → Type 0
Held test session place reply = (exchange : Exchange) → test (with_reply session place reply exchange) ≡ true → test exchange ≡ true

-- a test that holds of an exchange that has no reply, or the same
by_reply : (test : Exchange → Bool) (session place : ℕ) (reply : Reply)
    → ((caller at : ℕ) (checkpoint : Bool) → test (with_reply session place reply (exchange_of caller at checkpoint None)) ≡ true → test (exchange_of caller at checkpoint None) ≡ true)
    → (caller at : ℕ) (checkpoint : Bool) (replied : Option Replied)
    → test (with_reply session place reply (exchange_of caller at checkpoint replied)) ≡ true → test (exchange_of caller at checkpoint replied) ≡ true
by_reply test session place reply none caller at checkpoint None e = none caller at checkpoint e
by_reply test session place reply none caller at checkpoint (Some replied) e =
    subst (λ x. test x ≡ true) (replied_stays session place reply caller at checkpoint replied) e

keeps_held : (q session place : ℕ) (reply : Reply) → Held (keeps_stop q) session place reply
keeps_held q session place reply exchange e =
    by_reply (keeps_stop q) session place reply (λ caller at checkpoint h. refl) exchange.session exchange.place exchange.checkpoint exchange.replied e

stopped_none : (q session place : ℕ) (reply : Reply) (caller at : ℕ) (checkpoint here : Bool)
    → may_have_stopped q (if here then exchange_of caller at checkpoint (Some (record { place = place; reply = reply })) else exchange_of caller at checkpoint None) ≡ true
    → may_have_stopped q (exchange_of caller at checkpoint None) ≡ true
stopped_none q session place reply caller at checkpoint true e = and_from (nat_lt at q) true (and_parts (nat_lt at q) _ e).0 refl
stopped_none q session place reply caller at checkpoint false e = e

stopped_held : (q session place : ℕ) (reply : Reply) → Held (may_have_stopped q) session place reply
stopped_held q session place reply exchange e =
    by_reply (may_have_stopped q) session place reply
    (λ caller at checkpoint h. stopped_none q session place reply caller at checkpoint (session == caller && true) h)
    exchange.session exchange.place exchange.checkpoint exchange.replied e

reached_none : (q iteration session place : ℕ) (reply : Reply) (caller at : ℕ) (checkpoint here : Bool)
    → may_have_reached q iteration (if here then exchange_of caller at checkpoint (Some (record { place = place; reply = reply })) else exchange_of caller at checkpoint None) ≡ true
    → may_have_reached q iteration (exchange_of caller at checkpoint None) ≡ true
reached_none q iteration session place reply caller at checkpoint true e =
    let h = and_parts (nat_lt at q) (checkpoint && is_iteration iteration reply) e in
    and_from (nat_lt at q) checkpoint h.0 (and_parts checkpoint (is_iteration iteration reply) h.1).0
reached_none q iteration session place reply caller at checkpoint false e = e

reached_held : (q iteration session place : ℕ) (reply : Reply) → Held (may_have_reached q iteration) session place reply
reached_held q iteration session place reply exchange e =
    by_reply (may_have_reached q iteration) session place reply
    (λ caller at checkpoint h. reached_none q iteration session place reply caller at checkpoint (session == caller && true) h)
    exchange.session exchange.place exchange.checkpoint exchange.replied e

-- what the whole list is asked, before the reply
abbrev pub answered : ℕ → ℕ → Reply → List Exchange → List Exchange
answered session place reply all = map (with_reply session place reply) all

stop_held : (session place : ℕ) (reply : Reply) (all : List Exchange) (replied : Replied)
    → stop_at (answered session place reply all) replied ≡ true → stop_at all replied ≡ true
stop_held session place reply all replied e =
    and_by _ _ _ _
    (λ h. not_or (is_stop replied.reply) _ _
    (λ k. all_by _ (keeps_stop replied.place) all (λ x p. keeps_held replied.place session place reply x p) (sym (list_all-map (keeps_stop replied.place) (with_reply session place reply) all) ∙ k)) h)
    (λ h. not_or (is_refused is_stopped_refusal replied.reply) _ _
    (λ k. any_by _ (may_have_stopped replied.place) all (λ x p. stopped_held replied.place session place reply x p) (sym (any_map (may_have_stopped replied.place) (with_reply session place reply) all) ∙ k)) h) e

reach_held : (opened session place : ℕ) (reply : Reply) (all : List Exchange) (q iteration : ℕ)
    → is_reached opened (answered session place reply all) q iteration ≡ true → is_reached opened all q iteration ≡ true
reach_held opened session place reply all q iteration e =
    or_by (iteration == opened) _ _
    (λ k. any_by _ (may_have_reached q iteration) all (λ x p. reached_held q iteration session place reply x p) (sym (any_map (may_have_reached q iteration) (with_reply session place reply) all) ∙ k)) e

follows_by : (opened : ℕ) (all others : List Exchange) (q : ℕ) (found : Option ℕ)
    → ((iteration : ℕ) → is_reached opened others q iteration ≡ true → is_reached opened all q iteration ≡ true)
    → elim found as (λ x. Bool) [ None ↦ true | Some iteration ↦ nat_lt opened iteration && is_reached opened others q (iteration - 1) ] ≡ true
    → elim found as (λ x. Bool) [ None ↦ true | Some iteration ↦ nat_lt opened iteration && is_reached opened all q (iteration - 1) ] ≡ true
follows_by opened all others q None by e = refl
follows_by opened all others q (Some iteration) by e = and_by (nat_lt opened iteration) _ _ _ (λ h. h) (by (iteration - 1)) e

-- a condition on a reply is the same where what is reached is so before
iterates_by : (opened : ℕ) (all others : List Exchange) (replied : Replied)
    → ((iteration : ℕ) → is_reached opened others replied.place iteration ≡ true → is_reached opened all replied.place iteration ≡ true)
    → (follows_at opened others replied && spent_at opened others replied) ≡ true → (follows_at opened all replied && spent_at opened all replied) ≡ true
iterates_by opened all others replied by e =
    and_by _ _ _ _ (λ h. follows_by opened all others replied.place (iteration_of replied.reply) by h)
    (λ h. not_or (is_refused has_no_iteration replied.reply) _ _ (by MAX_ITERATION) h) e

-- what each exchange is asked
abbrev asked_stop : List Exchange → Exchange → Bool
asked_stop all exchange = elim exchange.replied [ None ↦ true | Some replied ↦ stop_at all replied ]

stops_held : (session place : ℕ) (reply : Reply) (all : List Exchange) (caller at : ℕ) (checkpoint : Bool) (replied : Option Replied)
    → asked_stop (answered session place reply all) (with_reply session place reply (exchange_of caller at checkpoint replied)) ≡ true
    → asked_stop all (exchange_of caller at checkpoint replied) ≡ true
stops_held session place reply all caller at checkpoint None e = refl
stops_held session place reply all caller at checkpoint (Some replied) e =
    stop_held session place reply all replied
    (subst (λ x. asked_stop (answered session place reply all) x ≡ true) (replied_stays session place reply caller at checkpoint replied) e)

iterates_held : (opened session place : ℕ) (reply : Reply) (all : List Exchange) (caller at : ℕ) (checkpoint : Bool) (replied : Option Replied)
    → iterates_at opened (answered session place reply all) (with_reply session place reply (exchange_of caller at checkpoint replied)) ≡ true
    → iterates_at opened all (exchange_of caller at checkpoint replied) ≡ true
iterates_held opened session place reply all caller at checkpoint None e = refl
iterates_held opened session place reply all caller at checkpoint (Some replied) e =
    not_or checkpoint _ _ (iterates_by opened all (answered session place reply all) replied (λ iteration h. reach_held opened session place reply all replied.place iteration h))
    (subst (λ x. iterates_at opened (answered session place reply all) x ≡ true) (replied_stays session place reply caller at checkpoint replied) e)

no_order : (found : Option ℕ) → elim found as (λ x. Bool) [ None ↦ true | Some a ↦ true ] ≡ true
no_order None = refl
no_order (Some a) = refl

order_held : (session place : ℕ) (reply : Reply) (caller at : ℕ) (checkpoint : Bool) (replied : Option Replied) (other to : ℕ) (also : Bool) (answer : Option Replied)
    → are_in_order (with_reply session place reply (exchange_of caller at checkpoint replied)) (with_reply session place reply (exchange_of other to also answer)) ≡ true
    → are_in_order (exchange_of caller at checkpoint replied) (exchange_of other to also answer) ≡ true
order_held session place reply caller at checkpoint None other to also answer e = refl
order_held session place reply caller at checkpoint (Some replied) other to also None e = no_order (if checkpoint then iteration_of replied.reply else None)
order_held session place reply caller at checkpoint (Some replied) other to also (Some answer) e =
    subst (λ x. are_in_order x (exchange_of other to also (Some answer)) ≡ true) (replied_stays session place reply caller at checkpoint replied)
    (subst (λ x. are_in_order (with_reply session place reply (exchange_of caller at checkpoint (Some replied))) x ≡ true) (replied_stays session place reply other to also answer) e)

in_order_held : (session place : ℕ) (reply : Reply) (all : List Exchange) (exchange : Exchange)
    → stands_in_order (answered session place reply all) (with_reply session place reply exchange) ≡ true → stands_in_order all exchange ≡ true
in_order_held session place reply all exchange e =
    all_by _ (are_in_order exchange) all
    (λ x p. order_held session place reply exchange.session exchange.place exchange.checkpoint exchange.replied x.session x.place x.checkpoint x.replied p)
    (sym (list_all-map (are_in_order (with_reply session place reply exchange)) (with_reply session place reply) all) ∙ e)

-- before a reply all stood well
pub well_before_reply : (opened session place : ℕ) (reply : Reply) (all : List Exchange)
    → (stops_well (answered session place reply all) && iterates_well opened (answered session place reply all)) ≡ true
    → (stops_well all && iterates_well opened all) ≡ true
well_before_reply opened session place reply all e =
    let h = and_parts _ _ e in
    let k = and_parts _ _ h.1 in
    let behind = answered session place reply all in
    and_from _ _
    (all_by _ (asked_stop all) all (λ x p. stops_held session place reply all x.session x.place x.checkpoint x.replied p)
    (sym (list_all-map (asked_stop behind) (with_reply session place reply) all) ∙ h.0))
    (and_from _ _
    (all_by _ (stands_in_order all) all (λ x p. in_order_held session place reply all x p)
    (sym (list_all-map (stands_in_order behind) (with_reply session place reply) all) ∙ k.0))
    (all_by _ (iterates_at opened all) all (λ x p. iterates_held opened session place reply all x.session x.place x.checkpoint x.replied p)
    (sym (list_all-map (iterates_at opened behind) (with_reply session place reply) all) ∙ k.1)))

-- one more call
front_all : {T : Type 0} → (test : T → Bool) (xs : List T) (last : T) → list_all test (xs ++ last ∷ []) ≡ true → list_all test xs ≡ true
front_all test xs last e = (and_parts _ _ (sym (list_all-append test xs (last ∷ [])) ∙ e)).0

front_any : {T : Type 0} → (test : T → Bool) (xs : List T) (last : T) → test last ≡ false → list_any test (xs ++ last ∷ []) ≡ true → list_any test xs ≡ true
front_any test xs last fails e = ⊎_elim (λ h. h)
    (λ h. absurd (both_ways (test last) fails (⊎_elim (λ k. k) (λ k. absurd (false≢true k)) (or_cases (test last) false h))))
    (or_cases _ _ (sym (list_any-append test xs (last ∷ [])) ∙ e))

not_later : (q n : ℕ) (b : Bool) → q ≤ n → (nat_lt n q && b) ≡ false
not_later q n b le = ap (λ less. less && b) (le-ltb n q le)

stop_call : (all : List Exchange) (session n : ℕ) (checkpoint : Bool) (replied : Replied) → replied.place ≤ n
    → stop_at (all ++ exchange_of session n checkpoint None ∷ []) replied ≡ true → stop_at all replied ≡ true
stop_call all session n checkpoint replied le e =
    and_by _ _ _ _
    (λ h. not_or (is_stop replied.reply) _ _ (λ k. front_all (keeps_stop replied.place) all (exchange_of session n checkpoint None) k) h)
    (λ h. not_or (is_refused is_stopped_refusal replied.reply) _ _
    (λ k. front_any (may_have_stopped replied.place) all (exchange_of session n checkpoint None) (not_later replied.place n true le) k) h) e

reach_call : (opened : ℕ) (all : List Exchange) (session n : ℕ) (checkpoint : Bool) (q iteration : ℕ) → q ≤ n
    → is_reached opened (all ++ exchange_of session n checkpoint None ∷ []) q iteration ≡ true → is_reached opened all q iteration ≡ true
reach_call opened all session n checkpoint q iteration le e =
    or_by (iteration == opened) _ _
    (λ k. front_any (may_have_reached q iteration) all (exchange_of session n checkpoint None) (not_later q n checkpoint le) k) e

stops_call : (all : List Exchange) (session n : ℕ) (checkpoint : Bool) (exchange : Exchange) → is_before n exchange ≡ true
    → asked_stop (all ++ exchange_of session n checkpoint None ∷ []) exchange ≡ true → asked_stop all exchange ≡ true
stops_call all session n checkpoint exchange before e = stops_at_call all session n checkpoint exchange.place exchange.replied before e
  where
    stops_at_call : (all : List Exchange) (session n : ℕ) (checkpoint : Bool) (at : ℕ) (replied : Option Replied)
        → (nat_lt at n && elim replied as (λ x. Bool) [ None ↦ true | Some replied ↦ nat_lt replied.place n ]) ≡ true
        → elim replied as (λ x. Bool) [ None ↦ true | Some replied ↦ stop_at (all ++ exchange_of session n checkpoint None ∷ []) replied ] ≡ true
        → elim replied as (λ x. Bool) [ None ↦ true | Some replied ↦ stop_at all replied ] ≡ true
    stops_at_call all session n checkpoint at None before e = refl
    stops_at_call all session n checkpoint at (Some replied) before e =
        let less = ltb-true replied.place n (and_parts (nat_lt at n) (nat_lt replied.place n) before).1 in
        stop_call all session n checkpoint replied (omega (arith, less)) e

iterates_call : (opened : ℕ) (all : List Exchange) (session n : ℕ) (checkpoint : Bool) (exchange : Exchange) → is_before n exchange ≡ true
    → iterates_at opened (all ++ exchange_of session n checkpoint None ∷ []) exchange ≡ true → iterates_at opened all exchange ≡ true
iterates_call opened all session n checkpoint exchange before e =
    iterates_at_call opened all session n checkpoint exchange.place exchange.checkpoint exchange.replied before e
  where
    iterates_at_call : (opened : ℕ) (all : List Exchange) (session n : ℕ) (checkpoint : Bool) (at : ℕ) (also : Bool) (replied : Option Replied)
        → (nat_lt at n && elim replied as (λ x. Bool) [ None ↦ true | Some replied ↦ nat_lt replied.place n ]) ≡ true
        → elim replied as (λ x. Bool) [
          | None ↦ true
          | Some replied ↦ not also || (follows_at opened (all ++ exchange_of session n checkpoint None ∷ []) replied && spent_at opened (all ++ exchange_of session n checkpoint None ∷ []) replied)
        ] ≡ true
        → elim replied as (λ x. Bool) [ None ↦ true | Some replied ↦ not also || (follows_at opened all replied && spent_at opened all replied) ] ≡ true
    iterates_at_call opened all session n checkpoint at also None before e = refl
    iterates_at_call opened all session n checkpoint at also (Some replied) before e =
        let less = ltb-true replied.place n (and_parts (nat_lt at n) (nat_lt replied.place n) before).1 in
        not_or also _ _ (iterates_by opened all (all ++ exchange_of session n checkpoint None ∷ []) replied
        (λ iteration h. reach_call opened all session n checkpoint replied.place iteration (omega (arith, less)) h)) e

-- where a list's items pass one test, all of them pass another
pub all_with : {T : Type 0} → (G P Q : T → Bool) → (xs : List T) → ((x : T) → G x ≡ true → P x ≡ true → Q x ≡ true)
    → list_all G xs ≡ true → list_all P xs ≡ true → list_all Q xs ≡ true
all_with G P Q [] by good all = refl
all_with G P Q (x ∷ xs) by good all =
    let g = and_parts (G x) (list_all G xs) good in
    let h = and_parts (P x) (list_all P xs) all in
    and_from _ _ (by x g.0 h.0) (all_with G P Q xs by g.1 h.1)

-- before a call all stood well
pub well_before_call : (opened session n : ℕ) (checkpoint : Bool) (all : List Exchange) → list_all (is_before n) all ≡ true
    → (stops_well (all ++ exchange_of session n checkpoint None ∷ []) && iterates_well opened (all ++ exchange_of session n checkpoint None ∷ [])) ≡ true
    → (stops_well all && iterates_well opened all) ≡ true
well_before_call opened session n checkpoint all before e =
    let last = exchange_of session n checkpoint None in
    let h = and_parts _ _ e in
    let k = and_parts _ _ h.1 in
    and_from _ _
    (all_with (is_before n) (asked_stop (all ++ last ∷ [])) (asked_stop all) all (λ x g p. stops_call all session n checkpoint x g p) before
    (front_all (asked_stop (all ++ last ∷ [])) all last h.0))
    (and_from _ _
    (all_by (stands_in_order (all ++ last ∷ [])) (stands_in_order all) all (λ x p. front_all (are_in_order x) all last p)
    (front_all (stands_in_order (all ++ last ∷ [])) all last k.0))
    (all_with (is_before n) (iterates_at opened (all ++ last ∷ [])) (iterates_at opened all) all (λ x g p. iterates_call opened all session n checkpoint x g p) before
    (front_all (iterates_at opened (all ++ last ∷ [])) all last k.1)))

abbrev pub Well : ℕ → List Exchange → Type 0
Well opened all = (stops_well all && iterates_well opened all) ≡ true

well_one : (opened : ℕ) (all : List Exchange) (n : ℕ) (entry : Entry) → list_all (is_before n) all ≡ true → Well opened (exchanges_and all n entry) → Well opened all
well_one opened all n (history.Call session asked) before well = well_before_call opened session n (asks_for is_checkpoint (Some asked)) all before well
well_one opened all n (history.Begun session number start) before well = well
well_one opened all n (history.Reply session reply) before well = well_before_reply opened session n reply all well

-- stops and iterations stood well before the last entry
pub well_front : (opened : ℕ) (entries : List Entry) (entry : Entry) → Well opened (exchanges (entries ++ entry ∷ [])) → Well opened (exchanges entries)
well_front opened entries entry well =
    well_one opened (exchanges entries) (length entries) entry (all_before entries) (subst (Well opened) (exchanges_and_one entries entry) well)

legal_front : (opened : List Table) (iteration : ℕ) (entries : List Entry) (entry : Entry)
    → is_legal opened iteration (entries ++ entry ∷ []) ≡ true → is_legal opened iteration entries ≡ true
legal_front opened iteration entries entry legal =
    let h = and_parts _ _ legal in
    and_from _ _ (and_parts _ _ (sym (steps_and_one opened entries entry) ∙ h.0)).0 (well_front iteration entries entry h.1)

pub fronts_are_legal : FrontsAreLegal
fronts_are_legal opened iteration entries [] legal = subst (λ list. is_legal opened iteration list ≡ true) (append-nil entries) legal
fronts_are_legal opened iteration entries (entry ∷ more) legal =
    legal_front opened iteration entries entry
    (fronts_are_legal opened iteration (entries ++ entry ∷ []) more
    (subst (λ list. is_legal opened iteration list ≡ true) (sym (append_assoc entries (entry ∷ []) more)) legal))
