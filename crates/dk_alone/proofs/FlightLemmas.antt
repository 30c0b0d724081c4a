-- In a history of one thread at most one call is in flight, and what is carried of stops and iterations has that call.
use Rattle.std.proofs.Common.{◌≡◌, ⊎_elim, ℕ, zero, suc, ◌-◌, ◌<◌, Bool, true, false, List, [], ◌∷◌, ◌++◌, take, drop}
use Rattle.std.proofs.Common.{Option, Some, None, ap, ◌∙◌, sym, refl, subst, arith, slice_get, slice_set}
use Rattle.std.specs.Prelude.{not, is_none, nat_lt, if◌then◌else◌}
use Rattle.std.specs.List.{list_all, filter}
use Rattle.std.proofs.lemmas.Bool.{false≢true, and_from, and_parts, eq-eqb, cases_eq}
use Rattle.std.proofs.lemmas.Option.{same_Some}
use Rattle.std.proofs.lemmas.List.Folds.{list_all-append}
use Rattle.dk_types.specs.declared.reply.Reply.{Reply}
use Rattle.dk_si.specs.declared.database.Table.{Table}
use Rattle.dk_si.specs.declared.history.Asked.{Asked}
use Rattle.dk_si.specs.declared.history.Entry.{Entry}
use Rattle.dk_si.specs.declared.history.Entry.TheVariants as history
use Rattle.dk_si.specs.declared.machine.LastTransaction.{LastTransaction}
use Rattle.dk_si.specs.declared.machine.Machine.{Machine}
use Rattle.dk_si.specs.declared.machine.Session.{Session}
use Rattle.dk_si.specs.declared.machine.Transaction.{Transaction}
use Rattle.dk_si.specs.declared.machine.Transaction.TheVariants as state
use Rattle.dk_si.specs.declared.machine.WriteSet.{WriteSet}
use Rattle.dk_si.specs.declared.standing.Flight.{Flight}
use Rattle.dk_si.specs.declared.standing.Written.{Written}
use Rattle.dk_si.specs.Exchanges.{is_checkpoint}
use Rattle.dk_si.specs.IsStep.{may_begin, may_call, may_reply, if_there}
use Rattle.dk_si.specs.Machine.{after_reply, asks_for, begins_one, next, others, session_at}
use Rattle.dk_si.specs.OneThread.{none_in_flight}
use Rattle.dk_si.specs.Standing.{FullStanding, is_of, standing_and}
use Rattle.dk_si.proofs.FreshLemmas.{other_idle}
use Rattle.dk_si.proofs.PlaceLemmas.{found_at}
use Rattle.dk_si.proofs.SessionStepLemmas.{is_there, next_begun, next_call, next_reply, session_set}
use Rattle.dk_si.proofs.TransitionLemmas.{session_of}

abbrev pub is_idle : Session → Bool
is_idle session = is_none session.asked

abbrev pub flight_of : ℕ → ℕ → Asked → Flight
flight_of place number asked = record {
  session = number;
  place = place;
  checkpoint = asks_for is_checkpoint
      (Some asked);
}

-- no call is in flight
pub record Idle (machine : Machine) (standing : FullStanding) : Type 0 where
  pub all : list_all is_idle machine.sessions ≡ true
  pub flights : standing.flights ≡ []

-- the session's call, at that place, is in flight, and no other
pub record Busy (machine : Machine) (standing : FullStanding) (number : ℕ) (session : Session) (asked : Asked)
    (place : ℕ) : Type 0 where
  pub is : session_at machine.sessions number ≡ Some session
  pub call : session.asked ≡ Some asked
  pub alone : none_in_flight machine number ≡ true
  pub flights : standing.flights ≡ flight_of place number asked ∷ []
  pub later : list_all (λ (written : Written). nat_lt written.place place) standing.written ≡ true

-- lists with an item in the place of another
all_take : {T : Type 0} → (P : T → Bool) (n : ℕ) (xs : List T) → list_all P xs ≡ true → list_all P (take n xs) ≡ true
all_take P zero xs all = refl
all_take P (suc n) [] all = refl
all_take P (suc n) (x ∷ xs) all =
    let h = and_parts (P x) (list_all P xs) all in
    and_from (P x) (list_all P (take n xs)) h.0 (all_take P n xs h.1)

all_drop : {T : Type 0} → (P : T → Bool) (n : ℕ) (xs : List T) → list_all P xs ≡ true → list_all P (drop n xs) ≡ true
all_drop P zero xs all = all
all_drop P (suc n) [] all = refl
all_drop P (suc n) (x ∷ xs) all = all_drop P n xs (and_parts (P x) (list_all P xs) all).1

pub all_others : (sessions : List Session) (number : ℕ) → list_all is_idle sessions ≡ true
    → list_all is_idle (others sessions number) ≡ true
all_others sessions number all =
    list_all-append is_idle (take (number - 1) sessions) (drop number sessions)
    ∙ and_from _ _ (all_take is_idle (number - 1) sessions all) (all_drop is_idle number sessions all)

take_set : {T : Type 0} → (xs : List T) (n : ℕ) (new : T) → take n (slice_set xs n new) ≡ take n xs
take_set [] n new = refl
take_set (x ∷ xs) zero new = refl
take_set (x ∷ xs) (suc n) new = ap (λ list. x ∷ list) (take_set xs n new)

drop_set : {T : Type 0} → (xs : List T) (n : ℕ) (new : T) → drop (suc n) (slice_set xs n new) ≡ drop (suc n) xs
drop_set [] n new = refl
drop_set (x ∷ xs) zero new = refl
drop_set (x ∷ xs) (suc n) new = drop_set xs n new

pub others_stay : (sessions : List Session) (number : ℕ) (new : Session) → 0 < number
    → others (slice_set sessions (number - 1) new) number ≡ others sessions number
others_stay sessions number new above =
    let is : suc (number - 1) ≡ number = omega (arith, above) in
    ap (λ front. front ++ drop number (slice_set sessions (number - 1) new)) (take_set sessions (number - 1) new)
    ∙ ap (λ rest. take (number - 1) sessions ++ rest)
    (subst (λ n. drop n (slice_set sessions (number - 1) new) ≡ drop n sessions) is
    (drop_set sessions (number - 1) new))

all_set : {T : Type 0} → (P : T → Bool) (xs : List T) (n : ℕ) (new : T) → list_all P (take n xs) ≡ true
    → list_all P (drop (suc n) xs) ≡ true → P new ≡ true
    → list_all P (slice_set xs n new) ≡ true
all_set P [] n new front rest is = refl
all_set P (x ∷ xs) zero new front rest is = and_from (P new) (list_all P xs) is rest
all_set P (x ∷ xs) (suc n) new front rest is =
    let h = and_parts (P x) (list_all P (take n xs)) front in
    and_from (P x) (list_all P (slice_set xs n new)) h.0 (all_set P xs n new h.1 rest is)

pub idle_set : (sessions : List Session) (number : ℕ) (new : Session) → 0 < number
    → list_all is_idle (others sessions number) ≡ true → is_idle new ≡ true
    → list_all is_idle (slice_set sessions (number - 1) new) ≡ true
idle_set sessions number new above all is =
    let same : number ≡ suc (number - 1) = omega (arith, above) in
    let h = and_parts _ _ (sym (list_all-append is_idle (take (number - 1) sessions) (drop number sessions)) ∙ all) in
    all_set is_idle sessions (number - 1) new h.0 (subst (λ n. list_all is_idle (drop n sessions) ≡ true) same h.1) is

abbrev pub called : Asked → Session → Session
called asked session = record session { asked = Some asked; last = None }

-- a call behind which it is in flight
pub idle_call : (opened : List Table) (it : ℕ) (machine : Machine) (standing : FullStanding) (number : ℕ) (asked : Asked)
    (session : Session)
    → Idle machine standing → session_at machine.sessions number ≡ Some session
    → list_all (λ (written : Written). nat_lt written.place standing.place) standing.written ≡ true
    → Busy (next opened machine (history.Call number asked)) (standing_and it standing (history.Call number asked))
    number (called asked session) asked standing.place
idle_call opened it machine standing number asked session idle is early =
    let above = (found_at machine.sessions number session is).1 in
    subst (λ now. Busy now (standing_and it standing (history.Call number asked)) number
    (called asked session) asked standing.place)
    (sym (next_call opened machine number asked session is))
    (record {
      is = session_set machine.sessions number session (called asked session) is;
      call = refl;
      alone = ap (list_all is_idle) (others_stay machine.sessions number (called asked session) above)
          ∙ all_others machine.sessions number idle.all;
      flights = ap (λ flights. flights ++ flight_of standing.place number asked ∷ []) idle.flights;
      later = early;
    })

abbrev pub begun_in : ℕ → ℕ → Session → Session
begun_in number start session = record session {
  transaction = state.Open
      (record { number = number; start = start; net = []; fresh = true });
}

-- behind a transaction that begins, the call is still in flight
pub busy_begun : (opened : List Table) (it : ℕ) (machine : Machine) (standing : FullStanding) (session : Session)
    (asked : Asked) (place : ℕ) (at number start : ℕ)
    → Busy machine standing at session asked place
    → Busy (next opened machine (history.Begun at number start)) (standing_and it standing
    (history.Begun at number start)) at (begun_in number start session) asked place
busy_begun opened it machine standing session asked place at number start busy =
    let above = (found_at machine.sessions at session busy.is).1 in
    subst (λ now. Busy now (standing_and it standing (history.Begun at number start)) at
    (begun_in number start session) asked place)
    (sym (next_begun opened machine at number start session busy.is))
    (record {
      is = session_set machine.sessions at session (begun_in number start session) busy.is;
      call = busy.call;
      alone = ap (list_all is_idle) (others_stay machine.sessions at (begun_in number start session) above)
          ∙ busy.alone;
      flights = busy.flights;
      later = busy.later;
    })

reply_idle : (opened : List Table) (machine : Machine) (number : ℕ) (transaction : Transaction) (asked : Option Asked)
    (touched : Option WriteSet) (past : Option LastTransaction) (reply : Reply)
    → 0 < number → none_in_flight machine number ≡ true
    → list_all is_idle (after_reply opened machine number (session_of transaction asked touched past) reply).sessions
    ≡ true
reply_idle opened machine number state.Outside asked touched past reply above alone = idle_set machine.sessions number
    _ above alone refl
reply_idle opened machine number state.Aborted asked touched past reply above alone = idle_set machine.sessions number
    _ above alone refl
reply_idle opened machine number (state.Open active) asked touched past reply above alone = idle_set machine.sessions
    number _ above alone refl

-- the flights behind the reply to the only one
pub only_flight : (number place : ℕ) (asked : Asked) → filter (λ flight. not (is_of number flight))
    (flight_of place number asked ∷ []) ≡ []
only_flight number place asked =
    ap (λ (b : Bool). if not b then flight_of place number asked ∷ [] else []) (eq-eqb number number refl)

-- behind its reply no call is in flight
pub busy_reply : (opened : List Table) (it : ℕ) (machine : Machine) (standing : FullStanding) (number : ℕ)
    (session : Session) (asked : Asked) (place : ℕ) (reply : Reply)
    → Busy machine standing number session asked place
    → Idle (next opened machine (history.Reply number reply)) (standing_and it standing (history.Reply number reply))
busy_reply opened it machine standing number session asked place reply busy =
    let above = (found_at machine.sessions number session busy.is).1 in
    subst (λ now. Idle now (standing_and it standing (history.Reply number reply)))
    (sym (next_reply opened machine number reply session busy.is))
    (record {
      all = reply_idle opened machine number session.transaction session.asked session.writes session.last reply above
          busy.alone;
      flights = ap (filter (λ flight. not (is_of number flight))) busy.flights ∙ only_flight number place asked;
    })

-- an entry of a session while no other has a call in flight is one of the session whose call is
pub same_session : (machine : Machine) (standing : FullStanding) (number : ℕ) (session : Session) (asked : Asked)
    (place : ℕ) (at : ℕ) (other : Session)
    → Busy machine standing number session asked place → none_in_flight machine at ≡ true
    → session_at machine.sessions at ≡ Some other → number ≡ at
same_session machine standing number session asked place at other busy alone is =
    let mine = found_at machine.sessions number session busy.is in
    let above = (found_at machine.sessions at other is).1 in
    let positive = mine.1 in
    ⊎_elim (λ same. same)
    (λ apart. absurd (false≢true (sym (ap (λ x. is_none x) busy.call)
    ∙ other_idle machine at (number - 1) session alone above (λ same. apart (omega (arith, above, positive, same)))
    mine.0)))
    (cases_eq number at)

-- the session whose call is in flight makes no other
pub busy_call : (machine : Machine) (standing : FullStanding) (number : ℕ) (session : Session) (asked : Asked) (place : ℕ)
    (at : ℕ) (also : Asked)
    → Busy machine standing number session asked place → none_in_flight machine at ≡ true
    → if_there (may_call also) (session_at machine.sessions at) ≡ true → ⊥
busy_call machine standing number session asked place at also busy alone may =
    let there = is_there (may_call also) (session_at machine.sessions at) may in
    let same = same_session machine standing number session asked place at there.session busy alone there.is in
    let one : there.session ≡ session =
    same_Some there.session session (sym there.is ∙ (ap (session_at machine.sessions) (sym same) ∙ busy.is)) in
    let free = (and_parts (is_none there.session.asked) _ there.passes).0 in
    false≢true (sym (ap (λ x. is_none x) (ap (λ (s : Session). s.asked) one ∙ busy.call)) ∙ free)

idle_at : (sessions : List Session) (k : ℕ) (session : Session) → list_all is_idle sessions ≡ true
    → slice_get sessions k ≡ Some session → is_idle session ≡ true
idle_at [] k session all at = cc
idle_at (first ∷ sessions) zero session all at =
    let same : first ≡ session = cc in subst (λ now. is_idle now ≡ true) same (and_parts (is_idle first)
    (list_all is_idle sessions) all).0
idle_at (first ∷ sessions) (suc k) session all at = idle_at sessions k session (and_parts (is_idle first)
    (list_all is_idle sessions) all).1 at

pub idle_there : (machine : Machine) (standing : FullStanding) (number : ℕ) (session : Session) → Idle machine standing
    → session_at machine.sessions number ≡ Some session
    → is_idle session ≡ true
idle_there machine standing number session idle is =
    idle_at machine.sessions (number - 1) session idle.all (found_at machine.sessions number session is).0

-- while no call is in flight no transaction begins, and no reply comes
none_asked : (test : Asked → Bool) (asked : Option Asked) → is_none asked ≡ true
    → elim asked as (λ x. Bool) [ None ↦ false | Some a ↦ test a ] ≡ true → ⊥
none_asked test None none e = false≢true e
none_asked test (Some a) none e = false≢true none

pub idle_begun : (machine : Machine) (standing : FullStanding) (session number start : ℕ) → Idle machine standing
    → if_there (may_begin machine number start) (session_at machine.sessions session) ≡ true → ⊥
idle_begun machine standing session number start idle may =
    let there = is_there (may_begin machine number start) (session_at machine.sessions session) may in
    asks_none there.session.asked (idle_there machine standing session there.session idle there.is)
    (and_parts _ _ (and_parts _ _ there.passes).0).0
  where
    asks_none : (asked : Option Asked) → is_none asked ≡ true → asks_for begins_one asked ≡ true → ⊥
    asks_none None none e = false≢true e
    asks_none (Some a) none e = false≢true none

pub idle_reply : (opened : List Table) (before : List Entry) (machine : Machine) (standing : FullStanding) (number : ℕ)
    (reply : Reply) → Idle machine standing
    → if_there (may_reply opened number before machine reply) (session_at machine.sessions number) ≡ true → ⊥
idle_reply opened before machine standing number reply idle may =
    let there = is_there (may_reply opened number before machine reply) (session_at machine.sessions number) may in
    none_asked _ there.session.asked (idle_there machine standing number there.session idle there.is) there.passes
