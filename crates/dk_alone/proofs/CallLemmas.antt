-- Between two calls, behind a call, behind its Begun entry, and behind its reply.
use Rattle.std.proofs.Common.{◌≡◌, ⊎_elim, ℕ, zero, suc, ◌+◌, ◌-◌, ◌*◌, ◌<◌, ◌≤◌, Bool, true, false, List, [], ◌∷◌}
use Rattle.std.proofs.Common.{◌++◌, length, Some, None, ap, ◌∙◌, sym, refl, subst, arith, slice_get}
use Rattle.std.specs.Prelude.{◌&&◌, ◌||◌, not, is_none, is_some, ◌==◌, nat_lt, nat_le, if◌then◌else◌}
use Rattle.std.specs.List.{filter}
use Rattle.std.proofs.lemmas.Bool.{false≢true, and_from, and_parts, or_left, or_right, or_cases, or_parts, eq-eqb}
use Rattle.std.proofs.lemmas.Bool.{eqb-false, ne_eqb, lt-ltb, ltb-true, leb-true, not-true, not-false}
use Rattle.dk_types.specs.declared.reply.Reply.{Reply}
use Rattle.dk_si.specs.declared.database.Table.{Table}
use Rattle.dk_si.specs.declared.history.Asked.{Asked}
use Rattle.dk_si.specs.declared.history.Entry.{Entry}
use Rattle.dk_si.specs.declared.history.Entry.TheVariants as history
use Rattle.dk_si.specs.declared.limits.TheConstants.{SESSIONS, MAX_TRANSACTIONS, MAX_ROWS, SPARE_ROWS, MAX_ITERATION}
use Rattle.dk_si.specs.declared.machine.Machine.{Machine}
use Rattle.dk_si.specs.declared.machine.Session.{Session}
use Rattle.dk_si.specs.declared.machine.Transaction.{Transaction}
use Rattle.dk_si.specs.declared.machine.Transaction.TheVariants as state
use Rattle.dk_alone.specs.AnswerHistory.{is_call, iteration_behind, iteration_and, iteration_after, transaction_at, begun_next}
use Rattle.dk_si.specs.IsStep.{is_step, is_founded, may_begin, may_call, may_reply, if_there}
use Rattle.dk_si.specs.LawfulCalls.{is_lawful_call}
use Rattle.dk_si.specs.Laws.{state_after}
use Rattle.dk_si.specs.Machine.{asks_for, begins_one, first_state, is_outside, next, session_at}
use Rattle.dk_si.specs.MayAnswer.{may_answer}
use Rattle.dk_si.specs.OneThread.{OPEN_ROWS, is_open, is_spent_alone, is_step_alone, may_reply_alone, none_in_flight}
use Rattle.dk_si.specs.OneThread.{open_count}
use Rattle.dk_si.specs.Spent.{committed_rows, is_spent}
use Rattle.dk_si.specs.Standing.{FullStanding, first_standing, standing_and, stands_on}
use Rattle.dk_si.specs.StatesSince.{was_since_call, is_call_of}
use Rattle.dk_si.specs.Weight.{cap}
use Rattle.dk_si.specs.ReplyTests.{is_stop}
use Rattle.dk_alone.proofs.AnswerLemmas.{follows}
use Rattle.dk_alone.proofs.AnswerFitLemmas.{Spent, below_most, spent_numbers}
use Rattle.dk_si.proofs.ShortSizeLemmas.{length_filter}
use Rattle.dk_alone.proofs.FlightLemmas.{Busy, Idle, all_others, begun_in, busy_begun, busy_reply, called, idle_call}
use Rattle.dk_alone.proofs.FlightLemmas.{idle_there}
use Rattle.dk_si.proofs.ForwardLemmas.{since_and_one}
use Rattle.dk_alone.proofs.IterationLemmas.{Calm, Counts, busy_counts, counts_begun, counts_call, first_counts, goes_on}
use Rattle.dk_si.proofs.PlaceLemmas.{found_at}
use Rattle.dk_si.proofs.TransitionLemmas.{session_of}
use Rattle.dk_alone.proofs.WalkLemmas.{Bounded, Line, first_bounded, first_line, goes, line_next, next_bounded}
use Rattle.dk_si.specs.Exchanges.{reply_from}

-- between two calls
pub record Ready (opened : List Table) (it last : ℕ) (before : List Entry) (machine : Machine)
    (standing : FullStanding) : Type 0 where
  pub line : Line opened before machine
  pub bounded : Bounded machine
  pub idle : Idle machine standing
  pub counts : Counts it last standing
  pub calm : Calm standing

-- a call is in flight, and what is so now was so since it
pub record Wait (opened : List Table) (it last : ℕ) (before : List Entry) (machine : Machine) (standing : FullStanding)
    (number : ℕ) (session : Session) (asked : Asked) : Type 0 where
  pub line : Line opened before machine
  pub bounded : Bounded machine
  pub place : ℕ
  pub busy : Busy machine standing number session asked place
  pub counts : Counts it last standing
  pub calm : Calm standing
  pub was : (test : Machine → Bool) → test machine ≡ true → was_since_call test opened number before ≡ true

record Got {T : Type 0} (xs : List T) (k : ℕ) : Type 0 where
  item : T
  is : slice_get xs k ≡ Some item

got : {T : Type 0} → (xs : List T) (k : ℕ) → k < length xs → Got xs k
got [] k less = absurd (omega (arith, less))
got (x ∷ xs) zero less = record { item = x; is = refl }
got (x ∷ xs) (suc k) less = let rest = got xs k (omega (arith, less)) in record { item = rest.item; is = rest.is }

was_now : (opened : List Table) (before : List Entry) (machine : Machine) (entry : Entry) (number : ℕ)
    → Line opened before machine
    → (test : Machine → Bool) → test (next opened machine entry) ≡ true → was_since_call test opened number
    (before ++ entry ∷ []) ≡ true
was_now opened before machine entry number line test is =
    since_and_one test opened number before entry
    ∙ or_right (was_since_call test opened number before && not (is_call_of number entry))
    (test (next opened (state_after opened first_state before) entry))
    (ap (λ m. test (next opened m entry)) line.reached ∙ is)

-- a lawful call may come, and is in flight behind it
pub record Calls (opened : List Table) (it last : ℕ) (before : List Entry) (machine : Machine) (standing : FullStanding)
    (number : ℕ) (asked : Asked) : Type 0 where
  pub goes_well : goes opened it before machine standing (history.Call number asked) ≡ true
  pub own : Session
  pub there : session_at machine.sessions number ≡ Some own
  pub session : Session
  pub wait : Wait opened it last (before ++ history.Call number asked ∷ [])
      (next opened machine (history.Call number asked)) (standing_and it standing (history.Call number asked)) number
      session asked

pub call_goes : (opened : List Table) (it last : ℕ) (before : List Entry) (machine : Machine) (standing : FullStanding)
    (number : ℕ) (asked : Asked)
    → Ready opened it last before machine standing → is_call (number, asked) ≡ true
    → Calls opened it last before machine standing number asked
call_goes opened it last before machine standing number asked ready may =
    let h = and_parts (nat_lt 0 number && nat_le number SESSIONS) (is_lawful_call asked) may in
    let k = and_parts (nat_lt 0 number) (nat_le number SESSIONS) h.0 in
    let above = ltb-true 0 number k.0 in
    let most = leb-true number SESSIONS k.1 in
    let wide = ready.bounded.wide in
    let there = got machine.sessions (number - 1) (omega (arith, above, most, wide)) in
    let is : session_at machine.sessions number ≡ Some there.item =
    ap (λ (b : Bool). if b then None else slice_get machine.sessions (number - 1))
    (ne_eqb number 0 (λ same. absurd (omega (arith, above, same)))) ∙ there.is in
    let free = idle_there machine standing number there.item ready.idle is in
    let step : is_step opened before machine (history.Call number asked) ≡ true =
    ap (if_there (may_call asked)) is ∙ and_from (is_none there.item.asked) (is_lawful_call asked) free h.1 in
    let alone : is_step_alone opened machine (history.Call number asked) ≡ true = all_others machine.sessions number
    ready.idle.all in
    record {
      goes_well = and_from (is_step opened before machine (history.Call number asked)) (is_step_alone opened machine
          (history.Call number asked) && true) step
          (and_from (is_step_alone opened machine (history.Call number asked)) true alone refl);
      own = there.item;
      there = is;
      session = called asked there.item;
      wait = record {
        line = line_next opened before machine (history.Call number asked) ready.line step alone;
        bounded = next_bounded opened machine (history.Call number asked) ready.bounded;
        place = standing.place;
        busy = idle_call opened it machine standing number asked there.item ready.idle is ready.counts.early;
        counts = counts_call it last standing number asked ready.counts;
        calm = record { stop = ready.calm.stop; needs = ready.calm.needs };
        was = was_now opened before machine (history.Call number asked) number ready.line;
      };
    }

-- the session as one that has the call in flight
pub asked_session : (machine : Machine) (standing : FullStanding) (number : ℕ) (session : Session) (asked : Asked) (place : ℕ)
    → Busy machine standing number session asked place
    → session_at machine.sessions number ≡ Some (session_of session.transaction
    (Some asked) session.writes session.last)
asked_session machine standing number session asked place busy =
    busy.is ∙ ap (λ call. Some (session_of session.transaction call session.writes session.last)) busy.call

-- a transaction begins
pub record Begins (opened : List Table) (it last : ℕ) (before : List Entry) (machine : Machine) (standing : FullStanding)
    (number : ℕ) (session : Session) (asked : Asked) : Type 0 where
  pub goes_well : goes opened it before machine standing (begun_next machine number) ≡ true
  pub wait : Wait opened it last (before ++ begun_next machine number ∷ [])
      (next opened machine (begun_next machine number)) (standing_and it standing (begun_next machine number)) number
      (begun_in machine.begun (length machine.commits) session) asked

pub begin_goes : (opened : List Table) (it last : ℕ) (before : List Entry) (machine : Machine) (standing : FullStanding)
    (number : ℕ) (session : Session) (asked : Asked)
    → Wait opened it last before machine standing number session asked
    → (asks_for begins_one (Some asked) && is_outside session.transaction) ≡ true
    → not (is_spent_alone opened machine) ≡ true
    → Begins opened it last before machine standing number session asked
begin_goes opened it last before machine standing number session asked wait asks free =
    let entry = begun_next machine number in
    let starts = length machine.commits in
    let spent = or_parts (machine.begun == MAX_TRANSACTIONS)
    (nat_lt MAX_ROWS (committed_rows opened machine.commits + OPEN_ROWS * (open_count machine + 1)))
    (not-true (is_spent_alone opened machine) free) in
    let within = wait.bounded.counted in
    let less = below_most machine.begun MAX_TRANSACTIONS within (eqb-false machine.begun MAX_TRANSACTIONS spent.0) in
    let step : is_step opened before machine entry ≡ true =
    ap (if_there (may_begin machine machine.begun starts))
    (asked_session machine standing number session asked wait.place wait.busy)
    ∙ and_from (asks_for begins_one (Some asked) && is_outside session.transaction)
    ((machine.begun == machine.begun && nat_lt machine.begun MAX_TRANSACTIONS) && starts == starts) asks
    (and_from (machine.begun == machine.begun && nat_lt machine.begun MAX_TRANSACTIONS) (starts == starts)
    (and_from (machine.begun == machine.begun) (nat_lt machine.begun MAX_TRANSACTIONS)
    (eq-eqb machine.begun machine.begun refl) (lt-ltb machine.begun MAX_TRANSACTIONS less))
    (eq-eqb starts starts refl)) in
    let alone : is_step_alone opened machine entry ≡ true = and_from (none_in_flight machine number)
    (not (is_spent_alone opened machine)) wait.busy.alone free in
    record {
      goes_well = and_from (is_step opened before machine entry) (is_step_alone opened machine entry && true) step
          (and_from (is_step_alone opened machine entry) true alone refl);
      wait = record {
        line = line_next opened before machine entry wait.line step alone;
        bounded = next_bounded opened machine entry wait.bounded;
        place = wait.place;
        busy = busy_begun opened it machine standing session asked wait.place number machine.begun starts wait.busy;
        counts = counts_begun it last standing number machine.begun starts wait.counts;
        calm = record { stop = wait.calm.stop; needs = wait.calm.needs };
        was = was_now opened before machine entry number wait.line;
      };
    }

-- where no transaction of one thread can begin, none of any can
fewer : {T : Type 0} → (P : T → Bool) (xs : List T) (k : ℕ) (x : T) → slice_get xs k ≡ Some x → P x ≡ false
    → length (filter P xs) < length xs
fewer P [] k x at off = cc
fewer P (y ∷ ys) zero x at off =
    let same : y ≡ x = cc in
    let le = length_filter P ys in
    subst (λ (b : Bool). length (if b then y ∷ filter P ys else filter P ys) < length (y ∷ ys))
    (sym (ap P same ∙ off)) (omega (arith, le))
fewer P (y ∷ ys) (suc k) x at off = kept (P y) (fewer P ys k x at off)
  where
    kept : (b : Bool) → length (filter P ys) < length ys
        → length (if b then y ∷ filter P ys else filter P ys) < length (y ∷ ys)
    kept true less = omega (arith, less)
    kept false less = omega (arith, less)

rows_more : (rows count : ℕ) → count < SESSIONS → MAX_ROWS < rows + OPEN_ROWS * (count + 1)
    → MAX_ROWS < rows + SPARE_ROWS
rows_more rows count less above = omega (arith, less, above)

outside_closed : (transaction : Transaction) → is_outside transaction ≡ true
    → elim transaction as (λ x. Bool) [ state.Outside ↦ false | state.Aborted ↦ false | state.Open active ↦ true ]
    ≡ false
outside_closed state.Outside e = refl
outside_closed state.Aborted e = refl
outside_closed (state.Open active) e = absurd (false≢true e)

spent_for_all : (opened : List Table) (machine : Machine) (number : ℕ) (session : Session) → Bounded machine
    → session_at machine.sessions number ≡ Some session
    → is_outside session.transaction ≡ true → is_spent_alone opened machine ≡ true
    → (machine.begun == MAX_TRANSACTIONS || nat_lt MAX_ROWS (committed_rows opened machine.commits + SPARE_ROWS)) ≡ true
spent_for_all opened machine number session bounded is outside spent =
    let rows = committed_rows opened machine.commits in
    let wide = bounded.wide in
    let count = fewer is_open machine.sessions (number - 1) session (found_at machine.sessions number session is).0
    (outside_closed session.transaction outside) in
    ⊎_elim
    (λ all. or_left (machine.begun == MAX_TRANSACTIONS) (nat_lt MAX_ROWS (rows + SPARE_ROWS)) all)
    (λ more. or_right (machine.begun == MAX_TRANSACTIONS) (nat_lt MAX_ROWS (rows + SPARE_ROWS))
    (lt-ltb MAX_ROWS (rows + SPARE_ROWS) (rows_more rows (open_count machine)
    (subst (λ n. open_count machine < n) wide count)
    (ltb-true MAX_ROWS (rows + OPEN_ROWS * (open_count machine + 1)) more))))
    (or_cases (machine.begun == MAX_TRANSACTIONS) (nat_lt MAX_ROWS (rows + OPEN_ROWS * (open_count machine + 1))) spent)

-- what a reply on one thread must be
pub record Suits (opened : List Table) (last : ℕ) (before : List Entry) (machine : Machine) (number : ℕ) (session : Session)
    (asked : Asked) (reply : Reply) : Type 0 where
  pub passes : may_answer opened machine.commits session.transaction asked reply ≡ true
  pub founded : is_founded opened number before machine
      (session_of session.transaction (Some asked) session.writes session.last) reply ≡ true
  pub alone : may_reply_alone opened machine number session.transaction (Some asked) reply ≡ true
  pub calm : is_stop reply ≡ false
  pub next : follows last reply ≡ true

-- the reply may come, and behind it no call is in flight
pub record Answered (opened : List Table) (it last : ℕ) (before : List Entry) (machine : Machine) (standing : FullStanding)
    (number : ℕ) (reply : Reply) : Type 0 where
  pub goes_well : goes opened it before machine standing (history.Reply number reply) ≡ true
  pub ready : Ready opened it (iteration_behind last reply) (before ++ history.Reply number reply ∷ [])
      (next opened machine (history.Reply number reply))
      (standing_and it standing (history.Reply number reply))

pub suits_goes : (opened : List Table) (it last : ℕ) (before : List Entry) (machine : Machine) (standing : FullStanding)
    (number : ℕ) (session : Session) (asked : Asked) (reply : Reply)
    → Wait opened it last before machine standing number session asked
    → Suits opened last before machine number session asked reply
    → Answered opened it last before machine standing number reply
suits_goes opened it last before machine standing number session asked reply wait suits =
    let entry = history.Reply number reply in
    let whole = session_of session.transaction (Some asked) session.writes session.last in
    let is = asked_session machine standing number session asked wait.place wait.busy in
    let step : is_step opened before machine entry ≡ true =
    ap (if_there (may_reply opened number before machine reply)) is
    ∙ and_from (may_answer opened machine.commits session.transaction asked reply)
    (is_founded opened number before machine whole reply) suits.passes suits.founded in
    let alone : is_step_alone opened machine entry ≡ true =
    and_from (none_in_flight machine number) _ wait.busy.alone
    (ap (λ found. elim found as (λ x. Bool) [
      | None ↦ false
      | Some session ↦ may_reply_alone opened machine number
          session.transaction session.asked reply
    ]) is ∙ suits.alone) in
    let on = goes_on it last standing number wait.place asked wait.counts wait.calm wait.busy.flights reply suits.calm
    suits.next in
    record {
      goes_well = and_from (is_step opened before machine entry) (is_step_alone opened machine entry
          && stands_on it standing entry) step
          (and_from (is_step_alone opened machine entry) (stands_on it standing entry) alone on.0);
      ready = record {
        line = line_next opened before machine entry wait.line step alone;
        bounded = next_bounded opened machine entry wait.bounded;
        idle = busy_reply opened it machine standing number session asked wait.place reply wait.busy;
        counts = busy_counts opened it last machine standing number session asked wait.place wait.busy wait.counts
            reply suits.passes on.0;
        calm = on.1;
      };
    }

-- where a call asks to begin a transaction and none begins, none could since the call
pub spent_since : (opened : List Table) (it last : ℕ) (before : List Entry) (machine : Machine) (standing : FullStanding)
    (number : ℕ) (session : Session) (asked : Asked)
    → Wait opened it last before machine standing number session asked
    → ((asks_for begins_one (Some asked) && is_outside session.transaction) && not (is_spent_alone opened machine)) ≡ false
    → Spent opened last before machine number session.writes session.last (asks_for begins_one (Some asked)
    && is_outside session.transaction)
spent_since opened it last before machine standing number session asked wait begins asks =
    let rows = committed_rows opened machine.commits in
    let spent = not-false (is_spent_alone opened machine) (subst (λ b. (b && not (is_spent_alone opened machine))
    ≡ false) asks begins) in
    let outside = (and_parts (asks_for begins_one (Some asked)) (is_outside session.transaction) asks).1 in (
      spent,
      wait.was (is_spent opened (spent_numbers opened last before machine number session.writes session.last))
          (and_from (machine.begun == MAX_TRANSACTIONS || nat_lt MAX_ROWS (rows + SPARE_ROWS))
          (true && (machine.begun == machine.begun && cap rows == cap rows))
          (spent_for_all opened machine number session wait.bounded wait.busy.is outside spent)
          (and_from (machine.begun == machine.begun) (cap rows == cap rows) (eq-eqb machine.begun machine.begun refl)
          (eq-eqb (cap rows) (cap rows) refl))),
    )

pub found_transaction : (machine : Machine) (number : ℕ) (session : Session) → session_at machine.sessions number
    ≡ Some session
    → transaction_at machine number ≡ session.transaction
found_transaction machine number session is =
    ap (λ found. elim found as (λ x. Transaction) [ None ↦ state.Outside | Some session ↦ session.transaction ]) is

pub first_ready : (opened : List Table) (it : ℕ) → it ≤ MAX_ITERATION → Ready opened it it [] first_state first_standing
first_ready opened it within = record {
  line = first_line opened;
  bounded = first_bounded;
  idle = record { all = refl; flights = refl };
  counts = first_counts it within;
  calm = record { stop = refl; needs = refl };
}

-- a reply behind its call
pub answered_one : (number at : ℕ) (reply : Reply) (entries : List Entry)
    → is_some (reply_from number at (history.Reply number reply ∷ entries)) ≡ true
answered_one number at reply entries =
    ap (λ (b : Bool). is_some (if b then Some (record { place = at; reply = reply }) else reply_from number
    (at + 1) entries)) (eq-eqb number number refl)

-- the iteration behind two lists of entries
pub iteration_both : (last : ℕ) (xs ys : List Entry)
    → iteration_after last (xs ++ ys) ≡ iteration_after (iteration_after last xs) ys
iteration_both last [] ys = refl
iteration_both last (x ∷ xs) ys = iteration_both (iteration_and last x) xs ys
