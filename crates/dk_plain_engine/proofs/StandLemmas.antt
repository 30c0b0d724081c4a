-- An engine that stands behind a history has answered one more call.
use Rattle.std.proofs.Common.{◌≡◌, ℕ, ◌≤◌, ◌<◌, Bool, true, false, List, [], ◌∷◌, ◌++◌, length, Option, Some, ap, ◌∙◌, sym, refl, subst, arith}
use Rattle.std.specs.Prelude.{◌&&◌, ◌||◌, not, nat_lt, nat_le, if◌then◌else◌}
use Rattle.std.proofs.lemmas.Bool.{and_from, and_parts, lt-ltb, le-leb}
use Rattle.dk_types.specs.declared.reply.Reply.{Reply}
use Rattle.dk_si.specs.declared.database.Table.{Table}
use Rattle.dk_si.specs.declared.history.Asked.{Asked}
use Rattle.dk_si.specs.declared.history.Entry.{Entry}
use Rattle.dk_si.specs.declared.history.Entry.TheVariants as history
use Rattle.dk_si.specs.declared.limits.TheConstants.{SESSIONS}
use Rattle.dk_si.specs.declared.machine.Machine.{Machine}
use Rattle.dk_si.specs.declared.machine.Session.{Session}
use Rattle.dk_si.specs.declared.machine.Transaction.{Transaction}
use Rattle.dk_si.specs.declared.machine.Transaction.TheVariants as state
use Rattle.dk_si.specs.Answer.{answer}
use Rattle.dk_si.specs.Exchanges.{exchanges}
use Rattle.dk_si.specs.LawfulCalls.{is_lawful_call}
use Rattle.dk_si.specs.Laws.{state_after}
use Rattle.dk_si.specs.Machine.{asks_for, begins_one, first_state, is_outside, next, session_at}
use Rattle.dk_si.specs.OneThread.{is_legal_alone, is_spent_alone, none_in_flight}
use Rattle.dk_si.specs.Standing.{FullStanding, first_standing, standing_and}
use Rattle.dk_alone.specs.AnswerHistory.{is_call, iteration_after, iteration_behind, transaction_at, will_begin, begun_next, are_answered}
use Rattle.dk_alone.proofs.CallLemmas.{Ready, Wait, call_goes, begin_goes, found_transaction, first_ready, iteration_both}
use Rattle.dk_si.proofs.GrowthLemmas.{after_both}
use Rattle.dk_alone.proofs.FlightLemmas.{begun_in}
use Rattle.dk_alone.proofs.WalkLemmas.{walk_is_legal}
use Rattle.dk_plain_engine.specs.declared.state.EngineState.{EngineState}
use Rattle.dk_plain_engine.specs.Stands.{Stands, Answers, IsReply, IsTurn, conflict_name}
use Rattle.dk_plain_engine.specs.Still.{still, begun_for, behind_reply}
use Rattle.dk_plain_engine.specs.Turns.{Turn, may_lack, reply_or_lack, turn_reply, told_if, turn_entries, turn_history, is_turn, are_turns}
use Rattle.dk_plain_engine.proofs.StillLemmas.{transaction_still, answer_still, begins_still, call_still, begun_still, reply_still}
use Rattle.dk_plain_engine.proofs.TurnLemmas.{turns_walk, turns_answered, history_and_one, turns_and_one}

-- the state in which a call is answered: the call is in flight, and no other
record Asks (machine kept : Machine) (number : ℕ) (asked : Asked) : Type 0 where
  session : Session
  is : session_at machine.sessions number ≡ Some session
  call : session.asked ≡ Some asked
  alone : none_in_flight machine number ≡ true
  same : still machine ≡ kept

abbrev begun_if : List Table → Machine → ℕ → Bool → Machine
begun_if opened machine number begins = if begins then next opened machine (begun_next machine number) else machine

-- the Begun entry that is next is told by what is kept
next_begun_still : (opened : List Table) (machine kept : Machine) (number : ℕ) (session : Session)
    → session_at machine.sessions number ≡ Some session → still machine ≡ kept
    → still (next opened machine (begun_next machine number)) ≡ next opened kept (begun_next kept number)
next_begun_still opened machine kept number session is same =
    begun_still opened machine number machine.begun (length machine.commits) session is
    ∙ ap (λ m. next opened m (begun_next m number)) same

asks_if : (opened : List Table) (it last : ℕ) (before : List Entry) (machine kept : Machine) (standing : FullStanding)
    (number : ℕ) (session : Session) (asked : Asked)
    → Wait opened it last before machine standing number session asked → still machine ≡ kept
    → (b : Bool) → ((asks_for begins_one (Some asked) && is_outside session.transaction) && not (is_spent_alone opened machine)) ≡ b
    → Asks (begun_if opened machine number b) (begun_if opened kept number b) number asked
asks_if opened it last before machine kept standing number session asked wait same true begins =
    let h = and_parts (asks_for begins_one (Some asked) && is_outside session.transaction)
    (not (is_spent_alone opened machine)) begins in
    let begun = begin_goes opened it last before machine standing number session asked wait h.0 h.1 in
    record {
      session = begun_in machine.begun (length machine.commits) session;
      is = begun.wait.busy.is;
      call = begun.wait.busy.call;
      alone = begun.wait.busy.alone;
      same = next_begun_still opened machine kept number session wait.busy.is same;
    }
asks_if opened it last before machine kept standing number session asked wait same false begins = record {
  session = session;
  is = wait.busy.is;
  call = wait.busy.call;
  alone = wait.busy.alone;
  same = same;
}

-- behind a call and its Begun entry, where it makes one
abbrev asked_in : List Table → Machine → ℕ → Asked → Machine
asked_in opened machine number asked = begun_for opened (next opened machine (history.Call number asked)) number asked

asks_of : (opened : List Table) (it last : ℕ) (before : List Entry) (machine : Machine) (standing : FullStanding)
    (number : ℕ) (asked : Asked)
    → Ready opened it last before machine standing → is_call (number, asked) ≡ true
    → Asks (asked_in opened machine number asked) (begun_for opened (still machine) number asked) number asked
asks_of opened it last before machine standing number asked ready may =
    let entry = history.Call number asked in
    let now = next opened machine entry in
    let made = call_goes opened it last before machine standing number asked ready may in
    let same : still now ≡ still machine = call_still opened machine number asked made.own made.there in
    let begins = ap (λ t. (asks_for begins_one (Some asked) && is_outside t) && not (is_spent_alone opened now))
    (found_transaction now number made.session made.wait.busy.is) in
    let will : will_begin opened (still machine) number asked ≡ will_begin opened now number asked =
    ap (λ m. will_begin opened m number asked) (sym same) ∙ begins_still opened now number asked in
    subst (λ b. Asks (asked_in opened machine number asked) (begun_if opened (still machine) number b) number asked) (sym will)
    (asks_if opened it last (before ++ entry ∷ []) now (still machine) (standing_and it standing entry) number made.session asked
    made.wait same (will_begin opened now number asked) (sym begins))

transaction_kept : (machine kept : Machine) (number : ℕ) (asked : Asked) → Asks machine kept number asked
    → transaction_at machine number ≡ transaction_at kept number
transaction_kept machine kept number asked asks =
    sym (transaction_still machine number) ∙ ap (λ m. transaction_at m number) asks.same

-- the reply, and the state behind it
behind_asked : (opened : List Table) (machine kept : Machine) (number : ℕ) (asked : Asked) (reply : Reply)
    → Asks machine kept number asked
    → still (next opened machine (history.Reply number reply)) ≡ behind_reply opened kept number (transaction_at kept number) asked reply
behind_asked opened machine kept number asked reply asks =
    reply_still opened machine number asked asks.session reply asks.is asks.call
    ∙ (ap (λ m. behind_reply opened m number asks.session.transaction asked reply) asks.same
    ∙ ap (λ t. behind_reply opened kept number t asked reply)
    (sym (found_transaction machine number asks.session asks.is) ∙ transaction_kept machine kept number asked asks))

answer_kept : (opened : List Table) (last : ℕ) (machine kept : Machine) (number : ℕ) (asked : Asked) (lacks : Bool)
    → Asks machine kept number asked
    → reply_or_lack lacks (answer opened last machine number (transaction_at machine number) asked)
    ≡ reply_or_lack lacks (answer opened last kept number (transaction_at kept number) asked)
answer_kept opened last machine kept number asked lacks asks =
    ap (reply_or_lack lacks)
    (sym (answer_still opened last machine number (transaction_at machine number) asked asks.alone)
    ∙ (ap (λ m. answer opened last m number (transaction_at machine number) asked) asks.same
    ∙ ap (λ t. answer opened last kept number t asked) (transaction_kept machine kept number asked asks)))

-- the state and the iteration behind the entries of a turn
told_state : (opened : List Table) (last : ℕ) (machine : Machine) (turn : Turn) (b : Bool)
    → state_after opened machine (told_if opened last machine turn b)
    ≡ next opened (begun_if opened machine turn.number b)
    (history.Reply turn.number (turn_reply opened last (begun_if opened machine turn.number b) turn))
told_state opened last machine turn true = refl
told_state opened last machine turn false = refl

told_iteration : (opened : List Table) (last : ℕ) (machine : Machine) (turn : Turn) (b : Bool)
    → iteration_after last (told_if opened last machine turn b)
    ≡ iteration_behind last (turn_reply opened last (begun_if opened machine turn.number b) turn)
told_iteration opened last machine turn true = refl
told_iteration opened last machine turn false = refl

-- the name of a conflict is that in what is kept
name_still : (machine : Machine) (transaction : Transaction) (reply : Reply)
    → conflict_name (still machine) transaction reply ≡ conflict_name machine transaction reply
unfolding conflict_name
name_still machine state.Outside reply = refl
name_still machine state.Aborted reply = refl
name_still machine (state.Open active) reply = refl

-- a session calls lawfully
call_may : (number : ℕ) (asked : Asked) → 0 < number → number ≤ SESSIONS → is_lawful_call asked ≡ true
    → is_call (number, asked) ≡ true
call_may number asked above within lawful =
    and_from (nat_lt 0 number && nat_le number SESSIONS) (is_lawful_call asked)
    (and_from (nat_lt 0 number) (nat_le number SESSIONS) (lt-ltb 0 number above) (le-leb number SESSIONS within)) lawful

-- no call so far
pub stands_first : Stands (record { iteration = 1; machine = first_state }) []
stands_first = record {
  legal = walk_is_legal [] 1 [] refl;
  answered = refl;
  turns = [];
  may = refl;
  are = refl;
  iteration = refl;
  machine = refl;
}

module _ (old new : EngineState) (number : ℕ) (asked : Asked) (reply : Reply) (name : Option (List ℕ))
    (entries : List Entry) (done : IsTurn old new number asked reply name) (stands : Stands old entries)
    (calls : is_call (number, asked) ≡ true) where
  abbrev machine : Machine
  machine = state_after [] first_state entries

  abbrev last : ℕ
  last = iteration_after 1 entries

  abbrev turn : Turn
  turn = record { number = number; asked = asked; lacks = done.lacks }

  abbrev kept : Machine
  kept = begun_for [] (still machine) number asked

  ready : (behind : FullStanding) → Ready [] 1 last entries machine behind → Answers new entries number asked reply name
  ready behind at =
      let asks = asks_of [] 1 last entries machine behind number asked at calls in
      let now = next [] machine (history.Call number asked) in
      let b = will_begin [] now number asked in
      let said = turn_reply [] last (asked_in [] machine number asked) turn in
      let reply_is : IsReply last kept number asked done.lacks reply name =
      subst (λ m. IsReply last (begun_for [] m number asked) number asked done.lacks reply name) stands.machine
      (subst (λ n. IsReply n (begun_for [] old.machine number asked) number asked done.lacks reply name) stands.iteration done.replied) in
      let same : said ≡ reply =
      answer_kept [] last (asked_in [] machine number asked) kept number asked done.lacks asks ∙ sym reply_is.is in
      let lack_may : (not done.lacks || may_lack (transaction_at (asked_in [] machine number asked) number) asked) ≡ true =
      ap (λ t. not done.lacks || may_lack t asked)
      (transaction_kept (asked_in [] machine number asked) kept number asked asks
      ∙ ap (λ m. transaction_at (begun_for [] m number asked) number) (sym stands.machine)) ∙ done.may in
      let turn_may : is_turn [] machine turn ≡ true =
      and_from (is_call (number, asked)) (not done.lacks || may_lack (transaction_at (asked_in [] machine number asked) number) asked)
      calls lack_may in
      let more = turn_entries [] last machine turn in
      let are : turn_history [] 1 first_state (stands.turns ++ turn ∷ []) ≡ entries ++ more =
      history_and_one [] stands.turns turn 1 first_state
      ∙ ap (λ list. list ++ turn_entries [] (iteration_after 1 list) (state_after [] first_state list) turn) stands.are in
      let may : are_turns [] 1 first_state (stands.turns ++ turn ∷ []) ≡ true =
      turns_and_one [] stands.turns turn 1 first_state stands.may
      (subst (λ list. is_turn [] (state_after [] first_state list) turn ≡ true) (sym stands.are) turn_may) in
      let state : state_after [] machine more ≡ next [] (asked_in [] machine number asked) (history.Reply number reply) =
      told_state [] last now turn b ∙ ap (λ r. next [] (asked_in [] machine number asked) (history.Reply number r)) same in
      let iteration : iteration_after last more ≡ iteration_behind last reply =
      told_iteration [] last now turn b ∙ ap (iteration_behind last) same in
      record {
        lacks = done.lacks;
        may = turn_may;
        stands = record {
          legal = subst (λ list. is_legal_alone [] 1 list ≡ true) are
              (walk_is_legal [] 1 (turn_history [] 1 first_state (stands.turns ++ turn ∷ []))
              (turns_walk [] 1 (stands.turns ++ turn ∷ []) 1 first_state may [] first_standing (first_ready [] 1 (omega arith))).walk);
          answered = subst (λ list. are_answered (exchanges list) ≡ true) are
              (turns_answered [] (stands.turns ++ turn ∷ []) 1 first_state 0);
          turns = stands.turns ++ turn ∷ [];
          may = may;
          are = are;
          iteration = done.iteration ∙ (ap (λ n. iteration_behind n reply) stands.iteration
              ∙ (sym iteration ∙ sym (iteration_both 1 entries more)));
          machine = done.machine
              ∙ (ap (λ m. behind_reply [] (begun_for [] m number asked) number (transaction_at (begun_for [] m number asked) number) asked reply)
              stands.machine
              ∙ (sym (behind_asked [] (asked_in [] machine number asked) kept number asked reply asks)
              ∙ (ap still (sym state) ∙ ap still (sym (after_both [] first_state entries more)))));
        };
        replied = record {
          is = sym same;
          named = reply_is.named
              ∙ (ap (λ t. conflict_name kept t reply) (sym (transaction_kept (asked_in [] machine number asked) kept number asked asks))
              ∙ (ap (λ m. conflict_name m (transaction_at (asked_in [] machine number asked) number) reply) (sym asks.same)
              ∙ name_still (asked_in [] machine number asked) (transaction_at (asked_in [] machine number asked) number) reply));
        };
      }

  answered : Answers new entries number asked reply name
  answered =
      let walked = turns_walk [] 1 stands.turns 1 first_state stands.may [] first_standing (first_ready [] 1 (omega arith)) in
      ready walked.behind
      (subst (λ list. Ready [] 1 (iteration_after 1 list) list (state_after [] first_state list) walked.behind) stands.are walked.ready)

-- an engine that stood behind the entries stands behind those of one more call
pub turn_answers : (old new : EngineState) (number : ℕ) (asked : Asked) (reply : Reply) (name : Option (List ℕ))
    → IsTurn old new number asked reply name → 0 < number → number ≤ SESSIONS → is_lawful_call asked ≡ true
    → (entries : List Entry) → Stands old entries → Answers new entries number asked reply name
turn_answers old new number asked reply name done above within lawful entries stands =
    answered old new number asked reply name entries done stands (call_may number asked above within lawful)
