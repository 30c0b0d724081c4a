-- A legal history of one thread, in which each call has its reply and all are plain, is the one that answers its calls.
use Rattle.std.proofs.Common.{◌≡◌, ℕ, ◌+◌, Bool, true, false, List, [], ◌∷◌, ◌++◌, map, length, Option, Some, None, ap}
use Rattle.std.proofs.Common.{◌∙◌, sym, refl, subst}
use Rattle.std.specs.Prelude.{◌&&◌, ◌||◌, not, option_map, ◌==◌, nat_lt}
use Rattle.std.proofs.lemmas.Bool.{false≢true, and_from, and_parts, eqb-true}
use Rattle.dk_types.specs.declared.net.Commit.{Commit}
use Rattle.dk_types.specs.declared.reply.Receipt.{Receipt}
use Rattle.dk_types.specs.declared.reply.Refusal.TheVariants as why
use Rattle.dk_types.specs.declared.reply.Reply.{Reply}
use Rattle.dk_types.specs.declared.reply.Reply.TheVariants as told
use Rattle.dk_si.specs.declared.database.Table.{Table}
use Rattle.dk_si.specs.declared.history.Asked.{Asked}
use Rattle.dk_si.specs.declared.history.Asked.TheVariants.{Unread, Bad, Good}
use Rattle.dk_si.specs.declared.history.Entry.{Entry}
use Rattle.dk_si.specs.declared.history.Entry.TheVariants as history
use Rattle.dk_si.specs.declared.kind.Kind.{Kind}
use Rattle.dk_si.specs.declared.kind.Kind.TheVariants as form
use Rattle.dk_si.specs.declared.limits.TheConstants.{MAX_TRANSACTIONS}
use Rattle.dk_si.specs.declared.machine.LastTransaction.{LastTransaction}
use Rattle.dk_si.specs.declared.machine.Machine.{Machine}
use Rattle.dk_si.specs.declared.machine.OpenTransaction.{OpenTransaction}
use Rattle.dk_si.specs.declared.machine.Session.{Session}
use Rattle.dk_si.specs.declared.machine.Transaction.{Transaction}
use Rattle.dk_si.specs.declared.machine.Transaction.TheVariants as state
use Rattle.dk_si.specs.declared.machine.WriteSet.{WriteSet}
use Rattle.dk_si.specs.Answer.{answer, timeless, timeless_receipt}
use Rattle.dk_alone.specs.AnswerHistory.{calls_of, iteration_and, iteration_behind, iteration_after, transaction_at}
use Rattle.dk_alone.specs.AnswerHistory.{will_begin, begun_next, reply_next, answer_history, timeless_entry}
use Rattle.dk_alone.specs.AnswerHistory.{are_answered}
use Rattle.dk_alone.specs.AnswerLaws.{is_plain, is_plain_to, are_plain, HistoriesAreAnswers}
use Rattle.dk_si.specs.Exchanges.{exchanges_from}
use Rattle.dk_si.specs.IsStep.{may_begin, may_call, may_reply, if_there}
use Rattle.dk_si.specs.Laws.{state_after}
use Rattle.dk_si.specs.Machine.{after_open_reply, after_reply, asks_for, begins_one, change_transition, first_state}
use Rattle.dk_si.specs.Machine.{is_outside, kind_of, net_behind, next, session_at, transition}
use Rattle.dk_si.specs.MayAnswer.{may_answer, outside_answers}
use Rattle.dk_si.specs.OneThread.{is_spent_alone, are_spent_numbers, may_reply_alone, none_in_flight}
use Rattle.dk_si.specs.ReplyTests.{is_refused, is_spent_refusal}
use Rattle.dk_si.specs.Standing.{FullStanding, first_standing, standing_and}
use Rattle.dk_alone.proofs.AnswerWalkLemmas.{entries_if}
use Rattle.dk_alone.proofs.CallLemmas.{found_transaction}
use Rattle.dk_alone.proofs.FlightLemmas.{Busy, Idle, begun_in, busy_begun, busy_call, busy_reply, called, idle_begun}
use Rattle.dk_alone.proofs.FlightLemmas.{idle_call, idle_reply}
use Rattle.dk_alone.proofs.IterationLemmas.{Counts, busy_counts, counts_begun, counts_call, first_counts}
use Rattle.dk_si.proofs.SessionStepLemmas.{is_there}
use Rattle.dk_si.proofs.TransitionLemmas.{session_of}
use Rattle.dk_alone.proofs.WalkLemmas.{Line, first_line, goes, legal_walks, line_next, walks}
use Rattle.dk_alone.proofs.ReplyAnswerLemmas.{Goes, goes_of, told_of, reply_is_answer, there_same}

-- the moment of a receipt is no part of the state
changed_timeless : (active : OpenTransaction) (asked : Option Asked) (net : _) (receipt : Option Receipt)
    → change_transition active asked net (option_map timeless_receipt receipt) ≡ change_transition active asked net
    receipt
changed_timeless active asked net None = refl
changed_timeless active asked net (Some receipt) = refl

transition_timeless : (opened : List Table) (commits : List Commit) (active : OpenTransaction) (asked : Option Asked)
    (reply : Reply)
    → transition opened commits active asked (timeless reply) ≡ transition opened commits active asked reply
transition_timeless opened commits active asked (told.Changed count receipt) = changed_timeless active asked
    (net_behind opened commits active asked) receipt
transition_timeless opened commits active asked (told.Created receipt) = refl
transition_timeless opened commits active asked (told.Committed receipt) = refl
transition_timeless opened commits active asked other = refl

aborted_timeless : (opened : List Table) (machine : Machine) (number : ℕ) (asked : Option Asked)
    (touched : Option WriteSet) (past : Option LastTransaction) (reply : Reply)
    → after_reply opened machine number (session_of state.Aborted asked touched past) (timeless reply)
    ≡ after_reply opened machine number (session_of state.Aborted asked touched past) reply
aborted_timeless opened machine number asked touched past told.Ended = refl
aborted_timeless opened machine number asked touched past other = refl

after_timeless : (opened : List Table) (machine : Machine) (number : ℕ) (transaction : Transaction)
    (asked : Option Asked) (touched : Option WriteSet) (past : Option LastTransaction) (reply : Reply)
    → after_reply opened machine number (session_of transaction asked touched past) (timeless reply)
    ≡ after_reply opened machine number (session_of transaction asked touched past) reply
after_timeless opened machine number state.Outside asked touched past reply = refl
after_timeless opened machine number state.Aborted asked touched past reply = aborted_timeless opened machine number
    asked touched past reply
after_timeless opened machine number (state.Open active) asked touched past reply =
    ap (after_open_reply opened machine number (session_of (state.Open active) asked touched past) active)
    (transition_timeless opened machine.commits active asked reply)

found_timeless : (opened : List Table) (machine : Machine) (number : ℕ) (reply : Reply) (found : Option Session)
    → elim found as (λ x. Machine) [
      | None ↦ machine
      | Some before ↦ after_reply opened machine number before
          (timeless reply)
    ]
    ≡ elim found as (λ x. Machine) [ None ↦ machine | Some before ↦ after_reply opened machine number before reply ]
found_timeless opened machine number reply None = refl
found_timeless opened machine number reply (Some before) =
    after_timeless opened machine number before.transaction before.asked before.writes before.last reply

pub next_timeless : (opened : List Table) (machine : Machine) (number : ℕ) (reply : Reply)
    → next opened machine (history.Reply number (timeless reply)) ≡ next opened machine (history.Reply number reply)
next_timeless opened machine number reply = found_timeless opened machine number reply
    (session_at machine.sessions number)

iteration_timeless : (last : ℕ) (reply : Reply) → iteration_behind last (timeless reply) ≡ iteration_behind last reply
iteration_timeless last (told.Checkpointed n) = refl
iteration_timeless last other = refl

-- a reply, and what follows it
told_rest : (opened : List Table) (last : ℕ) (machine : Machine) (number : ℕ) (reply answered : Reply)
    (calls : List (ℕ × Asked)) (rest : List Entry)
    → timeless reply ≡ answered → rest ≡ answer_history opened (iteration_behind last reply)
    (next opened machine (history.Reply number reply)) calls
    → history.Reply number (timeless reply) ∷ rest
    ≡ history.Reply number answered ∷ answer_history opened (iteration_behind last answered)
    (next opened machine (history.Reply number answered)) calls
told_rest opened last machine number reply answered calls rest is more =
    ap (λ list. history.Reply number (timeless reply) ∷ list)
    (more
    ∙ (ap (λ n. answer_history opened n (next opened machine (history.Reply number reply)) calls)
    (sym (iteration_timeless last reply))
    ∙ ap (λ m. answer_history opened (iteration_behind last (timeless reply)) m calls)
    (sym (next_timeless opened machine number reply))))
    ∙ ap (λ r. history.Reply number r ∷ answer_history opened (iteration_behind last r)
    (next opened machine (history.Reply number r)) calls) is

-- a call that asks to begin a transaction is answered outside one only where none can begin
begins_refused : (commits : List Commit) (kind : Kind) (reply : Reply) → begins_one kind ≡ true
    → outside_answers commits kind reply ≡ true
    → is_refused is_spent_refusal reply ≡ true
begins_refused commits form.Begin reply begins e = e
begins_refused commits form.Create reply begins e = e
begins_refused commits form.Select reply begins e = e
begins_refused commits form.Change reply begins e = e
begins_refused commits form.Commit reply begins e = absurd (false≢true begins)
begins_refused commits form.Rollback reply begins e = absurd (false≢true begins)
begins_refused commits form.Checkpoint reply begins e = absurd (false≢true begins)

refused_spent : (opened : List Table) (machine : Machine) (number : ℕ) (asked : Asked) (reply : Reply)
    → asks_for begins_one (Some asked) ≡ true
    → is_refused is_spent_refusal reply ≡ true → may_reply_alone opened machine number state.Outside
    (Some asked) reply ≡ true → is_spent_alone opened machine ≡ true
refused_spent opened machine number asked (told.Refused (why.Exhausted numbers)) begins e alone =
    (and_parts (is_spent_alone opened machine) (are_spent_numbers opened machine numbers)
    (subst (λ b. (not b || (is_spent_alone opened machine && are_spent_numbers opened machine numbers)) ≡ true) begins
    alone)).0
refused_spent opened machine number asked (told.Refused refusal) begins e alone = absurd (false≢true e)
refused_spent opened machine number asked reply begins e alone = absurd (false≢true e)

told_spent : (opened : List Table) (machine : Machine) (number : ℕ) (transaction : Transaction) (asked : Asked)
    (reply : Reply)
    → may_answer opened machine.commits transaction asked reply ≡ true
    → may_reply_alone opened machine number transaction (Some asked) reply ≡ true
    → (asks_for begins_one (Some asked) && is_outside transaction) ≡ true → is_spent_alone opened machine ≡ true
told_spent opened machine number transaction Unread reply may alone e = absurd (false≢true e)
told_spent opened machine number transaction (Bad at) reply may alone e = absurd (false≢true e)
told_spent opened machine number state.Outside (Good statement) reply may alone e =
    let begins = (and_parts (begins_one (kind_of statement)) true e).0 in
    refused_spent opened machine number (Good statement) reply begins (begins_refused machine.commits
    (kind_of statement) reply begins may) alone
told_spent opened machine number state.Aborted (Good statement) reply may alone e = absurd
    (false≢true (and_parts (begins_one (kind_of statement)) false e).1)
told_spent opened machine number (state.Open active) (Good statement) reply may alone e = absurd
    (false≢true (and_parts (begins_one (kind_of statement)) false e).1)

not_begun : (asks spent : Bool) → (asks ≡ true → spent ≡ true) → (asks && not spent) ≡ false
not_begun true spent is = ap (λ b. not b) (is refl)
not_begun false spent is = refl

-- the reply that follows its call
module _ (opened : List Table) (it last : ℕ) (before : List Entry) (machine : Machine) (standing : FullStanding)
    (number : ℕ) (session : Session) (asked : Asked) (place : ℕ)
    (line : Line opened before machine) (busy : Busy machine standing number session asked place)
    (counts : Counts it last standing) where
  plain_reply : (reply : Reply) (rest : Bool)
      → (elim (session_at machine.sessions number) as
      (λ x. Bool) [ None ↦ true | Some session ↦ is_plain_to session.asked reply ] && rest) ≡ true
      → is_plain asked reply ≡ true
  plain_reply reply rest e =
      subst (λ call. is_plain_to call reply ≡ true) busy.call
      (subst (λ found. elim found as (λ x. Bool) [ None ↦ true | Some session ↦ is_plain_to session.asked reply ]
      ≡ true) busy.is (and_parts _ rest e).0)

  reply_answers : (reply : Reply) (calls : List (ℕ × Asked)) (rest : List Entry)
      → Goes opened it before machine standing (history.Reply number reply) → is_plain asked reply ≡ true
      → rest ≡ answer_history opened (iteration_behind last reply) (next opened machine (history.Reply number reply))
      calls
      → history.Reply number (timeless reply) ∷ rest
      ≡ reply_next opened last machine number asked
      ∷ answer_history opened (iteration_behind last (answer opened last machine number
      (transaction_at machine number) asked)) (next opened machine (reply_next opened last machine number asked))
      calls
  reply_answers reply calls rest goes plain more =
      told_rest opened last machine number reply (answer opened last machine number
      (transaction_at machine number) asked) calls rest
      (reply_is_answer opened it last before machine standing number session asked place reply line busy counts goes
      plain
      ∙ sym (ap (λ t. answer opened last machine number t asked) (found_transaction machine number session busy.is)))
      more

  none_begun : (reply : Reply) → Goes opened it before machine standing (history.Reply number reply)
      → will_begin opened machine number asked ≡ false
  none_begun reply goes =
      let is = told_of opened it before machine standing number session asked place reply busy goes in
      ap (λ t. (asks_for begins_one (Some asked) && is_outside t) && not (is_spent_alone opened machine))
      (found_transaction machine number session busy.is)
      ∙ not_begun (asks_for begins_one (Some asked) && is_outside session.transaction) (is_spent_alone opened machine)
      (told_spent opened machine number session.transaction asked reply is.may is.alone)

-- the answers to a call with what follows them, by whether it begins a transaction
abbrev answered_if : List Table → ℕ → Machine → ℕ → Asked → List (ℕ × Asked) → Bool → List Entry
answered_if opened last machine number asked calls begins =
    entries_if opened last machine number asked begins
    ++ answer_history opened (iteration_after last (entries_if opened last machine number asked begins))
    (state_after opened machine (entries_if opened last machine number asked begins)) calls

-- a transaction that begins is the next one
record Began (opened : List Table) (machine : Machine) (number : ℕ) (asked : Asked) (entry : Entry) : Type 0 where
  is : entry ≡ begun_next machine number
  will : will_begin opened machine number asked ≡ true

began : (opened : List Table) (it : ℕ) (before : List Entry) (machine : Machine) (standing : FullStanding) (number : ℕ)
    (session : Session) (asked : Asked) (place : ℕ) (at transaction start : ℕ)
    → Busy machine standing number session asked place → Goes opened it before machine standing
    (history.Begun at transaction start)
    → Began opened machine number asked (history.Begun at transaction start)
began opened it before machine standing number session asked place at transaction start busy goes =
    let alone = and_parts (none_in_flight machine at) (not (is_spent_alone opened machine)) goes.alone in
    let same = there_same (may_begin machine transaction start) machine standing at
    (record { number = number; session = session; asked = asked; place = place; busy = busy }) alone.0 goes.step
    in
    let here = subst (λ n. if_there (may_begin machine transaction start) (session_at machine.sessions n) ≡ true)
    (sym same) goes.step in
    let may = subst (λ found. if_there (may_begin machine transaction start) found ≡ true) busy.is here in
    let h = and_parts (asks_for begins_one session.asked && is_outside session.transaction)
    ((transaction == machine.begun && nat_lt transaction MAX_TRANSACTIONS) && start == length machine.commits) may in
    let k = and_parts (transaction == machine.begun && nat_lt transaction MAX_TRANSACTIONS)
    (start == length machine.commits) h.1 in
    let first = eqb-true transaction machine.begun (and_parts (transaction == machine.begun)
    (nat_lt transaction MAX_TRANSACTIONS) k.0).0 in
    let last = eqb-true start (length machine.commits) k.1 in
    record {
      is = ap (λ n. history.Begun n transaction start) (sym same)
          ∙ (ap (λ n. history.Begun number n start) first ∙ ap (λ n. history.Begun number machine.begun n) last);
      will = ap (λ t. (asks_for begins_one (Some asked) && is_outside t) && not (is_spent_alone opened machine))
          (found_transaction machine number session busy.is)
          ∙ and_from (asks_for begins_one (Some asked) && is_outside session.transaction)
          (not (is_spent_alone opened machine))
          (subst (λ call. (asks_for begins_one call && is_outside session.transaction) ≡ true) busy.call h.0) alone.1;
    }

-- what holds behind a reply
record After (opened : List Table) (it last : ℕ) (before : List Entry) (machine : Machine)
    (standing : FullStanding) : Type 0 where
  line : Line opened before machine
  idle : Idle machine standing
  counts : Counts it last standing

-- a reply with what follows it is the answer with what follows that
record Replies (opened : List Table) (it last : ℕ) (before : List Entry) (machine : Machine) (standing : FullStanding)
    (number : ℕ) (asked : Asked)
    (at : ℕ) (reply : Reply) (rest : List Entry) (calls : List (ℕ × Asked)) : Type 0 where
  comes : Goes opened it before machine standing (history.Reply number reply)
  same : history.Reply at (timeless reply) ∷ map timeless_entry rest
      ≡ reply_next opened last machine number asked
      ∷ answer_history opened (iteration_behind last (answer opened last machine number
      (transaction_at machine number) asked)) (next opened machine (reply_next opened last machine number asked))
      calls

-- a reply and the rest, where the rest is answered so
abbrev Follows : List Table → ℕ → ℕ → List Entry → Machine → FullStanding → Entry → List Entry → List (ℕ × Asked) → Type 0
Follows opened it last before machine standing entry rest calls =
    After opened it (iteration_and last entry) (before ++ entry ∷ []) (next opened machine entry)
    (standing_and it standing entry)
    → walks opened it (before ++ entry ∷ []) (next opened machine entry) (standing_and it standing entry) rest ≡ true
    → are_plain opened (next opened machine entry) rest ≡ true
    → map timeless_entry rest ≡ answer_history opened (iteration_and last entry) (next opened machine entry) calls

-- what is so of each reply that comes next, where what follows it is answered as its calls are
abbrev OfReplies : List Table → ℕ → ℕ → List Entry → Machine → FullStanding → ℕ → Session → Asked → ℕ
    → (ℕ → Reply → List Entry → List (ℕ × Asked) → Type 0) → Type 0
OfReplies opened it last before machine standing number session asked place Is =
    Line opened before machine → Busy machine standing number session asked place → Counts it last standing
    → (at : ℕ) (reply : Reply) (rest : List Entry) (calls : List (ℕ × Asked))
    → walks opened it before machine standing (history.Reply at reply ∷ rest) ≡ true
    → are_plain opened machine (history.Reply at reply ∷ rest) ≡ true
    → Follows opened it last before machine standing (history.Reply number reply) rest calls
    → Is at reply rest calls

reply_turn : (opened : List Table) (it last : ℕ) (before : List Entry) (machine : Machine) (standing : FullStanding)
    (number : ℕ) (session : Session) (asked : Asked) (place : ℕ)
    → OfReplies opened it last before machine standing number session asked place
    (λ at reply rest calls. Replies opened it last before machine standing number asked at reply rest calls)
reply_turn opened it last before machine standing number session asked place line busy counts at reply rest calls walk
    plain more =
    let first = goes_of opened it before machine standing (history.Reply at reply)
    (and_parts (goes opened it before machine standing (history.Reply at reply)) _ walk).0 in
    let same = there_same (may_reply opened at before machine reply) machine standing at
    (record { number = number; session = session; asked = asked; place = place; busy = busy })
    (and_parts (none_in_flight machine at) _ first.alone).0 first.step in
    let entry = history.Reply number reply in
    let walk_here = subst (λ n. walks opened it before machine standing (history.Reply n reply ∷ rest) ≡ true)
    (sym same) walk in
    let plain_here = subst (λ n. are_plain opened machine (history.Reply n reply ∷ rest) ≡ true) (sym same) plain in
    let w = and_parts (goes opened it before machine standing entry) (walks opened it (before ++ entry ∷ [])
    (next opened machine entry) (standing_and it standing entry) rest) walk_here in
    let comes = goes_of opened it before machine standing entry w.0 in
    let is = told_of opened it before machine standing number session asked place reply busy comes in
    let after : After opened it (iteration_behind last reply) (before ++ entry ∷ []) (next opened machine entry)
    (standing_and it standing entry) = record {
      line = line_next opened before machine entry line comes.step comes.alone;
      idle = busy_reply opened it machine standing number session asked place reply busy;
      counts = busy_counts opened it last machine standing number session asked place busy counts reply is.may
          comes.stands;
    } in
    record {
      comes = comes;
      same = ap (λ n. history.Reply n (timeless reply) ∷ map timeless_entry rest) (sym same)
          ∙ reply_answers opened it last before machine standing number session asked place line busy counts reply
          calls (map timeless_entry rest) comes
          (plain_reply opened it last before machine standing number session asked place line busy counts reply
          (are_plain opened (next opened machine entry) rest) plain_here)
          (more after w.1 (and_parts _ (are_plain opened (next opened machine entry) rest) plain_here).1);
    }

-- behind a call
record Called (opened : List Table) (it last : ℕ) (before : List Entry) (machine : Machine) (standing : FullStanding)
    (number : ℕ) (asked : Asked) : Type 0 where
  session : Session
  line : Line opened (before ++ history.Call number asked ∷ []) (next opened machine (history.Call number asked))
  busy : Busy (next opened machine (history.Call number asked)) (standing_and it standing (history.Call number asked))
      number session asked standing.place
  counts : Counts it last (standing_and it standing (history.Call number asked))

called_of : (opened : List Table) (it last : ℕ) (before : List Entry) (machine : Machine) (standing : FullStanding)
    (number : ℕ) (asked : Asked)
    → After opened it last before machine standing → goes opened it before machine standing
    (history.Call number asked) ≡ true
    → Called opened it last before machine standing number asked
called_of opened it last before machine standing number asked after e =
    let comes = goes_of opened it before machine standing (history.Call number asked) e in
    let there = is_there (may_call asked) (session_at machine.sessions number) comes.step in
    record {
      session = called asked there.session;
      line = line_next opened before machine (history.Call number asked) after.line comes.step comes.alone;
      busy = idle_call opened it machine standing number asked there.session after.idle there.is after.counts.early;
      counts = counts_call it last standing number asked after.counts;
    }

no_call : (opened : List Table) (it : ℕ) (before : List Entry) (machine : Machine) (standing : FullStanding) (number : ℕ)
    (session : Session) (asked : Asked) (place : ℕ) (at : ℕ) (also : Asked) (rest : List Entry)
    → Busy machine standing number session asked place → walks opened it before machine standing
    (history.Call at also ∷ rest) ≡ true → ⊥
no_call opened it before machine standing number session asked place at also rest busy walk =
    let comes = goes_of opened it before machine standing (history.Call at also)
    (and_parts (goes opened it before machine standing (history.Call at also)) _ walk).0 in
    busy_call machine standing number session asked place at also busy comes.alone comes.step

-- a transaction that is open begins no other
no_begin : (opened : List Table) (it : ℕ) (before : List Entry) (machine : Machine) (standing : FullStanding) (number : ℕ)
    (session : Session) (asked : Asked) (place : ℕ) (at transaction start : ℕ) (rest : List Entry)
    → Busy machine standing number session asked place → is_outside session.transaction ≡ false
    → walks opened it before machine standing (history.Begun at transaction start ∷ rest) ≡ true → ⊥
no_begin opened it before machine standing number session asked place at transaction start rest busy inside walk =
    let comes = goes_of opened it before machine standing (history.Begun at transaction start)
    (and_parts (goes opened it before machine standing (history.Begun at transaction start)) _ walk).0 in
    let is = began opened it before machine standing number session asked place at transaction start busy comes in
    let will = sym (ap (λ t. (asks_for begins_one (Some asked) && is_outside t) && not
    (is_spent_alone opened machine)) (found_transaction machine number session busy.is)) ∙ is.will in
    false≢true (sym inside ∙ (and_parts (asks_for begins_one (Some asked)) (is_outside session.transaction)
    (and_parts (asks_for begins_one (Some asked) && is_outside session.transaction)
    (not (is_spent_alone opened machine)) will).0).1)

-- behind a transaction that begins with the call in flight
record Opens (opened : List Table) (it : ℕ) (before : List Entry) (machine : Machine) (standing : FullStanding)
    (number : ℕ) (session : Session) (asked : Asked) (place : ℕ) (rest : List Entry) : Type 0 where
  busy : Busy (next opened machine (begun_next machine number)) (standing_and it standing (begun_next machine number))
      number (begun_in machine.begun (length machine.commits) session) asked place
  walk : walks opened it (before ++ begun_next machine number ∷ []) (next opened machine (begun_next machine number))
      (standing_and it standing (begun_next machine number)) rest ≡ true

opens : (opened : List Table) (it : ℕ) (before : List Entry) (machine : Machine) (standing : FullStanding) (number : ℕ)
    (session : Session) (asked : Asked) (place : ℕ) (from transaction start : ℕ) (rest : List Entry)
    → Busy machine standing number session asked place → walks opened it before machine standing
    (history.Begun from transaction start ∷ rest) ≡ true
    → Opens opened it before machine standing number session asked place rest
opens opened it before machine standing number session asked place from transaction start rest busy walk =
    let first = history.Begun from transaction start in
    let comes = goes_of opened it before machine standing first
    (and_parts (goes opened it before machine standing first) _ walk).0 in
    let is = began opened it before machine standing number session asked place from transaction start busy comes in
    let entry = begun_next machine number in
    let walk_here = subst (λ x. walks opened it before machine standing (x ∷ rest) ≡ true) is.is walk in
    record {
      busy = busy_begun opened it machine standing session asked place number machine.begun
          (length machine.commits) busy;
      walk = (and_parts (goes opened it before machine standing entry) (walks opened it (before ++ entry ∷ [])
          (next opened machine entry) (standing_and it standing entry) rest) walk_here).1;
    }

begun_turn : (opened : List Table) (it last : ℕ) (before : List Entry) (machine : Machine) (standing : FullStanding)
    (number : ℕ) (session : Session) (asked : Asked) (place : ℕ)
    → Line opened before machine → Busy machine standing number session asked place → Counts it last standing
    → (from transaction start at : ℕ) (reply : Reply) (rest : List Entry) (calls : List (ℕ × Asked))
    → walks opened it before machine standing (history.Begun from transaction start ∷ history.Reply at reply ∷ rest)
    ≡ true
    → are_plain opened machine (history.Begun from transaction start ∷ history.Reply at reply ∷ rest) ≡ true
    → Follows opened it last (before ++ begun_next machine number ∷ [])
    (next opened machine (begun_next machine number)) (standing_and it standing (begun_next machine number))
    (history.Reply number reply) rest calls
    → history.Begun from transaction start ∷ history.Reply at (timeless reply) ∷ map timeless_entry rest
    ≡ answered_if opened last machine number asked calls (will_begin opened machine number asked)
begun_turn opened it last before machine standing number session asked place line busy counts from transaction start
    at reply rest calls walk plain more =
    let first = history.Begun from transaction start in
    let comes = goes_of opened it before machine standing first
    (and_parts (goes opened it before machine standing first) _ walk).0 in
    let is = began opened it before machine standing number session asked place from transaction start busy comes in
    let entry = begun_next machine number in
    let walk_here = subst (λ x. walks opened it before machine standing (x ∷ history.Reply at reply ∷ rest)
    ≡ true) is.is walk in
    let plain_here = subst (λ x. are_plain opened machine (x ∷ history.Reply at reply ∷ rest) ≡ true) is.is plain in
    let w = and_parts (goes opened it before machine standing entry) (walks opened it (before ++ entry ∷ [])
    (next opened machine entry) (standing_and it standing entry) (history.Reply at reply ∷ rest)) walk_here in
    let next_comes = goes_of opened it before machine standing entry w.0 in
    let starts = length machine.commits in
    let turn = reply_turn opened it last (before ++ entry ∷ []) (next opened machine entry)
    (standing_and it standing entry) number (begun_in machine.begun starts session) asked place
    (line_next opened before machine entry line next_comes.step next_comes.alone)
    (busy_begun opened it machine standing session asked place number machine.begun starts busy)
    (counts_begun it last standing number machine.begun starts counts)
    at reply rest calls w.1 plain_here more in
    ap (λ x. x ∷ history.Reply at (timeless reply) ∷ map timeless_entry rest) is.is
    ∙ (ap (λ list. entry ∷ list) turn.same
    ∙ ap (answered_if opened last machine number asked calls) (sym is.will))

reply_alone : (opened : List Table) (it last : ℕ) (before : List Entry) (machine : Machine) (standing : FullStanding)
    (number : ℕ) (session : Session) (asked : Asked) (place : ℕ)
    → OfReplies opened it last before machine standing number session asked place
    (λ at reply rest calls. history.Reply at (timeless reply) ∷ map timeless_entry rest
    ≡ answered_if opened last machine number asked calls (will_begin opened machine number asked))
reply_alone opened it last before machine standing number session asked place line busy counts at reply rest calls
    walk plain more =
    let turn = reply_turn opened it last before machine standing number session asked place line busy counts at reply
    rest calls walk plain more in
    turn.same ∙ ap (answered_if opened last machine number asked calls)
    (sym (none_begun opened it last before machine standing number session asked place line busy counts reply
    turn.comes))

histories : (opened : List Table) (it : ℕ) (entries : List Entry) (last : ℕ) (before : List Entry) (machine : Machine)
    (standing : FullStanding) (at : ℕ)
    → After opened it last before machine standing → walks opened it before machine standing entries ≡ true
    → are_answered (exchanges_from at entries) ≡ true → are_plain opened machine entries ≡ true
    → map timeless_entry entries ≡ answer_history opened last machine (calls_of entries)
histories opened it [] last before machine standing at after walk answered plain = refl
histories opened it (history.Begun number transaction start ∷ entries) last before machine standing at after walk
    answered plain =
    let comes = goes_of opened it before machine standing (history.Begun number transaction start)
    (and_parts (goes opened it before machine standing (history.Begun number transaction start)) _ walk).0 in
    absurd (idle_begun machine standing number transaction start after.idle comes.step)
histories opened it (history.Reply number reply ∷ entries) last before machine standing at after walk answered plain =
    let comes = goes_of opened it before machine standing (history.Reply number reply)
    (and_parts (goes opened it before machine standing (history.Reply number reply)) _ walk).0 in
    absurd (idle_reply opened before machine standing number reply after.idle comes.step)
histories opened it (history.Call number asked ∷ []) last before machine standing at after walk answered plain =
    absurd (false≢true answered)
histories opened it (history.Call number asked ∷ history.Call other also ∷ entries) last before machine standing at
    after walk answered plain =
    let entry = history.Call number asked in
    let w = and_parts (goes opened it before machine standing entry) (walks opened it (before ++ entry ∷ [])
    (next opened machine entry) (standing_and it standing entry) (history.Call other also ∷ entries)) walk in
    let c = called_of opened it last before machine standing number asked after w.0 in
    absurd (no_call opened it (before ++ entry ∷ []) (next opened machine entry)
    (standing_and it standing entry) number c.session asked standing.place other also entries c.busy w.1)
histories opened it (history.Call number asked ∷ history.Reply to reply ∷ entries) last before machine standing at
    after walk answered plain =
    let entry = history.Call number asked in
    let now = next opened machine entry in
    let w = and_parts (goes opened it before machine standing entry) (walks opened it (before ++ entry ∷ []) now
    (standing_and it standing entry) (history.Reply to reply ∷ entries)) walk in
    let c = called_of opened it last before machine standing number asked after w.0 in
    ap (λ list. entry ∷ list)
    (reply_alone opened it last (before ++ entry ∷ []) now (standing_and it standing entry) number c.session asked
    standing.place c.line c.busy c.counts to reply entries (calls_of entries) w.1 plain
    (λ behind rest plainly. histories opened it entries (iteration_behind last reply) _ _ _ (at + 1 + 1) behind rest
    (and_parts _ (are_answered (exchanges_from (at + 1 + 1) entries)) answered).1 plainly))
histories opened it (history.Call number asked ∷ history.Begun from transaction start ∷ []) last before machine
    standing at after walk answered plain = absurd (false≢true answered)
histories opened it (history.Call number asked ∷ history.Begun from transaction start ∷ history.Call other also
    ∷ entries) last before machine standing at after walk answered plain =
    let entry = history.Call number asked in
    let now = next opened machine entry in
    let stands = standing_and it standing entry in
    let w = and_parts (goes opened it before machine standing entry)
    (walks opened it (before ++ entry ∷ []) now stands (history.Begun from transaction start
    ∷ history.Call other also ∷ entries)) walk in
    let c = called_of opened it last before machine standing number asked after w.0 in
    let begun = begun_next now number in
    let o = opens opened it (before ++ entry ∷ []) now stands number c.session asked standing.place from transaction
    start (history.Call other also ∷ entries) c.busy w.1 in
    absurd (no_call opened it ((before ++ entry ∷ []) ++ begun ∷ []) (next opened now begun)
    (standing_and it stands begun) number
    (begun_in now.begun (length now.commits) c.session) asked standing.place other also entries o.busy o.walk)
histories opened it (history.Call number asked ∷ history.Begun from transaction start
    ∷ history.Begun other another more ∷ entries) last before machine standing at after walk answered plain =
    let entry = history.Call number asked in
    let now = next opened machine entry in
    let stands = standing_and it standing entry in
    let w = and_parts (goes opened it before machine standing entry)
    (walks opened it (before ++ entry ∷ []) now stands (history.Begun from transaction start
    ∷ history.Begun other another more ∷ entries)) walk in
    let c = called_of opened it last before machine standing number asked after w.0 in
    let begun = begun_next now number in
    let o = opens opened it (before ++ entry ∷ []) now stands number c.session asked standing.place from transaction
    start (history.Begun other another more ∷ entries) c.busy w.1 in
    absurd (no_begin opened it ((before ++ entry ∷ []) ++ begun ∷ []) (next opened now begun)
    (standing_and it stands begun) number
    (begun_in now.begun (length now.commits) c.session) asked standing.place other another more entries o.busy refl
    o.walk)
histories opened it (history.Call number asked ∷ history.Begun from transaction start ∷ history.Reply to reply
    ∷ entries) last before machine standing at after walk answered plain =
    let entry = history.Call number asked in
    let now = next opened machine entry in
    let w = and_parts (goes opened it before machine standing entry) (walks opened it (before ++ entry ∷ []) now
    (standing_and it standing entry) (history.Begun from transaction start ∷ history.Reply to reply ∷ entries))
    walk in
    let c = called_of opened it last before machine standing number asked after w.0 in
    ap (λ list. entry ∷ list)
    (begun_turn opened it last (before ++ entry ∷ []) now (standing_and it standing entry) number c.session asked
    standing.place c.line c.busy c.counts from transaction start to reply entries (calls_of entries) w.1 plain
    (λ behind rest plainly. histories opened it entries (iteration_behind last reply) _ _ _
    (at + 1 + 1 + 1) behind rest (and_parts _ (are_answered (exchanges_from (at + 1 + 1 + 1) entries)) answered).1
    plainly))

pub histories_are_answers : HistoriesAreAnswers
histories_are_answers opened iteration entries within is =
    histories opened iteration entries iteration [] first_state first_standing 0
    (record {
      line = first_line opened;
      idle = record { all = refl; flights = refl };
      counts = first_counts iteration
          within;
    })
    (legal_walks opened iteration entries is.legal) is.answered is.plain
