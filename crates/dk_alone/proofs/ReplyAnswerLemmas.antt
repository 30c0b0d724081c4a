-- In a history of one thread a plain reply is the answer in the state before it.
use Rattle.std.proofs.Common.{◌≡◌, ◌⊎◌, inl, inr, ℕ, ◌-◌, Bool, true, false, List, [], ◌∷◌, ◌++◌, Some, None, ◌∙◌, sym}
use Rattle.std.proofs.Common.{refl, subst}
use Rattle.std.specs.Prelude.{◌&&◌}
use Rattle.std.proofs.lemmas.Bool.{and_parts}
use Rattle.std.proofs.lemmas.Option.{same_Some}
use Rattle.dk_types.specs.declared.reply.Reply.{Reply}
use Rattle.dk_si.specs.declared.database.Table.{Table}
use Rattle.dk_si.specs.declared.history.Asked.{Asked}
use Rattle.dk_si.specs.declared.history.Entry.{Entry}
use Rattle.dk_si.specs.declared.history.Entry.TheVariants as history
use Rattle.dk_si.specs.declared.machine.Machine.{Machine}
use Rattle.dk_si.specs.declared.machine.Session.{Session}
use Rattle.dk_si.specs.Answer.{answer, timeless}
use Rattle.dk_alone.specs.AnswerHistory.{iteration_and, iteration_after}
use Rattle.dk_alone.specs.AnswerLaws.{is_plain, RepliesAreAnswers, RepliesAreOne}
use Rattle.dk_si.specs.IsStep.{is_step, is_founded, may_begin, may_call, may_reply, if_there}
use Rattle.dk_si.specs.Laws.{state_after}
use Rattle.dk_si.specs.Machine.{first_state, next, session_at}
use Rattle.dk_si.specs.MayAnswer.{may_answer}
use Rattle.dk_si.specs.OneThread.{is_step_alone, may_reply_alone, none_in_flight}
use Rattle.dk_si.specs.Standing.{FullStanding, first_standing, standing_and, stands_on}
use Rattle.dk_alone.proofs.AnswerLemmas.{told_is_answer}
use Rattle.dk_alone.proofs.FlightLemmas.{Busy, Idle, begun_in, busy_begun, busy_call, busy_reply, called, idle_begun}
use Rattle.dk_alone.proofs.FlightLemmas.{idle_call, idle_reply, same_session}
use Rattle.dk_si.proofs.FreshLemmas.{sees}
use Rattle.dk_alone.proofs.IterationLemmas.{Counts, busy_counts, busy_follows, counts_begun, counts_call, first_counts}
use Rattle.dk_alone.proofs.OneHolderLemmas.{has_one_holder}
use Rattle.dk_si.proofs.PlaceLemmas.{found_at}
use Rattle.dk_si.proofs.SessionStepLemmas.{is_there}
use Rattle.dk_alone.proofs.WalkLemmas.{Line, first_line, goes, legal_walks, line_next, walks}

-- what an entry that may come passes
pub record Goes (opened : List Table) (it : ℕ) (before : List Entry) (machine : Machine) (standing : FullStanding)
    (entry : Entry) : Type 0 where
  pub step : is_step opened before machine entry ≡ true
  pub alone : is_step_alone opened machine entry ≡ true
  pub stands : stands_on it standing entry ≡ true

pub goes_of : (opened : List Table) (it : ℕ) (before : List Entry) (machine : Machine) (standing : FullStanding)
    (entry : Entry)
    → goes opened it before machine standing entry ≡ true → Goes opened it before machine standing entry
goes_of opened it before machine standing entry e =
    let h = and_parts (is_step opened before machine entry) (is_step_alone opened machine entry
    && stands_on it standing entry) e in
    let k = and_parts (is_step_alone opened machine entry) (stands_on it standing entry) h.1 in
    record { step = h.0; alone = k.0; stands = k.1 }

-- the reply to the call in flight
pub record Told (opened : List Table) (before : List Entry) (machine : Machine) (number : ℕ) (session : Session)
    (asked : Asked) (reply : Reply) : Type 0 where
  pub may : may_answer opened machine.commits session.transaction asked reply ≡ true
  pub founded : is_founded opened number before machine session reply ≡ true
  pub alone : may_reply_alone opened machine number session.transaction (Some asked) reply ≡ true

pub told_of : (opened : List Table) (it : ℕ) (before : List Entry) (machine : Machine) (standing : FullStanding)
    (number : ℕ)
    (session : Session) (asked : Asked) (place : ℕ) (reply : Reply)
    → Busy machine standing number session asked place → Goes opened it before machine standing
    (history.Reply number reply)
    → Told opened before machine number session asked reply
told_of opened it before machine standing number session asked place reply busy goes =
    let may = subst (λ found. if_there (may_reply opened number before machine reply) found ≡ true) busy.is goes.step in
    let both = subst (λ call. elim call as (λ x. Bool) [
      | None ↦ false
      | Some asked ↦ may_answer opened machine.commits session.transaction asked reply
          && is_founded opened number before machine session reply
    ] ≡ true) busy.call may in
    let h = and_parts (may_answer opened machine.commits session.transaction asked reply)
    (is_founded opened number before machine session reply) both in
    let own = subst (λ found. elim found as (λ x. Bool) [
      | None ↦ false
      | Some session ↦ may_reply_alone opened machine
          number session.transaction session.asked reply
    ] ≡ true)
    busy.is (and_parts (none_in_flight machine number) _ goes.alone).1 in
    record {
      may = h.0;
      founded = h.1;
      alone = subst (λ call. may_reply_alone opened machine number session.transaction call reply ≡ true) busy.call own;
    }

-- a plain reply is the answer
pub reply_is_answer : (opened : List Table) (it last : ℕ) (before : List Entry) (machine : Machine)
    (standing : FullStanding)
    (number : ℕ) (session : Session) (asked : Asked) (place : ℕ) (reply : Reply)
    → Line opened before machine → Busy machine standing number session asked place → Counts it last standing
    → Goes opened it before machine standing (history.Reply number reply) → is_plain asked reply ≡ true
    → timeless reply ≡ answer opened last machine number session.transaction asked
reply_is_answer opened it last before machine standing number session asked place reply line busy counts goes plain =
    let is = told_of opened it before machine standing number session asked place reply busy goes in
    told_is_answer opened last before machine number session asked reply
    (record {
      may = is.may;
      founded = is.founded;
      alone = is.alone;
      none = busy.alone;
      next = λ asks. busy_follows it last machine standing number session asked place busy counts reply asks
          goes.stands;
    }) busy.call plain
    (sees machine.commits session.transaction session.asked (line.now (number - 1) session
    (found_at machine.sessions number session busy.is).0))
    (has_one_holder machine line.starts number line.fair busy.alone)

-- the call in flight, if there is one
pub record Flying (machine : Machine) (standing : FullStanding) : Type 0 where
  pub number : ℕ
  pub session : Session
  pub asked : Asked
  pub place : ℕ
  pub busy : Busy machine standing number session asked place

-- what holds behind the front of a legal history
record Behind (opened : List Table) (it last : ℕ) (before : List Entry) (machine : Machine)
    (standing : FullStanding) : Type 0 where
  line : Line opened before machine
  counts : Counts it last standing
  turn : Idle machine standing ⊎ Flying machine standing

abbrev BehindEntry : List Table → ℕ → ℕ → List Entry → Machine → FullStanding → Entry → Type 0
BehindEntry opened it last before machine standing entry =
    Behind opened it (iteration_and last entry) (before ++ entry ∷ []) (next opened machine entry)
    (standing_and it standing entry)

-- the session of an entry is the one whose call is in flight
pub there_same : (test : Session → Bool) (machine : Machine) (standing : FullStanding) (at : ℕ)
    → (flying : Flying machine standing) → none_in_flight machine at ≡ true
    → if_there test (session_at machine.sessions at) ≡ true → flying.number ≡ at
there_same test machine standing at flying alone may =
    let there = is_there test (session_at machine.sessions at) may in
    same_session machine standing flying.number flying.session flying.asked flying.place at there.session flying.busy
    alone there.is

call_behind : (opened : List Table) (it last : ℕ) (before : List Entry) (machine : Machine) (standing : FullStanding)
    (number : ℕ) (asked : Asked)
    → Line opened before machine → Counts it last standing → (Idle machine standing ⊎ Flying machine standing)
    → Goes opened it before machine standing (history.Call number asked)
    → BehindEntry opened it last before machine standing (history.Call number asked)
call_behind opened it last before machine standing number asked line counts (inr flying) goes =
    absurd (busy_call machine standing flying.number flying.session flying.asked flying.place number asked flying.busy
    goes.alone goes.step)
call_behind opened it last before machine standing number asked line counts (inl idle) goes =
    let there = is_there (may_call asked) (session_at machine.sessions number) goes.step in
    record {
      line = line_next opened before machine (history.Call number asked) line goes.step goes.alone;
      counts = counts_call it last standing number asked counts;
      turn = inr (record {
        number = number;
        session = called asked there.session;
        asked = asked;
        place = standing.place;
        busy = idle_call opened it machine standing number asked there.session idle there.is counts.early;
      });
    }

begun_behind : (opened : List Table) (it last : ℕ) (before : List Entry) (machine : Machine) (standing : FullStanding)
    (at number start : ℕ)
    → Line opened before machine → Counts it last standing → (Idle machine standing ⊎ Flying machine standing)
    → Goes opened it before machine standing (history.Begun at number start)
    → BehindEntry opened it last before machine standing (history.Begun at number start)
begun_behind opened it last before machine standing at number start line counts (inl idle) goes = absurd
    (idle_begun machine standing at number start idle goes.step)
begun_behind opened it last before machine standing at number start line counts (inr flying) goes =
    let same = there_same (may_begin machine number start) machine standing at flying
    (and_parts (none_in_flight machine at) _ goes.alone).0 goes.step in
    record {
      line = line_next opened before machine (history.Begun at number start) line goes.step goes.alone;
      counts = counts_begun it last standing at number start counts;
      turn = inr (record {
        number = at;
        session = begun_in number start flying.session;
        asked = flying.asked;
        place = flying.place;
        busy = busy_begun opened it machine standing flying.session flying.asked flying.place at number start
            (subst (λ n. Busy machine standing n flying.session flying.asked flying.place) same flying.busy);
      });
    }

reply_behind : (opened : List Table) (it last : ℕ) (before : List Entry) (machine : Machine) (standing : FullStanding)
    (number : ℕ) (reply : Reply)
    → Line opened before machine → Counts it last standing → (Idle machine standing ⊎ Flying machine standing)
    → Goes opened it before machine standing (history.Reply number reply)
    → BehindEntry opened it last before machine standing (history.Reply number reply)
reply_behind opened it last before machine standing number reply line counts (inl idle) goes = absurd
    (idle_reply opened before machine standing number reply idle goes.step)
reply_behind opened it last before machine standing number reply line counts (inr flying) goes =
    let same = there_same (may_reply opened number before machine reply) machine standing number flying
    (and_parts (none_in_flight machine number) _ goes.alone).0 goes.step in
    let busy = subst (λ n. Busy machine standing n flying.session flying.asked flying.place) same flying.busy in
    let is = told_of opened it before machine standing number flying.session flying.asked flying.place reply busy goes
    in
    record {
      line = line_next opened before machine (history.Reply number reply) line goes.step goes.alone;
      counts = busy_counts opened it last machine standing number flying.session flying.asked flying.place busy counts
          reply is.may goes.stands;
      turn = inl (busy_reply opened it machine standing number flying.session flying.asked flying.place reply busy);
    }

entry_behind : (opened : List Table) (it last : ℕ) (before : List Entry) (machine : Machine) (standing : FullStanding)
    (entry : Entry)
    → Behind opened it last before machine standing → Goes opened it before machine standing entry
    → BehindEntry opened it last before machine standing entry
entry_behind opened it last before machine standing (history.Call number asked) behind goes =
    call_behind opened it last before machine standing number asked behind.line behind.counts behind.turn goes
entry_behind opened it last before machine standing (history.Begun at number start) behind goes =
    begun_behind opened it last before machine standing at number start behind.line behind.counts behind.turn goes
entry_behind opened it last before machine standing (history.Reply number reply) behind goes =
    reply_behind opened it last before machine standing number reply behind.line behind.counts behind.turn goes

-- what holds before the last entry of a walk
record End (opened : List Table) (it last : ℕ) (machine : Machine) (entry : Entry) : Type 0 where
  before : List Entry
  standing : FullStanding
  behind : Behind opened it last before machine standing
  comes : Goes opened it before machine standing entry

end_of : (opened : List Table) (it last : ℕ) (before : List Entry) (machine : Machine) (standing : FullStanding)
    (entries : List Entry) (entry : Entry)
    → Behind opened it last before machine standing → walks opened it before machine standing (entries ++ entry ∷ [])
    ≡ true
    → End opened it (iteration_after last entries) (state_after opened machine entries) entry
end_of opened it last before machine standing [] entry behind walk = record {
  before = before;
  standing = standing;
  behind = behind;
  comes = goes_of opened it before machine standing entry
      (and_parts (goes opened it before machine standing entry) true walk).0;
}
end_of opened it last before machine standing (first ∷ entries) entry behind walk =
    let h = and_parts (goes opened it before machine standing first) (walks opened it (before ++ first ∷ [])
    (next opened machine first) (standing_and it standing first) (entries ++ entry ∷ [])) walk in
    end_of opened it (iteration_and last first) (before ++ first ∷ []) (next opened machine first)
    (standing_and it standing first) entries entry
    (entry_behind opened it last before machine standing first behind
    (goes_of opened it before machine standing first h.0)) h.1

busy_at : (machine : Machine) (standing : FullStanding) (number : ℕ) (session : Session) (asked : Asked)
    → (flying : Flying machine standing) → none_in_flight machine number ≡ true
    → session_at machine.sessions number ≡ Some session → session.asked ≡ Some asked
    → Busy machine standing number session asked flying.place
busy_at machine standing number session asked flying alone is call =
    let same = same_session machine standing flying.number flying.session flying.asked flying.place number session
    flying.busy alone is in
    let here = subst (λ n. Busy machine standing n flying.session flying.asked flying.place) same flying.busy in
    let one = same_Some flying.session session (sym here.is ∙ is) in
    let own = subst (λ s. Busy machine standing number s flying.asked flying.place) one here in
    subst (λ a. Busy machine standing number session a flying.place) (same_Some flying.asked asked
    (sym own.call ∙ call)) own

first_behind : (opened : List Table) (it : ℕ) → Counts it it first_standing
    → Behind opened it it [] first_state first_standing
first_behind opened it counts = record {
  line = first_line opened;
  counts = counts;
  turn = inl
      (record { all = refl; flights = refl });
}

at_end : (opened : List Table) (it last : ℕ) (machine : Machine) (number : ℕ) (session : Session) (asked : Asked)
    (reply : Reply)
    → End opened it last machine (history.Reply number reply) → session_at machine.sessions number ≡ Some session
    → session.asked ≡ Some asked → is_plain asked reply ≡ true
    → timeless reply ≡ answer opened last machine number session.transaction asked
at_end opened it last machine number session asked reply end is call plain =
    in_turn end.behind.turn
  where
    in_turn : (Idle machine end.standing ⊎ Flying machine end.standing)
        → timeless reply ≡ answer opened last machine number session.transaction asked
    in_turn (inl idle) = absurd (idle_reply opened end.before machine end.standing number reply idle end.comes.step)
    in_turn (inr flying) =
        let busy = busy_at machine end.standing number session asked flying
        (and_parts (none_in_flight machine number) _ end.comes.alone).0 is call in
        reply_is_answer opened it last end.before machine end.standing number session asked flying.place reply
        end.behind.line busy end.behind.counts end.comes plain

pub replies_are_answers : RepliesAreAnswers
replies_are_answers opened iteration entries number session asked reply within is =
    at_end opened iteration (iteration_after iteration entries) (state_after opened first_state entries) number
    session asked reply
    (end_of opened iteration iteration [] first_state first_standing entries (history.Reply number reply)
    (first_behind opened iteration (first_counts iteration within))
    (legal_walks opened iteration (entries ++ history.Reply number reply ∷ []) is.legal))
    is.is is.call is.plain

pub replies_are_one : RepliesAreOne
replies_are_one opened iteration entries number session asked reply other within one also =
    replies_are_answers opened iteration entries number session asked reply within one
    ∙ sym (replies_are_answers opened iteration entries number session asked other within also)
