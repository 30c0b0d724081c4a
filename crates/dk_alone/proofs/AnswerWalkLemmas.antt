-- The history that answers a list of lawful calls is a legal history of one thread.
use Rattle.std.proofs.Common.{◌≡◌, ℕ, ◌+◌, ◌-◌, Bool, true, false, List, [], ◌∷◌}
use Rattle.std.proofs.Common.{◌++◌, length, Some, None, ap, ◌∙◌, sym, refl, subst}
use Rattle.std.specs.Prelude.{◌&&◌, not, is_some, if◌then◌else◌}
use Rattle.std.specs.List.{list_all}
use Rattle.std.proofs.lemmas.Bool.{false≢true, and_from, and_parts}
use Rattle.dk_types.specs.declared.reply.Reply.{Reply}
use Rattle.dk_si.specs.declared.database.Table.{Table}
use Rattle.dk_si.specs.declared.history.Asked.{Asked}
use Rattle.dk_si.specs.declared.history.Entry.{Entry}
use Rattle.dk_si.specs.declared.history.Entry.TheVariants as history
use Rattle.dk_si.specs.declared.machine.Machine.{Machine}
use Rattle.dk_si.specs.declared.machine.Session.{Session}
use Rattle.dk_si.specs.Answer.{answer}
use Rattle.dk_alone.specs.AnswerHistory.{is_call, calls_of, iteration_behind, iteration_after, transaction_at}
use Rattle.dk_alone.specs.AnswerHistory.{will_begin, begun_next, reply_next, call_entries, answer_history, are_answered}
use Rattle.dk_alone.specs.AnswerLaws.{is_plain_to, is_plain_entry, are_plain, AnswersAreLegal, AnswersHaveTheCalls}
use Rattle.dk_si.specs.Exchanges.{exchanges_from, reply_from}
use Rattle.dk_si.specs.Laws.{state_after}
use Rattle.dk_si.specs.Machine.{asks_for, begins_one, first_state, is_outside, next}
use Rattle.dk_si.specs.MayAnswer.{may_answer}
use Rattle.dk_si.specs.OneThread.{is_spent_alone}
use Rattle.dk_si.specs.Standing.{FullStanding, first_standing, standing_and}
use Rattle.dk_alone.proofs.AnswerFitLemmas.{Fits, Spent, answer_fits}
use Rattle.dk_alone.proofs.FlightLemmas.{begun_in}
use Rattle.dk_si.proofs.FreshLemmas.{sees}
use Rattle.dk_si.proofs.PlaceLemmas.{found_at}
use Rattle.dk_alone.proofs.WalkLemmas.{goes}
use Rattle.dk_alone.proofs.WalkLemmas.{walk_is_legal, walks}
use Rattle.dk_alone.proofs.CallLemmas.{Ready, Wait, Answered, call_goes, begin_goes, asked_session, suits_goes, spent_since, found_transaction, first_ready, answered_one}

-- the answer may come, behind it no call is in flight, and it is plain
pub record AnsweredPlainly (opened : List Table) (it last : ℕ) (before : List Entry) (machine : Machine)
    (standing : FullStanding) (number : ℕ) (reply : Reply) : Type 0 where
  pub answered : Answered opened it last before machine standing number reply
  pub plain : is_plain_entry machine (history.Reply number reply) ≡ true

fit_goes : (opened : List Table) (it last : ℕ) (before : List Entry) (machine : Machine) (standing : FullStanding)
    (number : ℕ) (session : Session) (asked : Asked) (reply : Reply)
    → Wait opened it last before machine standing number session asked
    → Fits (may_answer opened machine.commits session.transaction asked) opened last before machine number
    session.transaction asked session.writes session.last reply
    → AnsweredPlainly opened it last before machine standing number reply
fit_goes opened it last before machine standing number session asked reply wait fits = record {
  answered = suits_goes opened it last before machine standing number session asked reply wait
      (record { passes = fits.passes; founded = fits.founded; alone = fits.alone; calm = fits.calm; next = fits.next });
  plain = ap (λ found. elim found as (λ x. Bool) [ None ↦ true | Some session ↦ is_plain_to session.asked reply ])
      (asked_session machine standing number session asked wait.place wait.busy) ∙ fits.plain;
}

pub reply_goes : (opened : List Table) (it last : ℕ) (before : List Entry) (machine : Machine) (standing : FullStanding)
    (number : ℕ) (session : Session) (asked : Asked) (reply : Reply)
    → reply ≡ answer opened last machine number session.transaction asked
    → Wait opened it last before machine standing number session asked
    → Spent opened last before machine number session.writes session.last (asks_for begins_one (Some asked)
    && is_outside session.transaction)
    → AnsweredPlainly opened it last before machine standing number reply
reply_goes opened it last before machine standing number session asked reply is wait spent =
    fit_goes opened it last before machine standing number session asked reply wait
    (subst (Fits (may_answer opened machine.commits session.transaction asked) opened last before machine number
    session.transaction asked session.writes session.last) (sym is)
    (answer_fits opened last before machine number session.writes session.last session.transaction asked
    (record { there = asked_session machine standing number session asked wait.place wait.busy; was = wait.was })
    spent wait.counts.within
    (sees machine.commits session.transaction session.asked (wait.line.now (number - 1) session
    (found_at machine.sessions number session wait.busy.is).0))))

-- entries that may come one after the other, and whose replies are plain
record Passes (opened : List Table) (it : ℕ) (before : List Entry) (machine : Machine) (standing : FullStanding)
    (entries : List Entry) : Type 0 where
  walk : walks opened it before machine standing entries ≡ true
  plain : are_plain opened machine entries ≡ true

passes_one : (opened : List Table) (it : ℕ) (before : List Entry) (machine : Machine) (standing : FullStanding)
    (entry : Entry) (entries : List Entry)
    → goes opened it before machine standing entry ≡ true → is_plain_entry machine entry ≡ true
    → Passes opened it (before ++ entry ∷ []) (next opened machine entry) (standing_and it standing entry) entries
    → Passes opened it before machine standing (entry ∷ entries)
passes_one opened it before machine standing entry entries goes_well plain rest = record {
  walk = and_from (goes opened it before machine standing entry)
      (walks opened it (before ++ entry ∷ []) (next opened machine entry) (standing_and it standing entry) entries)
      goes_well rest.walk;
  plain = and_from (is_plain_entry machine entry) (are_plain opened (next opened machine entry) entries) plain
      rest.plain;
}

-- so do the answers to these calls from each state between two calls
abbrev Walks : List Table → ℕ → List (ℕ × Asked) → Type 0
Walks opened it calls = (last : ℕ) (before : List Entry) (machine : Machine) (standing : FullStanding)
    → Ready opened it last before machine standing
    → Passes opened it before machine standing (answer_history opened last machine calls)

reply_walks : (opened : List Table) (it last : ℕ) (before : List Entry) (machine : Machine) (standing : FullStanding)
    (number : ℕ) (session : Session) (asked : Asked) (calls : List (ℕ × Asked))
    → Wait opened it last before machine standing number session asked
    → Spent opened last before machine number session.writes session.last (asks_for begins_one (Some asked)
    && is_outside session.transaction)
    → Walks opened it calls
    → Passes opened it before machine standing (reply_next opened last machine number asked
    ∷ answer_history opened (iteration_after last (reply_next opened last machine number asked ∷ []))
    (next opened machine (reply_next opened last machine number asked)) calls)
reply_walks opened it last before machine standing number session asked calls wait spent more =
    let reply = answer opened last machine number (transaction_at machine number) asked in
    let entry = history.Reply number reply in
    let answered = reply_goes opened it last before machine standing number session asked reply
    (ap (λ t. answer opened last machine number t asked) (found_transaction machine number session wait.busy.is)) wait
    spent in
    passes_one opened it before machine standing entry (answer_history opened (iteration_behind last reply)
    (next opened machine entry) calls)
    answered.answered.goes_well answered.plain
    (more (iteration_behind last reply) (before ++ entry ∷ []) (next opened machine entry)
    (standing_and it standing entry) answered.answered.ready)

-- the entries of a call that begins a transaction, or of one that doesn't
abbrev pub entries_if : List Table → ℕ → Machine → ℕ → Asked → Bool → List Entry
entries_if opened last machine number asked begins =
    if begins
    then begun_next machine number ∷ reply_next opened last (next opened machine (begun_next machine number)) number
    asked ∷ []
    else reply_next opened last machine number asked ∷ []

walks_if : (opened : List Table) (it last : ℕ) (before : List Entry) (machine : Machine) (standing : FullStanding)
    (number : ℕ) (session : Session) (asked : Asked) (calls : List (ℕ × Asked))
    → Wait opened it last before machine standing number session asked → Walks opened it calls
    → (b : Bool) → ((asks_for begins_one (Some asked) && is_outside session.transaction) && not
    (is_spent_alone opened machine)) ≡ b
    → Passes opened it before machine standing (entries_if opened last machine number asked b
    ++ answer_history opened (iteration_after last (entries_if opened last machine number asked b))
    (state_after opened machine (entries_if opened last machine number asked b)) calls)
walks_if opened it last before machine standing number session asked calls wait more true begins =
    let entry = begun_next machine number in
    let h = and_parts (asks_for begins_one (Some asked) && is_outside session.transaction)
    (not (is_spent_alone opened machine)) begins in
    let begun = begin_goes opened it last before machine standing number session asked wait h.0 h.1 in
    passes_one opened it before machine standing entry _ begun.goes_well refl
    (reply_walks opened it last (before ++ entry ∷ []) (next opened machine entry)
    (standing_and it standing entry) number
    (begun_in machine.begun (length machine.commits) session) asked calls begun.wait
    (λ outside. absurd (false≢true (and_parts (asks_for begins_one (Some asked)) false outside).1)) more)
walks_if opened it last before machine standing number session asked calls wait more false begins =
    reply_walks opened it last before machine standing number session asked calls wait
    (spent_since opened it last before machine standing number session asked wait begins) more

call_walks : (opened : List Table) (it : ℕ) (calls : List (ℕ × Asked)) → list_all is_call calls ≡ true
    → Walks opened it calls
call_walks opened it [] all last before machine standing ready = record { walk = refl; plain = refl }
call_walks opened it (call ∷ calls) all last before machine standing ready =
    let h = and_parts (is_call call) (list_all is_call calls) all in
    let entry = history.Call call.0 call.1 in
    let now = next opened machine entry in
    let made = call_goes opened it last before machine standing call.0 call.1 ready h.0 in
    let begins = ap (λ t. (asks_for begins_one (Some call.1) && is_outside t) && not (is_spent_alone opened now))
    (found_transaction now call.0 made.session made.wait.busy.is) in
    passes_one opened it before machine standing entry _ made.goes_well refl
    (walks_if opened it last (before ++ entry ∷ []) now (standing_and it standing entry) call.0 made.session call.1
    calls made.wait
    (call_walks opened it calls h.1) (will_begin opened now call.0 call.1) (sym begins))

-- each call has its reply
answered_behind : (opened : List Table) (last : ℕ) (machine : Machine) (number : ℕ) (asked : Asked) (calls : Asked)
    (b : Bool) (at : ℕ) (entries : List Entry)
    → ((from : ℕ) → are_answered (exchanges_from from entries) ≡ true)
    → are_answered (exchanges_from at (history.Call number calls ∷ entries_if opened last machine number asked b
    ++ entries)) ≡ true
answered_behind opened last machine number asked calls true at entries rest =
    let reply = answer opened last (next opened machine (begun_next machine number)) number
    (transaction_at (next opened machine (begun_next machine number)) number) asked in
    and_from (is_some (reply_from number (at + 1 + 1) (history.Reply number reply ∷ entries)))
    (are_answered (exchanges_from (at + 1 + 1 + 1) entries))
    (answered_one number (at + 1 + 1) reply entries) (rest (at + 1 + 1 + 1))
answered_behind opened last machine number asked calls false at entries rest =
    let reply = answer opened last machine number (transaction_at machine number) asked in
    and_from (is_some (reply_from number (at + 1) (history.Reply number reply ∷ entries)))
    (are_answered (exchanges_from (at + 1 + 1) entries))
    (answered_one number (at + 1) reply entries) (rest (at + 1 + 1))

all_answered : (opened : List Table) (calls : List (ℕ × Asked)) (last : ℕ) (machine : Machine) (at : ℕ)
    → are_answered (exchanges_from at (answer_history opened last machine calls)) ≡ true
all_answered opened [] last machine at = refl
all_answered opened (call ∷ calls) last machine at =
    let entries = call_entries opened last machine call.0 call.1 in
    let now = next opened machine (history.Call call.0 call.1) in
    answered_behind opened last now call.0 call.1 call.1 (will_begin opened now call.0 call.1) at
    (answer_history opened (iteration_after last entries) (state_after opened machine entries) calls)
    (λ from. all_answered opened calls (iteration_after last entries) (state_after opened machine entries) from)

pub answers_are_legal : AnswersAreLegal
answers_are_legal opened iteration calls within all =
    let passes = call_walks opened iteration calls all iteration [] first_state first_standing
    (first_ready opened iteration within) in
    record {
      legal = walk_is_legal opened iteration (answer_history opened iteration first_state calls) passes.walk;
      answered = all_answered opened calls iteration first_state 0;
      plain = passes.plain;
    }

-- the calls of a history behind others
calls_behind : (number : ℕ) (asked : Asked) (opened : List Table) (last : ℕ) (machine : Machine) (b : Bool)
    (entries : List Entry)
    → calls_of (entries_if opened last machine number asked b ++ entries) ≡ calls_of entries
calls_behind number asked opened last machine true entries = refl
calls_behind number asked opened last machine false entries = refl

pub answers_have_the_calls : AnswersHaveTheCalls
answers_have_the_calls opened iteration machine [] = refl
answers_have_the_calls opened iteration machine (call ∷ calls) =
    let entries = call_entries opened iteration machine call.0 call.1 in
    let now = next opened machine (history.Call call.0 call.1) in
    let rest = answer_history opened (iteration_after iteration entries) (state_after opened machine entries) calls in
    ap (λ list. (call.0, call.1) ∷ list)
    (calls_behind call.0 call.1 opened iteration now (will_begin opened now call.0 call.1) rest
    ∙ answers_have_the_calls opened (iteration_after iteration entries) (state_after opened machine entries) calls)
