-- The history of turns is a legal history of one thread, and behind it no call is in flight.
use Rattle.std.proofs.Common.{◌≡◌, ℕ, ◌+◌, Bool, true, false, List, [], ◌∷◌, ◌++◌, length, Some, ap, ◌∙◌, sym, refl, subst, append-nil, append_assoc}
use Rattle.std.specs.Prelude.{◌&&◌, ◌||◌, not, is_some, if◌then◌else◌}
use Rattle.std.proofs.lemmas.Bool.{false≢true, and_from, and_parts}
use Rattle.dk_types.specs.declared.reply.Refusal.TheVariants as why
use Rattle.dk_types.specs.declared.reply.Reply.{Reply}
use Rattle.dk_types.specs.declared.reply.Reply.TheVariants as told
use Rattle.dk_si.specs.declared.database.Table.{Table}
use Rattle.dk_si.specs.declared.history.Asked.{Asked}
use Rattle.dk_si.specs.declared.history.Entry.{Entry}
use Rattle.dk_si.specs.declared.history.Entry.TheVariants as history
use Rattle.dk_si.specs.declared.machine.Machine.{Machine}
use Rattle.dk_si.specs.declared.machine.Session.{Session}
use Rattle.dk_si.specs.declared.machine.Transaction.{Transaction}
use Rattle.dk_si.specs.Answer.{answer}
use Rattle.dk_si.specs.Exchanges.{exchanges_from, reply_from}
use Rattle.dk_si.specs.Laws.{state_after}
use Rattle.dk_si.specs.Machine.{asks_for, begins_one, is_outside, next}
use Rattle.dk_si.specs.OneThread.{is_spent_alone}
use Rattle.dk_si.specs.Standing.{FullStanding, standing_and}
use Rattle.dk_alone.specs.AnswerHistory.{is_call, iteration_and, iteration_after, iteration_behind, transaction_at, will_begin, begun_next, are_answered}
use Rattle.dk_alone.proofs.AnswerFitLemmas.{Spent}
use Rattle.dk_alone.proofs.AnswerWalkLemmas.{reply_goes}
use Rattle.dk_alone.proofs.CallLemmas.{Ready, Wait, Answered, call_goes, begin_goes, suits_goes, spent_since, found_transaction, answered_one, iteration_both}
use Rattle.dk_si.proofs.GrowthLemmas.{after_both}
use Rattle.dk_alone.proofs.FlightLemmas.{begun_in}
use Rattle.dk_alone.proofs.WalkLemmas.{goes, walks}
use Rattle.dk_plain_engine.specs.Still.{begun_for}
use Rattle.dk_plain_engine.specs.Turns.{Turn, may_lack, reply_or_lack, turn_reply, told_next, told_if, turn_entries, turn_history, is_turn, are_turns}
use Rattle.dk_plain_engine.proofs.LackLemmas.{lack_passes}

-- entries that may come one after the other, behind which no call is in flight
pub record Walked (opened : List Table) (it last : ℕ) (before : List Entry) (machine : Machine) (standing : FullStanding)
    (entries : List Entry) : Type 0 where
  pub walk : walks opened it before machine standing entries ≡ true
  pub behind : FullStanding
  pub ready : Ready opened it (iteration_after last entries) (before ++ entries) (state_after opened machine entries) behind

walked_one : (opened : List Table) (it last : ℕ) (before : List Entry) (machine : Machine) (standing : FullStanding)
    (entry : Entry) (entries : List Entry)
    → goes opened it before machine standing entry ≡ true
    → Walked opened it (iteration_and last entry) (before ++ entry ∷ []) (next opened machine entry) (standing_and it standing entry) entries
    → Walked opened it last before machine standing (entry ∷ entries)
walked_one opened it last before machine standing entry entries goes_well rest = record {
  walk = and_from (goes opened it before machine standing entry)
      (walks opened it (before ++ entry ∷ []) (next opened machine entry) (standing_and it standing entry) entries)
      goes_well rest.walk;
  behind = rest.behind;
  ready = subst (λ list. Ready opened it (iteration_after last (entry ∷ entries)) list (state_after opened machine (entry ∷ entries)) rest.behind)
      (append_assoc before (entry ∷ []) entries) rest.ready;
}

-- what follows, from each state between two calls
abbrev More : List Table → ℕ → ℕ → Machine → List Entry → Type 0
More opened it last machine rest = (before : List Entry) (standing : FullStanding)
    → Ready opened it last before machine standing → Walked opened it last before machine standing rest

answered_walks : (opened : List Table) (it last : ℕ) (before : List Entry) (machine : Machine) (standing : FullStanding)
    (number : ℕ) (reply : Reply) (rest : List Entry)
    → Answered opened it last before machine standing number reply
    → More opened it (iteration_behind last reply) (next opened machine (history.Reply number reply)) rest
    → Walked opened it last before machine standing (history.Reply number reply ∷ rest)
answered_walks opened it last before machine standing number reply rest answered more =
    walked_one opened it last before machine standing (history.Reply number reply) rest answered.goes_well
    (more (before ++ history.Reply number reply ∷ []) (standing_and it standing (history.Reply number reply)) answered.ready)

abbrev Lacks : Bool → Transaction → Asked → Type 0
Lacks lacks transaction asked = (not lacks || may_lack transaction asked) ≡ true

by_lack : (opened : List Table) (it last : ℕ) (before : List Entry) (machine : Machine) (standing : FullStanding)
    (number : ℕ) (session : Session) (asked : Asked) (lacks : Bool)
    → Wait opened it last before machine standing number session asked
    → Spent opened last before machine number session.writes session.last (asks_for begins_one (Some asked) && is_outside session.transaction)
    → Lacks lacks session.transaction asked
    → Answered opened it last before machine standing number
    (reply_or_lack lacks (answer opened last machine number session.transaction asked))
by_lack opened it last before machine standing number session asked true wait spent may =
    suits_goes opened it last before machine standing number session asked (told.Refused why.OutOfMemory) wait (record {
      passes = lack_passes opened machine.commits session.transaction asked may;
      founded = refl;
      alone = refl;
      calm = refl;
      next = refl;
    })
by_lack opened it last before machine standing number session asked false wait spent may =
    (reply_goes opened it last before machine standing number session asked
    (answer opened last machine number session.transaction asked) refl wait spent).answered

told_walks : (opened : List Table) (it last : ℕ) (before : List Entry) (machine : Machine) (standing : FullStanding)
    (turn : Turn) (session : Session) (rest : List Entry)
    → Wait opened it last before machine standing turn.number session turn.asked
    → Spent opened last before machine turn.number session.writes session.last (asks_for begins_one (Some turn.asked) && is_outside session.transaction)
    → Lacks turn.lacks (transaction_at machine turn.number) turn.asked
    → More opened it (iteration_behind last (turn_reply opened last machine turn))
    (next opened machine (told_next opened last machine turn)) rest
    → Walked opened it last before machine standing (told_next opened last machine turn ∷ rest)
told_walks opened it last before machine standing turn session rest wait spent may more =
    let is = found_transaction machine turn.number session wait.busy.is in
    answered_walks opened it last before machine standing turn.number (turn_reply opened last machine turn) rest
    (subst (λ t. Answered opened it last before machine standing turn.number
    (reply_or_lack turn.lacks (answer opened last machine turn.number t turn.asked))) (sym is)
    (by_lack opened it last before machine standing turn.number session turn.asked turn.lacks wait spent
    (subst (λ t. Lacks turn.lacks t turn.asked) is may))) more

-- what follows a call, by whether it begins a transaction
if_walks : (opened : List Table) (it last : ℕ) (before : List Entry) (machine : Machine) (standing : FullStanding)
    (turn : Turn) (session : Session) (rest : List Entry)
    → Wait opened it last before machine standing turn.number session turn.asked
    → (b : Bool) → ((asks_for begins_one (Some turn.asked) && is_outside session.transaction) && not (is_spent_alone opened machine)) ≡ b
    → Lacks turn.lacks (transaction_at (if b then next opened machine (begun_next machine turn.number) else machine) turn.number) turn.asked
    → More opened it (iteration_after last (told_if opened last machine turn b)) (state_after opened machine (told_if opened last machine turn b)) rest
    → Walked opened it last before machine standing (told_if opened last machine turn b ++ rest)
if_walks opened it last before machine standing turn session rest wait true begins may more =
    let entry = begun_next machine turn.number in
    let h = and_parts (asks_for begins_one (Some turn.asked) && is_outside session.transaction)
    (not (is_spent_alone opened machine)) begins in
    let begun = begin_goes opened it last before machine standing turn.number session turn.asked wait h.0 h.1 in
    walked_one opened it last before machine standing entry _ begun.goes_well
    (told_walks opened it last (before ++ entry ∷ []) (next opened machine entry) (standing_and it standing entry) turn
    (begun_in machine.begun (length machine.commits) session) rest begun.wait
    (λ outside. absurd (false≢true (and_parts (asks_for begins_one (Some turn.asked)) false outside).1)) may more)
if_walks opened it last before machine standing turn session rest wait false begins may more =
    told_walks opened it last before machine standing turn session rest wait
    (spent_since opened it last before machine standing turn.number session turn.asked wait begins) may more

-- one turn, and what follows it
pub turn_walks : (opened : List Table) (it last : ℕ) (before : List Entry) (machine : Machine) (standing : FullStanding)
    (turn : Turn) (rest : List Entry)
    → Ready opened it last before machine standing → is_turn opened machine turn ≡ true
    → More opened it (iteration_after last (turn_entries opened last machine turn)) (state_after opened machine (turn_entries opened last machine turn)) rest
    → Walked opened it last before machine standing (turn_entries opened last machine turn ++ rest)
turn_walks opened it last before machine standing turn rest ready may more =
    let entry = history.Call turn.number turn.asked in
    let now = next opened machine entry in
    let h = and_parts (is_call (turn.number, turn.asked))
    (not turn.lacks || may_lack (transaction_at (begun_for opened now turn.number turn.asked) turn.number) turn.asked) may in
    let made = call_goes opened it last before machine standing turn.number turn.asked ready h.0 in
    let begins = ap (λ t. (asks_for begins_one (Some turn.asked) && is_outside t) && not (is_spent_alone opened now))
    (found_transaction now turn.number made.session made.wait.busy.is) in
    walked_one opened it last before machine standing entry _ made.goes_well
    (if_walks opened it last (before ++ entry ∷ []) now (standing_and it standing entry) turn made.session rest made.wait
    (will_begin opened now turn.number turn.asked) (sym begins) h.1 more)

pub turns_walk : (opened : List Table) (it : ℕ) (turns : List Turn) (last : ℕ) (machine : Machine)
    → are_turns opened last machine turns ≡ true → More opened it last machine (turn_history opened last machine turns)
turns_walk opened it [] last machine may before standing ready = record {
  walk = refl;
  behind = standing;
  ready = subst (λ list. Ready opened it last list machine standing) (sym (append-nil before)) ready;
}
turns_walk opened it (turn ∷ turns) last machine may before standing ready =
    let entries = turn_entries opened last machine turn in
    let h = and_parts (is_turn opened machine turn)
    (are_turns opened (iteration_after last entries) (state_after opened machine entries) turns) may in
    turn_walks opened it last before machine standing turn
    (turn_history opened (iteration_after last entries) (state_after opened machine entries) turns) ready h.0
    (turns_walk opened it turns (iteration_after last entries) (state_after opened machine entries) h.1)

-- each call has its reply
answered_behind : (opened : List Table) (last : ℕ) (machine : Machine) (turn : Turn) (b : Bool) (at : ℕ) (entries : List Entry)
    → ((from : ℕ) → are_answered (exchanges_from from entries) ≡ true)
    → are_answered (exchanges_from at (history.Call turn.number turn.asked ∷ told_if opened last machine turn b ++ entries)) ≡ true
answered_behind opened last machine turn true at entries rest =
    let reply = turn_reply opened last (next opened machine (begun_next machine turn.number)) turn in
    and_from (is_some (reply_from turn.number (at + 1 + 1) (history.Reply turn.number reply ∷ entries)))
    (are_answered (exchanges_from (at + 1 + 1 + 1) entries))
    (answered_one turn.number (at + 1 + 1) reply entries) (rest (at + 1 + 1 + 1))
answered_behind opened last machine turn false at entries rest =
    let reply = turn_reply opened last machine turn in
    and_from (is_some (reply_from turn.number (at + 1) (history.Reply turn.number reply ∷ entries)))
    (are_answered (exchanges_from (at + 1 + 1) entries))
    (answered_one turn.number (at + 1) reply entries) (rest (at + 1 + 1))

pub turns_answered : (opened : List Table) (turns : List Turn) (last : ℕ) (machine : Machine) (at : ℕ)
    → are_answered (exchanges_from at (turn_history opened last machine turns)) ≡ true
turns_answered opened [] last machine at = refl
turns_answered opened (turn ∷ turns) last machine at =
    let entries = turn_entries opened last machine turn in
    let now = next opened machine (history.Call turn.number turn.asked) in
    answered_behind opened last now turn (will_begin opened now turn.number turn.asked) at
    (turn_history opened (iteration_after last entries) (state_after opened machine entries) turns)
    (λ from. turns_answered opened turns (iteration_after last entries) (state_after opened machine entries) from)

-- turns, one after the other
pub history_and_one : (opened : List Table) (turns : List Turn) (turn : Turn) (last : ℕ) (machine : Machine)
    → turn_history opened last machine (turns ++ turn ∷ [])
    ≡ turn_history opened last machine turns ++ turn_entries opened (iteration_after last (turn_history opened last machine turns))
    (state_after opened machine (turn_history opened last machine turns)) turn
history_and_one opened [] turn last machine = append-nil (turn_entries opened last machine turn)
history_and_one opened (first ∷ turns) turn last machine =
    let entries = turn_entries opened last machine first in
    let it = iteration_after last entries in
    let now = state_after opened machine entries in
    let rest = turn_history opened it now turns in
    ap (λ list. entries ++ list) (history_and_one opened turns turn it now)
    ∙ (sym (append_assoc entries rest (turn_entries opened (iteration_after it rest) (state_after opened now rest) turn))
    ∙ (ap (λ n. (entries ++ rest) ++ turn_entries opened n (state_after opened now rest) turn) (sym (iteration_both last entries rest))
    ∙ ap (λ m. (entries ++ rest) ++ turn_entries opened (iteration_after last (entries ++ rest)) m turn) (sym (after_both opened machine entries rest))))

pub turns_and_one : (opened : List Table) (turns : List Turn) (turn : Turn) (last : ℕ) (machine : Machine)
    → are_turns opened last machine turns ≡ true
    → is_turn opened (state_after opened machine (turn_history opened last machine turns)) turn ≡ true
    → are_turns opened last machine (turns ++ turn ∷ []) ≡ true
turns_and_one opened [] turn last machine all one = and_from (is_turn opened machine turn) true one refl
turns_and_one opened (first ∷ turns) turn last machine all one =
    let entries = turn_entries opened last machine first in
    let it = iteration_after last entries in
    let now = state_after opened machine entries in
    let h = and_parts (is_turn opened machine first) (are_turns opened it now turns) all in
    and_from (is_turn opened machine first) (are_turns opened it now (turns ++ turn ∷ [])) h.0
    (turns_and_one opened turns turn it now h.1
    (subst (λ m. is_turn opened m turn ≡ true) (after_both opened machine entries (turn_history opened it now turns)) one))
