-- What the engine does to its state is a turn.
use Rattle.std.proofs.Common.{◌≡◌, ◌≤◌, ◌<◌, ◌-◌, ℕ, zero, suc, arith, slice_get, slice_index_or, ◌∷◌, Bool, true, false, List, [], length, Option, Some, None, ap, ◌∙◌, sym, refl, subst, slice_set}
use Rattle.std.specs.Prelude.{◌&&◌, not, if◌then◌else◌}
use Rattle.std.proofs.lemmas.Bool.{ne_eqb}
use Rattle.dk_types.specs.declared.net.Commit.{Commit}
use Rattle.dk_types.specs.declared.reply.Refusal.TheVariants as why
use Rattle.dk_types.specs.declared.reply.Reply.{Reply}
use Rattle.dk_types.specs.declared.reply.Reply.TheVariants as told
use Rattle.dk_si.specs.declared.history.Asked.{Asked}
use Rattle.dk_si.specs.declared.limits.TheConstants.{MAX_ITERATION}
use Rattle.dk_si.specs.declared.machine.Machine.{Machine}
use Rattle.dk_si.specs.declared.machine.Session.{Session}
use Rattle.dk_si.specs.declared.machine.Transaction.{Transaction}
use Rattle.dk_si.specs.declared.machine.Transaction.TheVariants as state
use Rattle.dk_si.specs.Machine.{asks_for, begins_one, is_outside, next, next_number, session_at}
use Rattle.dk_si.proofs.SessionStepLemmas.{next_begun}
use Rattle.dk_alone.specs.AnswerHistory.{begun_next, iteration_behind, transaction_at}
use Rattle.dk_plain_engine.specs.declared.effect.Outcome.{Outcome}
use Rattle.dk_plain_engine.specs.Outcomes.{outcome, call_outcome, commits, is_conflict, commit_of}
use Rattle.dk_plain_engine.specs.declared.state.EngineState.{EngineState}
use Rattle.dk_plain_engine.specs.Stands.{IsTurn, begun_in, begins_in, carried, conflict_name, is_full, lacking, outcome_in, sessions_begun, transaction_in}
use Rattle.dk_plain_engine.specs.Still.{begun_for, behind_reply, state_of, transaction_behind, transaction_of, with_transaction}
use Rattle.dk_plain_engine.specs.Turns.{may_lack}
use Rattle.dk_plain_engine.proofs.LackLemmas.{commits_take, conflicts_take, outcome_within}
use Rattle.dk_plain_engine.proofs.OutcomeLemmas.{outcome_answers, outcome_transaction, outcome_commit, lack_transaction, lack_commit}

abbrev pub engine_of : ℕ → Machine → EngineState
engine_of iteration machine = record { iteration = iteration; machine = machine }

answered_begun : (old new : EngineState) (number : ℕ) (asked : Asked) (reply : Reply) (name : Option (List ℕ))
    → reply ≡ (outcome_in (begun_in old number asked) number asked).reply
    → name ≡ conflict_name (begun_in old number asked).machine
    (transaction_in (begun_in old number asked) number) reply
    → new ≡ carried (begun_in old number asked) number (transaction_in (begun_in old number asked) number)
    (outcome_in (begun_in old number asked) number asked)
    → IsTurn old new number asked reply name
unfolding begun_in carried transaction_of call_outcome
answered_begun old new number asked reply name replied named is =
    let m = begun_for [] old.machine number asked in
    let t = transaction_at m number in
    let o = outcome [] old.iteration m number t asked in
    record {
      lacks = false;
      may = refl;
      replied = record { is = replied ∙ outcome_answers [] old.iteration m number t asked; named = named };
      iteration = ap (λ (e : EngineState). e.iteration) is ∙ ap (iteration_behind old.iteration) (sym replied);
      machine = ap (λ (e : EngineState). e.machine) is
          ∙ (ap (λ now. with_transaction m number now (commit_of t o.effect)) (sym (outcome_transaction [] old.iteration m number t asked))
          ∙ (ap (with_transaction m number (transaction_behind [] m.commits t asked o.reply)) (sym (outcome_commit [] old.iteration m number t asked))
          ∙ ap (behind_reply [] m number t asked) (sym replied)));
    }

pub answered_turn : (old mid new : EngineState) (number : ℕ) (asked : Asked) (reply : Reply) (name : Option (List ℕ))
    → mid ≡ begun_in old number asked → reply ≡ (outcome_in mid number asked).reply
    → name ≡ conflict_name mid.machine (transaction_in mid number) reply
    → new ≡ carried mid number (transaction_in mid number) (outcome_in mid number asked)
    → IsTurn old new number asked reply name
answered_turn old mid new number asked reply name begun replied named is =
    answered_begun old new number asked reply name
    (subst (λ (e : EngineState). reply ≡ (outcome_in e number asked).reply) begun replied)
    (subst (λ (e : EngineState). name ≡ conflict_name e.machine (transaction_in e number) reply) begun named)
    (subst (λ (e : EngineState). new ≡ carried e number (transaction_in e number) (outcome_in e number asked)) begun is)

no_name : (machine : Machine) (transaction : Transaction) → conflict_name machine transaction (told.Refused why.OutOfMemory) ≡ None
unfolding conflict_name
no_name machine state.Outside = refl
no_name machine state.Aborted = refl
no_name machine (state.Open active) = refl

lacked_begun : (old new : EngineState) (number : ℕ) (asked : Asked) (reply : Reply) (name : Option (List ℕ))
    → may_lack (transaction_in (begun_in old number asked) number) asked ≡ true
    → reply ≡ told.Refused why.OutOfMemory → name ≡ None
    → new ≡ lacking (begun_in old number asked) number (transaction_in (begun_in old number asked) number) asked
    → IsTurn old new number asked reply name
unfolding begun_in lacking transaction_of
lacked_begun old new number asked reply name may replied named is =
    let m = begun_for [] old.machine number asked in
    let t = transaction_at m number in
    record {
      lacks = true;
      may = may;
      replied = record {
        is = replied;
        named = named ∙ (sym (no_name m t) ∙ ap (conflict_name m t) (sym replied));
      };
      iteration = ap (λ (e : EngineState). e.iteration) is ∙ ap (iteration_behind old.iteration) (sym replied);
      machine = ap (λ (e : EngineState). e.machine) is
          ∙ (ap (λ now. with_transaction m number now None) (sym (lack_transaction [] m.commits t asked may))
          ∙ (ap (with_transaction m number (transaction_behind [] m.commits t asked (told.Refused why.OutOfMemory)))
          (sym (lack_commit [] m.commits t asked may))
          ∙ ap (behind_reply [] m number t asked) (sym replied)));
    }

pub lacked_turn : (old mid new : EngineState) (number : ℕ) (asked : Asked) (reply : Reply) (name : Option (List ℕ))
    → mid ≡ begun_in old number asked → may_lack (transaction_in mid number) asked ≡ true
    → reply ≡ told.Refused why.OutOfMemory → name ≡ None
    → new ≡ lacking mid number (transaction_in mid number) asked
    → IsTurn old new number asked reply name
lacked_turn old mid new number asked reply name begun may replied named is =
    lacked_begun old new number asked reply name
    (subst (λ (e : EngineState). may_lack (transaction_in e number) asked ≡ true) begun may) replied named
    (subst (λ (e : EngineState). new ≡ lacking e number (transaction_in e number) asked) begun is)

-- memory may want where a commit is made, or a conflict is told
pub commit_may : (engine : EngineState) (number : ℕ) (asked : Asked) → commits (outcome_in engine number asked).effect ≡ true
    → may_lack (transaction_in engine number) asked ≡ true
unfolding call_outcome
commit_may engine number asked is =
    commits_take [] engine.iteration engine.machine number (transaction_in engine number) asked is

pub conflict_may : (engine : EngineState) (number : ℕ) (asked : Asked) → is_conflict (outcome_in engine number asked).reply ≡ true
    → may_lack (transaction_in engine number) asked ≡ true
unfolding call_outcome
conflict_may engine number asked is =
    conflicts_take [] engine.iteration engine.machine number (transaction_in engine number) asked is

pub next_within : (engine : EngineState) (number : ℕ) (asked : Asked) → engine.iteration ≤ MAX_ITERATION
    → iteration_behind engine.iteration (outcome_in engine number asked).reply ≤ MAX_ITERATION
unfolding call_outcome
next_within engine number asked within =
    outcome_within [] engine.iteration engine.machine number (transaction_in engine number) asked within

-- a session that is there
record There (sessions : List Session) (place : ℕ) : Type 0 where
  session : Session
  is : slice_get sessions place ≡ Some session

there : (sessions : List Session) (place : ℕ) → place < length sessions → There sessions place
there [] place less = absurd (omega (arith, less))
there (session ∷ sessions) zero less = record { session = session; is = refl }
there (session ∷ sessions) (suc place) less =
    let rest = there sessions place (omega (arith, less)) in record { session = rest.session; is = rest.is }

there_at : (sessions : List Session) (number : ℕ) (session : Session) → 0 < number → slice_get sessions (number - 1) ≡ Some session
    → session_at sessions number ≡ Some session
there_at sessions number session above is =
    ap (λ (b : Bool). if b then None else slice_get sessions (number - 1))
    (ne_eqb number 0 (λ same. absurd (omega (arith, above, same)))) ∙ is

-- the transaction of a call has begun, or begins none
begun_there : (iteration begun : ℕ) (log : List Commit) (sessions : List Session) (number : ℕ) (asked : Asked)
    → begins_in (state_of log begun sessions) number asked ≡ true → (session : Session) → session_at sessions number ≡ Some session
    → engine_of iteration (state_of log (next_number begun) (sessions_begun sessions number begun (length log)))
    ≡ begun_in (engine_of iteration (state_of log begun sessions)) number asked
unfolding begun_in begins_in sessions_begun
begun_there iteration begun log sessions number asked is session there =
    let machine = state_of log begun sessions in
    let entry = begun_next machine number in
    ap (λ list. engine_of iteration (state_of log (next_number begun) list))
    (ap (λ found. elim found as (λ x. List Session) [
      | None ↦ sessions
      | Some before ↦ slice_set sessions (number - 1)
          (record before { transaction = state.Open (record { number = begun; start = length log; net = []; fresh = true }) })
    ]) there)
    ∙ sym (ap (λ b. engine_of iteration (if b then next [] machine entry else machine)) is
    ∙ ap (engine_of iteration) (next_begun [] machine number begun (length log) session there))

pub begun_now : (iteration begun : ℕ) (log : List Commit) (sessions : List Session) (number : ℕ) (asked : Asked)
    → begins_in (state_of log begun sessions) number asked ≡ true → 0 < number → number ≤ length sessions
    → engine_of iteration (state_of log (next_number begun) (sessions_begun sessions number begun (length log)))
    ≡ begun_in (engine_of iteration (state_of log begun sessions)) number asked
begun_now iteration begun log sessions number asked is above within =
    let found = there sessions (number - 1) (omega (arith, above, within)) in
    begun_there iteration begun log sessions number asked is found.session
    (there_at sessions number found.session above found.is)

pub begun_never : (engine : EngineState) (number : ℕ) (asked : Asked) → begins_in engine.machine number asked ≡ false
    → engine ≡ begun_in engine number asked
unfolding begun_in begins_in
begun_never engine number asked is =
    sym (ap (λ b. engine_of engine.iteration (if b then next [] engine.machine (begun_next engine.machine number) else engine.machine)) is)

-- the transaction of a session that stands at a place
pub transaction_there : (sessions : List Session) (number : ℕ) (session : Session) → 0 < number
    → slice_get sessions (number - 1) ≡ Some session → transaction_of sessions number ≡ session.transaction
unfolding transaction_of
transaction_there sessions number session above is =
    ap (λ found. elim found as (λ x. Transaction) [ None ↦ state.Outside | Some one ↦ one.transaction ])
    (there_at sessions number session above is)

index_or : (sessions : List Session) (place : ℕ) (other : Session) → place < length sessions
    → slice_get sessions place ≡ Some (slice_index_or sessions place other)
index_or [] place other less = absurd (omega (arith, less))
index_or (session ∷ sessions) zero other less = refl
index_or (session ∷ sessions) (suc place) other less = index_or sessions place other (omega (arith, less))

pub transaction_or : (sessions : List Session) (number : ℕ) (other : Session) → 0 < number → number ≤ length sessions
    → (slice_index_or sessions (number - 1) other).transaction ≡ transaction_of sessions number
transaction_or sessions number other above within =
    sym (transaction_there sessions number (slice_index_or sessions (number - 1) other) above
    (index_or sessions (number - 1) other (omega (arith, above, within))))

set_twice : (sessions : List Session) (place : ℕ) (first second : Session)
    → slice_set (slice_set sessions place first) place second ≡ slice_set sessions place second
set_twice [] place first second = refl
set_twice (session ∷ sessions) zero first second = refl
set_twice (session ∷ sessions) (suc place) first second = ap (λ rest. session ∷ rest) (set_twice sessions place first second)

pub set_again : (sessions after : List Session) (place : ℕ) (first second : Session) → after ≡ slice_set sessions place first
    → slice_set after place second ≡ slice_set sessions place second
set_again sessions after place first second is =
    ap (λ list. slice_set list place second) is ∙ set_twice sessions place first second

-- whether a transaction begins, by its three tests
pub begins_from : (machine : Machine) (number : ℕ) (asked : Asked) (asks outside spent : Bool)
    → asks ≡ asks_for begins_one (Some asked) → outside ≡ is_outside (transaction_of machine.sessions number)
    → spent ≡ is_full [] machine → ((asks && outside) && not spent) ≡ begins_in machine number asked
unfolding transaction_of is_full begins_in
begins_from machine number asked asks outside spent one two three =
    ap (λ b. (b && outside) && not spent) one
    ∙ (ap (λ b. (asks_for begins_one (Some asked) && b) && not spent) two
    ∙ ap (λ b. (asks_for begins_one (Some asked) && is_outside (transaction_at machine number)) && not b) three)

pub found_within : (engine : EngineState) (number : ℕ) (asked : Asked) (found : Outcome) → engine.iteration ≤ MAX_ITERATION
    → found ≡ outcome_in engine number asked → iteration_behind engine.iteration found.reply ≤ MAX_ITERATION
found_within engine number asked found within is =
    subst (λ (o : Outcome). iteration_behind engine.iteration o.reply ≤ MAX_ITERATION) (sym is) (next_within engine number asked within)
