-- Forward laws: what a list of entries is with one more.
use Rattle.std.proofs.Common.{◌≡◌, ℕ, Bool, true, false, List, [], ◌∷◌, ◌++◌, ap, ◌∙◌, sym, refl, append_assoc, append-nil}
use Rattle.std.specs.Prelude.{◌&&◌, ◌||◌, not, if◌then◌else◌}
use Rattle.std.specs.List.{list_any}
use Rattle.std.proofs.lemmas.List.Folds.{list_any-append}
use Rattle.dk_si.specs.declared.database.Table.{Table}
use Rattle.dk_si.specs.declared.history.Entry.{Entry}
use Rattle.dk_si.specs.declared.machine.Machine.{Machine}
use Rattle.dk_si.specs.Machine.{first_state, next}
use Rattle.dk_si.specs.IsStep.{are_steps, is_step}
use Rattle.dk_si.specs.StatesSince.{is_call_of, was_so, states_from, was_since_call}
use Rattle.dk_si.specs.Laws.{state_after, StateAndOne, StepsAndOne, StatesSinceAndOne}

state_from : (opened : List Table) (machine : Machine) (entries : List Entry) (entry : Entry)
    → state_after opened machine (entries ++ entry ∷ []) ≡ next opened (state_after opened machine entries) entry
state_from opened machine [] entry = refl
state_from opened machine (first ∷ entries) entry = state_from opened (next opened machine first) entries entry

pub state_and_one : StateAndOne
state_and_one opened entries entry = state_from opened first_state entries entry

pub and_true : (b : Bool) → (b && true) ≡ b
and_true true = refl
and_true false = refl

pub and_assoc : (a b c : Bool) → (a && (b && c)) ≡ ((a && b) && c)
and_assoc true b c = refl
and_assoc false b c = refl

steps_from : (opened : List Table) (before : List Entry) (machine : Machine) (entries : List Entry) (entry : Entry)
    → are_steps opened before machine (entries ++ entry ∷ [])
    ≡ (are_steps opened before machine entries && is_step opened (before ++ entries) (state_after opened machine entries) entry)
steps_from opened before machine [] entry =
    and_true (is_step opened before machine entry) ∙ sym (ap (λ list. is_step opened list machine entry) (append-nil before))
steps_from opened before machine (first ∷ entries) entry =
    let step = is_step opened before machine first in
    let now = next opened machine first in
    ap (λ rest. step && rest)
    (steps_from opened (before ++ first ∷ []) now entries entry
    ∙ ap (λ list. are_steps opened (before ++ first ∷ []) now entries && is_step opened list (state_after opened now entries) entry) (append_assoc before (first ∷ []) entries))
    ∙ and_assoc step (are_steps opened (before ++ first ∷ []) now entries) (is_step opened (before ++ first ∷ entries) (state_after opened now entries) entry)

pub steps_and_one : StepsAndOne
steps_and_one opened entries entry = steps_from opened [] first_state entries entry

one_more : (test : Machine → Bool) (a b : Bool) → (a || (b || false)) ≡ ((a && true) || b)
one_more test true true = refl
one_more test true false = refl
one_more test false true = refl
one_more test false false = refl

no_more : (a b : Bool) → (b || false) ≡ ((a && false) || b)
no_more true true = refl
no_more true false = refl
no_more false true = refl
no_more false false = refl

-- a test of the states that are kept, and one more
kept : (test : Machine → Bool) (states : List Machine) (now : Machine) (calls : Bool)
    → list_any test ((if calls then [] else states) ++ now ∷ []) ≡ ((list_any test states && not calls) || test now)
kept test states now true = no_more (list_any test states) (test now)
kept test states now false = list_any-append test states (now ∷ []) ∙ one_more test (list_any test states) (test now)

-- what was so in some state since the call, computed with each entry
pub was_so_is : (test : Machine → Bool) (opened : List Table) (session : ℕ) (machine : Machine) (states : List Machine) (entries : List Entry)
    → list_any test (states_from opened session machine states entries) ≡ was_so test opened session machine (list_any test states) entries
was_so_is test opened session machine states [] = refl
was_so_is test opened session machine states (entry ∷ entries) =
    let now = next opened machine entry in
    was_so_is test opened session now ((if is_call_of session entry then [] else states) ++ now ∷ []) entries
    ∙ ap (λ so. was_so test opened session now so entries) (kept test states now (is_call_of session entry))

pub since_is : (test : Machine → Bool) (opened : List Table) (session : ℕ) (entries : List Entry)
    → was_so test opened session first_state false entries ≡ was_since_call test opened session entries
since_is test opened session entries = sym (was_so_is test opened session first_state [] entries)

states_and_one_from : (opened : List Table) (session : ℕ) (machine : Machine) (states : List Machine) (entries : List Entry) (entry : Entry)
    → states_from opened session machine states (entries ++ entry ∷ [])
    ≡ (if is_call_of session entry then [] else states_from opened session machine states entries) ++ next opened (state_after opened machine entries) entry ∷ []
states_and_one_from opened session machine states [] entry = refl
states_and_one_from opened session machine states (first ∷ entries) entry =
    states_and_one_from opened session (next opened machine first) ((if is_call_of session first then [] else states) ++ next opened machine first ∷ []) entries entry

pub states_since_and_one : StatesSinceAndOne
states_since_and_one opened session entries entry = states_and_one_from opened session first_state [] entries entry

pub since_and_one : (test : Machine → Bool) (opened : List Table) (session : ℕ) (entries : List Entry) (entry : Entry)
    → was_since_call test opened session (entries ++ entry ∷ [])
    ≡ ((was_since_call test opened session entries && not (is_call_of session entry)) || test (next opened (state_after opened first_state entries) entry))
since_and_one test opened session entries entry =
    ap (list_any test) (states_since_and_one opened session entries entry)
    ∙ kept test (states_from opened session first_state [] entries) (next opened (state_after opened first_state entries) entry) (is_call_of session entry)
