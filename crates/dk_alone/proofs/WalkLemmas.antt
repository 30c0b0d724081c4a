-- Legal histories of one thread as a walk: entry by entry, with the state and what is carried of stops and iterations.
use Rattle.std.proofs.Common.{◌≡◌, ℕ, ◌+◌, ◌-◌, ◌≤◌, Bool, true, false, List, [], ◌∷◌, ◌++◌, length, Option, Some, None}
use Rattle.std.proofs.Common.{ap, ◌∙◌, sym, refl, subst, arith, slice_set, length-set, append-nil, append_assoc}
use Rattle.std.specs.Prelude.{◌&&◌, nat_lt, if◌then◌else◌}
use Rattle.std.proofs.lemmas.Bool.{and_from, and_parts, ltb-true}
use Rattle.dk_types.specs.declared.reply.Reply.{Reply}
use Rattle.dk_si.specs.declared.database.Table.{Table}
use Rattle.dk_si.specs.declared.history.Asked.{Asked}
use Rattle.dk_si.specs.declared.history.Entry.{Entry}
use Rattle.dk_si.specs.declared.history.Entry.TheVariants as history
use Rattle.dk_si.specs.declared.limits.TheConstants.{SESSIONS, MAX_TRANSACTIONS}
use Rattle.dk_si.specs.declared.machine.LastTransaction.{LastTransaction}
use Rattle.dk_si.specs.declared.machine.Machine.{Machine}
use Rattle.dk_si.specs.declared.machine.Session.{Session}
use Rattle.dk_si.specs.declared.machine.Transaction.{Transaction}
use Rattle.dk_si.specs.declared.machine.Transaction.TheVariants as state
use Rattle.dk_si.specs.declared.machine.WriteSet.{WriteSet}
use Rattle.dk_si.specs.Exchanges.{exchanges}
use Rattle.dk_si.specs.IsLegal.{stops_well, iterates_well, is_legal}
use Rattle.dk_si.specs.IsStep.{are_steps, is_step}
use Rattle.dk_si.specs.Laws.{state_after}
use Rattle.dk_si.specs.Machine.{after_begin, after_call, after_reply, first_state, next, next_number, session_at}
use Rattle.dk_si.specs.OneThread.{are_steps_alone, is_legal_alone, is_step_alone}
use Rattle.dk_si.specs.Standing.{FullStanding, first_standing, standing_after, standing_and, stands_on}
use Rattle.dk_si.proofs.FirstCommitterLemmas.{IsFair, first_fair, step_fair}
use Rattle.dk_si.specs.Laws.{entry_starts}
use Rattle.dk_si.proofs.ForwardLemmas.{and_assoc, and_true, state_and_one}
use Rattle.dk_si.proofs.FreshLemmas.{IsNow, first_now, step_now}
use Rattle.dk_si.proofs.StandingLemmas.{stands_well, standing_and_one}
use Rattle.dk_si.proofs.TransitionLemmas.{session_of}

-- an entry may come in this state
abbrev pub goes : List Table → ℕ → List Entry → Machine → FullStanding → Entry → Bool
goes opened it before machine standing entry =
    is_step opened before machine entry && (is_step_alone opened machine entry && stands_on it standing entry)

-- these entries may come one after the other
abbrev pub walks : List Table → ℕ → List Entry → Machine → FullStanding → List Entry → Bool
walks opened it before machine standing [] = true
walks opened it before machine standing (entry ∷ entries) =
    goes opened it before machine standing entry
    && walks opened it (before ++ entry ∷ []) (next opened machine entry) (standing_and it standing entry) entries

abbrev stand_all : ℕ → FullStanding → List Entry → Bool
stand_all it standing [] = true
stand_all it standing (entry ∷ entries) = stands_on it standing entry && stand_all it
    (standing_and it standing entry) entries

-- the three conditions of a walk
record Three (opened : List Table) (it : ℕ) (before : List Entry) (machine : Machine) (standing : FullStanding)
    (entries : List Entry) : Type 0 where
  steps : are_steps opened before machine entries ≡ true
  alone : are_steps_alone opened machine entries ≡ true
  stand : stand_all it standing entries ≡ true

walk_from : (opened : List Table) (it : ℕ) (before : List Entry) (machine : Machine) (standing : FullStanding)
    (entries : List Entry)
    → Three opened it before machine standing entries → walks opened it before machine standing entries ≡ true
walk_from opened it before machine standing [] three = refl
walk_from opened it before machine standing (entry ∷ entries) three =
    let a = and_parts (is_step opened before machine entry) (are_steps opened (before ++ entry ∷ [])
    (next opened machine entry) entries) three.steps in
    let b = and_parts (is_step_alone opened machine entry) (are_steps_alone opened
    (next opened machine entry) entries) three.alone in
    let c = and_parts (stands_on it standing entry) (stand_all it (standing_and it standing entry) entries)
    three.stand in
    and_from (goes opened it before machine standing entry) (walks opened it (before ++ entry ∷ [])
    (next opened machine entry) (standing_and it standing entry) entries)
    (and_from (is_step opened before machine entry) (is_step_alone opened machine entry
    && stands_on it standing entry) a.0
    (and_from (is_step_alone opened machine entry) (stands_on it standing entry) b.0 c.0))
    (walk_from opened it (before ++ entry ∷ []) (next opened machine entry) (standing_and it standing entry) entries
    (record { steps = a.1; alone = b.1; stand = c.1 }))

three_of : (opened : List Table) (it : ℕ) (before : List Entry) (machine : Machine) (standing : FullStanding)
    (entries : List Entry)
    → walks opened it before machine standing entries ≡ true → Three opened it before machine standing entries
three_of opened it before machine standing [] walk = record { steps = refl; alone = refl; stand = refl }
three_of opened it before machine standing (entry ∷ entries) walk =
    let h = and_parts (goes opened it before machine standing entry) (walks opened it (before ++ entry ∷ [])
    (next opened machine entry) (standing_and it standing entry) entries) walk in
    let a = and_parts (is_step opened before machine entry) (is_step_alone opened machine entry
    && stands_on it standing entry) h.0 in
    let b = and_parts (is_step_alone opened machine entry) (stands_on it standing entry) a.1 in
    let rest = three_of opened it (before ++ entry ∷ []) (next opened machine entry)
    (standing_and it standing entry) entries h.1 in
    record {
      steps = and_from (is_step opened before machine entry) (are_steps opened (before ++ entry ∷ [])
          (next opened machine entry) entries) a.0 rest.steps;
      alone = and_from (is_step_alone opened machine entry) (are_steps_alone opened
          (next opened machine entry) entries) b.0 rest.alone;
      stand = and_from (stands_on it standing entry) (stand_all it (standing_and it standing entry) entries) b.1
          rest.stand;
    }

-- stops and iterations over the whole list
abbrev whole : ℕ → List Entry → Bool
whole it entries = stops_well (exchanges entries) && iterates_well it (exchanges entries)

whole_stands : (it : ℕ) (before entries : List Entry) → whole it (before ++ entries) ≡ (whole it before && stand_all it
    (standing_after it before) entries)
whole_stands it before [] = ap (whole it) (append-nil before) ∙ sym (and_true (whole it before))
whole_stands it before (entry ∷ entries) =
    let now = standing_and it (standing_after it before) entry in
    sym (ap (whole it) (append_assoc before (entry ∷ []) entries))
    ∙ (whole_stands it (before ++ entry ∷ []) entries
    ∙ (ap (λ standing. whole it (before ++ entry ∷ []) && stand_all it standing entries)
    (standing_and_one it before entry)
    ∙ (ap (λ b. b && stand_all it now entries) (stands_well it before entry)
    ∙ sym (and_assoc (whole it before) (stands_on it (standing_after it before) entry) (stand_all it now entries)))))

pub walk_is_legal : (opened : List Table) (it : ℕ) (entries : List Entry)
    → walks opened it [] first_state first_standing entries ≡ true
    → is_legal_alone opened it entries ≡ true
walk_is_legal opened it entries walk =
    let three = three_of opened it [] first_state first_standing entries walk in
    and_from (is_legal opened it entries) (are_steps_alone opened first_state entries)
    (and_from (are_steps opened [] first_state entries) (whole it entries) three.steps (whole_stands it [] entries
    ∙ three.stand)) three.alone

pub legal_walks : (opened : List Table) (it : ℕ) (entries : List Entry) → is_legal_alone opened it entries ≡ true
    → walks opened it [] first_state first_standing entries ≡ true
legal_walks opened it entries legal =
    let h = and_parts (is_legal opened it entries) (are_steps_alone opened first_state entries) legal in
    let k = and_parts (are_steps opened [] first_state entries) (whole it entries) h.0 in
    walk_from opened it [] first_state first_standing entries
    (record { steps = k.0; alone = h.1; stand = sym (whole_stands it [] entries) ∙ k.1 })

-- what holds of the state behind a walk
pub record Line (opened : List Table) (before : List Entry) (machine : Machine) : Type 0 where
  pub reached : state_after opened first_state before ≡ machine
  pub now : IsNow machine
  pub starts : List ℕ
  pub fair : IsFair machine starts

pub first_line : (opened : List Table) → Line opened [] first_state
first_line opened = record { reached = refl; now = first_now; starts = []; fair = first_fair }

pub line_next : (opened : List Table) (before : List Entry) (machine : Machine) (entry : Entry)
    → Line opened before machine
    → is_step opened before machine entry ≡ true → is_step_alone opened machine entry ≡ true
    → Line opened (before ++ entry ∷ []) (next opened machine entry)
line_next opened before machine entry line step alone = record {
  reached = state_and_one opened before entry ∙ ap (λ m. next opened m entry) line.reached;
  now = step_now opened before machine entry line.now step alone;
  starts = line.starts ++ entry_starts opened machine entry;
  fair = step_fair opened before machine line.starts entry line.fair step;
}

-- there are 32 sessions, and no more transactions than there are numbers for
pub record Bounded (machine : Machine) : Type 0 where
  pub wide : length machine.sessions ≡ SESSIONS
  pub counted : machine.begun ≤ MAX_TRANSACTIONS

pub first_bounded : Bounded first_state
first_bounded = record { wide = refl; counted = omega arith }

next_within : (n most : ℕ) (b : Bool) → nat_lt n most ≡ b → n ≤ most → (if b then n + 1 else n) ≤ most
next_within n most true less le = let h = ltb-true n most less in omega (arith, h)
next_within n most false less le = le

set_bounded : (machine : Machine) (number begun : ℕ) (new : Session) → Bounded machine → begun ≤ MAX_TRANSACTIONS
    → (after : Machine) → after.sessions ≡ slice_set machine.sessions (number - 1) new → after.begun ≡ begun
    → Bounded after
set_bounded machine number begun new bounded le after sessions same = record {
  wide = ap (λ list. length list) sessions ∙ (length-set machine.sessions (number - 1) new ∙ bounded.wide);
  counted = subst (λ n. n ≤ MAX_TRANSACTIONS) (sym same) le;
}

-- what an entry makes of its session
found_bounded : (machine : Machine) (behind : Session → Machine) → Bounded machine
    → ((before : Session) → Bounded (behind before)) → (found : Option Session)
    → Bounded (elim found as (λ x. Machine) [ None ↦ machine | Some before ↦ behind before ])
found_bounded machine behind bounded each None = bounded
found_bounded machine behind bounded each (Some before) = each before

reply_bounded : (opened : List Table) (machine : Machine) (number : ℕ) (reply : Reply) (transaction : Transaction)
    (asked : Option Asked) (touched : Option WriteSet) (past : Option LastTransaction)
    → Bounded machine → Bounded (after_reply opened machine number (session_of transaction asked touched past) reply)
reply_bounded opened machine number reply state.Outside asked touched past bounded =
    set_bounded machine number machine.begun _ bounded bounded.counted (after_reply opened machine number
    (session_of state.Outside asked touched past) reply) refl refl
reply_bounded opened machine number reply state.Aborted asked touched past bounded =
    set_bounded machine number machine.begun _ bounded bounded.counted (after_reply opened machine number
    (session_of state.Aborted asked touched past) reply) refl refl
reply_bounded opened machine number reply (state.Open active) asked touched past bounded =
    set_bounded machine number machine.begun _ bounded bounded.counted (after_reply opened machine number
    (session_of (state.Open active) asked touched past) reply) refl refl

pub next_bounded : (opened : List Table) (machine : Machine) (entry : Entry) → Bounded machine
    → Bounded (next opened machine entry)
next_bounded opened machine (history.Call number asked) bounded =
    found_bounded machine (λ before. after_call machine number asked before) bounded
    (λ before. set_bounded machine number machine.begun _ bounded bounded.counted
    (after_call machine number asked before) refl refl)
    (session_at machine.sessions number)
next_bounded opened machine (history.Begun session number start) bounded =
    found_bounded machine (λ before. after_begin machine session number start before) bounded
    (λ before. set_bounded machine session (next_number machine.begun) _ bounded
    (next_within machine.begun MAX_TRANSACTIONS (nat_lt machine.begun MAX_TRANSACTIONS) refl bounded.counted)
    (after_begin machine session number start before) refl refl)
    (session_at machine.sessions session)
next_bounded opened machine (history.Reply number reply) bounded =
    found_bounded machine (λ before. after_reply opened machine number before reply) bounded
    (λ before. reply_bounded opened machine number reply before.transaction before.asked before.writes before.last
    bounded)
    (session_at machine.sessions number)
