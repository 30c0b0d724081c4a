-- What an entry of a session that is there makes of the machine, and which session it changes.
use Rattle.std.proofs.Common.{arith, ◌≡◌, ◌⊎◌, inl, inr, ℕ, zero, suc, ◌-◌, ◌<◌, ◌≤◌, Bool, true, false, List, [], ◌∷◌}
use Rattle.std.proofs.Common.{Option, Some, None, ap, ◌∙◌, refl, slice_get, slice_set}
use Rattle.std.specs.Prelude.{◌==◌, if◌then◌else◌}
use Rattle.std.proofs.lemmas.Bool.{false≢true, ne_eqb, eqb-false, cases_lt}
use Rattle.dk_types.specs.declared.reply.Reply.{Reply}
use Rattle.dk_si.specs.declared.database.Table.{Table}
use Rattle.dk_si.specs.declared.history.Asked.{Asked}
use Rattle.dk_si.specs.declared.history.Entry.TheVariants as history
use Rattle.dk_si.specs.declared.machine.LastTransaction.{LastTransaction}
use Rattle.dk_si.specs.declared.machine.Machine.{Machine}
use Rattle.dk_si.specs.declared.machine.Session.{Session}
use Rattle.dk_si.specs.declared.machine.Transaction.{Transaction}
use Rattle.dk_si.specs.declared.machine.Transaction.TheVariants as state
use Rattle.dk_si.specs.declared.machine.WriteSet.{WriteSet}
use Rattle.dk_si.specs.IsStep.{if_there}
use Rattle.dk_si.specs.Machine.{after_begin, after_call, after_reply, next, session_at}
use Rattle.dk_si.proofs.PlaceLemmas.{found_at, set_apart}
use Rattle.dk_si.proofs.TransitionLemmas.{session_of}

pub set_there : {T : Type 0} → (xs : List T) (n : ℕ) (old new : T) → slice_get xs n ≡ Some old
    → slice_get (slice_set xs n new) n ≡ Some new
set_there [] n old new at = cc
set_there (x ∷ xs) zero old new at = refl
set_there (x ∷ xs) (suc n) old new at = set_there xs n old new at

pub session_set : (sessions : List Session) (number : ℕ) (old new : Session) → session_at sessions number ≡ Some old
    → session_at (slice_set sessions (number - 1) new) number ≡ Some new
session_set sessions number old new is =
    let h = found_at sessions number old is in
    let above = h.1 in
    ap (λ (b : Bool). if b then None else slice_get (slice_set sessions (number - 1) new) (number - 1))
    (ne_eqb number 0 (λ same. absurd (omega (arith, above, same))))
    ∙ set_there sessions (number - 1) old new h.0

-- a new session leaves those of other numbers
pub session_apart : (sessions : List Session) (number other : ℕ) (new : Session) → 0 < number → (number ≡ other → ⊥)
    → session_at (slice_set sessions (number - 1) new) other ≡ session_at sessions other
session_apart sessions number other new above apart = by_zero (other == 0) refl
  where
    by_zero : (none : Bool) → (other == 0) ≡ none
        → (if none then None else slice_get (slice_set sessions (number - 1) new) (other - 1))
        ≡ (if none then None else slice_get sessions (other - 1))
    by_zero true is = refl
    by_zero false is = set_apart sessions (number - 1) (other - 1) new
        (λ same. let more = eqb-false other 0 is in apart (same_numbers number other above (λ zero. more zero) same))
      where
        same_numbers : (m n : ℕ) → 0 < m → (n ≡ 0 → ⊥) → m - 1 ≡ n - 1 → m ≡ n
        same_numbers m n positive other same = by_order (cases_lt 0 n)
          where
            by_order : (0 < n) ⊎ (n ≤ 0) → m ≡ n
            by_order (inl less) = omega (arith, positive, less, same)
            by_order (inr none) = absurd (other (omega (arith, none)))

-- a session that passes a test is there
pub record There (test : Session → Bool) (found : Option Session) : Type 0 where
  pub session : Session
  pub is : found ≡ Some session
  pub passes : test session ≡ true

pub is_there : (test : Session → Bool) (found : Option Session) → if_there test found ≡ true → There test found
is_there test None e = absurd (false≢true e)
is_there test (Some session) e = record { session = session; is = refl; passes = e }

-- the state behind an entry of a session that is there
pub next_call : (opened : List Table) (machine : Machine) (number : ℕ) (asked : Asked) (session : Session)
    → session_at machine.sessions number ≡ Some session
    → next opened machine (history.Call number asked) ≡ after_call machine number asked session
next_call opened machine number asked session is =
    ap (λ found. elim found as (λ x. Machine) [
      | None ↦ machine
      | Some before ↦ after_call machine number asked before
    ]) is

pub next_begun : (opened : List Table) (machine : Machine) (session number start : ℕ) (before : Session)
    → session_at machine.sessions session ≡ Some before
    → next opened machine (history.Begun session number start) ≡ after_begin machine session number start before
next_begun opened machine session number start before is =
    ap (λ found. elim found as (λ x. Machine) [
      | None ↦ machine
      | Some before ↦ after_begin machine session number
          start before
    ]) is

pub next_reply : (opened : List Table) (machine : Machine) (number : ℕ) (reply : Reply) (session : Session)
    → session_at machine.sessions number ≡ Some session
    → next opened machine (history.Reply number reply) ≡ after_reply opened machine number session reply
next_reply opened machine number reply session is =
    ap (λ found. elim found as (λ x. Machine) [
      | None ↦ machine
      | Some before ↦ after_reply opened machine number
          before reply
    ]) is

-- sessions of which one is new
pub record Sets (sessions : List Session) (number : ℕ) (after : List Session) : Type 0 where
  pub new : Session
  pub is : after ≡ slice_set sessions (number - 1) new

pub reply_sets : (opened : List Table) (machine : Machine) (number : ℕ) (transaction : Transaction)
    (asked : Option Asked)
    (writes : Option WriteSet) (last : Option LastTransaction) (reply : Reply)
    → Sets machine.sessions number (after_reply opened machine number
    (session_of transaction asked writes last) reply).sessions
reply_sets opened machine number state.Outside asked writes last reply = record { new = _; is = refl }
reply_sets opened machine number state.Aborted asked writes last reply = record { new = _; is = refl }
reply_sets opened machine number (state.Open active) asked writes last reply = record { new = _; is = refl }
