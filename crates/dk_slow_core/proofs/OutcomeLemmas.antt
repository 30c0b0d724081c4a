-- What a Begin and a Change tell, by what they find.
use Rattle.std.proofs.Common.{◌≡◌, ℕ, Bool, true, false, Option, Some, None, length, ap, ◌∙◌, sym, refl}
use Rattle.std.specs.Prelude.{if◌then◌else◌}
use Rattle.dk_types.specs.declared.net.TableNet.{TableNet}
use Rattle.dk_types.specs.declared.reply.Refusal.{Refusal}
use Rattle.dk_core.specs.Core.{Core}
use Rattle.dk_core.specs.Findings.{conflict, is_full, spent_numbers}
use Rattle.dk_slow_seats.specs.Seats.{start_at}
use Rattle.dk_slow_core.specs.declared.outcome.Outcome.{Outcome}
use Rattle.dk_slow_core.specs.declared.outcome.Outcome.TheVariants as outcome
use Rattle.dk_slow_core.specs.Outcomes.{begin_outcome, change_outcome, refusal_outcome}

begin_by : Core → Bool → Outcome
begin_by core full = if full then outcome.Exhausted (spent_numbers core)
    else outcome.Begun core.now.begun (length core.now.commits)

begin_is : (core : Core) → begin_by core (is_full core) ≡ begin_outcome core
unfolding begin_by
begin_is core = refl

pub full_told : (core : Core) → is_full core ≡ true → outcome.Exhausted (spent_numbers core) ≡ begin_outcome core
unfolding begin_by
full_told core full = ap (begin_by core) (sym full) ∙ begin_is core

pub begin_told : (core : Core) → is_full core ≡ false
    → outcome.Begun core.now.begun (length core.now.commits) ≡ begin_outcome core
unfolding begin_by
begin_told core full = ap (begin_by core) (sym full) ∙ begin_is core

by_finding : Option Refusal → Outcome
by_finding found = elim found as (λ x. Outcome) [ None ↦ outcome.Done | Some refusal ↦ refusal_outcome refusal ]

by_start : Core → ℕ → TableNet → Option ℕ → Outcome
by_start core number part start = elim start as (λ x. Outcome) [
  | None ↦ outcome.Done
  | Some start ↦ by_finding (conflict core number start part)
]

change_is : (core : Core) (number : ℕ) (part : TableNet)
    → by_start core number part (start_at core.seats number) ≡ change_outcome core number part
unfolding by_start by_finding
change_is core number part = refl

pub no_change_told : (core : Core) (number : ℕ) (part : TableNet) → start_at core.seats number ≡ None
    → outcome.Done ≡ change_outcome core number part
unfolding by_start
no_change_told core number part none = ap (by_start core number part) (sym none) ∙ change_is core number part

pub conflict_told : (core : Core) (number start : ℕ) (part : TableNet) (refusal : Refusal)
    → start_at core.seats number ≡ Some start → conflict core number start part ≡ Some refusal
    → refusal_outcome refusal ≡ change_outcome core number part
unfolding by_start by_finding
conflict_told core number start part refusal begun found =
    ap by_finding (sym found) ∙ (ap (by_start core number part) (sym begun) ∙ change_is core number part)

pub change_told : (core : Core) (number start : ℕ) (part : TableNet)
    → start_at core.seats number ≡ Some start → conflict core number start part ≡ None
    → outcome.Done ≡ change_outcome core number part
unfolding by_start by_finding
change_told core number start part begun free =
    ap by_finding (sym free) ∙ (ap (by_start core number part) (sym begun) ∙ change_is core number part)
