-- Events, as the calls name what they say.
use Rattle.std.proofs.Common.{◌≡◌, ℕ, ◌+◌, ◌%◌, ◌^◌, ◌<◌, false, sym, subst}
use mathlib.Core.Option.{none}
use Rattle.std.specs.Prelude.{Option, Some}
use Rattle.atomic_table.specs.Table.{step, Allows}
use Rattle.dk_turns.specs.declared.layout.TheConstants.{TURNS}
use Rattle.dk_turns.specs.Events.{Fact, LastingFact}
use Rattle.dk_turns.specs.LawfulSteps.{IsLawfulEvent, IsLawfulFreeEvent}
use Rattle.dk_turns.specs.Rule.{Rule}
use Rattle.dk_turns.specs.StepOutcomes.{SeatState, TickFreeOutcome, TickOutcome}
use Rattle.dk_turns.specs.TurnStates.{Holds}
use Rattle.dk_turns.proofs.StepLemmas.{ticks, ticks_free}

module _ (P N : Type 0) (holds : Fact P N) (lasts : LastingFact P N) where
  pub ticks_as : (slots id : ℕ) (m : SeatState P N) (t : ℕ) (p : P) (x : N) (q : P) (turn : ℕ) (part : Option P)
      (said : Option N) → turn ≡ t → part ≡ Some q → said ≡ Some x → t < TURNS → m.0.spent ≡ false
      → Holds m.0.knowledge.held t p → IsLawfulEvent holds lasts m.0.knowledge t p x q
      → Allows (Rule holds lasts) slots id m 0 (λ y. (y + 1) % 2 ^ 64)
      (TickOutcome turn part said (step slots 0 1 0 none) m)
  ticks_as slots id m t p x q turn part said a b c small live h makes =
      subst (λ (z : ℕ × Option P × Option N). Allows (Rule holds lasts) slots id m 0 (λ y. (y + 1) % 2 ^ 64)
      (TickOutcome z.0 z.1 z.2 (step slots 0 1 0 none) m)) (λ l. (sym a l, sym b l, sym c l))
      (ticks P N holds lasts slots id m t p x q small live h makes)

  pub ticks_free_as : (slots id : ℕ) (m : SeatState P N) (x : N) (said : Option N) → said ≡ Some x → m.0.spent ≡ false
      → IsLawfulFreeEvent holds lasts m.0.knowledge x
      → Allows (Rule holds lasts) slots id m 0 (λ y. (y + 1) % 2 ^ 64)
      (TickFreeOutcome said (step slots 0 1 0 none) m)
  ticks_free_as slots id m x said c live makes =
      subst (λ (z : Option N). Allows (Rule holds lasts) slots id m 0 (λ y. (y + 1) % 2 ^ 64)
      (TickFreeOutcome z (step slots 0 1 0 none) m)) (sym c) (ticks_free P N holds lasts slots id m x live makes)
