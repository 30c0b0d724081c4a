-- The rule says of each turn that its word says "taken" exactly where one pass holds it.
use Rattle.std.proofs.Common.{◌≡◌, ◌⊎◌, ℕ, ◌+◌, ◌<◌, get_or, sym, ap, ◌∙◌, inl, inr, ⊎_elim, arith}
use mathlib.Core.Option.{some, some-injective}
use lib.ListN.{get_elem?}
use Rattle.std.specs.Prelude.{Option, Some, None}
use Rattle.dk_turns.specs.declared.layout.TheConstants.{TURNS}
use Rattle.dk_turns.specs.Events.{Fact, LastingFact}
use Rattle.dk_turns.specs.Rule.{HoldsAt, MatchesHolder, Rule, TableState, TakenByOne}
use Rattle.dk_turns.specs.TurnStates.{TurnState, turn_held_by}
use Rattle.dk_turns.proofs.StepLemmas.{state_at, free}

module _ (P N : Type 0) (holds : Fact P N) (lasts : LastingFact P N) where
  -- what the pass at the seat makes of the turn's state
  state_is : (s : TableState P N) (r : Rule holds lasts s) (t id : ℕ) (h : HoldsAt s t id)
      → get_elem? r.states t ≡ some (turn_held_by h.view.knowledge.number h.part)
  state_is s r t id h = ((r.each_pass id h.view h.at h.here).holding t h.part h.holds).0

  same_holder : (m n : ℕ) (p q : P) → turn_held_by m p ≡ turn_held_by n q → m ≡ n
  same_holder m n p q e = let h : Some m ≡ Some n = ap (λ (d : TurnState P). d.holder) e in cc

  by_state : (s : TableState P N) (t : ℕ) (p : P) (o : Option ℕ) → MatchesHolder s.words s.homes s.views t p o
      → (get_or s.words (t + 1) 0 ≡ 0) ⊎ ((get_or s.words (t + 1) 0 ≡ 1) × ((id : ℕ) × HoldsAt s t id))
  by_state s t p None h = inl h.0
  by_state s t p (Some n) h = inr
      (h.0, (h.1.id, record { view = h.1.view; part = p; at = h.1.at; here = h.1.here; holds = h.1.holds }))

  pub taken_by_one : (s : TableState P N) → Rule holds lasts s → (t : ℕ) → t < TURNS → TakenByOne s t
  taken_by_one s r t small =
      let d = state_at P N holds lasts s r t small in
      let sits = r.each_turn t d.0 d.1 in
      let cases = by_state s t d.0.part d.0.holder sits in record {
        word = ⊎_elim (λ (z : get_or s.words (t + 1) 0 ≡ 0). inl z)
            (λ (z : (get_or s.words (t + 1) 0 ≡ 1) × ((id : ℕ) × HoldsAt s t id)). inr z.0) cases;
        held = λ e. ⊎_elim (λ (z : get_or s.words (t + 1) 0 ≡ 0). absurd (omega (arith, e, z)))
            (λ (z : (get_or s.words (t + 1) 0 ≡ 1) × ((id : ℕ) × HoldsAt s t id)). z.1) cases;
        taken = λ id h. (r.each_turn t (turn_held_by h.view.knowledge.number h.part) (state_is s r t id h)).0;
        one = λ id id' h h'.
            let same = same_holder h.view.knowledge.number h'.view.knowledge.number h.part h'.part
            (some-injective _ _ (sym (state_is s r t id h) ∙ state_is s r t id' h')) in
            sym (r.each_pass id h.view h.at h.here).seated ∙ ap r.seat same
            ∙ (r.each_pass id' h'.view h'.at h'.here).seated;
        full = λ e. (d.0.part, (free P N holds lasts s.words s.homes s.views t d.0.part d.0.holder e sits).1);
      }
