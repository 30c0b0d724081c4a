-- What a pass has between the steps of one call.
use Rattle.std.proofs.Common.{◌≡◌, ℕ, suc, List, [], ◌∷◌, false, refl, sym, ap, ◌∙◌, subst, inl}
use Rattle.std.specs.Prelude.{Option}
use Rattle.atomic_table.specs.Table.{rest}
use Rattle.dk_turns.specs.declared.knowledge.Knowledge.{Knowledge}
use Rattle.dk_turns.specs.Events.{Fact, LastingFact}
use Rattle.dk_turns.specs.KnowledgeAfter.{NotedFactsHold, after_event, after_take}
use Rattle.dk_turns.specs.LawfulSteps.{IsLawfulPutBack}
use Rattle.dk_turns.specs.StepOutcomes.{IsIdle, SeatState, with_hand}
use Rattle.dk_turns.specs.TurnStates.{Holds}
use Rattle.dk_turns.proofs.TurnListLemmas.{first_is}

headed : {P : Type 0} (x : ℕ × Option P) (l xs : List (ℕ × Option P)) → l ≡ x ∷ xs → l ≡ x ∷ rest l
headed {P = P} x l xs e = subst (λ (y : List (ℕ × Option P)). y ≡ x ∷ rest y) (sym e) refl

module _ {P N : Type 0} where
  -- the slot t is out, in the hand of the pass
  pub record Out (m : SeatState P N) (t : ℕ) (o : Option P) (v : Knowledge P N) : Type 0 where
    pub live : m.0.spent ≡ false
    pub hand : m.0.hand ≡ suc t
    pub knowledge : m.0.knowledge ≡ v
    pub out : m.1 ≡ (t, o) ∷ []

  pub out_first : (m : SeatState P N) (t : ℕ) (o : Option P) (v : Knowledge P N) → Out m t o v → m.1 ≡ (t, o) ∷ rest m.1
  out_first m t o v h = headed (t, o) m.1 [] h.out

  pub out_value : (m : SeatState P N) (t : ℕ) (o r : Option P) (v : Knowledge P N) → Out m t o v
      → m.1 ≡ (t, r) ∷ rest m.1 → r ≡ o
  out_value m t o r v h e = first_is m.1 t t o r [] (rest m.1) h.out e

  -- a slot was taken out
  pub taken_out : (m m' : SeatState P N) (t : ℕ) (o : Option P) (v : Knowledge P N) → IsIdle m
      → m' ≡ (with_hand (suc t) v m.0, (t, o) ∷ m.1) → Out m' t o v
  taken_out m m' t o v idle e = record {
    live = ap (λ (x : SeatState P N). x.0.spent) e ∙ idle.1;
    hand = ap (λ (x : SeatState P N). x.0.hand) e;
    knowledge = ap (λ (x : SeatState P N). x.0.knowledge) e;
    out = ap (λ (x : SeatState P N). x.1) e ∙ ap (λ l. (t, o) ∷ l) idle.0;
  }

  -- another value went into it
  pub swapped : (m m' : SeatState P N) (t : ℕ) (o o' : Option P) (v : Knowledge P N) → Out m t o v
      → m' ≡ (m.0, (t, o') ∷ rest m.1) → Out m' t o' v
  swapped m m' t o o' v h e = record {
    live = ap (λ (x : SeatState P N). x.0.spent) e ∙ h.live;
    hand = ap (λ (x : SeatState P N). x.0.hand) e ∙ h.hand;
    knowledge = ap (λ (x : SeatState P N). x.0.knowledge) e ∙ h.knowledge;
    out = ap (λ (x : SeatState P N). x.1) e ∙ ap (λ l. (t, o') ∷ rest l) h.out;
  }

  -- it went home
  pub home_again : (m m' : SeatState P N) (t : ℕ) (o : Option P) (v w : Knowledge P N) → Out m t o v
      → m' ≡ (with_hand 0 w m.0, rest m.1) → IsIdle m' × (m'.0.knowledge ≡ w)
  home_again m m' t o v w h e = (
    (
      ap (λ (x : SeatState P N). x.1) e ∙ ap rest h.out,
      ap (λ (x : SeatState P N). x.0.spent) e
          ∙ h.live,
      ap (λ (x : SeatState P N). x.0.hand) e,
    ),
    ap (λ (x : SeatState P N). x.0.knowledge) e,
  )

  -- a slot was taken out with a value, and another went into it
  pub exchanged : (m m' m'' : SeatState P N) (t : ℕ) (o o' : Option P) (v : Knowledge P N) → IsIdle m
      → m' ≡ (with_hand (suc t) v m.0, (t, o) ∷ m.1) → m'' ≡ (m'.0, (t, o') ∷ rest m'.1) → Out m'' t o' v
  exchanged m m' m'' t o o' v idle out e = swapped m' m'' t o o' v (taken_out m m' t o v idle out) e

  -- and it went home
  pub sent_home : (m m' m'' w : SeatState P N) (t : ℕ) (o o' : Option P) (v : Knowledge P N)
      (after : Knowledge P N → Knowledge P N) → IsIdle m
      → m' ≡ (with_hand (suc t) v m.0, (t, o) ∷ m.1) → m'' ≡ (m'.0, (t, o') ∷ rest m'.1)
      → (m''.1 ≡ (t, o') ∷ rest m''.1 → w ≡ (with_hand 0 (after m''.0.knowledge) m''.0, rest m''.1))
      → IsIdle w × (w.0.knowledge ≡ after v)
  sent_home m m' m'' w t o o' v after idle out e home =
      let now = exchanged m m' m'' t o o' v idle out e in
      let back = home_again m'' w t o' _ _ now (home (out_first _ _ _ _ now)) in
      (back.0, back.1 ∙ ap after now.knowledge)

  -- nothing was taken
  pub missed : (m m' : SeatState P N) (w : Knowledge P N) → IsIdle m → m' ≡ (with_hand m.0.hand w m.0, m.1)
      → IsIdle m' × (m'.0.knowledge ≡ w)
  missed m m' w idle e = (
    (
      ap (λ (x : SeatState P N). x.1) e ∙ idle.0,
      ap (λ (x : SeatState P N). x.0.spent) e
          ∙ idle.1,
      ap (λ (x : SeatState P N). x.0.hand) e ∙ idle.2,
    ),
    ap (λ (x : SeatState P N). x.0.knowledge) e,
  )

  pub holds_in : (v w : Knowledge P N) (t : ℕ) (p : P) → v ≡ w → Holds w.held t p → Holds v.held t p
  holds_in v w t p e h = subst (λ (x : Knowledge P N). Holds x.held t p) (sym e) h

  pub holds_taking : (v : Knowledge P N) (t : ℕ) (p : P) → Holds (after_take t p v).held t p
  holds_taking v t p = inl (refl, refl)

  pub taking_value : (t : ℕ) (a b : P) (v : Knowledge P N) → a ≡ b → after_take t a v ≡ after_take t b v
  taking_value t a b v e = ap (λ (x : P). after_take t x v) e

  pub lasting_value : (lasts : LastingFact P N) (t : ℕ) (a b : P) (v : Knowledge P N) → a ≡ b
      → NotedFactsHold lasts v t a → NotedFactsHold lasts v t b
  lasting_value lasts t a b v e l = subst (λ (x : P). NotedFactsHold lasts v t x) e l

  -- an event was made, or the clock was read
  pub kept_still : (m m' : SeatState P N) (w : Knowledge P N) → IsIdle m → m' ≡ (with_hand m.0.hand w m.0, m.1)
      → IsIdle m' × (m'.0.knowledge ≡ w)
  kept_still m m' w idle e = missed m m' w idle e

  pub puts_in : (holds : Fact P N) (lasts : LastingFact P N) (v w : Knowledge P N) (t : ℕ) (p q : P) → v ≡ w
      → IsLawfulPutBack holds lasts w t p q → IsLawfulPutBack holds lasts v t p q
  puts_in holds lasts v w t p q e h = subst (λ (x : Knowledge P N). IsLawfulPutBack holds lasts x t p q) (sym e) h

  pub making_turn : (t u : ℕ) (p : P) (x : N) (k : ℕ) (v : Knowledge P N) → t ≡ u
      → after_event t p x k v ≡ after_event u p x k v
  making_turn t u p x k v e = ap (λ (z : ℕ). after_event z p x k v) e
