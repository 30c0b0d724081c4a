-- What a pass knows after it has waited.
use Rattle.std.proofs.Common.{◌≡◌, ℕ, List, [], ◌++◌, refl, sym, ap, ◌∙◌, subst, append_assoc, append-nil}
use Rattle.dk_turns.specs.declared.knowledge.Knowledge.{Knowledge}
use Rattle.dk_turns.specs.Events.{LastingFact}
use Rattle.dk_turns.specs.KnowledgeAfter.{AfterWait, NotedFactsHold, after_refusals, after_take}

module _ {P N : Type 0} where
  abbrev with_refused : Knowledge P N → List ℕ → Knowledge P N
  with_refused v l = record v { refused = l }

  -- words said "taken" at some steps
  abbrev pub Refused : Knowledge P N → Knowledge P N → Type 0
  Refused v w = (times : List ℕ) × (w ≡ after_refusals times v)

  pub not_refused : (v : Knowledge P N) → Refused v v
  not_refused v = ([], ap (with_refused v) (sym (append-nil v.refused)))

  pub refused_more : (v w x : Knowledge P N) (times : List ℕ) → Refused v w → x ≡ after_refusals times w → Refused v x
  refused_more v w x times h e = (
    h.0 ++ times,
    e ∙ ap (after_refusals times) h.1
        ∙ ap (with_refused v) (append_assoc v.refused h.0 times),
  )

  pub waited_since : (v w x : Knowledge P N) (t : ℕ) (p : P) → Refused v w → AfterWait t p w x → AfterWait t p v x
  waited_since v w x t p h e =
      let r = refused_more v w (after_refusals e.0 w) e.0 h refl in
      (r.0, e.1 ∙ ap (after_take t p) r.1)

  pub taken_after : (v w x : Knowledge P N) (t : ℕ) (p : P) → Refused v w → x ≡ after_take t p w → AfterWait t p v x
  taken_after v w x t p h e = (h.0, e ∙ ap (after_take t p) h.1)

  pub lasting_since : (lasts : LastingFact P N) (v w : Knowledge P N) (t : ℕ) (p : P) → Refused v w
      → NotedFactsHold lasts w t p → NotedFactsHold lasts v t p
  lasting_since lasts v w t p h l = subst (λ (x : Knowledge P N). NotedFactsHold lasts x t p) h.1 l
