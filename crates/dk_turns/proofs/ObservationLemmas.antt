-- What a pass noted has all its events, before and after.
use Rattle.std.proofs.Common.{◌≡◌, ◌⊎◌, ℕ, List, [], ◌∷◌, ◌++◌, map, sym, ap, ◌∙◌, subst, ⊎_elim, append_assoc, append-nil}
use Rattle.std.proofs.lemmas.List.{map-append}
use Rattle.dk_turns.specs.declared.knowledge.Event.{Event}
use Rattle.dk_turns.specs.declared.knowledge.Observation.{Observation}
use Rattle.dk_turns.specs.Events.{without_places}
use Rattle.dk_turns.specs.KnowledgeAfter.{observation, with_event}
use Rattle.dk_turns.specs.TurnStates.{Among}
use Rattle.dk_turns.proofs.TurnListLemmas.{among_append, among_map}

module _ (P N : Type 0) where
  abbrev pub HasAll : List (ℕ × Event N) → Observation P N → Type 0
  HasAll es m = m.before ++ m.after ≡ without_places es

  without_places-snoc : (es : List (ℕ × Event N)) (k : ℕ) (e : Event N)
      → without_places (es ++ (k, e) ∷ []) ≡ without_places es ++ e ∷ []
  without_places-snoc es k e = map-append (λ (x : ℕ × Event N). x.1) es ((k, e) ∷ [])

  later_has_all : (es : List (ℕ × Event N)) (k : ℕ) (e : Event N) (m : Observation P N) → HasAll es m
      → HasAll (es ++ (k, e) ∷ []) (with_event e m)
  later_has_all es k e m h = sym (append_assoc m.before m.after (e ∷ [])) ∙ ap (λ (l : List (Event N)). l ++ e ∷ []) h
      ∙ sym (without_places-snoc es k e)

  pub all_later : (es : List (ℕ × Event N)) (k : ℕ) (e : Event N) (ms : List (Observation P N))
      → ((m : Observation P N) → Among ms m → HasAll es m)
      → (m : Observation P N) → Among (map (with_event e) ms) m → HasAll (es ++ (k, e) ∷ []) m
  all_later es k e ms all m h = let c = among_map (with_event e) ms m h in
      subst (HasAll (es ++ (k, e) ∷ [])) c.2 (later_has_all es k e c.0 (all c.0 c.1))

  pub one_more : (es : List (ℕ × Event N)) (ms : List (Observation P N)) (x : Observation P N)
      → ((m : Observation P N) → Among ms m → HasAll es m) → HasAll es x
      → (m : Observation P N) → Among (ms ++ x ∷ []) m → HasAll es m
  one_more es ms x all one m h = ⊎_elim (λ (y : Among ms m). all m y)
      (λ (y : (x ≡ m) ⊎ ⊥). ⊎_elim (λ (z : x ≡ m). subst (HasAll es) z one) (λ (z : ⊥). absurd z) y)
      (among_append ms (x ∷ []) m h)

  pub fresh_has_all : (es : List (ℕ × Event N)) (t : ℕ) (q : P) → HasAll es (observation t q (without_places es))
  fresh_has_all es t q = append-nil (without_places es)

  pub made_has_all : (es : List (ℕ × Event N)) (k : ℕ) (e : Event N) (t : ℕ) (q : P)
      → HasAll (es ++ (k, e) ∷ []) (observation t q (without_places es ++ e ∷ []))
  made_has_all es k e t q = append-nil (without_places es ++ e ∷ []) ∙ sym (without_places-snoc es k e)
