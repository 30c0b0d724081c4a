-- The places of all passes are the numbers below the number of events, each once.
use Rattle.std.proofs.Common.{◌≡◌, ℕ, zero, suc, ◌+◌, ◌<◌, ◌≤◌, List, [], ◌∷◌, length, refl, sym, ap, ◌∙◌, subst, inl, inr, ⊎_elim, arith}
use mathlib.Core.Option.{some, some-injective, some-ne-none}
use lib.ListN.{get_elem?}
use Rattle.std.proofs.lemmas.Bool.{cases_lt}
use Rattle.dk_turns.specs.declared.knowledge.Event.{Event}
use Rattle.dk_turns.specs.Events.{events_from, events_of}
use Rattle.dk_turns.specs.History.{EachPlaceOnce, PlacesRise}
use Rattle.dk_turns.specs.PassViews.{IsWhole, PassView, numbers_given}
use Rattle.dk_turns.specs.TurnStates.{Among}
use Rattle.dk_turns.proofs.TurnListLemmas.{choice}
use Rattle.dk_turns.proofs.RuleLemmas.{within, there}

module _ {N : Type 0} where
  -- x is the event at its place, counted from k on, and is the pass's
  record Stands (n k : ℕ) (log : List (Event N)) (x : ℕ × Event N) : Type 0 where
    pub index : ℕ
    pub place : x.0 ≡ k + index
    pub at : get_elem? log index ≡ some x.1
    pub by : x.1.by ≡ n

  stands_later : (n k : ℕ) (e : Event N) (es : List (Event N)) (x : ℕ × Event N) → Stands n (suc k) es x
      → Stands n k (e ∷ es) x
  stands_later n k e es x i = record
      { index = suc i.index; place = (let p = i.place in omega (arith, p)); at = i.at; by = i.by }

  events_of-at : (n k : ℕ) (log : List (Event N)) (x : ℕ × Event N) → Among (events_from n k log) x → Stands n k log x
  events_of-at n k [] x h = absurd h
  events_of-at n k (e ∷ es) x h = choice e.by n ((k, e) ∷ events_from n (suc k) es) (events_from n (suc k) es)
      (λ l. Among l x → Stands n k (e ∷ es) x)
      (λ is y. ⊎_elim
      (λ (z : ◌≡◌ {A = ℕ × Event N} (k, e) x). record {
        index = 0;
        place = (let p : k ≡ x.0 = ap (λ (w : ℕ × Event N). w.0) z in omega (arith, p));
        at = ap
            (λ (w : ℕ × Event N). some w.1) z;
        by = sym (ap (λ (w : ℕ × Event N). w.1.by) z) ∙ is;
      })
      (λ (z : Among (events_from n (suc k) es) x). stands_later n k e es x (events_of-at n (suc k) es x z))
      y)
      (λ ne y. stands_later n k e es x (events_of-at n (suc k) es x y))
      h

  same_pair : (a b : ℕ) (c d : Event N) → a ≡ b → c ≡ d → ◌≡◌ {A = ℕ × Event N} (a, c) (b, d)
  same_pair a b c d p q = λ i. (p i, q i)

  events_of-has : (n k i : ℕ) (log : List (Event N)) (e : Event N) → get_elem? log i ≡ some e → e.by ≡ n
      → Among (events_from n k log) (k + i, e)
  events_of-has n k i [] e at is = absurd (some-ne-none e (sym at))
  events_of-has n k zero (x ∷ xs) e at is =
      let same : x ≡ e = some-injective x e at in
      choice x.by n ((k, x) ∷ events_from n (suc k) xs) (events_from n (suc k) xs) (λ l. Among l (k + 0, e))
      (λ y. inl (same_pair k (k + 0) x e (omega arith) same))
      (λ ne. absurd (ne (ap (λ (m : Event N). m.by) same ∙ is)))
  events_of-has n k (suc i) (x ∷ xs) e at is =
      let rest : Among (events_from n (suc k) xs) (k + suc i, e) = subst
      (λ (z : ℕ). Among (events_from n (suc k) xs) (z, e)) (let h : suc k + i ≡ k + suc i = omega arith in h)
      (events_of-has n (suc k) i xs e at is) in
      choice x.by n ((k, x) ∷ events_from n (suc k) xs) (events_from n (suc k) xs) (λ l. Among l (k + suc i, e))
      (λ y. inr rest) (λ ne. rest)

  events_of-rise : (n k : ℕ) (log : List (Event N)) → PlacesRise (events_from n k log)
  events_of-rise n k [] = tt
  events_of-rise n k (e ∷ es) = choice e.by n ((k, e) ∷ events_from n (suc k) es) (events_from n (suc k) es)
      (λ l. PlacesRise l)
      (λ is. (
        λ x h. let s = events_of-at n (suc k) es x h in let p = s.place in
            omega (arith, p),
        events_of-rise n (suc k) es,
      ))
      (λ ne. events_of-rise n (suc k) es)

-- the passes have all events of the history, each pass its own
module _ {P N : Type 0} (ps : List (PassView P N)) (log : List (Event N)) (mine : (p : PassView P N) → Among ps p
    → p.knowledge.events ≡ events_of p.knowledge.number log) where
  -- the event at a place, where one of these passes has it
  stands : (p : PassView P N) → Among ps p → (k : ℕ) (e : Event N) → Among p.knowledge.events (k, e)
      → (get_elem? log k ≡ some e) × (e.by ≡ p.knowledge.number)
  stands p a k e b =
      let s = events_of-at p.knowledge.number 0 log (k, e) (subst (λ l. Among l (k, e)) (mine p a) b) in
      let place : s.index ≡ k = (let q = s.place in omega (arith, q)) in
      (ap (get_elem? log) (sym place) ∙ s.at, s.by)

  pub at_places : (p : PassView P N) → Among ps p → (k : ℕ) (e : Event N) → Among p.knowledge.events (k, e)
      → get_elem? log k ≡ some e
  at_places p a k e b = (stands p a k e b).0

  pub each_place_once : IsWhole ps → ((n : ℕ) → numbers_given ps ≤ n → events_of n log ≡ [])
      → EachPlaceOnce ps (length log)
  each_place_once whole no_others = record {
    below = λ p a k e b. within log k e (at_places p a k e b);
    all = λ k small.
        let e = there log k small in
        let has : Among (events_of e.0.by log) (k, e.0) = subst (λ (z : ℕ). Among (events_of e.0.by log) (z, e.0))
        (let z : 0 + k ≡ k = omega arith in z) (events_of-has e.0.by 0 k log e.0 e.1 refl) in
        let p = whole.1 e.0.by (counted e.0.by (k, e.0) has) in
        (p.0, p.1, (e.0, subst (λ l. Among l (k, e.0)) (sym (mine p.0 p.1 ∙ ap (λ (n : ℕ). events_of n log) p.2)) has));
    once = λ p q a b k e f x y.
        let s = stands p a k e x in
        let t = stands q b k f y in
        let same : e ≡ f = some-injective e f (sym s.0 ∙ t.0) in
        (sym s.1 ∙ ap (λ (m : Event N). m.by) same ∙ t.1, same);
    rise = λ p a. subst PlacesRise (sym (mine p a)) (events_of-rise p.knowledge.number 0 log);
  }
    where
      counted : (n : ℕ) (x : ℕ × Event N) → Among (events_of n log) x → n < numbers_given ps
      counted n x a = ⊎_elim (λ (l : n < numbers_given ps). l)
          (λ (big : numbers_given ps ≤ n). absurd (subst (λ l. Among l x) (no_others n big) a))
          (cases_lt n (numbers_given ps))
