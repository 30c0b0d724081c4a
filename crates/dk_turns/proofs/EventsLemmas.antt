-- Own events in the history, and wider desks.
use Rattle.std.proofs.Common.{◌≡◌, ◌≢◌, ℕ, zero, suc, ◌+◌, eqb, cond, Bool, true, false, List, [], ◌∷◌, ◌++◌, length, set, refl, sym, ap, ◌∙◌, arith, append-nil, length-set}
use mathlib.Core.Option.{some, some-injective}
use mathlib.Core.Logic.{dite}
use native.Mathlib.Decide.{ℕ_discrete}
use lib.ListN.{get_elem?}
use Rattle.std.specs.Prelude.{Some, None}
use Rattle.atomic_table.proofs.Lists.{set_here, set_else, set_again}
use Rattle.dk_turns.specs.declared.knowledge.Event.{Event}
use Rattle.dk_turns.specs.Events.{events_from, events_of}
use Rattle.dk_turns.specs.Rule.{Wider}
use Rattle.dk_turns.specs.TurnStates.{TurnState, turn_held_by}
use Rattle.dk_turns.proofs.TurnListLemmas.{chosen, passed_over}
use Rattle.dk_turns.proofs.RuleLemmas.{within}

module _ {N : Type 0} where
  -- the last event, if it is the pass's own
  abbrev own_last : ℕ → ℕ → Event N → List (ℕ × Event N)
  own_last n k e = cond (eqb e.by n) ((k, e) ∷ []) []

  last_place : (n k j : ℕ) (e : Event N) → k ≡ j → own_last n k e ≡ own_last n j e
  last_place n k j e is = ap (λ (z : ℕ). own_last n z e) is

  events_from-snoc : (n k : ℕ) (log : List (Event N)) (e : Event N)
      → events_from n k (log ++ e ∷ []) ≡ events_from n k log ++ own_last n (k + length log) e
  events_from-snoc n k [] e = last_place n k (k + 0) e (omega arith)
  events_from-snoc n k (x ∷ xs) e =
      let rest = events_from-snoc n (suc k) xs e
      ∙ ap (λ l. events_from n (suc k) xs ++ l)
      (last_place n (suc k + length xs) (k + suc (length xs)) e (omega arith)) in
      first (eqb x.by n) (events_from n (suc k) (xs ++ e ∷ [])) (events_from n (suc k) xs)
      (own_last n (k + suc (length xs)) e) rest
    where
      first : (b : Bool) (l m t : List (ℕ × Event N)) → l ≡ m ++ t → cond b ((k, x) ∷ l) l ≡ cond b ((k, x) ∷ m) m ++ t
      first true l m t h = ap (λ z. (k, x) ∷ z) h
      first false l m t h = h

  pub events_of-own : (n : ℕ) (log : List (Event N)) (e : Event N) → e.by ≡ n
      → events_of n (log ++ e ∷ []) ≡ events_of n log ++ (length log, e) ∷ []
  events_of-own n log e is = events_from-snoc n 0 log e
      ∙ ap (λ l. events_of n log ++ l) (chosen e.by n ((0 + length log, e) ∷ []) [] is
      ∙ ap (λ (z : ℕ). (z, e) ∷ []) (let h : 0 + length log ≡ length log = omega arith in h))

  pub events_of-other : (n : ℕ) (log : List (Event N)) (e : Event N) → e.by ≢ n
      → events_of n (log ++ e ∷ []) ≡ events_of n log
  events_of-other n log e ne = events_from-snoc n 0 log e
      ∙ ap (λ l. events_of n log ++ l) (passed_over e.by n ((0 + length log, e) ∷ []) [] ne)
      ∙ append-nil (events_of n log)

module _ {P : Type 0} where
  set-set : (l : List (TurnState P)) (i : ℕ) (a b : TurnState P) → set (set l i a) i b ≡ set l i b
  set-set [] i a b = refl
  set-set (x ∷ xs) zero a b = refl
  set-set (x ∷ xs) (suc i) a b = ap (λ l. x ∷ l) (set-set xs i a b)

  pub set_back : (l : List (TurnState P)) (t : ℕ) (d w : TurnState P) → get_elem? l t ≡ some w → set (set l t d) t w ≡ l
  set_back l t d w e = set-set l t d w ∙ set_again l t w e

  pub wider_self : (l : List (TurnState P)) → Wider l l
  wider_self l = record { long = refl; same = λ t d e. (d, e, refl, λ n _. refl) }

  -- what is wider once a turn was taken was so before
  pub wider_taken : (l wider : List (TurnState P)) (t n : ℕ) (d : TurnState P) → get_elem? l t ≡ some d
      → d.holder ≡ None → Wider (set l t (turn_held_by n d.part)) wider → Wider l wider
  wider_taken l wider t n d at free h = record {
    long = h.long ∙ length-set l t (turn_held_by n d.part);
    same = λ u x e. dite (ℕ_discrete u t)
        (λ is.
        let was : d ≡ x = some-injective d x (sym at ∙ ap (get_elem? l) (sym is) ∙ e) in
        let g = h.same t (turn_held_by n d.part) (set_here l t (turn_held_by n d.part) (within l t d at)) in (
          g.0,
          ap (get_elem? wider) is ∙ g.1,
          g.2
              ∙ ap (λ (y : TurnState P). y.part) was,
          λ m held. absurd (none_is_some m (sym free ∙ ap (λ (y : TurnState P). y.holder) was ∙ held)),
        ))
        (λ ne. h.same u x (set_else l t u (turn_held_by n d.part) ne ∙ e));
  }
    where
      none_is_some : (m : ℕ) → None ≡ Some m → ⊥
      none_is_some m e = cc

  -- the desks before a step under the turn t, and wider ones with what the step changed put back
  pub wider_back : (l wider : List (TurnState P)) (t : ℕ) (d d' : TurnState P) → get_elem? l t ≡ some d
      → Wider (set l t d') wider → Wider l (set wider t d)
  wider_back l wider t d d' at h = record {
    long = length-set wider t d ∙ h.long ∙ length-set l t d';
    same = λ u x e. dite (ℕ_discrete u t)
        (λ is.
        let was : d ≡ x = some-injective d x (sym at ∙ ap (get_elem? l) (sym is) ∙ e) in
        let there = h.same t d' (set_here l t d' (within l t d at)) in (
          d,
          ap (get_elem? (set wider t d)) is ∙ set_here wider t d (within wider t there.0 there.1),
          ap (λ (y : TurnState P). y.part) was,
          λ m _. was,
        ))
        (λ ne. let g = h.same u x (set_else l t u d' ne ∙ e) in (g.0, set_else wider t u d ne ∙ g.1, g.2, g.3));
  }
