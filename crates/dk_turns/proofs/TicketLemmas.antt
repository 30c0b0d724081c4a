-- Tickets that are numbered from the key on, for the tests.
use Rattle.std.proofs.Common.{◌≡◌, ℕ, suc, ◌+◌, ◌<◌, ◌≤◌, List, [], ◌∷◌, ◌++◌, length, refl, sym, ap, ◌∙◌, subst, inl, arith, length-append}
use Rattle.std.proofs.lemmas.List.{length-map, map-append}
use Rattle.std.specs.Prelude.{Some}
use mathlib.Core.Logic.{dite}
use native.Mathlib.Decide.{ℕ_discrete}
use Rattle.dk_turns.specs.declared.knowledge.Event.{Event}
use Rattle.dk_turns.specs.declared.knowledge.Knowledge.{Knowledge}
use Rattle.dk_turns.specs.declared.layout.TheConstants.{TURNS}
use Rattle.dk_turns.specs.Events.{events_of, without_places}
use Rattle.dk_turns.specs.KnowledgeAfter.{AfterWait}
use Rattle.dk_turns.specs.LawfulSteps.{IsLawfulEvent, IsLawfulPutBack, MayMakeEvent}
use Rattle.dk_turns.specs.PassViews.{HeldView}
use Rattle.dk_turns.specs.Tickets.{CountsFrom, IsNumbered, KeepsUp}
use Rattle.dk_turns.specs.TurnStates.{Holds}
use Rattle.dk_turns.proofs.EventsLemmas.{events_of-own, events_of-other}

counts-snoc : (k : ℕ) (es : List (Event ℕ)) (e : Event ℕ) → e.note ≡ k + length es → CountsFrom k es
    → CountsFrom k (es ++ e ∷ [])
counts-snoc k [] e is h = (omega (arith, is), tt)
counts-snoc k (x ∷ xs) e is h = (h.0, counts-snoc (suc k) xs e (omega (arith, is)) h.1)

-- one more event of the pass, with the next number
numbered-snoc : (key : ℕ) (log : List (Event ℕ)) (e : Event ℕ) → e.note ≡ key + length (events_of e.by log)
    → ((n : ℕ) → CountsFrom key (without_places (events_of n log)))
    → (n : ℕ) → CountsFrom key (without_places (events_of n (log ++ e ∷ [])))
numbered-snoc key log e is h n = dite (ℕ_discrete e.by n)
    (λ same. subst (λ (l : List (ℕ × Event ℕ)). CountsFrom key (without_places l)) (sym (events_of-own n log e same))
    (subst (CountsFrom key) (sym (map-append (λ (x : ℕ × Event ℕ). x.1) (events_of n log) ((length log, e) ∷ [])))
    (counts-snoc key (without_places (events_of n log)) e
    (is ∙ ap (λ (m : ℕ). key + length (events_of m log)) same
    ∙ ap (λ (m : ℕ). key + m) (sym (length-map (events_of n log) (λ (x : ℕ × Event ℕ). x.1)))) (h n))))
    (λ ne. subst (λ (l : List (ℕ × Event ℕ)). CountsFrom key (without_places l)) (sym (events_of-other n log e ne))
    (h n))

pub sells : (key : ℕ) (v : Knowledge ℕ ℕ) (t p q : ℕ) → p ≤ q → length v.events + 1 ≤ q
    → IsLawfulEvent (IsNumbered key) KeepsUp v t p (key + length v.events) q
sells key v t p q more enough log states given = record {
  kept = numbered-snoc key log (record { by = v.number; turn = Some t; note = key + length v.events })
      (ap (λ (l : List (ℕ × Event ℕ)). key + length l) given.mine) given.kept;
  others = λ n before after y ne _ l. omega (arith, l);
  here = λ before after y _ l. omega (arith, l);
  besides = λ u before after y d ne at _ l. l;
  noted = omega (
    arith,
    enough,
    length-append (without_places v.events)
        ((record { by = v.number; turn = Some t; note = key + length v.events }) ∷ []),
    length-map v.events (λ (x : ℕ × Event ℕ). x.1),
  );
}

pub returns_part : (key : ℕ) (v : Knowledge ℕ ℕ) (t p q : ℕ) → p ≤ q → length v.events ≤ q
    → IsLawfulPutBack (IsNumbered key) KeepsUp v t p q
returns_part key v t p q more enough log states given = record {
  kept = λ o. given.kept;
  all = λ n before after y _ l. omega (arith, l);
  noted = omega (arith, enough, length-map v.events (λ (x : ℕ × Event ℕ). x.1));
}

-- a turn that was taken after a wait, with a part that has kept up
pub may_sell : (key : ℕ) (v w : Knowledge ℕ ℕ) (turn p x : ℕ) (held : HeldView ℕ) → turn < TURNS
    → AfterWait turn p v w → held.turn ≡ turn → p ≤ held.part → length v.events + 1 ≤ held.part
    → x ≡ key + length v.events
    → MayMakeEvent (IsNumbered key) KeepsUp w held x
may_sell key v w turn p x held small waited is more enough next =
    let same : w.events ≡ v.events = ap (λ (s : Knowledge ℕ ℕ). s.events) waited.1 in
    let has : Holds w.held turn p = subst (λ (s : Knowledge ℕ ℕ). Holds s.held turn p) (sym waited.1)
    (inl (refl, refl)) in
    let note : key + length w.events ≡ x = ap (λ (l : List (ℕ × Event ℕ)). key + length l) same ∙ sym next in (
      subst (λ (z : ℕ). z < TURNS) (sym is) small,
      (
        p,
        subst (λ (z : ℕ). Holds w.held z p) (sym is) has,
        subst (λ (z : ℕ). IsLawfulEvent (IsNumbered key) KeepsUp w held.turn p z held.part) note
            (sells key w held.turn p held.part more
            (subst (λ (l : List (ℕ × Event ℕ)). length l + 1 ≤ held.part) (sym same) enough)),
      ),
    )
