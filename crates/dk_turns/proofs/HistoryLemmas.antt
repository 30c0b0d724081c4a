-- What the last pass says of the one history.
use Rattle.std.proofs.Common.{◌≡◌, ℕ, ◌≤◌, List, [], length, map, sym, ap, ◌∙◌, subst, ⊎_elim, arith}
use mathlib.Core.Option.{some}
use lib.ListN.{get_elem?}
use Rattle.std.specs.Prelude.{Option, Some}
use Rattle.atomic_table.specs.Table.{State}
use Rattle.atomic_table.specs.Table as table
use Rattle.dk_turns.specs.declared.knowledge.EndedPass.{EndedPass}
use Rattle.dk_turns.specs.declared.knowledge.MidStep.{MidStep}
use Rattle.dk_turns.specs.Events.{Fact, LastingFact, events_of}
use Rattle.dk_turns.specs.History.{History}
use Rattle.dk_turns.specs.PassViews.{IsWhole, JoinsAll, PassView, numbers_given}
use Rattle.dk_turns.specs.Rule.{IsLast, PassFacts, Rule, TableState}
use Rattle.dk_turns.specs.TurnStates.{Among, free_turn}
use Rattle.dk_turns.proofs.EventsLemmas.{wider_self}
use Rattle.dk_turns.proofs.LifecycleLemmas.{states_are_parts}
use Rattle.dk_turns.proofs.PlaceLemmas.{at_places, each_place_once}

module _ (P N : Type 0) (holds : Fact P N) (lasts : LastingFact P N) where
  pub history : (s : TableState P N) (id : ℕ) (v : MidStep P N) → IsLast v → table.Seen (Rule holds lasts) id v s
      → (passes : List (PassView P N)) → IsWhole passes → JoinsAll passes v → (parts : List P) (slots : List (Option P))
      → map Some parts ≡ slots → length s.homes ≡ length slots
      → ((k : ℕ) (o : Option P) → get_elem? s.homes k ≡ some (some o) → get_elem? slots k ≡ some o)
      → History holds passes parts
  history s id v last seen passes whole joined parts slots are long values = record {
    log = r.log;
    kept = subst (holds r.log) states (r.kept r.states (wider_self r.states));
    mine = mine;
    no_others = no_others;
    at_places = at_places passes r.log mine;
    places = each_place_once passes r.log mine whole no_others;
  }
    where
      r : Rule holds lasts s
      r = seen.0

      old : PassFacts holds lasts r.total r.seat r.log r.states s.homes id v
      old = r.each_pass id v seen.1 last.live

      states : r.states ≡ map free_turn parts
      states = states_are_parts P N holds lasts s id v last seen parts (ap length are ∙ sym long ∙ r.homes_are)
          (λ k o e. ap (λ l. get_elem? l k) are ∙ values k o e)

      mine : (p : PassView P N) → Among passes p → p.knowledge.events ≡ events_of p.knowledge.number r.log
      mine p h = ⊎_elim
          (λ (x : (p.knowledge.number ≡ v.knowledge.number) × (p.knowledge.events ≡ v.knowledge.events)). x.1
          ∙ old.made ∙ ap (λ (n : ℕ). events_of n r.log) (sym x.0))
          (λ (x : (e : EndedPass N) × Among v.knowledge.ended e × (e.number ≡ p.knowledge.number)
          × (e.events ≡ p.knowledge.events)). sym x.3 ∙ (old.joined x.0 x.1).3
          ∙ ap (λ (n : ℕ). events_of n r.log) x.2)
          (joined.1 p h)

      no_others : (n : ℕ) → numbers_given passes ≤ n → events_of n r.log ≡ []
      no_others n big = r.unborn n (let total = (old.giving last.gives).0 in let all = joined.0 in
          omega (arith, total, all, big))
