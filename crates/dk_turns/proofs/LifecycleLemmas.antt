-- How passes come and go, and how the table begins and ends.
use Rattle.std.proofs.Common.{◌≡◌, ◌≢◌, ◌⊎◌, ℕ, zero, suc, ◌+◌, ◌<◌, ◌≤◌, eqb, cond, true, false, List, [], ◌∷◌, ◌++◌, length, set, map, replicate, refl, sym, ap, ◌∙◌, subst, inl, inr, ⊎_elim, arith, length-set}
use Rattle.std.proofs.lemmas.List.{length-map, length-replicate, get_or-replicate}
use mathlib.Core.Option.{some, some-injective, some-ne-none}
use lib.ListN.{get_elem?}
use Rattle.std.specs.Prelude.{Option, Some, None}
use Rattle.atomic_table.specs.Table.{Splits, Joins, opening, Seen}
use Rattle.atomic_table.proofs.Lists.{at_set, set_else, at_longer}
use Rattle.dk_turns.specs.declared.knowledge.Event.{Event}
use Rattle.dk_turns.specs.declared.knowledge.EndedPass.{EndedPass}
use Rattle.dk_turns.specs.declared.knowledge.MidStep.{MidStep}
use Rattle.dk_turns.specs.declared.layout.TheConstants.{TURNS, WORDS}
use Rattle.dk_turns.specs.Counters.{total}
use Rattle.dk_turns.specs.Events.{Fact, LastingFact, events_of}
use Rattle.dk_turns.specs.KnowledgeAfter.{newcomer}
use Rattle.dk_turns.specs.Rule.{IsLast, MatchesHolder, PassFacts, Rule, Slots, TableState, TurnHolder, Wider}
use Rattle.dk_turns.specs.StepOutcomes.{joining_pass, new_pass, spent_pass, splitting_pass}
use Rattle.dk_turns.specs.TurnStates.{Among, Holds, TurnState, free_turn}
use Rattle.dk_turns.proofs.TurnListLemmas.{chosen, passed_over, among_append}
use Rattle.dk_turns.proofs.RuleLemmas.{holder_stays, within, there}

at_end : {A : Type 0} (l : List A) (a b : A) (j : ℕ) → get_elem? (l ++ a ∷ []) j ≡ some b → (get_elem? l j ≡ some b)
    ⊎ ((j ≡ length l) × (a ≡ b))
at_end [] a b zero e = inr (refl, some-injective a b e)
at_end [] a b (suc j) e = absurd (some-ne-none b (sym e))
at_end (x ∷ xs) a b zero e = inl e
at_end (x ∷ xs) a b (suc j) e = ⊎_elim (λ (y : get_elem? xs j ≡ some b). inl y)
    (λ (y : (j ≡ length xs) × (a ≡ b)). inr (ap suc y.0, y.1)) (at_end xs a b j e)

-- the next number gets a seat
abbrev seat_after : ℕ → ℕ → (ℕ → ℕ) → ℕ → ℕ
seat_after total new seat n = cond (eqb n total) new (seat n)

-- the numbers of one seat go to another
abbrev seat_merged : ℕ → ℕ → (ℕ → ℕ) → ℕ → ℕ
seat_merged other id seat n = cond (eqb (seat n) other) id (seat n)

module _ (P N : Type 0) (holds : Fact P N) (lasts : LastingFact P N) where
  holder_longer : (views : List (MidStep P N)) (x : MidStep P N) (n t : ℕ) (p : P) → TurnHolder views n t p
      → TurnHolder (views ++ x ∷ []) n t p
  holder_longer views x n t p h = record {
    id = h.id;
    view = h.view;
    at = at_longer views (x ∷ []) h.id h.view h.at;
    here = h.here;
    is = h.is;
    holds = h.holds;
  }

  -- the facts of a pass once numbers go to other seats, which keep its own: what it gave is told beside
  reseated : (total total' : ℕ) (seat seat' : ℕ → ℕ) (log : List (Event N)) (states : List (TurnState P))
      (homes : Slots P)
      (k : ℕ) (x : MidStep P N) → total ≤ total' → ((n : ℕ) → n < total → seat n ≡ k → seat' n ≡ k)
      → (x.knowledge.given ≢ 0 → (x.knowledge.given ≡ total') × (seat' 0 ≡ k))
      → PassFacts holds lasts total seat log states homes k x → PassFacts holds lasts total' seat' log states homes k x
  reseated total total' seat seat' log states homes k x more stays giving g = record {
    numbered = omega (arith, more, g.numbered);
    seated = stays x.knowledge.number g.numbered g.seated;
    giving = giving;
    joined = λ e h. let j = g.joined e h in (stays e.number j.2 j.0, j.1, omega (arith, more, j.2), j.3);
    holding = g.holding;
    made = g.made;
    seen = g.seen;
    since = g.since;
    noted = g.noted;
  }

  pub splits : (id : ℕ) (v : MidStep P N) → v.spent ≡ false → v.knowledge.given ≢ 0
      → Splits (Rule holds lasts) id v (splitting_pass v) (new_pass v)
  splits id v live gives s r at = record {
    total = r.total + 1;
    seat = (seat_after r.total (length s.views) r.seat);
    log = r.log;
    states = r.states;
    some_pass = omega arith;
    words_are = r.words_are;
    homes_are = r.homes_are;
    states_are = r.states_are;
    clock = r.clock;
    unborn = λ n big. r.unborn n (omega arith);
    kept = r.kept;
    each_turn = λ u x e. still u x.part x.holder (r.each_turn u x e);
    each_pass = λ k x e here. ⊎_elim
        (λ (h : get_elem? (set s.views id (splitting_pass v)) k ≡ some x). ⊎_elim
        (λ (i : (k ≡ id) × (splitting_pass v ≡ x)). subst
        (λ (y : ℕ × MidStep P N). PassFacts holds lasts (r.total + 1) (seat_after r.total (length s.views) r.seat)
        r.log r.states s.homes y.0 y.1) (λ l. (sym i.0 l, i.1 l)) ours)
        (λ (i : (k ≢ id) × (get_elem? s.views k ≡ some x)). theirs k x i.0 (r.each_pass k x i.1 here))
        (at_set s.views id k (splitting_pass v) x h))
        (λ (h : (k ≡ length (set s.views id (splitting_pass v))) × (new_pass v ≡ x)). subst
        (λ (y : ℕ × MidStep P N). PassFacts holds lasts (r.total + 1) (seat_after r.total (length s.views) r.seat)
        r.log r.states s.homes y.0 y.1) (λ l. (sym (h.0 ∙ length-set s.views id (splitting_pass v)) l, h.1 l))
        new)
        (at_end (set s.views id (splitting_pass v)) (new_pass v) x k e);
  }
    where
      seat_old : (n : ℕ) → n < r.total → (seat_after r.total (length s.views) r.seat) n ≡ r.seat n
      seat_old n h = passed_over n r.total (length s.views) (r.seat n) (λ e. omega arith)

      seat_new : (seat_after r.total (length s.views) r.seat) r.total ≡ length s.views
      seat_new = chosen r.total r.total (length s.views) (r.seat r.total) refl

      still : (u : ℕ) (p : P) (o : Option ℕ) → MatchesHolder s.words s.homes s.views u p o
          → MatchesHolder s.words s.homes (set s.views id (splitting_pass v) ++ new_pass v ∷ []) u p o
      still u p None h = h
      still u p (Some m) h = (
        h.0,
        holder_longer (set s.views id (splitting_pass v)) (new_pass v) m u p
            (holder_stays s.views id m u v (splitting_pass v) p (within s.views id v at) at live refl (λ x. x) h.1),
      )

      old : PassFacts holds lasts r.total r.seat r.log r.states s.homes id v
      old = r.each_pass id v at live

      giving : (v.knowledge.given ≡ r.total) × (r.seat 0 ≡ id)
      giving = old.giving gives

      ours : PassFacts holds lasts (r.total + 1) (seat_after r.total (length s.views) r.seat) r.log r.states s.homes
          id (splitting_pass v)
      ours = record {
        numbered = let h : v.knowledge.number < r.total = old.numbered in omega arith;
        seated = seat_old v.knowledge.number old.numbered ∙ old.seated;
        giving = λ _. (ap (λ (z : ℕ). z + 1) giving.0, seat_old 0 r.some_pass ∙ giving.1);
        joined = λ e h. let j = old.joined e h in
            (seat_old e.number j.2 ∙ j.0, j.1, (let g : e.number < r.total = j.2 in omega arith), j.3);
        holding = old.holding;
        made = old.made;
        seen = old.seen;
        since = old.since;
        noted = old.noted;
      }

      theirs : (k : ℕ) (x : MidStep P N) → k ≢ id → PassFacts holds lasts r.total r.seat r.log r.states s.homes k x
          → PassFacts holds lasts (r.total + 1) (seat_after r.total (length s.views) r.seat) r.log r.states s.homes k
          x
      theirs k x apart g =
          reseated r.total (r.total + 1) r.seat (seat_after r.total (length s.views) r.seat) r.log r.states s.homes k x
          (omega arith) (λ n low e. seat_old n low ∙ e)
          (λ some_given. absurd (apart (sym (g.giving some_given).1 ∙ giving.1))) g

      new : PassFacts holds lasts (r.total + 1) (seat_after r.total (length s.views) r.seat) r.log r.states s.homes
          (length s.views) (new_pass v)
      new = record {
        numbered = omega (arith, giving.0);
        seated = ap (seat_after r.total (length s.views) r.seat) giving.0 ∙ seat_new;
        giving = λ none_given. absurd (none_given refl);
        joined = λ e h. absurd h;
        holding = λ t p h. absurd h;
        made = sym (r.unborn v.knowledge.given (omega (arith, giving.0)));
        seen = old.seen;
        since = λ m h. absurd h;
        noted = λ m h. absurd h;
      }

  pub joins : (id : ℕ) (v : MidStep P N) (other : ℕ) (w : MidStep P N) → v.spent ≡ false → w.spent ≡ false
      → w.knowledge.held ≡ [] → Joins (Rule holds lasts) id v other w (joining_pass v w) spent_pass
  joins id v other w live alive idle s r at apart there = record {
    total = r.total;
    seat = (seat_merged other id r.seat);
    log = r.log;
    states = r.states;
    some_pass = r.some_pass;
    words_are = r.words_are;
    homes_are = r.homes_are;
    states_are = r.states_are;
    clock = r.clock;
    unborn = r.unborn;
    kept = r.kept;
    each_turn = λ u x e. still u x.part x.holder (r.each_turn u x e);
    each_pass = λ k x e here. ⊎_elim
        (λ (h : (k ≡ other) × (spent_pass ≡ x)). absurd (spent_is_not x h.1 here))
        (λ (h : (k ≢ other) × (get_elem? (set s.views id (joining_pass v w)) k ≡ some x)). ⊎_elim
        (λ (i : (k ≡ id) × (joining_pass v w ≡ x)). subst
        (λ (y : ℕ × MidStep P N). PassFacts holds lasts r.total (seat_merged other id r.seat) r.log r.states
        s.homes y.0 y.1) (λ l. (sym i.0 l, i.1 l)) ours)
        (λ (i : (k ≢ id) × (get_elem? s.views k ≡ some x)). theirs k x i.0 h.0 (r.each_pass k x i.1 here))
        (at_set s.views id k (joining_pass v w) x h.1))
        (at_set (set s.views id (joining_pass v w)) other k spent_pass x e);
  }
    where
      was : get_elem? s.views other ≡ some w
      was = ⊎_elim (λ (h : (other ≡ id) × (joining_pass v w ≡ w)). absurd (apart h.0))
          (λ (h : (other ≢ id) × (get_elem? s.views other ≡ some w)). h.1)
          (at_set s.views id other (joining_pass v w) w there)

      seat_ours : (n : ℕ) → r.seat n ≡ id → (seat_merged other id r.seat) n ≡ id
      seat_ours n e = passed_over (r.seat n) other id (r.seat n) (λ f. apart (sym f ∙ e)) ∙ e

      seat_theirs : (n : ℕ) → r.seat n ≡ other → (seat_merged other id r.seat) n ≡ id
      seat_theirs n e = chosen (r.seat n) other id (r.seat n) e

      seat_others : (n k : ℕ) → k ≢ other → r.seat n ≡ k → (seat_merged other id r.seat) n ≡ k
      seat_others n k ne e = passed_over (r.seat n) other id (r.seat n) (λ f. ne (sym e ∙ f)) ∙ e

      spent_is_not : (x : MidStep P N) → spent_pass ≡ x → x.spent ≡ false → ⊥
      spent_is_not x e h = let f : true ≡ false = ap (λ (y : MidStep P N). y.spent) e ∙ h in cc

      old : PassFacts holds lasts r.total r.seat r.log r.states s.homes id v
      old = r.each_pass id v at live

      gone : PassFacts holds lasts r.total r.seat r.log r.states s.homes other w
      gone = r.each_pass other w was alive

      remains : (n t : ℕ) (p : P) → TurnHolder (set s.views id (joining_pass v w)) n t p
          → TurnHolder (set (set s.views id (joining_pass v w)) other spent_pass) n t p
      remains n t p h = record {
        id = h.id;
        view = h.view;
        at = set_else (set s.views id (joining_pass v w)) other h.id spent_pass
            (λ e. subst (λ (l : List (ℕ × P)). Holds l t p) idle
            (subst (λ (x : MidStep P N). Holds x.knowledge.held t p)
            (some-injective h.view w (sym h.at ∙ ap (get_elem? (set s.views id (joining_pass v w))) e ∙ there))
            h.holds)) ∙ h.at;
        here = h.here;
        is = h.is;
        holds = h.holds;
      }

      still : (u : ℕ) (p : P) (o : Option ℕ) → MatchesHolder s.words s.homes s.views u p o
          → MatchesHolder s.words s.homes (set (set s.views id (joining_pass v w)) other spent_pass) u p o
      still u p None h = h
      still u p (Some m) h = (
        h.0,
        remains m u p (holder_stays s.views id m u v (joining_pass v w) p (within s.views id v at) at live refl
            (λ x. x) h.1),
      )

      giving_ours : (a b : ℕ) → v.knowledge.given ≡ a → w.knowledge.given ≡ b → a + b ≢ 0 → (a + b ≡ r.total)
          × ((seat_merged other id r.seat) 0 ≡ id)
      giving_ours zero zero va wb ne = absurd (ne refl)
      giving_ours zero (suc b) va wb ne = let g = gone.giving (λ e. omega (arith, wb, e)) in
          (omega (arith, wb, g.0), seat_theirs 0 g.1)
      giving_ours (suc a) zero va wb ne = let g = old.giving (λ e. omega (arith, va, e)) in
          (omega (arith, va, g.0), seat_ours 0 g.1)
      giving_ours (suc a) (suc b) va wb ne = let g = old.giving (λ e. omega (arith, va, e)) in
          let h = gone.giving (λ e. omega (arith, wb, e)) in absurd (apart (sym h.1 ∙ g.1))

      ours : PassFacts holds lasts r.total (seat_merged other id r.seat) r.log r.states s.homes id (joining_pass v w)
      ours = record {
        numbered = old.numbered;
        seated = seat_ours v.knowledge.number old.seated;
        giving = giving_ours v.knowledge.given w.knowledge.given refl refl;
        joined = λ e h. ⊎_elim
            (λ (f : (record { number = w.knowledge.number; events = w.knowledge.events }) ≡ e).
            let n = ap (λ (x : EndedPass N). x.number) f in (
              seat_theirs e.number (ap r.seat (sym n) ∙ gone.seated),
              (λ g. apart (sym gone.seated ∙ ap r.seat (n ∙ g) ∙ old.seated)),
              subst (λ (z : ℕ). z < r.total) n gone.numbered,
              ap (λ (x : EndedPass N). x.events) (sym f) ∙ gone.made ∙ ap (λ (z : ℕ). events_of z r.log) n,
            ))
            (λ (y : Among (w.knowledge.ended ++ v.knowledge.ended) e). ⊎_elim
            (λ (z : Among w.knowledge.ended e). let g = gone.joined e z in
            (seat_theirs e.number g.0, (λ f. apart (sym g.0 ∙ ap r.seat f ∙ old.seated)), g.2, g.3))
            (λ (z : Among v.knowledge.ended e). let g = old.joined e z in (seat_ours e.number g.0, g.1, g.2, g.3))
            (among_append w.knowledge.ended v.knowledge.ended e y))
            h;
        holding = old.holding;
        made = old.made;
        seen = old.seen;
        since = old.since;
        noted = old.noted;
      }

      theirs : (k : ℕ) (x : MidStep P N) → k ≢ id → k ≢ other
          → PassFacts holds lasts r.total r.seat r.log r.states s.homes k x
          → PassFacts holds lasts r.total (seat_merged other id r.seat) r.log r.states s.homes k x
      theirs k x apart' away g =
          reseated r.total r.total r.seat (seat_merged other id r.seat) r.log r.states s.homes k x (omega arith)
          (λ n low e. seat_others n k away e)
          (λ some_given. let h = g.giving some_given in (h.0, seat_others 0 k away h.1)) g

  -- each part at home
  states_at : (parts : List P) (t : ℕ) (d : TurnState P) → get_elem? (map free_turn parts) t ≡ some d
      → (d.holder ≡ None) × (get_elem? (map some (map Some parts)) t ≡ some (some (Some d.part)))
  states_at [] t d e = absurd (some-ne-none d (sym e))
  states_at (p ∷ ps) zero d e = let is = some-injective (free_turn p) d e in
      (ap (λ (x : TurnState P). x.holder) (sym is), ap (λ (x : TurnState P). some (some (Some x.part))) is)
  states_at (p ∷ ps) (suc t) d e = states_at ps t d e

  abbrev first_pass : MidStep P N
  first_pass = record { spent = false; hand = 0; knowledge = newcomer 0 1 0 }

  pub starts : (parts : List P) → length parts ≡ TURNS
      → ((wider : List (TurnState P)) → Wider (map free_turn parts) wider → holds [] wider)
      → Rule holds lasts (opening (replicate WORDS 0) (map Some parts) first_pass)
  starts parts long kept = record {
    total = 1;
    seat = λ _. 0;
    log = [];
    states = map free_turn parts;
    some_pass = omega arith;
    words_are = length-replicate {A = ℕ} WORDS 0;
    homes_are = length-map (map Some parts) some ∙ length-map parts Some ∙ long;
    states_are = length-map parts free_turn ∙ long;
    clock = refl;
    unborn = λ n _. refl;
    kept = kept;
    each_turn = λ t d e. let h = states_at parts t d e in
        subst (MatchesHolder (replicate WORDS 0) (map some (map Some parts)) (first_pass ∷ []) t d.part) (sym h.0) (
          get_or-replicate {A = ℕ} WORDS (t + 1) 0 0
              (let l : t < length (map free_turn parts) = within (map free_turn parts) t d e in
              omega (arith, length-map parts free_turn, long, l)),
          h.1,
        );
    each_pass = λ id v e here. alone id v e;
  }
    where
      first : PassFacts holds lasts 1 (λ _. 0) [] (map free_turn parts) (map some (map Some parts)) 0 first_pass
      first = record {
        numbered = omega arith;
        seated = refl;
        giving = λ _. (refl, refl);
        joined = λ e h. absurd h;
        holding = λ t p h. absurd h;
        made = refl;
        seen = omega arith;
        since = λ m h. absurd h;
        noted = λ m h. absurd
            h;
      }

      alone : (id : ℕ) (v : MidStep P N) → get_elem? (first_pass ∷ []) id ≡ some v
          → PassFacts holds lasts 1 (λ _. 0) [] (map free_turn parts) (map some (map Some parts)) id v
      alone zero v e = subst (PassFacts holds lasts 1 (λ _. 0) [] (map free_turn parts) (map some (map Some parts)) 0)
          (some-injective first_pass v e) first
      alone (suc id) v e = absurd (some-ne-none v (sym e))

  module _ (s : TableState P N) (id : ℕ) (v : MidStep P N) (l : IsLast v) (seen : Seen (Rule holds lasts) id v s) where
    -- once one pass is left, nobody holds a turn
    nobody : (t n : ℕ) (p : P) → TurnHolder s.views n t p → ⊥
    nobody t n p h =
        let r = seen.0 in
        let old = r.each_pass id v seen.1 l.live in
        let g = r.each_pass h.id h.view h.at h.here in
        let same : h.id ≡ id
        → ⊥ = λ e. subst (λ (xs : List (ℕ × P)). Holds xs t p) l.idle
        (subst (λ (x : MidStep P N). Holds x.knowledge.held t p)
        (some-injective h.view v (sym h.at ∙ ap (get_elem? s.views) e ∙ seen.1)) h.holds) in
        ⊎_elim
        (λ (e : h.view.knowledge.number ≡ v.knowledge.number). same (sym g.seated ∙ ap r.seat e ∙ old.seated))
        (λ (y : (e : EndedPass N) × Among v.knowledge.ended e × (e.number ≡ h.view.knowledge.number)).
        same (sym g.seated ∙ ap r.seat (sym y.2) ∙ (old.joined y.0 y.1).0))
        (l.all h.view.knowledge.number
        (subst (λ (z : ℕ). h.view.knowledge.number < z) (sym (old.giving l.gives).0) g.numbered))

    -- each state is free, and its part at home
    all_free : (t : ℕ) (d : TurnState P) → get_elem? seen.0.states t ≡ some d → (d ≡ free_turn d.part)
        × (get_elem? s.homes t ≡ some (some (Some d.part)))
    all_free t d e = by_holder d.part d.holder (seen.0.each_turn t d e)
      where
        by_holder : (p : P) (o : Option ℕ) → MatchesHolder s.words s.homes s.views t p o
            → ((record { holder = o; part = p }) ≡ free_turn p) × (get_elem? s.homes t ≡ some (some (Some p)))
        by_holder p None h = (refl, h.1)
        by_holder p (Some n) h = absurd (nobody t n p h.1)

    pub all_home : (t : ℕ) → t < TURNS → (p : P) × (get_elem? s.homes t ≡ some (some (Some p)))
    all_home t small = let d = there seen.0.states t (omega (arith, seen.0.states_are)) in
        (d.0.part, (all_free t d.0 d.1).1)

    -- the parts in their slots are those that the desks show
    pub states_are_parts : (parts : List P) → length (map Some parts) ≡ TURNS
        → ((k : ℕ) (o : Option P) → get_elem? s.homes k ≡ some (some o) → get_elem? (map Some parts) k ≡ some o)
        → seen.0.states ≡ map free_turn parts
    states_are_parts parts long values = alike seen.0.states parts (seen.0.states_are ∙ sym long
        ∙ length-map parts Some) (λ t d e. let f = all_free t d e in (f.0, values t (Some d.part) f.1))
      where
        some_part : (p q : P) → some (Some p) ≡ some (Some q) → q ≡ p
        some_part p q e = let f : Some p ≡ Some q = some-injective (Some p) (Some q) e in cc

        alike : (ds : List (TurnState P)) (ps : List P) → length ds ≡ length ps
            → ((t : ℕ) (d : TurnState P) → get_elem? ds t ≡ some d → (d ≡ free_turn d.part)
            × (get_elem? (map Some ps) t ≡ some (Some d.part))) → ds ≡ map free_turn ps
        alike [] [] e h = refl
        alike [] (p ∷ ps) e h = absurd (omega arith)
        alike (d ∷ ds) [] e h = absurd (omega arith)
        alike (d ∷ ds) (p ∷ ps) e h =
            let first = h zero d refl in
            let here : d ≡ free_turn p = first.0 ∙ ap free_turn (some_part p d.part first.1) in
            let rest = alike ds ps (omega arith) (λ t x f. h (suc t) x f) in
            λ k. here k ∷ rest k
