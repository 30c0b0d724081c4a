-- Steps that keep the rule, whatever they tell.
use Rattle.std.proofs.Common.{◌≡◌, ◌≢◌, ℕ, zero, suc, ◌+◌, ◌%◌, ◌^◌, ◌<◌, ◌≤◌, false, List, [], ◌∷◌, length, get_or, set, ◌++◌, refl, sym, ap, ◌∙◌, subst, ⊎_elim, arith, length-set}
use mathlib.Core.Option.{some, some-injective, some-ne-none}
use mathlib.Core.Logic.{dite}
use native.Mathlib.Decide.{ℕ_discrete}
use lib.ListN.{get_elem?}
use Rattle.std.specs.Prelude.{Option, Some, None}
use Rattle.atomic_table.proofs.Lists.{at_set, set_here, set_else}
use Rattle.dk_turns.specs.declared.knowledge.Event.{Event}
use Rattle.dk_turns.specs.declared.knowledge.Observation.{Observation}
use Rattle.dk_turns.specs.declared.knowledge.EndedPass.{EndedPass}
use Rattle.dk_turns.specs.declared.knowledge.MidStep.{MidStep}
use Rattle.dk_turns.specs.declared.layout.TheConstants.{TURNS}
use Rattle.dk_turns.specs.Events.{Fact, LastingFact, SplitsEvents, events_of, without_places}
use Rattle.dk_turns.specs.Rule.{MatchesHolder, PassFacts, Rule, Slots, TableState, TurnHolder, Wider}
use Rattle.dk_turns.specs.TurnStates.{Among, Holds, TurnState, held_slot, turn_held_by}

pub within : {A : Type 0} (l : List A) (i : ℕ) (a : A) → get_elem? l i ≡ some a → i < length l
within [] i a e = absurd (some-ne-none a (sym e))
within (x ∷ xs) zero a e = omega arith
within (x ∷ xs) (suc i) a e = let h = within xs i a e in omega (arith, h)

pub there : {A : Type 0} (l : List A) (i : ℕ) → i < length l → (a : A) × (get_elem? l i ≡ some a)
there [] i h = absurd (omega arith)
there (x ∷ xs) zero h = (x, refl)
there (x ∷ xs) (suc i) h = there xs i (omega arith)

-- the two views have one number, and gave and joined the same
pub record Same {P N : Type 0} (v w : MidStep P N) : Type 0 where
  pub number : w.knowledge.number ≡ v.knowledge.number
  pub given : w.knowledge.given ≡ v.knowledge.given
  pub ended : w.knowledge.ended ≡ v.knowledge.ended

-- a turn that is held stays so
pub holder_stays : {P N : Type 0} (views : List (MidStep P N)) (id n t : ℕ) (v w : MidStep P N) (p : P)
    → id < length views → get_elem? views id ≡ some v → w.spent ≡ false → w.knowledge.number ≡ v.knowledge.number
    → (Holds v.knowledge.held t p → Holds w.knowledge.held t p)
    → TurnHolder views n t p → TurnHolder (set views id w) n t p
holder_stays {P = P} {N = N} views id n t v w p near at here same keeps h =
    dite (ℕ_discrete h.id id)
    (λ e. let is : h.view ≡ v = some-injective h.view v (sym h.at ∙ ap (get_elem? views) e ∙ at) in
    record {
      id = id;
      view = w;
      at = set_here views id w near;
      here = here;
      is = same
          ∙ ap (λ (x : MidStep P N). x.knowledge.number) (sym is)
          ∙ h.is;
      holds = keeps (subst (λ (x : MidStep P N). Holds x.knowledge.held t p) is h.holds);
    })
    (λ ne. record {
      id = h.id;
      view = h.view;
      at = set_else views id h.id w ne
          ∙ h.at;
      here = h.here;
      is = h.is;
      holds = h.holds;
    })

module _ (P N : Type 0) (holds : Fact P N) (lasts : LastingFact P N) where
  -- the history goes on, from log to log', and the desks and the stepping pass are then these
  pub record Next (log log' : List (Event N)) (states' : List (TurnState P)) (number word : ℕ)
      (w : MidStep P N) : Type 0 where
    pub clock : word ≡ length log' % 2 ^ 64
    pub others : (n : ℕ) → n ≢ number → events_of n log' ≡ events_of n log
    pub longer : length log ≤ length log'
    pub made : w.knowledge.events ≡ events_of number log'
    pub seen : w.knowledge.seen ≤ length log'
    pub since : (m : Observation P N) → Among w.knowledge.noted m
        → m.before ++ m.after ≡ without_places w.knowledge.events
    pub noted : (m : Observation P N) → Among w.knowledge.noted m → (d : TurnState P)
        → get_elem? states' m.turn ≡ some d → lasts number m.before m.after m.turn m.part d.part
    pub kept : (wider : List (TurnState P)) → Wider states' wider → holds log' wider

  -- what was joined to a pass, once the history went on
  joined_later : (s : TableState P N) (r : Rule holds lasts s) (log' : List (Event N)) (number id : ℕ)
      (x : MidStep P N) → ((n : ℕ) → n ≢ number → events_of n log' ≡ events_of n r.log)
      → ((e : EndedPass N) → Among x.knowledge.ended e → e.number ≢ number)
      → PassFacts holds lasts r.total r.seat r.log r.states s.homes id x
      → (e : EndedPass N) → Among x.knowledge.ended e → (r.seat e.number ≡ id) × (e.number ≢ x.knowledge.number)
      × (e.number < r.total) × (e.events ≡ events_of e.number log')
  joined_later s r log' number id x others apart g e h = let j = g.joined e h in
      (j.0, j.1, j.2, j.3 ∙ sym (others e.number (apart e h)))

  module _ (s : TableState P N) (r : Rule holds lasts s) (id : ℕ) (v : MidStep P N) (log' : List (Event N))
      (states' : List (TurnState P)) (homes' : Slots P)
      (old : PassFacts holds lasts r.total r.seat r.log r.states s.homes id v) where
    -- the facts of the stepping pass, once the history went on: what it holds is told beside
    own_facts : (word : ℕ) (w : MidStep P N) → Same v w → Next r.log log' states' v.knowledge.number word w
        → ((u : ℕ) (p : P) → Holds w.knowledge.held u p
        → (get_elem? states' u ≡ some (turn_held_by v.knowledge.number p))
        × (get_elem? homes' u ≡ some (held_slot w.hand u)))
        → PassFacts holds lasts r.total r.seat log' states' homes' id w
    own_facts word w same next held = record {
      numbered = subst (λ (m : ℕ). m < r.total) (sym same.number) old.numbered;
      seated = ap r.seat same.number ∙ old.seated;
      giving = λ some_given. let g = old.giving (λ e. some_given (same.given ∙ e)) in (same.given ∙ g.0, g.1);
      joined = λ e h.
          let h' = subst (λ (l : List (EndedPass N)). Among l e) same.ended h in
          let g = joined_later s r log' v.knowledge.number id v next.others (λ e' h''. (old.joined e' h'').1) old e
          h' in
          (g.0, (λ f. g.1 (f ∙ same.number)), g.2, g.3);
      holding = λ u p h.
          let g = held u p h in
          (g.0 ∙ ap (λ (m : ℕ). some (turn_held_by m p)) (sym same.number), g.1);
      made = next.made ∙ ap (λ (m : ℕ). events_of m log') (sym same.number);
      seen = next.seen;
      noted = λ m h y e. subst (λ (k : ℕ). lasts k m.before m.after m.turn m.part y.part) (sym same.number)
          (next.noted m h y e);
      since = next.since;
    }

    -- a pass at another seat has another number
    other_number : (k : ℕ) (x : MidStep P N) → k ≢ id
        → PassFacts holds lasts r.total r.seat r.log r.states s.homes k x → x.knowledge.number ≢ v.knowledge.number
    other_number k x apart g e = apart (sym g.seated ∙ ap r.seat e ∙ old.seated)

    -- and its facts stay: what it holds, and what it noted that lasts, is told beside
    other_facts : (word : ℕ) (w : MidStep P N) → Next r.log log' states' v.knowledge.number word w
        → (k : ℕ) (x : MidStep P N) → k ≢ id → (g : PassFacts holds lasts r.total r.seat r.log r.states s.homes k x)
        → ((u : ℕ) (p : P) → Holds x.knowledge.held u p
        → (get_elem? states' u ≡ some (turn_held_by x.knowledge.number p))
        × (get_elem? homes' u ≡ some (held_slot x.hand u)))
        → ((m : Observation P N) → Among x.knowledge.noted m → (y : TurnState P) → get_elem? states' m.turn ≡ some y
        → lasts x.knowledge.number m.before m.after m.turn m.part y.part)
        → PassFacts holds lasts r.total r.seat log' states' homes' k x
    other_facts word w next k x apart g held noted = record {
      numbered = g.numbered;
      seated = g.seated;
      giving = g.giving;
      joined = joined_later s r log' v.knowledge.number k x next.others
          (λ e h f. apart (sym (g.joined e h).0 ∙ ap r.seat f ∙ old.seated)) g;
      holding = held;
      made = g.made ∙ sym (next.others x.knowledge.number (other_number k x apart g));
      seen = let a = g.seen in let b = next.longer in omega (arith, a, b);
      since = g.since;
      noted = noted;
    }

  module _ (s : TableState P N) (r : Rule holds lasts s) (i n id t : ℕ) (v w : MidStep P N) (d d' : TurnState P)
      (homes' : Slots P) (log' : List (Event N)) where
    pub moved : get_elem? s.views id ≡ some v → v.spent ≡ false → w.spent ≡ false → Same v w
        → ((u : ℕ) → u ≢ t → u < TURNS → get_or (set s.words i n) (u + 1) 0 ≡ get_or s.words (u + 1) 0)
        → length homes' ≡ length s.homes → ((u : ℕ) → u ≢ t → get_elem? homes' u ≡ get_elem? s.homes u)
        → get_elem? r.states t ≡ some d → ((m : ℕ) → d.holder ≡ Some m → m ≡ v.knowledge.number)
        → ((u : ℕ) (p : P) → u ≢ t → Holds v.knowledge.held u p → Holds w.knowledge.held u p)
        → ((u : ℕ) (p : P) → u ≢ t → Holds w.knowledge.held u p → Holds v.knowledge.held u p)
        → ((u : ℕ) → u ≢ t → held_slot {P = P} w.hand u ≡ held_slot v.hand u)
        → ((p : P) → Holds w.knowledge.held t p → (d' ≡ turn_held_by v.knowledge.number p)
        × (get_elem? homes' t ≡ some (held_slot w.hand t)))
        → ((k : ℕ) (before after : List (Event N)) (x : P) → k ≢ v.knowledge.number
        → SplitsEvents k r.log before after → lasts k before after t x d.part → lasts k before after t x d'.part)
        → Next r.log log' (set r.states t d') v.knowledge.number (get_or (set s.words i n) 0 0) w
        → MatchesHolder (set s.words i n) homes' (set s.views id w) t d'.part d'.holder
        → Rule holds lasts record { words = set s.words i n; homes = homes'; views = set s.views id w }
    moved at live live' same words long others state alone keeps back hand mine lasting next sits = record {
      total = r.total;
      seat = r.seat;
      log = log';
      states = set r.states t d';
      some_pass = r.some_pass;
      words_are = length-set s.words i n ∙ r.words_are;
      homes_are = long ∙ r.homes_are;
      states_are = length-set r.states t d' ∙ r.states_are;
      clock = next.clock;
      unborn = λ k big. next.others k (λ e. let l : v.knowledge.number < r.total = old.numbered in omega (arith, e))
          ∙ r.unborn k big;
      kept = next.kept;
      each_turn = λ u x e. ⊎_elim
          (λ (h : (u ≡ t) × (d' ≡ x)). subst
          (λ (y : ℕ × TurnState P). MatchesHolder (set s.words i n) homes' (set s.views id w) y.0 y.1.part
          y.1.holder) (λ k. (sym h.0 k, h.1 k)) sits)
          (λ (h : (u ≢ t) × (get_elem? r.states u ≡ some x)). still u x.part h.0 (within_turns u x h.1) x.holder
          (r.each_turn u x h.1))
          (at_set r.states t u d' x e);
      each_pass = λ k x e here. ⊎_elim
          (λ (h : (k ≡ id) × (w ≡ x)). subst
          (λ (y : ℕ × MidStep P N). PassFacts holds lasts r.total r.seat log' (set r.states t d') homes' y.0 y.1)
          (λ l. (sym h.0 l, h.1 l)) ours)
          (λ (h : (k ≢ id) × (get_elem? s.views k ≡ some x)). theirs k x h.0 (r.each_pass k x h.1 here))
          (at_set s.views id k w x e);
    }
      where
        near : id < length s.views
        near = within s.views id v at

        within_turns : (u : ℕ) (x : TurnState P) → get_elem? r.states u ≡ some x → u < TURNS
        within_turns u x e = subst (λ (l : ℕ). u < l) r.states_are (within r.states u x e)

        still : (u : ℕ) (p : P) → u ≢ t → u < TURNS → (o : Option ℕ) → MatchesHolder s.words s.homes s.views u p o
            → MatchesHolder (set s.words i n) homes' (set s.views id w) u p o
        still u p apart small None h = (words u apart small ∙ h.0, others u apart ∙ h.1)
        still u p apart small (Some m) h = (
          words u apart small
              ∙ h.0,
          holder_stays s.views id m u v w p near at live' same.number (keeps u p apart) h.1,
        )

        old : PassFacts holds lasts r.total r.seat r.log r.states s.homes id v
        old = r.each_pass id v at live

        ours : PassFacts holds lasts r.total r.seat log' (set r.states t d') homes' id w
        ours = own_facts s r id v log' (set r.states t d') homes' old (get_or (set s.words i n) 0 0) w same next
            (λ u p h. dite (ℕ_discrete u t)
            (λ e. let g = mine p (subst (λ (z : ℕ). Holds w.knowledge.held z p) e h) in (
              ap (get_elem? (set r.states t d')) e ∙ set_here r.states t d' (within r.states t d state) ∙ ap some g.0,
              ap (get_elem? homes') e ∙ g.1 ∙ ap (λ (z : ℕ). some (held_slot w.hand z)) (sym e),
            ))
            (λ ne. let g = old.holding u p (back u p ne h) in
            (set_else r.states t u d' ne ∙ g.0, others u ne ∙ g.1 ∙ ap some (sym (hand u ne)))))

        theirs : (k : ℕ) (x : MidStep P N) → k ≢ id
            → PassFacts holds lasts r.total r.seat r.log r.states s.homes k x
            → PassFacts holds lasts r.total r.seat log' (set r.states t d') homes' k x
        theirs k x apart g =
            let other : x.knowledge.number ≢ v.knowledge.number = λ e. apart (sym g.seated ∙ ap r.seat e
            ∙ old.seated) in
            other_facts s r id v log' (set r.states t d') homes' old (get_or (set s.words i n) 0 0) w next k x apart g
            (λ u p h. let was = g.holding u p h in dite (ℕ_discrete u t)
            (λ e.
            let is : d ≡ turn_held_by x.knowledge.number p =
            some-injective _ _ (sym state ∙ ap (get_elem? r.states) (sym e) ∙ was.0) in
            absurd (other (alone x.knowledge.number (ap (λ (y : TurnState P). y.holder) is))))
            (λ ne. (set_else r.states t u d' ne ∙ was.0, others u ne ∙ was.1)))
            (λ m h y e. ⊎_elim
            (λ (z : (m.turn ≡ t) × (d' ≡ y)).
            subst (λ (q : ℕ × TurnState P). lasts x.knowledge.number m.before m.after q.0 m.part q.1.part)
            (λ l. (sym z.0 l, z.1 l))
            (lasting x.knowledge.number m.before m.after m.part other (g.since m h ∙ ap without_places g.made)
            (subst (λ (q : ℕ). lasts x.knowledge.number m.before m.after q m.part d.part) z.0
            (g.noted m h d (ap (get_elem? r.states) z.0 ∙ state)))))
            (λ (z : (m.turn ≢ t) × (get_elem? r.states m.turn ≡ some y)). g.noted m h y z.1)
            (at_set r.states t m.turn d' y e))

  module _ (s : TableState P N) (r : Rule holds lasts s) (i n id : ℕ) (v w : MidStep P N) (log' : List (Event N)) where
    -- no turn's word, slot or holder changes
    pub stands : get_elem? s.views id ≡ some v → v.spent ≡ false → w.spent ≡ false → Same v w
        → w.knowledge.held ≡ v.knowledge.held → w.hand ≡ v.hand
        → ((u : ℕ) → u < TURNS → get_or (set s.words i n) (u + 1) 0 ≡ get_or s.words (u + 1) 0)
        → Next r.log log' r.states v.knowledge.number (get_or (set s.words i n) 0 0) w
        → Rule holds lasts record { words = set s.words i n; homes = s.homes; views = set s.views id w }
    stands at live live' same held hand words next = record {
      total = r.total;
      seat = r.seat;
      log = log';
      states = r.states;
      some_pass = r.some_pass;
      words_are = length-set s.words i n ∙ r.words_are;
      homes_are = r.homes_are;
      states_are = r.states_are;
      clock = next.clock;
      unborn = λ k big. next.others k (λ e. let l : v.knowledge.number < r.total = old.numbered in omega (arith, e))
          ∙ r.unborn k big;
      kept = next.kept;
      each_turn = λ u x e. still u x.part (subst (λ (l : ℕ). u < l) r.states_are (within r.states u x e)) x.holder
          (r.each_turn u x e);
      each_pass = λ k x e here. ⊎_elim
          (λ (h : (k ≡ id) × (w ≡ x)). subst
          (λ (y : ℕ × MidStep P N). PassFacts holds lasts r.total r.seat log' r.states s.homes y.0 y.1)
          (λ l. (sym h.0 l, h.1 l)) ours)
          (λ (h : (k ≢ id) × (get_elem? s.views k ≡ some x)). theirs k x h.0 (r.each_pass k x h.1 here))
          (at_set s.views id k w x e);
    }
      where
        still : (u : ℕ) (p : P) → u < TURNS → (o : Option ℕ) → MatchesHolder s.words s.homes s.views u p o
            → MatchesHolder (set s.words i n) s.homes (set s.views id w) u p o
        still u p small None h = (words u small ∙ h.0, h.1)
        still u p small (Some m) h = (
          words u small
              ∙ h.0,
          holder_stays s.views id m u v w p (within s.views id v at) at live' same.number
              (subst (λ (l : List (ℕ × P)). Holds l u p) (sym held)) h.1,
        )

        old : PassFacts holds lasts r.total r.seat r.log r.states s.homes id v
        old = r.each_pass id v at live

        ours : PassFacts holds lasts r.total r.seat log' r.states s.homes id w
        ours = own_facts s r id v log' r.states s.homes old (get_or (set s.words i n) 0 0) w same next
            (λ u p h. let g = old.holding u p (subst (λ (l : List (ℕ × P)). Holds l u p) held h) in
            (g.0, g.1 ∙ ap (λ (z : ℕ). some (held_slot z u)) (sym hand)))

        theirs : (k : ℕ) (x : MidStep P N) → k ≢ id
            → PassFacts holds lasts r.total r.seat r.log r.states s.homes k x
            → PassFacts holds lasts r.total r.seat log' r.states s.homes k x
        theirs k x apart g =
            other_facts s r id v log' r.states s.homes old (get_or (set s.words i n) 0 0) w next k x apart g
            g.holding g.noted
