-- Each step on a turn, or on the clock, keeps the rule.
use Rattle.std.proofs.Common.{◌≡◌, ◌≢◌, ◌⊎◌, ℕ, suc, ◌+◌, ◌%◌, ◌^◌, ◌<◌, ◌≤◌, eqb, false, List, [], ◌∷◌, ◌++◌, length, map, get_or, set, refl, sym, ap, ◌∙◌, subst, inl, inr, ⊎_elim, arith, length-set, length-append, le_refl, get_or-set_other, get_or-set_same}
use Rattle.std.proofs.lemmas.List.{set-get_or}
use Rattle.std.proofs.Math.Nat.{mod-add-mod}
use mathlib.Core.Option as maybe
use mathlib.Core.Option.{none, some, some-injective}
use lib.ListN.{get_elem?}
use prog.Atomic.{either}
use Rattle.std.specs.Prelude.{Option, Some, None}
use Rattle.atomic_table.specs.Table.{Act, step, keeps, takes, gives, rest, Allows, stepped, carried_after, Valid}
use Rattle.atomic_table.proofs.Lists.{at_set, set_here, set_else, set_again, exchanged}
use Rattle.dk_turns.specs.declared.knowledge.Event.{Event}
use Rattle.dk_turns.specs.declared.knowledge.Observation.{Observation}
use Rattle.dk_turns.specs.declared.knowledge.MidStep.{MidStep}
use Rattle.dk_turns.specs.declared.layout.TheConstants.{TURNS, WORDS}
use Rattle.dk_turns.specs.Events.{Fact, LastingFact, without_places}
use Rattle.dk_turns.specs.KnowledgeAfter.{after_event, after_free_event, after_look, after_refusals, after_release, after_take, event_under, event_without_turn, observation, with_event}
use Rattle.dk_turns.specs.LawfulSteps.{IsLawfulEvent, IsLawfulFreeEvent, IsLawfulPutBack, Premises}
use Rattle.dk_turns.specs.Rule.{MatchesHolder, Rule, Slots, TableState, TurnHolder, Wider}
use Rattle.dk_turns.specs.StepOutcomes.{FetchOutcome, GiveOutcome, LookOutcome, SeatState, SettleOutcome, StayOutcome, TickFreeOutcome, TickOutcome, TryOutcome, with_hand}
use Rattle.dk_turns.specs.TurnStates.{Among, Holds, TurnState, free_turn, held_slot, turn_held_by, without}
use Rattle.dk_turns.proofs.TurnListLemmas.{held_slot_in_hand, held_slot_at_home, holds_without, without_holds, among_append, among_map, first_is, same_value}
use Rattle.dk_turns.proofs.ObservationLemmas.{all_later, one_more, fresh_has_all, made_has_all}
use Rattle.dk_turns.proofs.EventsLemmas.{events_of-own, events_of-other, set_back, wider_self, wider_taken, wider_back}
use Rattle.dk_turns.proofs.RuleLemmas.{Next, moved, stands, within, there}

module _ (P N : Type 0) (holds : Fact P N) (lasts : LastingFact P N) where
  -- the table can go on by a step that tells this
  abbrev pub Goes : TableState P N → ℕ → ℕ → ℕ → SeatState P N → (SeatState P N → Type 0) → Type 0
  Goes s i n id m told = (w : MidStep P N) × (a : Act (Option P)) × Valid s.homes m.1 a
      × Rule holds lasts (stepped s i n id m.1 w a) × told (w, carried_after m.1 a)

  -- the state of a turn
  pub state_at : (s : TableState P N) (r : Rule holds lasts s) (t : ℕ) → t < TURNS → (d : TurnState P)
      × (get_elem? r.states t ≡ some d)
  state_at s r t small = there r.states t (subst (λ (l : ℕ). t < l) (sym r.states_are) small)

  pub free : (words : List ℕ) (homes : Slots P) (views : List (MidStep P N)) (t : ℕ) (p : P) (o : Option ℕ)
      → get_or words (t + 1) 0 ≡ 0 → MatchesHolder words homes views t p o → (o ≡ None)
      × (get_elem? homes t ≡ some (some (Some p)))
  free words homes views t p None e h = (refl, h.1)
  free words homes views t p (Some n) e h = absurd (omega (arith, e, h.0))

  none_is_some : {n : ℕ} → None ≡ Some n → ⊥
  none_is_some e = cc

  apart_words : (words : List ℕ) (t n u : ℕ) → u ≢ t → get_or (set words (t + 1) n) (u + 1) 0 ≡ get_or words (u + 1) 0
  apart_words words t n u ne = get_or-set_other words (t + 1) (u + 1) n 0 (λ e. ne (omega arith))

  same_words : (words : List ℕ) (i u : ℕ) → get_or (set words i (get_or words i 0)) u 0 ≡ get_or words u 0
  same_words words i u = ap (λ l. get_or l u 0) (set-get_or words i 0)

  -- the clock is another word
  clock_stays : (s : TableState P N) (r : Rule holds lasts s) (i n : ℕ) → 0 < i
      → get_or (set s.words i n) 0 0 ≡ length r.log % 2 ^ 64
  clock_stays s r i n big = get_or-set_other s.words i 0 n 0 (λ e. omega (arith, e)) ∙ r.clock

  in_words : (s : TableState P N) (r : Rule holds lasts s) (t : ℕ) → t < TURNS → t + 1 < length s.words
  in_words s r t small = let e : length s.words ≡ WORDS = r.words_are in omega arith

  in_homes : (s : TableState P N) (r : Rule holds lasts s) (t : ℕ) → t < TURNS → t < length s.homes
  in_homes s r t small = let e : length s.homes ≡ TURNS = r.homes_are in omega arith

  -- the pass at the seat is now w, and holds the turn
  holder_here : (s : TableState P N) (id : ℕ) (v w : MidStep P N) (t : ℕ) (p : P) → get_elem? s.views id ≡ some v
      → w.spent ≡ false → Holds w.knowledge.held t p → TurnHolder (set s.views id w) w.knowledge.number t p
  holder_here s id v w t p at live h = record {
    id = id;
    view = w;
    at = set_here s.views id w (within s.views id v at);
    here = live;
    is = refl;
    holds = h;
  }

  -- the word that a compare-exchange names is a turn's
  turn_is : (t u : ℕ) → t + 1 ≡ u + 1 → t ≡ u
  turn_is t u e = omega arith

  -- no event is made, and no part shows anything else
  quiet : (s : TableState P N) (r : Rule holds lasts s) (id : ℕ) (v w : MidStep P N) (states' : List (TurnState P))
      (word : ℕ) → get_elem? s.views id ≡ some v → v.spent ≡ false → word ≡ length r.log % 2 ^ 64
      → w.knowledge.events ≡ v.knowledge.events → w.knowledge.seen ≡ v.knowledge.seen
      → w.knowledge.noted ≡ v.knowledge.noted
      → ((u : ℕ) (y : TurnState P) → get_elem? states' u ≡ some y → (x : TurnState P)
      × (get_elem? r.states u ≡ some x) × (x.part ≡ y.part))
      → ((wider : List (TurnState P)) → Wider states' wider → holds r.log wider)
      → Next P N holds lasts r.log r.log states' v.knowledge.number word w
  quiet s r id v w states' word at live clock events seen noted parts kept =
      let old = r.each_pass id v at live in record {
        clock = clock;
        others = λ n _. refl;
        longer = le_refl (length r.log);
        made = events ∙ old.made;
        seen = subst (λ (z : ℕ). z ≤ length r.log) (sym seen) old.seen;
        since = λ m h. old.since m (subst (λ (l : List (Observation P N)). Among l m) noted h)
            ∙ ap without_places (sym events);
        noted = λ m h y e. let x = parts m.turn y e in
            subst (λ (p : P). lasts v.knowledge.number m.before m.after m.turn m.part p) x.2
            (old.noted m (subst (λ (l : List (Observation P N)). Among l m) noted h) x.0 x.1);
        kept = kept;
      }

  -- the part of one state stays
  same_parts : (l : List (TurnState P)) (t : ℕ) (d d' : TurnState P) → get_elem? l t ≡ some d → d.part ≡ d'.part
      → (u : ℕ) (y : TurnState P) → get_elem? (set l t d') u ≡ some y → (x : TurnState P) × (get_elem? l u ≡ some x)
      × (x.part ≡ y.part)
  same_parts l t d d' at e u y h = ⊎_elim
      (λ (z : (u ≡ t) × (d' ≡ y)). (d, ap (get_elem? l) z.0 ∙ at, e ∙ ap (λ (x : TurnState P). x.part) z.1))
      (λ (z : (u ≢ t) × (get_elem? l u ≡ some y)). (y, z.1, refl))
      (at_set l t u d' y h)

  pub tries : (slots id : ℕ) (m : SeatState P N) (t : ℕ) → t < TURNS → m.0.spent ≡ false → m.0.hand ≡ 0
      → Allows (Rule holds lasts) slots id m (t + 1) (λ y. either (eqb y 0) 1 y)
      (TryOutcome lasts (step slots (t + 1) 0 1 none) m)
  tries slots id m t small live hand s r wide at _ =
      let y : ℕ = get_or s.words (t + 1) 0 in
      let told : ℕ → SeatState P N → Type 0 = TryOutcome lasts (step slots (t + 1) 0 1 none) m in
      exchanged y 0 1 (λ n. Goes s (t + 1) n id m (told y)) (hits y refl) (misses y)
    where
      hits : (y : ℕ) → get_or s.words (t + 1) 0 ≡ y → y ≡ 0
          → Goes s (t + 1) 1 id m (TryOutcome lasts (step slots (t + 1) 0 1 none) m y)
      hits y is e =
          let d = state_at s r t small in
          let f = free s.words s.homes s.views t d.0.part d.0.holder (is ∙ e) (r.each_turn t d.0 d.1) in
          let p : P = d.0.part in
          let w : MidStep P N = with_hand (suc t) (after_take t p m.0.knowledge) m.0 in
          let n : ℕ = m.0.knowledge.number in
          let old = r.each_pass id m.0 at live in (
            w,
            takes t (Some p),
            f.1,
            moved P N holds lasts s r (t + 1) 1 id t m.0 w d.0 (turn_held_by n p) (set s.homes t none) r.log at live
                live
                record { number = refl; given = refl; ended = refl }
                (λ u ne _. apart_words s.words t 1 u ne)
                (length-set s.homes t none)
                (λ u ne. set_else s.homes t u none ne)
                d.1
                (λ k e. absurd (none_is_some (sym f.0 ∙ e)))
                (λ u q ne h. inr h)
                (λ u q ne h. ⊎_elim (λ (z : (t ≡ u) × (p ≡ q)). absurd (ne (sym z.0)))
                (λ (z : Holds m.0.knowledge.held u q). z) h)
                (λ u ne. held_slot_at_home P (suc t) u (λ e. ne (omega arith))
                ∙ sym (held_slot_at_home P m.0.hand u (λ e. omega (arith, hand))))
                (λ q h. ⊎_elim
                (λ (z : (t ≡ t) × (p ≡ q)). (
                  ap (turn_held_by n) z.1,
                  set_here s.homes t none (in_homes s r t small)
                      ∙ ap some (sym (held_slot_in_hand P t)),
                ))
                (λ (z : Holds m.0.knowledge.held t q). let g = old.holding t q z in
                absurd (none_is_some
                (sym f.0 ∙ ap (λ (x : TurnState P). x.holder)
                (some-injective d.0 (turn_held_by n q) (sym d.1 ∙ g.0)))))
                h)
                (λ k before after x _ _ h. h)
                (quiet s r id m.0 w (set r.states t (turn_held_by n p)) (get_or (set s.words (t + 1) 1) 0 0) at live
                (clock_stays s r (t + 1) 1 (omega arith)) refl refl refl
                (same_parts r.states t d.0 (turn_held_by n p) d.1 refl)
                (λ wider h. r.kept wider (wider_taken r.states wider t n d.0 d.1 f.0 h))) (
                  get_or-set_same s.words (t + 1) 1 0 (in_words s r t small),
                  record {
                    id = id;
                    view = w;
                    at = set_here s.views id w (within s.views id m.0 at);
                    here = live;
                    is = refl;
                    holds = inl (refl, refl);
                  },
                ),
            λ u e'. (
              (λ _. (
                p,
                ap (λ (z : ℕ). (with_hand (suc z) (after_take z p m.0.knowledge) m.0, (z, Some p) ∷ m.1))
                    (turn_is t u e'),
                λ x h same. subst (λ (z : ℕ). lasts n x.before x.after z x.part p) same
                    (old.noted x h d.0 (ap (get_elem? r.states) (same ∙ sym (turn_is t u e')) ∙ d.1)),
              )),
              λ ne. absurd (ne e),
            ),
          )

      misses : (y : ℕ) → y ≢ 0
          → Goes s (t + 1) (get_or s.words (t + 1) 0) id m (TryOutcome lasts (step slots (t + 1) 0 1 none) m y)
      misses y ne =
          let w : MidStep P N = with_hand m.0.hand (after_refusals (t ∷ []) m.0.knowledge) m.0 in (
            w,
            keeps,
            tt,
            stands P N holds lasts s r (t + 1) (get_or s.words (t + 1) 0) id m.0 w r.log at live live record
                { number = refl; given = refl; ended = refl } refl refl (λ u _. same_words s.words (t + 1) (u + 1))
                (quiet s r id m.0 w r.states (get_or (set s.words (t + 1) (get_or s.words (t + 1) 0)) 0 0) at live
                (same_words s.words (t + 1) 0 ∙ r.clock) refl refl refl (λ u y e. (y, e, refl)) r.kept),
            λ u e'. (
              (λ e. absurd (ne e)),
              λ _. ap (λ (z : ℕ). (with_hand m.0.hand (after_refusals (z ∷ []) m.0.knowledge) m.0, m.1))
                  (turn_is t u e'),
            ),
          )

  -- the state of a turn that the pass holds
  state_held : (s : TableState P N) (r : Rule holds lasts s) (id t : ℕ) (v : MidStep P N) (p : P)
      → get_elem? s.views id ≡ some v → v.spent ≡ false → Holds v.knowledge.held t p
      → (get_elem? r.states t ≡ some (turn_held_by v.knowledge.number p))
      × (get_elem? s.homes t ≡ some (held_slot v.hand t))
  state_held s r id t v p at live h = (r.each_pass id v at live).holding t p h

  word_held : (s : TableState P N) (r : Rule holds lasts s) (id t : ℕ) (v : MidStep P N) (p : P)
      → get_elem? s.views id ≡ some v → v.spent ≡ false → Holds v.knowledge.held t p → get_or s.words (t + 1) 0 ≡ 1
  word_held s r id t v p at live
      h = (r.each_turn t (turn_held_by v.knowledge.number p) (state_held s r id t v p at live h).0).0

  -- the slot of a turn that is held goes into the pass's hand or out of it
  handed : (s : TableState P N) (r : Rule holds lasts s) (id t hand : ℕ) (v : MidStep P N) (p : P)
      (home' : maybe.Option (Option P)) → t < TURNS → get_elem? s.views id ≡ some v → v.spent ≡ false
      → Holds v.knowledge.held t p
      → home' ≡ held_slot hand t → ((u : ℕ) → u ≢ t → held_slot {P = P} hand u ≡ held_slot v.hand u)
      → Rule holds lasts record {
        words = set s.words (t + 1) (get_or s.words (t + 1) 0);
        homes = set s.homes t home';
        views = set s.views id (with_hand hand v.knowledge v);
      }
  handed s r id t hand v p home' small at live h is others =
      let w : MidStep P N = with_hand hand v.knowledge v in
      let d : TurnState P = turn_held_by v.knowledge.number p in
      let state = state_held s r id t v p at live h in
      let n : ℕ = get_or s.words (t + 1) 0 in
      moved P N holds lasts s r (t + 1) n id t v w d d (set s.homes t home') r.log at live live
      record { number = refl; given = refl; ended = refl }
      (λ u ne _. apart_words s.words t n u ne)
      (length-set s.homes t home')
      (λ u ne. set_else s.homes t u home' ne)
      state.0
      (λ k e. cc)
      (λ u q ne x. x)
      (λ u q ne x. x)
      others
      (λ q x. let g = state_held s r id t v q at live x in (
        some-injective d (turn_held_by v.knowledge.number q) (sym state.0 ∙ g.0),
        set_here s.homes t home'
            (in_homes s r t small) ∙ ap some is,
      ))
      (λ k before after x _ _ y. y)
      (quiet s r id v w (set r.states t d) (get_or (set s.words (t + 1) n) 0 0) at live
      (clock_stays s r (t + 1) n (omega arith)) refl refl refl (same_parts r.states t d d state.0 refl)
      (λ wider x. r.kept wider
      (subst (λ (l : List (TurnState P)). Wider l wider) (set_again r.states t d state.0) x))) (
        get_or-set_same s.words (t + 1) n 0 (in_words s r t small) ∙ word_held s r id t v p at live h,
        holder_here s id v w t p at live h,
      )

  pub settles : (slots id : ℕ) (m : SeatState P N) (t : ℕ) (p : P) → t < TURNS → m.0.spent ≡ false → m.0.hand ≡ suc t
      → Holds m.0.knowledge.held t p → m.1 ≡ (t, None) ∷ rest m.1
      → Allows (Rule holds lasts) slots id m (t + 1) (λ y. y) (SettleOutcome (step slots (t + 1) 0 0 none) m)
  settles slots id m t p small live hand h out s r wide at _ = (
    with_hand 0 m.0.knowledge m.0,
    gives,
    tt,
    subst (λ (x : List (ℕ × Option P)). Rule holds lasts
        (stepped s (t + 1) (get_or s.words (t + 1) 0) id x (with_hand 0 m.0.knowledge m.0) gives)) (sym out)
        (handed s r id t 0 m.0 p (some None) small at live h (sym (held_slot_at_home P 0 t (λ e. omega arith)))
        (λ u ne. held_slot_at_home P 0 u (λ e. omega arith)
        ∙ sym (held_slot_at_home P m.0.hand u (λ e. ne (omega (arith, hand)))))),
    refl,
  )

  pub fetches : (slots id : ℕ) (m : SeatState P N) (t : ℕ) (p : P) → t < TURNS → m.0.spent ≡ false → m.0.hand ≡ 0
      → Holds m.0.knowledge.held t p
      → Allows (Rule holds lasts) slots id m (t + 1) (λ y. y) (FetchOutcome (step slots (t + 1) 0 0 none) m)
  fetches slots id m t p small live hand h s r wide at _ = (
    with_hand (suc t) m.0.knowledge m.0,
    takes t None,
    (state_held s r id t m.0 p at live h).1 ∙ ap some (held_slot_at_home P m.0.hand t (λ e. omega (arith, hand))),
    handed s r id t (suc t) m.0 p none small at live h (sym (held_slot_in_hand P t))
        (λ u ne. held_slot_at_home P (suc t) u (λ e. ne (omega arith))
        ∙ sym (held_slot_at_home P m.0.hand u (λ e. omega (arith, hand)))),
    λ u e. ap (λ (z : ℕ). (with_hand (suc z) m.0.knowledge m.0, (z, None) ∷ m.1)) (turn_is t u e),
  )

  -- what the stepping pass may take for granted, of wider desks too
  granted : (s : TableState P N) (r : Rule holds lasts s) (id : ℕ) (v : MidStep P N) (wider : List (TurnState P))
      → get_elem? s.views id ≡ some v → v.spent ≡ false → Wider r.states wider
      → Premises holds lasts v.knowledge r.log wider
  granted s r id v wider at live h =
      let old = r.each_pass id v at live in record {
        kept = r.kept wider h;
        wide = h.long ∙ r.states_are;
        held = λ t p x. let g = h.same t (turn_held_by v.knowledge.number p) (old.holding t p x).0 in
            g.1 ∙ ap some (g.3 v.knowledge.number refl);
        mine = old.made;
        seen = old.seen;
        since = old.since;
        noted = λ m x d e.
            let state = state_at s r m.turn
            (subst (λ (l : ℕ). m.turn < l) (h.long ∙ r.states_are) (within wider m.turn d e)) in
            let g = h.same m.turn state.0 state.1 in
            subst (λ (p : P). lasts v.knowledge.number m.before m.after m.turn m.part p)
            (sym g.2 ∙ ap (λ (y : TurnState P). y.part) (some-injective g.0 d (sym g.1 ∙ e)))
            (old.noted m x state.0 state.1);
      }

  -- the turn is free again, and its part shows q
  pub gives_back : (slots id : ℕ) (m : SeatState P N) (t : ℕ) (p q : P) → t < TURNS → m.0.spent ≡ false
      → m.0.hand ≡ suc t → Holds m.0.knowledge.held t p → m.1 ≡ (t, Some q) ∷ rest m.1
      → IsLawfulPutBack holds lasts m.0.knowledge t p q
      → Allows (Rule holds lasts) slots id m (t + 1) (λ _. 0) (λ _. GiveOutcome (step slots (t + 1) 0 0 none) m 0)
  gives_back slots id m t p q small live hand h out puts s r wide at _ =
      let v : MidStep P N = m.0 in
      let n : ℕ = v.knowledge.number in
      let w : MidStep P N = with_hand 0 (after_release t q v.knowledge) v in
      let d : TurnState P = turn_held_by n p in
      let state = state_held s r id t v p at live h in
      let old = r.each_pass id v at live in
      let now = puts r.log r.states (granted s r id v r.states at live (wider_self r.states)) in
      let homes' : Slots P = set s.homes t (some (Some q)) in (
        w,
        gives,
        tt,
        subst (λ (x : List (ℕ × Option P)). Rule holds lasts (stepped s (t + 1) 0 id x w gives)) (sym out)
            (moved P N holds lasts s r (t + 1) 0 id t v w d (free_turn q) homes' r.log at live live
            record { number = refl; given = refl; ended = refl }
            (λ u ne _. apart_words s.words t 0 u ne)
            (length-set s.homes t (some (Some q)))
            (λ u ne. set_else s.homes t u (some (Some q)) ne)
            state.0
            (λ k e. cc)
            (λ u x ne y. without_holds P t u x v.knowledge.held ne y)
            (λ u x ne y. (holds_without P t u x v.knowledge.held y).0)
            (λ u ne. held_slot_at_home P 0 u (λ e. omega arith)
            ∙ sym (held_slot_at_home P v.hand u (λ e. ne (omega (arith, hand)))))
            (λ x y. absurd ((holds_without P t t x v.knowledge.held y).1 refl))
            (λ k before after x _ tie y. now.all k before after x tie y)
            record {
              clock = clock_stays s r (t + 1) 0 (omega arith);
              others = λ k _. refl;
              longer = le_refl (length r.log);
              made = old.made;
              seen = old.seen;
              since = one_more P N v.knowledge.events v.knowledge.noted _ old.since
                  (fresh_has_all P N v.knowledge.events t q);
              noted = λ x y e f. ⊎_elim
                  (λ (z : Among v.knowledge.noted x). ⊎_elim
                  (λ (a : (x.turn ≡ t) × (free_turn q ≡ e)). subst
                  (λ (b : ℕ × TurnState P). lasts n x.before x.after b.0 x.part b.1.part)
                  (λ l. (sym a.0 l, a.1 l))
                  (now.all n x.before x.after x.part (old.since x z ∙ ap without_places old.made)
                  (subst (λ (b : ℕ). lasts n x.before x.after b x.part p) a.0
                  (old.noted x z d (ap (get_elem? r.states) a.0 ∙ state.0)))))
                  (λ (a : (x.turn ≢ t) × (get_elem? r.states x.turn ≡ some e)). old.noted x z e a.1)
                  (at_set r.states t x.turn (free_turn q) e f))
                  (λ (z : ((observation t q (without_places m.0.knowledge.events)) ≡ x) ⊎ ⊥). ⊎_elim
                  (λ (a : (observation t q (without_places m.0.knowledge.events)) ≡ x). subst
                  (λ (b : Observation P N × TurnState P). lasts n b.0.before b.0.after b.0.turn b.0.part b.1.part)
                  (λ l. (
                    a l,
                    some-injective (free_turn q) e
                        (sym (set_here r.states t (free_turn q) (within r.states t d state.0))
                        ∙ ap (get_elem? (set r.states t (free_turn q))) (ap (λ (b : Observation P N). b.turn) a) ∙ f)
                        l,
                  )) now.noted)
                  (λ (a : ⊥). absurd a)
                  z)
                  (among_append v.knowledge.noted ((observation t q (without_places m.0.knowledge.events)) ∷ []) x y);
              kept = λ wider x.
                  let there = x.same t (free_turn q) (set_here r.states t (free_turn q) (within r.states t d state.0))
                  in
                  let back = wider_back r.states wider t d (free_turn q) state.0 x in
                  subst (holds r.log) (ap (set (set wider t d) t)
                  (λ l. record { holder = there.0.holder; part = sym there.2 l })
                  ∙ set_back wider t d there.0 there.1)
                  ((puts r.log (set wider t d) (granted s r id v (set wider t d) at live back)).kept there.0.holder);
            } (
              get_or-set_same s.words (t + 1) 0 0 (in_words s r t small),
              set_here s.homes t (some (Some q))
                  (in_homes s r t small),
            )),
        λ u x e f. ap (λ (z : ℕ × P). (with_hand 0 (after_release z.0 z.1 v.knowledge) v, rest m.1))
            (λ l. (
              turn_is t u e l,
              same_value (Some q) q x refl
                  (sym (first_is m.1 t u (Some q) (Some x) (rest m.1) (rest m.1) out f)) l,
            )),
      )

  -- a word of no turn changes
  pub stays : (slots id : ℕ) (m : SeatState P N) (i k : ℕ) (f : ℕ → ℕ) → TURNS < i → m.0.spent ≡ false
      → Allows (Rule holds lasts) slots id m i f (StayOutcome (step slots i k 0 none) m)
  stays slots id m i k f far live s r wide at _ =
      let n : ℕ = f (get_or s.words i 0) in (
        m.0,
        keeps,
        tt,
        stands P N holds lasts s r i n id m.0 m.0 r.log at live live record
            { number = refl; given = refl; ended = refl } refl refl
            (λ u small. get_or-set_other s.words i (u + 1) n 0 (λ e. omega arith))
            (quiet s r id m.0 m.0 r.states (get_or (set s.words i n) 0 0) at live (clock_stays s r i n (omega arith))
            refl refl refl (λ u y e. (y, e, refl)) r.kept),
        refl,
      )

  -- one more event, on the clock
  clock_next : (s : TableState P N) (r : Rule holds lasts s) (e : Event N)
      → get_or (set s.words 0 ((get_or s.words 0 0 + 1) % 2 ^ 64)) 0 0 ≡ length (r.log ++ e ∷ []) % 2 ^ 64
  clock_next s r e =
      get_or-set_same s.words 0 ((get_or s.words 0 0 + 1) % 2 ^ 64) 0 (let h : length s.words ≡ WORDS = r.words_are in
      omega arith)
      ∙ ap (λ (z : ℕ). (z + 1) % 2 ^ 64) r.clock ∙ mod-add-mod (length r.log) (2 ^ 64) 1
      ∙ ap (λ (z : ℕ). z % 2 ^ 64) (sym (length-append r.log (e ∷ [])))

  longer_by : (log : List (Event N)) (e : Event N) → length log + 1 ≡ length (log ++ e ∷ [])
  longer_by log e = sym (length-append log (e ∷ []))

  -- the history goes on by an event of the pass v, which is then w: what it noted, and the fact, are told beside
  event_next : (s : TableState P N) (r : Rule holds lasts s) (id : ℕ) (v w : MidStep P N) (e : Event N)
      (states' : List (TurnState P)) → get_elem? s.views id ≡ some v → v.spent ≡ false → e.by ≡ v.knowledge.number
      → w.knowledge.events ≡ v.knowledge.events ++ (length r.log, e) ∷ [] → w.knowledge.seen ≡ length r.log + 1
      → ((m : Observation P N) → Among w.knowledge.noted m → m.before ++ m.after ≡ without_places w.knowledge.events)
      → ((m : Observation P N) → Among w.knowledge.noted m → (d : TurnState P) → get_elem? states' m.turn ≡ some d
      → lasts v.knowledge.number m.before m.after m.turn m.part d.part)
      → ((wider : List (TurnState P)) → Wider states' wider → holds (r.log ++ e ∷ []) wider)
      → Next P N holds lasts r.log (r.log ++ e ∷ []) states' v.knowledge.number
      (get_or (set s.words 0 ((get_or s.words 0 0 + 1) % 2 ^ 64)) 0 0) w
  event_next s r id v w e states' at live by events seen since noted kept = record {
    clock = clock_next s r e;
    others = λ j ne. events_of-other j r.log e (λ f. ne (sym f ∙ by));
    longer = omega (arith, longer_by r.log e);
    made = events ∙ ap (λ l. l ++ (length r.log, e) ∷ []) (r.each_pass id v at live).made
        ∙ sym (events_of-own v.knowledge.number r.log e by);
    seen = omega (arith, longer_by r.log e, seen);
    since = since;
    noted = noted;
    kept = kept;
  }

  pub ticks : (slots id : ℕ) (m : SeatState P N) (t : ℕ) (p : P) (x : N) (q : P) → t < TURNS → m.0.spent ≡ false
      → Holds m.0.knowledge.held t p → IsLawfulEvent holds lasts m.0.knowledge t p x q
      → Allows (Rule holds lasts) slots id m 0 (λ y. (y + 1) % 2 ^ 64)
      (TickOutcome t (Some q) (Some x) (step slots 0 1 0 none) m)
  ticks slots id m t p x q small live h makes s r wide at _ =
      let v : MidStep P N = m.0 in
      let n : ℕ = v.knowledge.number in
      let e : Event N = event_under t x v.knowledge in
      let k : ℕ = length r.log in
      let w : MidStep P N = with_hand v.hand (after_event t q x k v.knowledge) v in
      let d : TurnState P = turn_held_by n p in
      let d' : TurnState P = turn_held_by n q in
      let state = state_held s r id t v p at live h in
      let old = r.each_pass id v at live in
      let now = makes r.log r.states (granted s r id v r.states at live (wider_self r.states)) in
      let y : ℕ = get_or s.words 0 0 in
      let log' : List (Event N) = r.log ++ e ∷ [] in
      let fresh : Observation P N = observation t q (without_places v.knowledge.events ++ e ∷ []) in (
        w,
        keeps,
        tt,
        moved P N holds lasts s r 0 ((y + 1) % 2 ^ 64) id t v w d d' s.homes log' at live live
            record { number = refl; given = refl; ended = refl }
            (λ u _ _. get_or-set_other s.words 0 (u + 1) ((y + 1) % 2 ^ 64) 0 (λ e. omega arith))
            refl
            (λ u _. refl)
            state.0
            (λ j e. cc)
            (λ u a ne z. inr (without_holds P t u a v.knowledge.held ne z))
            (λ u a ne z. ⊎_elim (λ (b : (t ≡ u) × (q ≡ a)). absurd (ne (sym b.0)))
            (λ (b : Holds (without t v.knowledge.held) u a). (holds_without P t u a v.knowledge.held b).0) z)
            (λ u _. refl)
            (λ a z. ⊎_elim (λ (b : (t ≡ t) × (q ≡ a)). (ap (turn_held_by n) b.1, state.1))
            (λ (b : Holds (without t v.knowledge.held) t a). absurd
            ((holds_without P t t a v.knowledge.held b).1 refl)) z)
            (λ j before after a ne tie z. now.others j before after a ne tie z)
            (event_next s r id v w e (set r.states t d') at live refl refl refl
            (one_more P N (v.knowledge.events ++ (k, e) ∷ []) (map (with_event e) v.knowledge.noted) fresh
            (all_later P N v.knowledge.events k e v.knowledge.noted old.since)
            (made_has_all P N v.knowledge.events k e t q))
            (λ a z y' f. ⊎_elim
            (λ (b : Among (map (with_event e) v.knowledge.noted) a).
            let c = among_map (with_event e) v.knowledge.noted a b in
            ⊎_elim
            (λ (g : (a.turn ≡ t) × (d' ≡ y')).
            let was = subst (λ (u : ℕ). lasts n c.0.before c.0.after u c.0.part p)
            (ap (λ (u : Observation P N). u.turn) c.2 ∙ g.0)
            (old.noted c.0 c.1 d (ap (get_elem? r.states) (ap (λ (u : Observation P N). u.turn) c.2 ∙ g.0)
            ∙ state.0)) in
            subst (λ (u : Observation P N × TurnState P). lasts n u.0.before u.0.after u.0.turn u.0.part u.1.part)
            (λ l. (c.2 l, g.1 l))
            (subst (λ (u : ℕ). lasts n c.0.before (c.0.after ++ e ∷ []) u c.0.part q)
            (sym (ap (λ (u : Observation P N). u.turn) c.2 ∙ g.0))
            (now.here c.0.before c.0.after c.0.part (old.since c.0 c.1 ∙ ap without_places old.made) was)))
            (λ (g : (a.turn ≢ t) × (get_elem? r.states a.turn ≡ some y')).
            let turn = ap (λ (u : Observation P N). u.turn) c.2 in
            let there = ap (get_elem? r.states) turn ∙ g.1 in
            subst (λ (u : Observation P N). lasts n u.before u.after u.turn u.part y'.part) c.2
            (now.besides c.0.turn c.0.before c.0.after c.0.part y' (λ is. g.0 (sym turn ∙ is)) there
            (old.since c.0 c.1 ∙ ap without_places old.made) (old.noted c.0 c.1 y' there)))
            (at_set r.states t a.turn d' y' f))
            (λ (b : (fresh ≡ a) ⊎ ⊥). ⊎_elim
            (λ (c : fresh ≡ a). subst
            (λ (u : Observation P N × TurnState P). lasts n u.0.before u.0.after u.0.turn u.0.part u.1.part)
            (λ l. (
              c l,
              some-injective d' y' (sym (set_here r.states t d' (within r.states t d state.0))
                  ∙ ap (get_elem? (set r.states t d')) (ap (λ (u : Observation P N). u.turn) c) ∙ f) l,
            )) now.noted)
            (λ (c : ⊥). absurd c)
            b)
            (among_append (map (with_event e) v.knowledge.noted) (fresh ∷ []) a z))
            (λ wider z.
            let there = z.same t d' (set_here r.states t d' (within r.states t d state.0)) in
            let back = wider_back r.states wider t d d' state.0 z in
            subst (holds log') (set_back wider t d d' (there.1 ∙ ap some (there.3 n refl)))
            ((makes r.log (set wider t d) (granted s r id v (set wider t d) at live back)).kept))) (
              get_or-set_other s.words 0 (t + 1) ((y + 1) % 2 ^ 64) 0 (λ e. omega arith)
                  ∙ word_held s r id t v p at live h,
              holder_here s id v w t q at live (inl (refl, refl)),
            ),
        λ a b f g. (
          k,
          (old.seen, r.clock),
          ap (λ (z : P × N). (with_hand v.hand (after_event t z.0 z.1 k v.knowledge) v, m.1))
              (λ l. (same_value (Some q) q a refl f l, same_value (Some x) x b refl g l)),
        ),
      )

  pub ticks_free : (slots id : ℕ) (m : SeatState P N) (x : N) → m.0.spent ≡ false
      → IsLawfulFreeEvent holds lasts m.0.knowledge x
      → Allows (Rule holds lasts) slots id m 0 (λ y. (y + 1) % 2 ^ 64)
      (TickFreeOutcome (Some x) (step slots 0 1 0 none) m)
  ticks_free slots id m x live makes s r wide at _ =
      let v : MidStep P N = m.0 in
      let n : ℕ = v.knowledge.number in
      let e : Event N = event_without_turn x v.knowledge in
      let k : ℕ = length r.log in
      let w : MidStep P N = with_hand v.hand (after_free_event x k v.knowledge) v in
      let old = r.each_pass id v at live in
      let now = makes r.log r.states (granted s r id v r.states at live (wider_self r.states)) in
      let y : ℕ = get_or s.words 0 0 in
      let log' : List (Event N) = r.log ++ e ∷ [] in (
        w,
        keeps,
        tt,
        stands P N holds lasts s r 0 ((y + 1) % 2 ^ 64) id v w log' at live live
            record { number = refl; given = refl; ended = refl }
            refl
            refl
            (λ u _. get_or-set_other s.words 0 (u + 1) ((y + 1) % 2 ^ 64) 0 (λ e. omega arith))
            (event_next s r id v w e r.states at live refl refl refl
            (all_later P N v.knowledge.events k e v.knowledge.noted old.since)
            (λ a z y' f.
            let c = among_map (with_event e) v.knowledge.noted a z in
            let there = ap (get_elem? r.states) (ap (λ (u : Observation P N). u.turn) c.2) ∙ f in
            subst (λ (u : Observation P N). lasts n u.before u.after u.turn u.part y'.part) c.2
            (now.each c.0.turn c.0.before c.0.after c.0.part y' there (old.since c.0 c.1
            ∙ ap without_places old.made) (old.noted c.0 c.1 y' there)))
            (λ wider z. (makes r.log wider (granted s r id v wider at live z)).kept)),
        λ b g. (
          k,
          (old.seen, r.clock),
          ap (λ (z : N). (with_hand v.hand (after_free_event z k v.knowledge) v, m.1))
              (same_value (Some x) x b refl g),
        ),
      )

  pub looks : (slots id : ℕ) (m : SeatState P N) → m.0.spent ≡ false
      → Allows (Rule holds lasts) slots id m 0 (λ y. y) (LookOutcome (step slots 0 0 0 none) m)
  looks slots id m live s r wide at _ =
      let v : MidStep P N = m.0 in
      let k : ℕ = length r.log in
      let w : MidStep P N = with_hand v.hand (after_look k v.knowledge) v in
      let old = r.each_pass id v at live in
      let y : ℕ = get_or s.words 0 0 in (
        w,
        keeps,
        tt,
        stands P N holds lasts s r 0 y id v w r.log at live live
            record { number = refl; given = refl; ended = refl }
            refl
            refl
            (λ u _. same_words s.words 0 (u + 1))
            record {
              clock = same_words s.words 0 0 ∙ r.clock;
              others = λ j ne. refl;
              longer = le_refl k;
              made = old.made;
              seen = le_refl k;
              since = old.since;
              noted = old.noted;
              kept = r.kept;
            },
        (k, old.seen, r.clock, refl),
      )
