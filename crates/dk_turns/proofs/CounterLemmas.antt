-- Counters that add up, for the tests.
use Rattle.std.proofs.Common.{◌≡◌, ◌⊎◌, ℕ, zero, suc, ◌+◌, ◌<◌, List, [], ◌∷◌, ◌++◌, length, map, take, set, get_or, replicate, refl, sym, ap, ◌∙◌, subst, inl, inr, ⊎_elim, arith, length-append, le_refl}
use mathlib.Core.Option.{some, some-injective, some-ne-none}
use lib.ListN.{get_elem?}
use Rattle.std.specs.Prelude.{Some}
use Rattle.std.proofs.Math.Seq.{take-append_seam}
use Rattle.dk_turns.specs.declared.knowledge.Knowledge.{Knowledge}
use Rattle.atomic_table.specs.Seated.{TableId}
use mathlib.Core.Logic.{dite}
use native.Mathlib.Decide.{ℕ_discrete}
use Rattle.dk_turns.specs.declared.layout.TheConstants.{TURNS}
use Rattle.dk_turns.specs.Counters.{AddsUp, NeverFalls, total}
use Rattle.dk_turns.specs.IdlePasses.{CanClose, StaysIdle}
use Rattle.dk_turns.specs.KnowledgeAfter.{AfterWait, after_event, after_release, after_split, after_take, newcomer}
use Rattle.dk_turns.specs.LawfulSteps.{IsLawfulEvent, IsLawfulPutBack, MayMakeEvent, MayPutBack}
use Rattle.dk_turns.specs.PassViews.{AllIdle, HasNumber, HeldView, PassView, numbers_given}
use Rattle.dk_turns.specs.Rule.{Wider}
use Rattle.dk_turns.specs.TurnStates.{Among, Holds, TurnState, free_turn, turn_held_by, without}
use Rattle.dk_turns.proofs.TurnListLemmas.{among_append, among_right, chosen}
use Rattle.dk_turns.proofs.GatherLemmas.{among_left, numbers_given-snoc}

total_set : (l : List (TurnState ℕ)) (t : ℕ) (d d' : TurnState ℕ) → get_elem? l t ≡ some d
    → total (set l t d') + d.part ≡ total l + d'.part
total_set [] t d d' e = absurd (some-ne-none d (sym e))
total_set (x ∷ xs) zero d d' e = let h : x.part ≡ d.part = ap (λ (y : TurnState ℕ). y.part) (some-injective x d e) in
    omega (arith, h)
total_set (x ∷ xs) (suc t) d d' e = let h = total_set xs t d d' e in omega (arith, h)

module _ {N : Type 0} where
  pub counts : (v : Knowledge ℕ N) (t p : ℕ) (x : N) → Holds v.held t p
      → IsLawfulEvent AddsUp NeverFalls v t p x (p + 1)
  counts v t p x h log states given =
      let s = total_set states t (turn_held_by v.number p) (turn_held_by v.number (p + 1)) (given.held t p h) in
      let k = given.kept in record {
        kept = omega (arith, s, k, length-append log ((record { by = v.number; turn = Some t; note = x }) ∷ []));
        others = λ n before after y ne _ l. omega (arith, l);
        here = λ before after y _ l. omega (arith, l);
        besides = λ u before after y d ne at _ l. l;
        noted = le_refl (p + 1);
      }

  pub puts : (v : Knowledge ℕ N) (t p : ℕ) → Holds v.held t p → IsLawfulPutBack AddsUp NeverFalls v t p p
  puts v t p h log states given = record {
    kept = λ o. let s = total_set states t (turn_held_by v.number p) (record { holder = o; part = p })
        (given.held t p h) in let k = given.kept in omega (arith, s, k);
    all = λ n before after y _ l. l;
    noted = le_refl p;
  }

  pub may_count : (v w : Knowledge ℕ N) (turn p : ℕ) (held : HeldView ℕ) (x : N) → turn < TURNS → AfterWait turn p v w
      → held.turn ≡ turn → held.part ≡ p + 1 → MayMakeEvent AddsUp NeverFalls w held x
  may_count v w turn p held x small waited is more =
      let has : Holds w.held turn p = subst (λ (s : Knowledge ℕ N). Holds s.held turn p) (sym waited.1)
      (inl (refl, refl)) in (
        subst (λ (z : ℕ). z < TURNS) (sym is) small,
        (
          p,
          subst (λ (z : ℕ). Holds w.held z p) (sym is) has,
          subst (λ (z : ℕ × ℕ). IsLawfulEvent AddsUp NeverFalls w z.0 p x z.1) (λ k. (sym is k, sym more k))
              (counts w turn p x has),
        ),
      )

  -- a turn that was just taken, or whose part was just shown, may be put back as it is
  pub may_put : (w : Knowledge ℕ N) (held : HeldView ℕ) (hs : List (ℕ × ℕ)) → held.turn < TURNS
      → w.held ≡ (held.turn, held.part) ∷ hs → MayPutBack AddsUp NeverFalls w held
  may_put w held hs small is =
      let has : Holds w.held held.turn held.part = subst (λ (l : List (ℕ × ℕ)). Holds l held.turn held.part) (sym is)
      (inl (refl, refl)) in
      (small, (held.part, has, puts w held.turn held.part has))

  pub may_put_taken : (v w : Knowledge ℕ N) (turn : ℕ) (held : HeldView ℕ) → turn < TURNS
      → AfterWait turn held.part v w → held.turn ≡ turn → MayPutBack AddsUp NeverFalls w held
  may_put_taken v w turn held small waited is =
      may_put w held v.held (subst (λ (z : ℕ). z < TURNS) (sym is) small) (ap (λ (s : Knowledge ℕ N). s.held) waited.1
      ∙ ap (λ (z : ℕ). (z, held.part) ∷ v.held) (sym is))

  pub may_put_tried : (v w : Knowledge ℕ N) (turn : ℕ) (held : HeldView ℕ) → turn < TURNS → held.turn ≡ turn
      → w ≡ after_take turn held.part v → MayPutBack AddsUp NeverFalls w held
  may_put_tried v w turn held small is e =
      may_put w held v.held (subst (λ (z : ℕ). z < TURNS) (sym is) small) (ap (λ (s : Knowledge ℕ N). s.held) e
      ∙ ap (λ (z : ℕ). (z, held.part) ∷ v.held) (sym is))

  pub may_put_made : (v w : Knowledge ℕ N) (x : N) (k : ℕ) (before held : HeldView ℕ) → held.turn < TURNS
      → held ≡ before → w ≡ after_event before.turn before.part x k v → MayPutBack AddsUp NeverFalls w held
  may_put_made v w x k before held small same is =
      may_put w held (without before.turn v.held) small (ap (λ (s : Knowledge ℕ N). s.held) is
      ∙ ap (λ (h : HeldView ℕ). (h.turn, h.part) ∷ without before.turn v.held) (sym same))

pub stays_self : {P N : Type 0} (x : PassView P N) → x.knowledge.held ≡ [] → StaysIdle x x
stays_self x held = record { turns = refl; held = held; number = refl; given = refl }

pub stays_more : {P N : Type 0} (x y z : PassView P N) → StaysIdle x y → StaysIdle y z → StaysIdle x z
stays_more x y z a b = record {
  turns = b.turns ∙ a.turns;
  held = b.held;
  number = b.number
      ∙ a.number;
  given = b.given ∙ a.given;
}

-- a turn was taken and released
pub stays_back : {P N : Type 0} (x y z : PassView P N) (t : ℕ) (held : HeldView P) → x.knowledge.held ≡ []
    → y.turns ≡ x.turns → AfterWait t held.part x.knowledge y.knowledge → held.turn ≡ t → z.turns ≡ y.turns
    → z.knowledge ≡ after_release held.turn held.part y.knowledge → StaysIdle x z
stays_back {P} {N} x y z t held idle turns waited is turns' back =
    let taken : y.knowledge.held ≡ (t, held.part) ∷ [] = ap (λ (s : Knowledge P N). s.held) waited.1
    ∙ ap (λ (l : List (ℕ × P)). (t, held.part) ∷ l) idle in record {
      turns = turns' ∙ turns;
      held = ap (λ (s : Knowledge P N). s.held) back ∙ ap (without held.turn) taken
          ∙ chosen t held.turn [] ((t, held.part) ∷ []) (sym is);
      number = ap (λ (s : Knowledge P N). s.number) back ∙ ap (λ (s : Knowledge P N). s.number) waited.1;
      given = ap (λ (s : Knowledge P N). s.given) back ∙ ap (λ (s : Knowledge P N). s.given) waited.1;
    }

pub starts_even : (N : Type 0) (parts : List ℕ) (n : ℕ) → parts ≡ replicate n 0 → (states : List (TurnState ℕ))
    → Wider (map free_turn parts) states → AddsUp {N = N} [] states
starts_even N parts n e states w = same (map free_turn parts) states w.long (λ t d at. let g = w.same t d at in
    (g.0, g.1, g.2)) ∙ ap (λ l. total (map free_turn l)) e ∙ none n
  where
    none : (k : ℕ) → total (map free_turn (replicate k 0)) ≡ 0
    none zero = refl
    none (suc k) = let h = none k in omega (arith, h)

    same : (l m : List (TurnState ℕ)) → length m ≡ length l
        → ((t : ℕ) (d : TurnState ℕ) → get_elem? l t ≡ some d → (w : TurnState ℕ) × (get_elem? m t ≡ some w)
        × (w.part ≡ d.part)) → total m ≡ total l
    same [] [] e h = refl
    same [] (y ∷ ys) e h = absurd (omega arith)
    same (x ∷ xs) [] e h = absurd (omega arith)
    same (x ∷ xs) (y ∷ ys) e h =
        let first = h zero x refl in
        let part : y.part ≡ x.part = ap (λ (d : TurnState ℕ). d.part) (some-injective y first.0 first.1) ∙ first.2 in
        let rest = same xs ys (omega arith) (λ t d at. h (suc t) d at) in omega (arith, part, rest)

module _ {P N : Type 0} where
  -- passes that come back idle are ready again
  pub ready_again : (turns : TableId) (xs ys : List (PassView P N)) → length ys ≡ length xs
      → ((i : ℕ) (d : PassView P N) → i < length xs → StaysIdle (get_or xs i d) (get_or ys i d)) → CanClose turns xs
      → CanClose turns ys
  ready_again turns xs ys long each ready =
      let g = gave xs ys long each in record {
        idle = λ p h. let q = came xs ys long each p h in (q.2.turns ∙ (ready.idle q.0 q.1).0, q.2.held);
        whole = (
          subst (λ (n : ℕ). 0 < n) (sym g) ready.whole.0,
          λ n h. let q = ready.whole.1 n
              (subst (λ (m : ℕ). n < m) g h) in let back = went xs ys long each q.0 q.1 in
              (back.0, back.1, back.2.number ∙ q.2),
        );
      }
    where
      gave : (xs ys : List (PassView P N)) → length ys ≡ length xs
          → ((i : ℕ) (d : PassView P N) → i < length xs → StaysIdle (get_or xs i d) (get_or ys i d))
          → numbers_given ys ≡ numbers_given xs
      gave [] [] e h = refl
      gave [] (y ∷ ys) e h = absurd (omega arith)
      gave (x ∷ xs) [] e h = absurd (omega arith)
      gave (x ∷ xs) (y ∷ ys) e h = let f : y.knowledge.given ≡ x.knowledge.given = (h zero x (omega arith)).given in
          let r = gave xs ys (omega arith) (λ i d l. h (suc i) d (omega arith)) in omega (arith, f, r)

      came : (xs ys : List (PassView P N)) → length ys ≡ length xs
          → ((i : ℕ) (d : PassView P N) → i < length xs → StaysIdle (get_or xs i d) (get_or ys i d))
          → (p : PassView P N) → Among ys p → (q : PassView P N) × Among xs q × StaysIdle q p
      came [] [] e h p a = absurd a
      came [] (y ∷ ys) e h p a = absurd (omega arith)
      came (x ∷ xs) [] e h p a = absurd a
      came (x ∷ xs) (y ∷ ys) e h p a = ⊎_elim
          (λ (z : y ≡ p). (x, inl refl, subst (StaysIdle x) z (h zero x (omega arith))))
          (λ (z : Among ys p). let q = came xs ys (omega arith) (λ i d l. h (suc i) d (omega arith)) p z in
          (q.0, inr q.1, q.2))
          a

      went : (xs ys : List (PassView P N)) → length ys ≡ length xs
          → ((i : ℕ) (d : PassView P N) → i < length xs → StaysIdle (get_or xs i d) (get_or ys i d))
          → (q : PassView P N) → Among xs q → (p : PassView P N) × Among ys p × StaysIdle q p
      went [] ys e h q a = absurd a
      went (x ∷ xs) [] e h q a = absurd (omega arith)
      went (x ∷ xs) (y ∷ ys) e h q a = ⊎_elim
          (λ (z : x ≡ q). (y, inl refl, subst (λ (w : PassView P N). StaysIdle w y) z (h zero x (omega arith))))
          (λ (z : Among xs q). let p = went xs ys (omega arith) (λ i d l. h (suc i) d (omega arith)) q z in
          (p.0, inr p.1, p.2))
          a

  pub ready_pair : (turns : TableId) (x y x' y' : PassView P N) → StaysIdle x x' → StaysIdle y y'
      → CanClose turns (y ∷ x ∷ []) → CanClose turns (y' ∷ x' ∷ [])
  ready_pair turns x y x' y' a b ready = ready_again turns (y ∷ x ∷ []) (y' ∷ x' ∷ []) refl each ready
    where
      each : (i : ℕ) (d : PassView P N) → i < 2 → StaysIdle (get_or (y ∷ x ∷ []) i d) (get_or (y' ∷ x' ∷ []) i d)
      each zero d l = b
      each (suc zero) d l = a
      each (suc (suc i)) d l = absurd (omega arith)

  pub among_at : (xs : List (PassView P N)) (i : ℕ) (p : PassView P N) → i < length xs → p ≡ get_or xs i p → Among xs p
  among_at [] i p h e = absurd (omega arith)
  among_at (x ∷ xs) zero p h e = inl (sym e)
  among_at (x ∷ xs) (suc i) p h e = inr (among_at xs i p (omega arith) e)

  -- passes that the first one gave a number, so far
  pub record Building (turns : TableId) (first : PassView P N) (ps : List (PassView P N)) : Type 0 where
    pub turns_are : first.turns ≡ turns
    pub held : first.knowledge.held ≡ []
    pub number : first.knowledge.number ≡ 0
    pub some_given : 0 < first.knowledge.given
    pub idle : AllIdle turns ps
    pub given : numbers_given ps ≡ 0
    pub numbers : (n : ℕ) → 0 < n → n < first.knowledge.given → HasNumber ps n

  pub build_first : (turns : TableId) (first : PassView P N) → first.turns ≡ turns → first.knowledge ≡ newcomer 0 1 0
      → Building turns first []
  build_first turns first t e = record {
    turns_are = t;
    held = ap (λ (s : Knowledge P N). s.held) e;
    number = ap (λ (s : Knowledge P N). s.number) e;
    some_given = subst (λ (s : Knowledge P N). 0 < s.given) (sym e) (omega arith);
    idle = λ p h. absurd h;
    given = refl;
    numbers = λ n a b. absurd (let h : first.knowledge.given ≡ 1 = ap (λ (s : Knowledge P N). s.given) e in
        omega (arith, h, a, b));
  }

  pub build_more : (turns : TableId) (first first' p : PassView P N) (ps qs : List (PassView P N))
      → Building turns first ps → first'.turns ≡ first.turns → first'.knowledge ≡ after_split first.knowledge
      → p.turns ≡ turns → p.knowledge ≡ newcomer first.knowledge.given 0 first.knowledge.seen → qs ≡ ps ++ p ∷ []
      → Building turns first' qs
  build_more turns first first' p ps qs b t e pt pe is =
      let given : first'.knowledge.given ≡ first.knowledge.given + 1 = ap (λ (s : Knowledge P N). s.given) e in
      subst (λ (l : List (PassView P N)). Building turns first' l) (sym is) record {
        turns_are = t ∙ b.turns_are;
        held = ap (λ (s : Knowledge P N). s.held) e ∙ b.held;
        number = ap (λ (s : Knowledge P N). s.number) e ∙ b.number;
        some_given = omega (arith, given);
        idle = λ q h. ⊎_elim (λ (x : Among ps q). b.idle q x)
            (λ (x : (p ≡ q) ⊎ ⊥). ⊎_elim
            (λ (y : p ≡ q). subst (λ (z : PassView P N). (z.turns ≡ turns) × (z.knowledge.held ≡ [])) y
            (pt, ap (λ (s : Knowledge P N). s.held) pe)) (λ (y : ⊥). absurd y) x)
            (among_append ps (p ∷ []) q h);
        given = let s = numbers_given-snoc ps p in
            let f : p.knowledge.given ≡ 0 = ap (λ (s : Knowledge P N). s.given) pe in let h = b.given in
            omega (arith, s, f, h);
        numbers = λ n low high. dite (ℕ_discrete n first.knowledge.given)
            (λ same. (p, among_right ps (p ∷ []) p (inl refl), ap (λ (s : Knowledge P N). s.number) pe ∙ sym same))
            (λ ne. let q = b.numbers n low (omega (arith, given, high)) in (q.0, among_left ps (p ∷ []) q.0 q.1, q.2));
      }

  pub build_end : (turns : TableId) (first : PassView P N) (ps qs : List (PassView P N)) → Building turns first ps
      → qs ≡ ps ++ first ∷ [] → CanClose turns qs
  build_end turns first ps qs b is =
      let all : numbers_given (ps ++ first ∷ []) ≡ first.knowledge.given = (let s = numbers_given-snoc ps first in
      let h = b.given in omega (arith, s, h)) in
      subst (λ (l : List (PassView P N)). CanClose turns l) (sym is) record {
        idle = λ q h. ⊎_elim (λ (x : Among ps q). b.idle q x)
            (λ (x : (first ≡ q) ⊎ ⊥). ⊎_elim
            (λ (y : first ≡ q). subst (λ (z : PassView P N). (z.turns ≡ turns) × (z.knowledge.held ≡ [])) y
            (b.turns_are, b.held)) (λ (y : ⊥). absurd y) x)
            (among_append ps (first ∷ []) q h);
        whole = (
          omega (arith, all, b.some_given),
          λ n h. dite (ℕ_discrete n 0)
              (λ same. (first, among_right ps (first ∷ []) first (inl refl), b.number ∙ sym same))
              (λ ne. let q = b.numbers n (omega arith) (omega (arith, all, h)) in
              (q.0, among_left ps (first ∷ []) q.0 q.1, q.2)),
        );
      }

  pub build_pair : (turns : TableId) (first first' p : PassView P N) → first.turns ≡ turns
      → first.knowledge ≡ newcomer 0 1 0 → first'.turns ≡ first.turns → first'.knowledge ≡ after_split first.knowledge
      → p.turns ≡ turns → p.knowledge ≡ newcomer first.knowledge.given 0 first.knowledge.seen
      → CanClose turns (p ∷ first' ∷ [])
  build_pair turns first first' p t e t' e' pt pe =
      build_end turns first' (p ∷ []) (p ∷ first' ∷ [])
      (build_more turns first first' p [] (p ∷ []) (build_first turns first t e) t' e' pt pe refl) refl

-- what a borrowed slice leaves in its vector
pub whole_again : {A : Type 0} (n : ℕ) (ys zs : List A) → n ≡ length ys → take n (ys ++ zs) ≡ ys
whole_again n ys zs e = ap (λ (m : ℕ). take m (ys ++ zs)) e ∙ take-append_seam ys zs
