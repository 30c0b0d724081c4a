-- How passes are joined to one.
use Rattle.std.proofs.Common.{◌≡◌, ◌⊎◌, ◌+◌, List, [], ◌∷◌, ◌++◌, refl, sym, ap, ◌∙◌, subst, inl, inr, ⊎_elim, arith}
use Rattle.atomic_table.specs.Seated.{TableId}
use Rattle.dk_turns.specs.declared.knowledge.EndedPass.{EndedPass}
use Rattle.dk_turns.specs.declared.knowledge.Knowledge.{Knowledge}
use Rattle.dk_turns.specs.declared.knowledge.MidStep.{MidStep}
use Rattle.dk_turns.specs.PassViews.{AllIdle, IsIn, IsWhole, JoinsAll, PassView, numbers_given}
use Rattle.dk_turns.specs.Rule.{IsLast}
use Rattle.dk_turns.specs.StepOutcomes.{IsIdle, SeatState, joining_pass}
use Rattle.dk_turns.specs.TurnStates.{Among}
use Rattle.dk_turns.proofs.TurnListLemmas.{among_append, among_right}

pub among_left : {A : Type 0} (xs ys : List A) (x : A) → Among xs x → Among (xs ++ ys) x
among_left [] ys x h = absurd h
among_left (y ∷ xs) ys x h = ⊎_elim (λ (e : y ≡ x). inl e) (λ (z : Among xs x). inr (among_left xs ys x z)) h

module _ {P N : Type 0} where
  pub numbers_given-snoc : (ps : List (PassView P N)) (p : PassView P N)
      → numbers_given (ps ++ p ∷ []) ≡ p.knowledge.given + numbers_given ps
  numbers_given-snoc [] p = refl
  numbers_given-snoc (q ∷ ps) p = let h = numbers_given-snoc ps p in omega (arith, h)

  -- the passes that are left, and one to which the others were joined
  pub record Gathering (turns : TableId) (all left : List (PassView P N)) (table : TableId) (m : SeatState P N) : Type
      0 where
    pub table_is : table ≡ turns
    pub idle : IsIdle m
    pub held : m.0.knowledge.held ≡ []
    pub rest : AllIdle turns left
    pub given : m.0.knowledge.given + numbers_given left ≡ numbers_given all
    pub covered : (p : PassView P N) → Among all p → IsIn p m.0 ⊎ Among left p

  pub gather_first : (turns : TableId) (left all : List (PassView P N)) (p : PassView P N) (m : SeatState P N)
      → all ≡ left ++ p ∷ [] → AllIdle turns all → p.knowledge ≡ m.0.knowledge → IsIdle m
      → Gathering turns all left p.turns m
  gather_first turns left all p m e all_idle is idle =
      let parts : AllIdle turns (left ++ p ∷ []) = subst (AllIdle turns) e all_idle in
      let last = parts p (among_right left (p ∷ []) p (inl refl)) in record {
        table_is = last.0;
        idle = idle;
        held = ap (λ (x : Knowledge P N). x.held) (sym is) ∙ last.1;
        rest = λ q h. parts q (among_left left (p ∷ []) q h);
        given = sym (ap numbers_given e ∙ numbers_given-snoc left p
            ∙ ap (λ (x : Knowledge P N). x.given + numbers_given left) is);
        covered = λ q h. ⊎_elim (λ (x : Among left q). inr x)
            (λ (x : (p ≡ q) ⊎ ⊥). ⊎_elim
            (λ (y : p ≡ q). inl (inl (
              ap (λ (z : PassView P N). z.knowledge.number) (sym y)
                  ∙ ap (λ (z : Knowledge P N). z.number) is,
              ap (λ (z : PassView P N). z.knowledge.events) (sym y)
                  ∙ ap (λ (z : Knowledge P N). z.events) is,
            ))) (λ (y : ⊥). absurd y) x)
            (among_append left (p ∷ []) q (subst (λ (l : List (PassView P N)). Among l q) e h));
      }

  -- what the next pass is like
  pub next_is : (turns table : TableId) (left all : List (PassView P N)) (p : PassView P N) (m : SeatState P N)
      → Gathering turns all (left ++ p ∷ []) table m → (p.turns ≡ turns) × (p.knowledge.held ≡ [])
  next_is turns table left all p m g = g.rest p (among_right left (p ∷ []) p (inl refl))

  in_more : (q : PassView P N) (v w : MidStep P N) → IsIn q v → IsIn q (joining_pass v w)
  in_more q v w h = ⊎_elim
      (λ (x : (q.knowledge.number ≡ v.knowledge.number) × (q.knowledge.events ≡ v.knowledge.events)). inl x)
      (λ (x : (e : EndedPass N) × Among v.knowledge.ended e × (e.number ≡ q.knowledge.number)
      × (e.events ≡ q.knowledge.events)). inr (
        x.0,
        inr (among_right w.knowledge.ended v.knowledge.ended x.0 x.1),
        x.2,
        x.3,
      ))
      h

  pub gather_more : (turns table table' : TableId) (left before all : List (PassView P N)) (p : PassView P N)
      (m m' : SeatState P N) (w : MidStep P N) → before ≡ left ++ p ∷ [] → Gathering turns all before table m
      → p.knowledge ≡ w.knowledge → table' ≡ table → m' ≡ (joining_pass m.0 w, m.1)
      → Gathering turns all left table' m'
  gather_more turns table table' left before all p m m' w cut g0 is same e =
      let g = subst (λ (l : List (PassView P N)). Gathering turns all l table m) cut g0 in
      let becomes : (q : PassView P N) → IsIn q (joining_pass m.0 w)
      → IsIn q m'.0 = λ q h. subst (λ (z : SeatState P N). IsIn q z.0) (sym e) h in record {
        table_is = same ∙ g.table_is;
        idle = (
          ap (λ (x : SeatState P N). x.1) e ∙ g.idle.0,
          ap (λ (x : SeatState P N). x.0.spent) e
              ∙ g.idle.1,
          ap (λ (x : SeatState P N). x.0.hand) e ∙ g.idle.2,
        );
        held = ap (λ (x : SeatState P N). x.0.knowledge.held) e ∙ g.held;
        rest = λ q h. g.rest q (among_left left (p ∷ []) q h);
        given = let a = ap (λ (x : SeatState P N). x.0.knowledge.given) e in let b = numbers_given-snoc left p in
            let d = ap (λ (x : Knowledge P N). x.given) is in let f = g.given in omega (arith, a, b, d, f);
        covered = λ q h. ⊎_elim
            (λ (x : IsIn q m.0). inl (becomes q (in_more q m.0 w x)))
            (λ (x : Among (left ++ p ∷ []) q). ⊎_elim
            (λ (y : Among left q). inr y)
            (λ (y : (p ≡ q) ⊎ ⊥). ⊎_elim
            (λ (z : p ≡ q). inl (becomes q
            (inr (
              record { number = w.knowledge.number; events = w.knowledge.events },
              inl refl,
              ap (λ (u : Knowledge P N). u.number) (sym is) ∙ ap (λ (u : PassView P N). u.knowledge.number) z,
              ap (λ (u : Knowledge P N). u.events) (sym is) ∙ ap (λ (u : PassView P N). u.knowledge.events) z,
            ))))
            (λ (z : ⊥). absurd z)
            y)
            (among_append left (p ∷ []) q x))
            (g.covered q h);
      }

  pub gather_end : (turns table : TableId) (all : List (PassView P N)) (m : SeatState P N) → IsWhole all
      → Gathering turns all [] table m → IsLast m.0
  gather_end turns table all m whole g = record {
    live = g.idle.1;
    idle = g.held;
    gives = λ e. let f = g.given in let h = whole.0 in omega (arith, e, f, h);
    all = λ n h. let q = whole.1 n (let f = g.given in omega (arith, f, h)) in ⊎_elim
        (λ (x : IsIn q.0 m.0). ⊎_elim
        (λ (y : (q.0.knowledge.number ≡ m.0.knowledge.number) × (q.0.knowledge.events ≡ m.0.knowledge.events)).
        inl (sym q.2 ∙ y.0))
        (λ (y : (e : EndedPass N) × Among m.0.knowledge.ended e × (e.number ≡ q.0.knowledge.number)
        × (e.events ≡ q.0.knowledge.events)). inr (y.0, y.1, y.2 ∙ q.2))
        x)
        (λ (x : ⊥). absurd x)
        (g.covered q.0 q.1);
  }

  pub gather_joined : (turns table : TableId) (all : List (PassView P N)) (m : SeatState P N)
      → Gathering turns all [] table m → JoinsAll all m.0
  gather_joined turns table all m g = (
    (let f = g.given in omega (arith, f)),
    λ p h. ⊎_elim (λ (x : IsIn p m.0). x) (λ (x : ⊥). absurd x) (g.covered p h),
  )
