-- Lists of turns that are held.
use Rattle.std.proofs.Common.{◌≡◌, ◌≢◌, ◌⊎◌, ℕ, suc, eqb, cond, List, [], ◌∷◌, ◌++◌, map, refl, sym, ap, ◌∙◌, subst, inl, inr, ⊎_elim, eq-eqb, ne_eqb}
use mathlib.Core.Option.{none, some}
use mathlib.Core.Logic.{dite}
use native.Mathlib.Decide.{ℕ_discrete}
use Rattle.std.specs.Prelude.{Option, Some, None}
use Rattle.dk_turns.specs.TurnStates.{Among, Holds, held_slot, without}

-- a choice by an equality of numbers
pub choice : {A : Type 0} (n m : ℕ) (x y : A) (F : A → Type 0) → (n ≡ m → F x) → (n ≢ m → F y) → F (cond (eqb n m) x y)
choice n m x y F hit miss = dite (ℕ_discrete n m) (λ e. subst (λ b. F (cond b x y)) (sym (eq-eqb n m e)) (hit e))
    (λ ne. subst (λ b. F (cond b x y)) (sym (ne_eqb n m ne)) (miss ne))

pub chosen : {A : Type 0} (n m : ℕ) (x y : A) → n ≡ m → cond (eqb n m) x y ≡ x
chosen n m x y e = ap (λ b. cond b x y) (eq-eqb n m e)

pub passed_over : {A : Type 0} (n m : ℕ) (x y : A) → n ≢ m → cond (eqb n m) x y ≡ y
passed_over n m x y ne = ap (λ b. cond b x y) (ne_eqb n m ne)

module _ (P : Type 0) where
  pub held_slot_in_hand : (t : ℕ) → held_slot {P = P} (suc t) t ≡ none
  held_slot_in_hand t = chosen (suc t) (suc t) none (some None) refl

  pub held_slot_at_home : (h t : ℕ) → h ≢ suc t → held_slot {P = P} h t ≡ some None
  held_slot_at_home h t ne = passed_over h (suc t) none (some None) ne

  pub holds_without : (t u : ℕ) (p : P) (hs : List (ℕ × P)) → Holds (without t hs) u p → Holds hs u p × (u ≢ t)
  holds_without t u p [] h = absurd h
  holds_without t u p (x ∷ xs) h = choice x.0 t (without t xs) (x ∷ without t xs) (λ l. Holds l u p
      → Holds (x ∷ xs) u p × (u ≢ t))
      (λ e y. let i = holds_without t u p xs y in (inr i.0, i.1))
      (λ ne y. ⊎_elim (λ (z : (x.0 ≡ u) × (x.1 ≡ p)). (inl z, λ e. ne (z.0 ∙ e)))
      (λ (z : Holds (without t xs) u p). let i = holds_without t u p xs z in (inr i.0, i.1)) y)
      h

  pub without_holds : (t u : ℕ) (p : P) (hs : List (ℕ × P)) → u ≢ t → Holds hs u p → Holds (without t hs) u p
  without_holds t u p [] apart h = absurd h
  without_holds t u p (x ∷ xs) apart h = choice x.0 t (without t xs) (x ∷ without t xs) (λ l. Holds l u p)
      (λ e. ⊎_elim (λ (y : (x.0 ≡ u) × (x.1 ≡ p)). absurd (apart (sym y.0 ∙ e)))
      (λ (y : Holds xs u p). without_holds t u p xs apart y) h)
      (λ ne. ⊎_elim (λ (y : (x.0 ≡ u) × (x.1 ≡ p)). inl y)
      (λ (y : Holds xs u p). inr (without_holds t u p xs apart y)) h)

pub among_append : {A : Type 0} (xs ys : List A) (x : A) → Among (xs ++ ys) x → Among xs x ⊎ Among ys x
among_append [] ys x h = inr h
among_append (y ∷ xs) ys x h = ⊎_elim (λ (e : y ≡ x). inl (inl e))
    (λ (z : Among (xs ++ ys) x). ⊎_elim (λ (w : Among xs x). inl (inr w)) (λ (w : Among ys x). inr w)
    (among_append xs ys x z)) h

pub among_right : {A : Type 0} (xs ys : List A) (x : A) → Among ys x → Among (xs ++ ys) x
among_right [] ys x h = h
among_right (y ∷ xs) ys x h = inr (among_right xs ys x h)

pub among_map : {A B : Type 0} (f : A → B) (xs : List A) (y : B) → Among (map f xs) y → (x : A) × Among xs x × (f x ≡ y)
among_map f [] y h = absurd h
among_map f (x ∷ xs) y h = ⊎_elim (λ (e : f x ≡ y). (x, inl refl, e))
    (λ (z : Among (map f xs) y). let i = among_map f xs y z in (i.0, inr i.1, i.2)) h

module _ {P : Type 0} where
  slot_or : List (ℕ × Option P) → Option P → Option P
  slot_or [] d = d
  slot_or (x ∷ xs) d = x.1

  pub first_is : (l : List (ℕ × Option P)) (t u : ℕ) (o r : Option P) (xs ys : List (ℕ × Option P)) → l ≡ (t, o) ∷ xs
      → l ≡ (u, r) ∷ ys → r ≡ o
  unfolding slot_or
  first_is l t u o r xs ys e f = ap (λ l. slot_or l o) (sym f ∙ e)

  pub same_value : (o : Option P) (a b : P) → o ≡ Some a → o ≡ Some b → a ≡ b
  same_value o a b e f = cc
