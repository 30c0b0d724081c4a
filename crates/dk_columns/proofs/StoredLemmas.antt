-- Values as they are kept.
use Rattle.std.proofs.Common.{◌≡◌, ℕ, zero, suc, List, [], ◌∷◌, ◌++◌, map, take, Some, refl, ap, sym, ◌∙◌, subst, arith}
use Rattle.std.specs.Prelude.{slice_get, slice_set, replicate, option_map, Result, Ok, Err, OnOk, OnErr}
use Rattle.std.specs.List.{All}
use Rattle.std.proofs.lemmas.Option.{slice_get-map, slice_get_within, get_or_from_slice_get}
use Rattle.std.proofs.lemmas.List.{map-append, map-set, take-map}
use Rattle.std.proofs.lemmas.List.Elements.{All-append, All-replicate, All-set, All-take}

module _ {A B : Type 0} where
  -- the value of an item at its place
  pub mapped_at : (f : A → B) (xs : List A) (i : ℕ) (x : A) (y : B) → slice_get xs i ≡ Some x → y ≡ f x → slice_get (map f xs) i ≡ Some y
  mapped_at f xs i x y e same = slice_get-map f xs i ∙ ap (option_map f) e ∙ ap (λ (z : B). Some z) (sym same)

  pub mapped_more : {E : Type 0} (r : Result (Unit {0}) E) (f : A → B) (xs xs' : List A) (x : A) (y : B) → OnOk r (xs' ≡ xs ++ x ∷ []) → f x ≡ y → OnOk r (map f xs' ≡ map f xs ++ y ∷ [])
  mapped_more (Ok u) f xs xs' x y e same = ap (map f) e ∙ map-append f xs (x ∷ []) ∙ ap (λ (z : B). map f xs ++ z ∷ []) same
  mapped_more (Err u) f xs xs' x y e same = tt

  pub mapped_set : {E : Type 0} (r : Result (Unit {0}) E) (f : A → B) (xs xs' : List A) (i : ℕ) (x : A) (y : B) → OnOk r (xs' ≡ slice_set xs i x) → f x ≡ y → OnOk r (map f xs' ≡ slice_set (map f xs) i y)
  mapped_set (Ok u) f xs xs' i x y e same = ap (map f) e ∙ map-set f xs i x ∙ ap (λ (z : B). slice_set (map f xs) i z) same
  mapped_set (Err u) f xs xs' i x y e same = tt

  pub mapped_copies : {E : Type 0} (r : Result (Unit {0}) E) (f : A → B) (xs xs' : List A) (x : A) (y : B) (n : ℕ) → OnOk r (xs' ≡ xs ++ replicate n x) → f x ≡ y → OnOk r (map f xs' ≡ map f xs ++ replicate n y)
  mapped_copies (Ok u) f xs xs' x y n e same = ap (map f) e ∙ map-append f xs (replicate n x) ∙ ap (λ (zs : List B). map f xs ++ zs) (map_replicate f n x ∙ ap (λ (z : B). replicate n z) same)
    where
      map_replicate : (f : A → B) (n : ℕ) (x : A) → map f (replicate n x) ≡ replicate n (f x)
      map_replicate f zero x = refl
      map_replicate f (suc n) x = ap (λ (zs : List B). f x ∷ zs) (map_replicate f n x)
  mapped_copies (Err u) f xs xs' x y n e same = tt

  pub mapped_twice : {C : Type 0} (f : A → B) (g : B → C) (xs : List A) → map g (map f xs) ≡ map (λ x. g (f x)) xs
  mapped_twice {C = C} f g [] = refl
  mapped_twice {C = C} f g (x ∷ xs) = ap (λ (zs : List C). g (f x) ∷ zs) (mapped_twice f g xs)

  pub all_mapped : (P : B → Type 0) (f : A → B) (xs : List A) → All (λ x. P (f x)) xs → All P (map f xs)
  all_mapped P f [] h i d lt = absurd (omega (arith, lt))
  all_mapped P f (x ∷ xs) h zero d lt = h 0 x (omega arith)
  all_mapped P f (x ∷ xs) h (suc i) d lt = all_mapped P f xs (λ k e le. h (suc k) e (omega (arith, le))) i d (omega (arith, lt))

  pub mapped_same : {E : Type 0} (r : Result (Unit {0}) E) (f : A → B) (xs xs' : List A) → OnErr r (xs' ≡ xs) → OnErr r (map f xs' ≡ map f xs)
  mapped_same (Ok u) f xs xs' e = tt
  mapped_same (Err u) f xs xs' e = ap (map f) e

  pub mapped_front : (f : A → B) (xs xs' : List A) (n : ℕ) → xs' ≡ take n xs → map f xs' ≡ take n (map f xs)
  mapped_front f xs xs' n e = ap (map f) e ∙ sym (take-map f n xs)

module _ {A : Type 0} (P : A → Type 0) where
  all_one : (x : A) → P x → All P (x ∷ [])
  all_one x p zero d lt = p
  all_one x p (suc k) d lt = absurd (omega (arith, lt))

  pub all_more : {E : Type 0} (r : Result (Unit {0}) E) (xs xs' : List A) (x : A) → All P xs → P x → OnOk r (xs' ≡ xs ++ x ∷ []) → OnErr r (xs' ≡ xs) → All P xs'
  all_more (Ok u) xs xs' x h p e f = subst (λ (ys : List A). All P ys) (sym e) (All-append P xs (x ∷ []) h (all_one x p))
  all_more (Err u) xs xs' x h p e f = subst (λ (ys : List A). All P ys) (sym f) h

  pub all_copies : {E : Type 0} (r : Result (Unit {0}) E) (xs xs' : List A) (x : A) (n : ℕ) → All P xs → P x → OnOk r (xs' ≡ xs ++ replicate n x) → OnErr r (xs' ≡ xs) → All P xs'
  all_copies (Ok u) xs xs' x n h p e f = subst (λ (ys : List A). All P ys) (sym e) (All-append P xs (replicate n x) h (All-replicate P n x p))
  all_copies (Err u) xs xs' x n h p e f = subst (λ (ys : List A). All P ys) (sym f) h

  pub all_set : {E : Type 0} (r : Result (Unit {0}) E) (xs xs' : List A) (i : ℕ) (x : A) → All P xs → P x → OnOk r (xs' ≡ slice_set xs i x) → OnErr r (xs' ≡ xs) → All P xs'
  all_set (Ok u) xs xs' i x h p e f = subst (λ (ys : List A). All P ys) (sym e) (All-set P xs i x p h)
  all_set (Err u) xs xs' i x h p e f = subst (λ (ys : List A). All P ys) (sym f) h

  pub all_front : (xs xs' : List A) (n : ℕ) → All P xs → xs' ≡ take n xs → All P xs'
  all_front xs xs' n h e = subst (λ (ys : List A). All P ys) (sym e) (All-take P n xs h)

  pub all_at : (xs : List A) (i : ℕ) (x : A) → All P xs → slice_get xs i ≡ Some x → P x
  all_at xs i x h e = subst P (get_or_from_slice_get xs i x x e) (h i x (slice_get_within xs i x e))
