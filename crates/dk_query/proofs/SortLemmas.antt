-- The sort is the only list that is in order and keeps those that tie as they were.
use Rattle.std.proofs.Common.{◌≡◌, ℕ, suc, zero, ◌+◌, ◌<◌, ◌≤◌, Bool, true, false, not, cond, List, [], ◌∷◌, length, get_or, refl, sym, ap, ◌∙◌, arith}
use Rattle.std.specs.Prelude.{⊤}
use Rattle.std.proofs.lemmas.Bool.{and_parts, cond_both}
use Rattle.std.specs.List.{filter}
use Rattle.std.specs.List.Sorted.{IsSortedBy, IsStableBy, ties}
use Rattle.std.specs.Cmp.{IsStrictWeakOrder}
use Rattle.std.specs.Prelude.{IsPermutation}
use Rattle.std.proofs.lemmas.List.Sorted.{sorted_far, IsPermutation-refl, IsPermutation-cons, IsPermutation-trans, IsPermutation-middle}
use Rattle.dk_query.specs.Laws.{IsSortOf}
use Rattle.dk_query.specs.Sorted.{put_in, sorted}

module _ {T : Type 0} (lt : T → T → Bool) (o : IsStrictWeakOrder lt) where
  -- none of them is below x
  abbrev Above : T → List T → Type 0
  Above x [] = ⊤
  Above x (y ∷ ys) = (lt y x ≡ false) × Above x ys

  -- none is below one before it
  abbrev Up : List T → Type 0
  Up [] = ⊤
  Up (x ∷ xs) = Above x xs × Up xs

  above_of : (x : T) (xs : List T) → ((k : ℕ) → k < length xs → lt (get_or xs k x) x ≡ false) → Above x xs
  above_of x [] h = tt
  above_of x (y ∷ ys) h = (h 0 (omega arith), above_of x ys (λ k p. h (suc k) (omega arith)))

  up_of : (xs : List T) → ((i j : ℕ) (d : T) → i ≤ j → j < length xs → lt (get_or xs j d) (get_or xs i d) ≡ false) → Up xs
  up_of [] h = tt
  up_of (x ∷ xs) h = (
    above_of x xs (λ k p. h 0 (suc k) x (omega arith) (omega arith)),
    up_of xs (λ i j d p q. h (suc i) (suc j) d (omega arith) (omega arith)),
  )

  itself_if : (x : T) (b : Bool) → lt x x ≡ b → lt x x ≡ false
  itself_if x true is = o.one_way x x is
  itself_if x false is = is

  itself : (x : T) → lt x x ≡ false
  itself x = itself_if x (lt x x) refl

  tie : (x y : T) → lt x y ≡ false → lt y x ≡ false → ties lt x y ≡ true
  tie x y p q = rw (p, q) refl

  -- the first of a list is at most z where one of the list ties with z
  none_if : (z y w : T) (b : Bool) → lt z w ≡ b → lt w y ≡ false → lt z y ≡ true → ties lt z w ≡ false
  none_if z y w true is up high = rw (is) refl
  none_if z y w false is up high =
      let low : lt z y ≡ false = o.chain z w y is up in
      absurd cc

  none : (z y : T) (xs : List T) → Above y xs → lt z y ≡ true → filter (ties lt z) xs ≡ []
  none z y [] up high = refl
  none z y (w ∷ xs) up high =
      let head = none_if z y w (lt z w) refl up.0 high in
      let others = none z y xs up.1 high in
      rw (head) others

  low_if : (z y : T) (ys rest : List T) (b : Bool) → lt z y ≡ b → Above y ys → filter (ties lt z) (y ∷ ys) ≡ z ∷ rest → lt z y ≡ false
  low_if z y ys rest false is up first = is
  low_if z y ys rest true is up first =
      let empty : filter (ties lt z) (y ∷ ys) ≡ [] = none z y (y ∷ ys) (itself y, up) is in
      absurd cc

  low : (z y : T) (ys rest : List T) → Above y ys → filter (ties lt z) (y ∷ ys) ≡ z ∷ rest → lt z y ≡ false
  low z y ys rest = low_if z y ys rest (lt z y) refl

  own_first : (z : T) (zs : List T) → filter (ties lt z) (z ∷ zs) ≡ z ∷ filter (ties lt z) zs
  own_first z zs = let own = tie z z (itself z) (itself z) in rw (own) refl

  rest_same : (x y : T) (ys zs : List T) (b : Bool) → cond b (y ∷ ys) ys ≡ cond b (y ∷ zs) zs → ys ≡ zs
  rest_same x y ys zs true same = cc
  rest_same x y ys zs false same = same

  pub only : (ys zs : List T) → Up ys → Up zs → ((x : T) → filter (ties lt x) ys ≡ filter (ties lt x) zs) → ys ≡ zs
  only [] [] up up' same = refl
  only [] (z ∷ zs) up up' same =
      let found : [] ≡ z ∷ filter (ties lt z) zs = same z ∙ own_first z zs in
      absurd cc
  only (y ∷ ys) [] up up' same =
      let found : y ∷ filter (ties lt y) ys ≡ [] = sym (own_first y ys) ∙ same y in
      absurd cc
  only (y ∷ ys) (z ∷ zs) up up' same =
      let high = low z y ys (filter (ties lt z) zs) up.0 (same z ∙ own_first z zs) in
      let deep = low y z zs (filter (ties lt y) ys) up'.0 (sym (same y) ∙ own_first y ys) in
      let alike = tie y z deep high in
      let heads : y ∷ filter (ties lt y) ys ≡ z ∷ filter (ties lt y) zs = sym (own_first y ys) ∙ same y ∙ rw (alike) refl in
      let head : y ≡ z = cc in
      let tails = only ys zs up.1 up'.1 (λ x. rest_same x y (filter (ties lt x) ys) (filter (ties lt x) zs) (ties lt x y)
      (same x ∙ ap (λ w. cond (ties lt x w) (w ∷ filter (ties lt x) zs) (filter (ties lt x) zs)) (sym head))) in
      cc

  above_put : (w x : T) (ys : List T) → lt x w ≡ false → Above w ys → Above w (put_in lt x ys)
  above_put w x [] high up = (high, tt)
  above_put w x (y ∷ ys) high up = cond_both (lt y x) (y ∷ put_in lt x ys) (x ∷ y ∷ ys) (Above w)
      (λ _. (up.0, above_put w x ys high up.1)) (λ _. (high, up))

  above_all : (x y : T) (ys : List T) → lt y x ≡ false → Above y ys → Above x ys
  above_all x y [] is up = tt
  above_all x y (z ∷ zs) is up = (o.chain z y x up.0 is, above_all x y zs is up.1)

  up_put : (x : T) (ys : List T) → Up ys → Up (put_in lt x ys)
  up_put x [] up = (tt, tt)
  up_put x (y ∷ ys) up = cond_both (lt y x) (y ∷ put_in lt x ys) (x ∷ y ∷ ys) Up
      (λ is. (above_put y x ys (o.one_way y x is) up.0, up_put x ys up.1))
      (λ is. ((is, above_all x y ys is up.0), up))

  up_sorted : (xs : List T) → Up (sorted lt xs)
  up_sorted [] = tt
  up_sorted (x ∷ xs) = up_put x (sorted lt xs) (up_sorted xs)

  unless : (b : Bool) → not b ≡ true → b ≡ false
  unless true is = sym is
  unless false is = refl

  -- of two that tie with a third none is below the other
  apart_if : (a x y : T) (b : Bool) → ties lt a y ≡ b → lt y x ≡ true → ties lt a x ≡ true → ties lt a y ≡ false
  apart_if a x y false other is tied = other
  apart_if a x y true other is tied =
      let low : lt y a ≡ false = unless (lt y a) (and_parts (not (lt a y)) (not (lt y a)) other).1 in
      let high : lt a x ≡ false = unless (lt a x) (and_parts (not (lt a x)) (not (lt x a)) tied).0 in
      let never : lt y x ≡ false = o.chain y a x low high in
      absurd cc

  apart : (a x y : T) → lt y x ≡ true → ties lt a x ≡ true → ties lt a y ≡ false
  apart a x y = apart_if a x y (ties lt a y) refl

  -- two of which one is passed over may stand in either order
  exchange : (b c : Bool) (x y : T) (rest : List T) → (b ≡ true → c ≡ false)
      → cond c (y ∷ cond b (x ∷ rest) rest) (cond b (x ∷ rest) rest) ≡ cond b (x ∷ cond c (y ∷ rest) rest) (cond c (y ∷ rest) rest)
  exchange true true x y rest never =
      let no : true ≡ false = never refl in
      absurd cc
  exchange true false x y rest never = refl
  exchange false true x y rest never = refl
  exchange false false x y rest never = refl

  put_ties : (a x : T) (ys : List T) → filter (ties lt a) (put_in lt x ys) ≡ filter (ties lt a) (x ∷ ys)
  put_ties a x [] = refl
  put_ties a x (y ∷ ys) = cond_both (lt y x) (y ∷ put_in lt x ys) (x ∷ y ∷ ys)
      (λ zs. filter (ties lt a) zs ≡ filter (ties lt a) (x ∷ y ∷ ys))
      (λ is. ap (λ zs. cond (ties lt a y) (y ∷ zs) zs) (put_ties a x ys)
      ∙ exchange (ties lt a x) (ties lt a y) x y (filter (ties lt a) ys) (apart a x y is))
      (λ is. refl)

  sorted_ties : (a : T) (xs : List T) → filter (ties lt a) (sorted lt xs) ≡ filter (ties lt a) xs
  sorted_ties a [] = refl
  sorted_ties a (x ∷ xs) = put_ties a x (sorted lt xs)
      ∙ ap (λ zs. cond (ties lt a x) (x ∷ zs) zs) (sorted_ties a xs)

  -- what is in order and keeps those that tie as they were is the sort
  pub is_sorted : (xs ys : List T) → IsSortedBy lt ys → IsStableBy lt xs ys → ys ≡ sorted lt xs
  is_sorted xs ys up stable = only ys (sorted lt xs) (up_of ys (sorted_far lt o ys up)) (up_sorted xs)
      (λ a. stable a ∙ sym (sorted_ties a xs))

  up_next : (xs : List T) (k : ℕ) (d : T) → Up xs → suc k < length xs → lt (get_or xs (suc k) d) (get_or xs k d) ≡ false
  up_next [] k d up within = absurd (omega arith)
  up_next (x ∷ []) k d up within = absurd (omega arith)
  up_next (x ∷ y ∷ xs) zero d up within = up.0.0
  up_next (x ∷ y ∷ xs) (suc k) d up within = up_next (y ∷ xs) k d up.1 (omega arith)

  put_whole : (x : T) (ys : List T) → IsPermutation (x ∷ ys) (put_in lt x ys)
  put_whole x [] = IsPermutation-refl (x ∷ [])
  put_whole x (y ∷ ys) = cond_both (lt y x) (y ∷ put_in lt x ys) (x ∷ y ∷ ys) (IsPermutation (x ∷ y ∷ ys))
      (λ is. IsPermutation-trans (x ∷ y ∷ ys) (y ∷ x ∷ ys) (y ∷ put_in lt x ys)
      (IsPermutation-middle (x ∷ []) y ys) (IsPermutation-cons y (x ∷ ys) (put_in lt x ys) (put_whole x ys)))
      (λ is. IsPermutation-refl (x ∷ y ∷ ys))

  sorted_whole : (xs : List T) → IsPermutation xs (sorted lt xs)
  sorted_whole [] = IsPermutation-refl []
  sorted_whole (x ∷ xs) = IsPermutation-trans (x ∷ xs) (x ∷ sorted lt xs) (put_in lt x (sorted lt xs))
      (IsPermutation-cons x xs (sorted lt xs) (sorted_whole xs)) (put_whole x (sorted lt xs))

  pub sort_is : (xs : List T) → IsSortOf lt xs (sorted lt xs)
  sort_is xs = record {
    whole = sorted_whole xs;
    ascends = λ k d from within.
        let next : k + 1 ≡ suc k = omega arith in
        ap (λ n. lt (get_or (sorted lt xs) n d) (get_or (sorted lt xs) k d)) next
        ∙ up_next (sorted lt xs) k d (up_sorted xs) (omega arith);
    stable = λ a. sorted_ties a xs;
  }
