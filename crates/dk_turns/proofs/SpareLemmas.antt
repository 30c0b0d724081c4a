-- Parts that move between two vectors, last first.
use Rattle.std.proofs.Common.{◌≡◌, List, [], ◌∷◌, ◌++◌, map, reverse, refl, sym, ap, ◌∙◌, append_assoc}
use Rattle.std.proofs.lemmas.List.{reverse-append, map-append}
use Rattle.std.specs.Prelude.{Option, Some}

module _ {T : Type 0} where
  pub fill_more : (ps : List T) (x : T) (ss all : List (Option T)) → map Some (ps ++ x ∷ []) ++ reverse ss ≡ all
      → map Some ps ++ reverse (ss ++ Some x ∷ []) ≡ all
  fill_more ps x ss all e =
      ap (λ l. map Some ps ++ l) (reverse-append ss (Some x ∷ []))
      ∙ sym (append_assoc (map Some ps) (Some x ∷ []) (reverse ss))
      ∙ ap (λ l. l ++ reverse ss) (sym (map-append Some ps (x ∷ []))) ∙ e

  pub empty_more : (ss : List (Option T)) (x : T) (ps : List T) (all : List (Option T))
      → (ss ++ Some x ∷ []) ++ map Some (reverse ps) ≡ all → ss ++ map Some (reverse (ps ++ x ∷ [])) ≡ all
  empty_more ss x ps all e =
      ap (λ l. ss ++ map Some l) (reverse-append ps (x ∷ []))
      ∙ sym (append_assoc ss (Some x ∷ []) (map Some (reverse ps))) ∙ e

  -- the last of such slots is full, and so are the others
  pub last_full : (ss : List (Option T)) (o : Option T) (xs : List T) → ss ++ o ∷ [] ≡ map Some xs
      → ((x : T) × (o ≡ Some x)) × ((ys : List T) × (ss ≡ map Some ys))
  last_full [] o [] e = absurd (cc)
  last_full [] o (x ∷ xs) e = ((x, cc), ([], refl))
  last_full (s ∷ ss) o [] e = absurd (cc)
  last_full (s ∷ ss) o (x ∷ xs) e = let i = last_full ss o xs (cc) in
      (i.0, (x ∷ i.1.0, (λ k. (let h : s ≡ Some x = cc in h) k ∷ i.1.1 k)))

  pub map_some_injective : (xs ys : List T) → map Some xs ≡ map Some ys → xs ≡ ys
  map_some_injective [] [] e = refl
  map_some_injective [] (y ∷ ys) e = absurd (cc)
  map_some_injective (x ∷ xs) [] e = absurd (cc)
  map_some_injective (x ∷ xs) (y ∷ ys) e = let h : x ≡ y = cc in let i = map_some_injective xs ys (cc) in λ k. h k ∷ i k
