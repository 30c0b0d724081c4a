-- The walk over the places of a node.
use Rattle.std.proofs.Common.{ℕ, ◌+◌, ◌<◌, ◌≤◌, ◌≡◌, true, false, List, [], ◌∷◌, length, drop, get_or, Some, None, slice_get, refl, ap, ◌∙◌, cond, eqb}
use Rattle.std.proofs.lemmas.List.{drop_more, drop_all}
use Rattle.std.proofs.lemmas.Option.{slice_get_within, get_or_from_slice_get}
use Rattle.dk_values.specs.declared.value.Value.{Value}
use Rattle.dk_chain.specs.Nodes.{old_in}

miss : (row : ℕ) (os os' : List ℕ) (o : ℕ) (xs xs' : List (List Value)) (x : List Value) → os ≡ o ∷ os' → xs ≡ x ∷ xs' → eqb o row ≡ false → old_in row os xs ≡ old_in row os' xs'
miss row os os' o xs xs' x e f miss_at = ap (λ os. old_in row os xs) e ∙ ap (λ xs. old_in row (o ∷ os') xs) f ∙ ap (λ b. cond b (Some x) (old_in row os' xs')) miss_at

hit : (row : ℕ) (os os' : List ℕ) (o : ℕ) (xs xs' : List (List Value)) (x : List Value) → os ≡ o ∷ os' → xs ≡ x ∷ xs' → eqb o row ≡ true → old_in row os xs ≡ Some x
hit row os os' o xs xs' x e f hit_at = ap (λ os. old_in row os xs) e ∙ ap (λ xs. old_in row (o ∷ os') xs) f ∙ ap (λ b. cond b (Some x) (old_in row os' xs')) hit_at

short : (row : ℕ) (os : List ℕ) → old_in row os [] ≡ None
short row [] = refl
short row (o ∷ os) = refl

-- the place has another offset
pub old_next : (row i : ℕ) (os : List ℕ) (xs : List (List Value)) → i < length os → i < length xs → eqb (get_or os i 0) row ≡ false
    → old_in row (drop i os) (drop i xs) ≡ old_in row (drop (i + 1) os) (drop (i + 1) xs)
old_next row i os xs a b miss_at = miss row _ _ _ _ _ _ (drop_more os i 0 a) (drop_more xs i [] b) miss_at

-- the place has the offset
pub old_here : (row i : ℕ) (os : List ℕ) (xs : List (List Value)) (x : List Value) → i < length os → slice_get xs i ≡ Some x → eqb (get_or os i 0) row ≡ true
    → old_in row (drop i os) (drop i xs) ≡ Some x
old_here row i os xs x a is hit_at =
    hit row _ _ _ _ _ _ (drop_more os i 0 a) (drop_more xs i [] (slice_get_within xs i x is)) hit_at ∙ ap (λ (x : List Value). Some x) (get_or_from_slice_get xs i x [] is)

-- there are no more old rows
pub old_short : (row i : ℕ) (os : List ℕ) (xs : List (List Value)) → length xs ≤ i → old_in row (drop i os) (drop i xs) ≡ None
old_short row i os xs b = ap (old_in row (drop i os)) (drop_all i xs b) ∙ short row (drop i os)
