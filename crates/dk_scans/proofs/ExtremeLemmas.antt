-- The extreme of a list, and its keys.
use Rattle.std.proofs.Common.{◌≡◌, ℕ, ℤ, cond, Bool, true, false, List, [], ◌∷◌, fold, get_or, Some, refl, ap, sym, subst, ◌∙◌, Less, Equal, Greater, arith}
use Rattle.std.specs.Prelude.{int_lt}
use Rattle.std.specs.List.{All, Contains, best_of}
use Rattle.std.specs.Int.{int_min}
use Rattle.std.specs.Cmp.{IsStrictWeakOrder}
use Rattle.std.specs.Ordering.{is_lt, int_cmp}
use Rattle.std.proofs.lemmas.Int.{ints}
use Rattle.std.proofs.lemmas.Cmp.{int_cmp_total, nat_list_cmp_total}
use Rattle.std.proofs.lemmas.List.{get_or_default}
use Rattle.std.proofs.lemmas.List.Elements.{Contains-get_or}
use Rattle.std.proofs.lemmas.List.MinMax.{ranks_by, IsStrictWeakOrder-flip, IsFirstBest-from_best_of}
use Rattle.dk_scans.specs.declared.extremes.Extreme.{Extreme}
use Rattle.dk_scans.specs.declared.extremes.Extreme.TheVariants as extremes
use Rattle.dk_scans.specs.Extremes.{beats, extreme_of, IsExtreme, first, number_key, lower_key, text_less}

module _ {T : Type 0} {goes_before : T → T → Bool} (order : IsStrictWeakOrder goes_before) where
  -- the best of all items is one that none goes before
  pub extreme_is : (items : List T) → IsExtreme goes_before items (extreme_of goes_before items)
  extreme_is [] = refl
  extreme_is (x ∷ xs) =
      let found = IsFirstBest-from_best_of order x xs in
      let here : Contains (x ∷ xs) (get_or (x ∷ xs) found.0 x) = Contains-get_or (x ∷ xs) found.0 x found.1.0 in
      let none : All (λ item. goes_before item (get_or (x ∷ xs) found.0 x) ≡ false) (x ∷ xs) =
      λ k d lt. ap (goes_before (get_or (x ∷ xs) k d)) (get_or_default (x ∷ xs) found.0 x d found.1.0) ∙ found.1.1 k d lt in
      subst (λ best. Contains (x ∷ xs) best × All (λ item. goes_before item best ≡ false) (x ∷ xs)) found.2 (here, none)

module _ {T : Type 0} {less : T → T → Bool} (order : IsStrictWeakOrder less) where
  pub beats_order : (extreme : Extreme) → IsStrictWeakOrder (beats less extreme)
  beats_order extremes.Least = order
  beats_order extremes.Greatest = IsStrictWeakOrder-flip less order

less_first : (a b : Bool) → is_lt (cond a Less (cond b Greater Equal)) ≡ a
less_first true b = refl
less_first false true = refl
less_first false false = refl

lt_cmp : (x y : ℤ) → is_lt (int_cmp x y) ≡ int_lt x y
lt_cmp x y = less_first (int_lt x y) (int_lt y x)

pub numbers_ordered : IsStrictWeakOrder int_lt
numbers_ordered =
    let order = ranks_by int_cmp_total (λ (x : ℤ). x) in
    record {
      one_way = λ x y lt. sym (lt_cmp y x) ∙ order.one_way x y (lt_cmp x y ∙ lt);
      chain = λ x y z le more. sym (lt_cmp x z) ∙ order.chain x y z (lt_cmp x y ∙ le) (lt_cmp y z ∙ more);
    }

pub texts_ordered : IsStrictWeakOrder text_less
texts_ordered = ranks_by nat_list_cmp_total (λ (x : List ℕ). x)

-- the key of a key is the number
pub key_key : (extreme : Extreme) (n : ℤ) → number_key extreme (number_key extreme n) ≡ n
key_key extremes.Least n = refl
key_key extremes.Greatest n = omega (arith, ints)

-- the number that goes before has the lower key
key_order : (extreme : Extreme) (n m : ℤ) → int_lt (number_key extreme n) (number_key extreme m) ≡ beats int_lt extreme n m
key_order extremes.Least n m = refl
key_order extremes.Greatest n m = grind (arith, ints)

key_cond : (extreme : Extreme) (b : Bool) (n m : ℤ) → cond b (number_key extreme n) (number_key extreme m) ≡ number_key extreme (cond b n m)
key_cond extreme true n m = refl
key_cond extreme false n m = refl

-- the lowest key is that of the best number
key_fold : (extreme : Extreme) (b : ℤ) (ns : List ℤ) → fold (lower_key extreme) (number_key extreme b) ns ≡ number_key extreme (best_of (beats int_lt extreme) b ns)
key_fold extreme b [] = refl
key_fold extreme b (n ∷ ns) =
    ap (λ (k : ℤ). fold (lower_key extreme) k ns) (ap (λ (t : Bool). cond t (number_key extreme n) (number_key extreme b)) (key_order extreme n b) ∙ key_cond extreme (beats int_lt extreme n b) n b)
    ∙ key_fold extreme (cond (beats int_lt extreme n b) n b) ns

same_key : (k : ℤ) → int_min k k ≡ k
same_key k = one (int_lt k k)
  where
    one : (b : Bool) → cond b k k ≡ k
    one true = refl
    one false = refl

-- the number of the lowest key is the extreme
pub lowest_is : (extreme : Extreme) (n : ℤ) (ns : List ℤ) → Some n ≡ first ns → Some (number_key extreme (fold (lower_key extreme) (number_key extreme n) ns)) ≡ extreme_of (beats int_lt extreme) ns
lowest_is extreme n [] h = absurd cc
lowest_is extreme n (m ∷ ns) h =
    let here : n ≡ m = cc in
    ap (λ (k : ℤ). Some (number_key extreme (fold (lower_key extreme) (number_key extreme k) (m ∷ ns)))) here
    ∙ ap (λ (k : ℤ). Some (number_key extreme k)) (ap (λ (k : ℤ). fold (lower_key extreme) k ns) (same_key (number_key extreme m)) ∙ key_fold extreme m ns)
    ∙ ap (λ (k : ℤ). Some k) (key_key extreme _)
