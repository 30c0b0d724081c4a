-- The parts of a body.
use Rattle.std.proofs.Common.{◌≡◌, ℕ, ◌+◌, ◌-◌, ◌*◌, ◌<◌, ◌≤◌, ◌^◌, max, fold, map, List, [], ◌∷◌, ◌++◌, length, Option, Some, None, option_map, refl, ap, sym, ◌∙◌, subst, append_assoc, arith}
use Rattle.std.specs.List.{All, AllByRecursion}
use Rattle.std.specs.Simd.Lanes.{number_l as number}
use Rattle.std.proofs.lemmas.List.Elements.{All-from_recursion}
use Rattle.dk_values.specs.declared.value.Value.{Value}
use Rattle.dk_values.specs.declared.value.ColType.{ColType}
use Rattle.dk_bytes.specs.Bits.{byte_count}
use Rattle.dk_seg_pack.specs.Packed.{rank_of, least, greatest, width_of, differences, fields, body_of, packed_bytes, value_of_rank, with_value, values_above}
use Rattle.dk_bytes.proofs.DigitLemmas.{length-digits}

pub map_twice : {A : Type 0} (f : A → ℕ) (g : ℕ → ℕ) (xs : List A) → map g (map f xs) ≡ map (λ x. g (f x)) xs
map_twice f g [] = refl
map_twice f g (x ∷ xs) = ap (λ (ys : List ℕ). g (f x) ∷ ys) (map_twice f g xs)

pub map_length : {A B : Type 0} (f : A → B) (xs : List A) → length (map f xs) ≡ length xs
map_length f [] = refl
map_length f (x ∷ xs) = let ih = map_length f xs in omega (arith, ih)

-- eight bytes, one, and those of the differences
pub packed_len : (values : List Value) → length (packed_bytes values) ≡ 9 + byte_count (width_of (map rank_of values) * length values)
packed_len values =
    let ranks : List ℕ = map rank_of values in
    let e = length-digits 256 (byte_count (width_of ranks * length (differences ranks))) (number (2 ^ width_of ranks) (differences ranks)) in
    let f : length (differences ranks) ≡ length values = map_length (λ r. r - least ranks) ranks ∙ map_length rank_of values in
    omega (arith, e, ap (λ (n : ℕ). byte_count (width_of ranks * n)) f)

-- no number is above the greatest
below_greatest : (m : ℕ) (xs : List ℕ) → (m ≤ fold max m xs) × AllByRecursion (λ x. x ≤ fold max m xs) xs
below_greatest m [] = (omega arith, tt)
below_greatest m (x ∷ xs) =
    let ih = below_greatest (max m x) xs in
    (omega (arith, ih.0), (omega (arith, ih.0), ih.1))

below_differences : (base width top : ℕ) (xs : List ℕ) → top - base < 2 ^ width → AllByRecursion (λ x. x ≤ top) xs → AllByRecursion (λ d. d < 2 ^ width) (map (λ x. x - base) xs)
below_differences base width top [] h all = tt
below_differences base width top (x ∷ xs) h all = (omega (arith, all.0), below_differences base width top xs h all.1)

-- each difference has the width of the greatest one
pub differences_fit : (ranks : List ℕ) (width : ℕ) → greatest ranks - least ranks < 2 ^ width → AllByRecursion (λ d. d < 2 ^ width) (differences ranks)
differences_fit ranks width h = below_differences (least ranks) width (greatest ranks) ranks h (below_greatest 0 ranks).1

-- the numbers of some things, above the least one
module _ {A : Type 0} (f : A → ℕ) (xs : List A) (ds : List ℕ) (base : ℕ) (least_is : base ≡ least (map f xs)) (ds_are : ds ≡ map (λ x. f x - base) xs) where
  are_differences : ds ≡ differences (map f xs)
  are_differences = ds_are ∙ ap (λ (b : ℕ). map (λ x. f x - b) xs) least_is ∙ sym (map_twice f (λ r. r - least (map f xs)) xs)

  pub all_fit : (width : ℕ) → greatest (map f xs) - least (map f xs) < 2 ^ width → All (λ d. d < 2 ^ width) ds
  all_fit width h = All-from_recursion (λ d. d < 2 ^ width) ds (subst (λ (l : List ℕ). AllByRecursion (λ d. d < 2 ^ width) l) (sym are_differences) (differences_fit (map f xs) width h))

  pub fields_are : (width : ℕ) → width ≡ width_of (map f xs) → fields base width ds ≡ body_of (map f xs)
  fields_are width e = rw (least_is, e, are_differences) refl

grown : (value : Value) (so_far : List Value) (rest : Option (List Value)) → option_map (λ values. (so_far ++ value ∷ []) ++ values) rest ≡ option_map (λ values. so_far ++ values) (with_value (Some value) rest)
grown value so_far None = refl
grown value so_far (Some values) = ap (λ (xs : List Value). Some xs) (append_assoc so_far (value ∷ []) values)

-- values so far and those to come
pub one_above : (kind : ColType) (base d : ℕ) (value : Value) (so_far : List Value) (rest : List ℕ) → Some value ≡ value_of_rank kind (base + d) → option_map (λ values. (so_far ++ value ∷ []) ++ values) (values_above kind base rest) ≡ option_map (λ values. so_far ++ values) (values_above kind base (d ∷ rest))
one_above kind base d value so_far rest h =
    grown value so_far (values_above kind base rest)
    ∙ ap (λ (first : Option Value). option_map (λ values. so_far ++ values) (with_value first (values_above kind base rest))) h

pub none_above : (kind : ColType) (base d : ℕ) (so_far : List Value) (rest : List ℕ) → None ≡ value_of_rank kind (base + d) → None ≡ option_map (λ values. so_far ++ values) (values_above kind base (d ∷ rest))
none_above kind base d so_far rest h =
    ap (λ (first : Option Value). option_map (λ values. so_far ++ values) (with_value first (values_above kind base rest))) h
