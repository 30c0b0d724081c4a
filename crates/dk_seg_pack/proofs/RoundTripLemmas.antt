-- What was written is read again, and what was read is what is written.
use Rattle.std.proofs.Common.{◌≡◌, ℕ, ◌+◌, ◌-◌, ◌<◌, ◌≤◌, ◌^◌, Bool, true, false, ◌||◌, ◌==◌, min, max, fold, map, List, [], ◌∷◌, length, Option, Some, None, refl, ap, sym, ◌∙◌, subst, arith, inl, inr, ◌⊎◌}
use Rattle.std.specs.List.{AllByRecursion, list_any}
use Rattle.std.proofs.lemmas.Bool.{eq-eqb, eqb-true, or_cases, cases_lt}
use Rattle.dk_values.specs.declared.value.ColType.{ColType}
use Rattle.dk_values.specs.declared.value.Value.{Value}
use Rattle.dk_bytes.specs.PlainValue.{IsPlain}
use Rattle.dk_seg_pack.specs.Packed.{rank_of, value_of_rank, least, greatest, differences, with_value, values_above, IsNumeric}
use Rattle.dk_seg_pack.proofs.RankLemmas.{rank_below, value_again, value_taken}

-- the test whether one is 0
abbrev pub has_zero : List ℕ → Bool
has_zero ds = list_any (λ d. d == 0) ds

or_later : (x y : Bool) → y ≡ true → (x || y) ≡ true
or_later true y e = refl
or_later false y e = e

zero_first : (d : ℕ) (ds : List ℕ) → d ≡ 0 → has_zero (d ∷ ds) ≡ true
zero_first d ds e = rw (eq-eqb d 0 e) refl

zero_later : (d : ℕ) (ds : List ℕ) → has_zero ds ≡ true → has_zero (d ∷ ds) ≡ true
zero_later d ds e = or_later (d == 0) (has_zero ds) e

-- the least of some numbers is the first bound or one of them, and no more than each
least_among : (m : ℕ) (xs : List ℕ) → (fold min m xs ≡ m) ⊎ (has_zero (map (λ x. x - fold min m xs) xs) ≡ true)
least_among m [] = inl refl
least_among m (x ∷ xs) =
    let f : ℕ = fold min (min m x) xs in
    elim (least_among (min m x) xs) [
      | inr later ↦ inr (zero_later (x - f) (map (λ y. y - f) xs) later)
      | inl same ↦
          elim (cases_lt x m) [
            | inl lt ↦ inr (zero_first (x - f) (map (λ y. y - f) xs) (omega arith))
            | inr le ↦ inl (omega arith)
          ]
    ]

least_below : (m : ℕ) (xs : List ℕ) → (fold min m xs ≤ m) × AllByRecursion (λ x. fold min m xs ≤ x) xs
least_below m [] = (omega arith, tt)
least_below m (x ∷ xs) =
    let ih = least_below (min m x) xs in
    (omega (arith, ih.0), (omega (arith, ih.0), ih.1))

-- one of some numbers of 64 bits is the least
pub least_occurs : (ranks : List ℕ) → 0 < length ranks → AllByRecursion (λ r. r < 2 ^ 64) ranks → has_zero (differences ranks) ≡ true
least_occurs [] h all = absurd (omega arith)
least_occurs (r ∷ ranks) h all =
    let f : ℕ = least (r ∷ ranks) in
    elim (least_among (2 ^ 64 - 1) (r ∷ ranks)) [
      | inr there ↦ there
      | inl same ↦ zero_first (r - f) (map (λ x. x - f) ranks) (omega (arith, same, all.0))
    ]

-- the greatest difference
greatest_moved : (base m : ℕ) (xs : List ℕ) → fold max (m - base) (map (λ x. x - base) xs) ≡ fold max m xs - base
greatest_moved base m [] = refl
greatest_moved base m (x ∷ xs) =
    let e : max (m - base) (x - base) ≡ max m x - base = omega arith in
    ap (λ (top : ℕ). fold max top (map (λ y. y - base) xs)) e ∙ greatest_moved base (max m x) xs

pub greatest_difference : (ranks : List ℕ) → greatest (differences ranks) ≡ greatest ranks - least ranks
greatest_difference ranks =
    let zero_is : 0 - least ranks ≡ 0 = omega arith in
    ap (λ (m : ℕ). fold max m (differences ranks)) (sym zero_is) ∙ greatest_moved (least ranks) 0 ranks

-- the values that were there stand above the least one again
again_above : (kind : ColType) (base : ℕ) (values : List Value) → IsNumeric kind → AllByRecursion (IsPlain kind) values → AllByRecursion (λ r. base ≤ r) (map rank_of values) → values_above kind base (map (λ r. r - base) (map rank_of values)) ≡ Some values
again_above kind base [] n plain all = refl
again_above kind base (value ∷ values) n plain all =
    let back : base + (rank_of value - base) ≡ rank_of value = omega (arith, all.0) in
    let ih = again_above kind base values n plain.1 all.1 in
    rw (back, value_again kind value n plain.0, ih) refl

pub values_again : (kind : ColType) (values : List Value) → IsNumeric kind → AllByRecursion (IsPlain kind) values → values_above kind (least (map rank_of values)) (differences (map rank_of values)) ≡ Some values
values_again kind values n plain = again_above kind (least (map rank_of values)) values n plain (least_below (2 ^ 64 - 1) (map rank_of values)).1

pub ranks_below : (kind : ColType) (values : List Value) → IsNumeric kind → AllByRecursion (IsPlain kind) values → AllByRecursion (λ r. r < 2 ^ 64) (map rank_of values)
ranks_below kind [] n plain = tt
ranks_below kind (value ∷ values) n plain = (rank_below kind value n plain.0, ranks_below kind values n plain.1)

-- values that stand above a base: their ranks are the base and the differences
pub record StandAbove (kind : ColType) (base : ℕ) (ds : List ℕ) (values : List Value) : Type 0 where
  pub plain : AllByRecursion (IsPlain kind) values
  pub ranks : map rank_of values ≡ map (λ d. base + d) ds
  pub below : AllByRecursion (λ d. base + d < 2 ^ 64) ds

both_some : (first : Option Value) (rest : Option (List Value)) (values : List Value) → with_value first rest ≡ Some values → (value : Value) × (others : List Value) × (first ≡ Some value) × (rest ≡ Some others) × (value ∷ others ≡ values)
both_some None rest values e = absurd cc
both_some (Some value) None values e = absurd cc
both_some (Some value) (Some others) values e = (value, others, refl, refl, cc)

pub taken_above : (kind : ColType) (base : ℕ) (ds : List ℕ) (values : List Value) → values_above kind base ds ≡ Some values → StandAbove kind base ds values
taken_above kind base [] values e =
    let none : [] ≡ values = cc in
    subst (λ (vs : List Value). StandAbove kind base [] vs) none (record { plain = tt; ranks = refl; below = tt })
taken_above kind base (d ∷ ds) values e =
    let b = both_some (value_of_rank kind (base + d)) (values_above kind base ds) values e in
    let t = value_taken kind (base + d) b.0 b.2 in
    let ih = taken_above kind base ds b.1 b.3 in
    subst (λ (vs : List Value). StandAbove kind base (d ∷ ds) vs) b.4 (record {
      plain = (t.plain, ih.plain);
      ranks = ap (λ (r : ℕ). r ∷ map rank_of b.1) t.same ∙ ap (λ (rs : List ℕ). (base + d) ∷ rs) ih.ranks;
      below = (t.below, ih.below);
    })

base_below : (base m : ℕ) (ds : List ℕ) → base ≤ m → base ≤ fold min m (map (λ d. base + d) ds)
base_below base m [] h = h
base_below base m (d ∷ ds) h = base_below base (min m (base + d)) ds (omega arith)

base_reached : (base m : ℕ) (ds : List ℕ) → has_zero ds ≡ true → fold min m (map (λ d. base + d) ds) ≤ base
base_reached base m [] e = absurd cc
base_reached base m (d ∷ ds) e =
    elim (or_cases (d == 0) (has_zero ds) e) [
      | inl here ↦ omega (arith, eqb-true d 0 here, (least_below (min m (base + d)) (map (λ x. base + x) ds)).0)
      | inr there ↦ base_reached base (min m (base + d)) ds there
    ]

pub least_64 : (ranks : List ℕ) → least ranks < 2 ^ 64
least_64 ranks = omega (arith, (least_below (2 ^ 64 - 1) ranks).0)

-- where one stands at the base, that is the least
pub base_least : (base : ℕ) (ds : List ℕ) → base < 2 ^ 64 → has_zero ds ≡ true → least (map (λ d. base + d) ds) ≡ base
base_least base ds h e = omega (arith, base_below base (2 ^ 64 - 1) ds (omega arith), base_reached base (2 ^ 64 - 1) ds e)

pub moved_back : (base : ℕ) (ds : List ℕ) → map (λ r. r - base) (map (λ d. base + d) ds) ≡ ds
moved_back base [] = refl
moved_back base (d ∷ ds) =
    let back : base + d - base ≡ d = omega arith in
    rw back (ap (λ (xs : List ℕ). d ∷ xs) (moved_back base ds))
