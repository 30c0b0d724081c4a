-- Differences above a least rank, and the values that they stand for.
use Rattle.std.proofs.Common.{◌≡◌, ◌⊎◌, ℕ, ℤ, zero, suc, ◌+◌, ◌-◌, ◌*◌, ◌/◌, ◌%◌, ◌<◌, ◌≤◌, ◌^◌, Bool, true, false, ◌&&◌, ◌||◌, ◌==◌, ltb, leb, min, max, fold, map, List, [], ◌∷◌, ◌++◌, length, take, Option, Some, None, Ok, Err, refl, ap, sym, ◌∙◌, subst, arith, inl, inr, ne_eqb}
use Rattle.std.specs.List.{All, AllByRecursion, list_any}
use Rattle.std.proofs.lemmas.Bool.{eqb-true, lt-ltb, le-ltb, le-leb, leb-true, ltb-true, lt-leb, and_parts, and_from, cases_lt}
use Rattle.std.specs.Prelude.{slice_set}
use Rattle.std.proofs.lemmas.List.{map-append, take_more_set}
use Rattle.std.proofs.lemmas.List.Elements.{All-from_recursion}
use Rattle.std.proofs.lemmas.List.Sums.{fold-append}
use Rattle.std.specs.Simd.Lanes.{number_l as number}
use Rattle.dk_values.specs.declared.value.ColType.{ColType}
use Rattle.dk_values.specs.declared.value.ColType.TheVariants as types
use Rattle.dk_values.specs.declared.value.Value.{Value}
use Rattle.dk_columns.specs.Stored as stored
use Rattle.dk_columns.proofs.StoredLemmas.{mapped_twice}
use Rattle.dk_seg_pack.specs.declared.packed.Above.{Above}
use Rattle.dk_bytes.specs.Fields.{Place, bytes_at}
use Rattle.dk_bytes.specs.Bits.{bit_width, byte_count, unpacked, number_in, numbers_in}
use Rattle.dk_bytes.proofs.NarrowLemmas.{digits_more}
use Rattle.dk_seg_pack.specs.Packed.{number_of_rank, value_of_rank, least, greatest, is_numeric, with_value, values_above, values_of, differences_at}
use Rattle.dk_seg_pack.specs.Above.{IsAbove, number_above, first_rank, end_rank, are_ranks, may_stand}
use Rattle.dk_seg_pack.proofs.RankLemmas.{int_fits, number_fits}

-- no value has a rank of 65 bits
pub too_high : (kind : ColType) (low high : ℕ) → 2 ^ 64 ≤ high → are_ranks kind low high ≡ false
too_high kind low high h = by_first (leb (first_rank kind) low) (ltb high (end_rank kind)) (above kind)
  where
    by_first : (a b : Bool) → b ≡ false → (a && b) ≡ false
    by_first true b e = e
    by_first false b e = refl

    above : (k : ColType) → ltb high (end_rank k) ≡ false
    above types.Bool = le-ltb _ _ (omega (arith, h))
    above types.Int = le-ltb _ _ (omega (arith, h))
    above types.Big = le-ltb _ _ (omega (arith, h))
    above types.Text = le-ltb _ _ (omega (arith, h))

-- the value of the rank so far above the least one
abbrev pub value_above : ColType → ℕ → ℕ → Value
value_above kind base d = stored.number_value kind (Some (number_above base d))

-- a rank of the type has its value, and another one has none
pub record HasValue (kind : ColType) (r : ℕ) : Type 0 where
  pub value : value_of_rank kind r ≡ Some (stored.number_value kind (Some (number_of_rank r)))
  pub number : stored.IsNumber kind (Some (number_of_rank r))

bool_values : (r : ℕ) → (r ≡ 2 ^ 63) ⊎ (r ≡ 2 ^ 63 + 1) → HasValue types.Bool r
bool_values r h =
    elim h [
      | inl e ↦ subst (λ (k : ℕ). HasValue types.Bool k) (sym e) (record { value = refl; number = inl refl })
      | inr e ↦ subst (λ (k : ℕ). HasValue types.Bool k) (sym e) (record { value = refl; number = inr refl })
    ]

two_ranks : (r : ℕ) → 2 ^ 63 ≤ r → r < 2 ^ 63 + 2 → (r ≡ 2 ^ 63) ⊎ (r ≡ 2 ^ 63 + 1)
two_ranks r h k = elim (cases_lt r (2 ^ 63 + 1)) [ inl lt ↦ inl (omega (arith, lt, h)) | inr le ↦ inr (omega (arith, le, k)) ]

pub has_value : (kind : ColType) (r : ℕ) → is_numeric kind ≡ true → first_rank kind ≤ r → r < end_rank kind → HasValue kind r
has_value types.Bool r n h k = bool_values r (two_ranks r h k)
has_value types.Int r n h k = record {
  value = rw (and_from _ _ (le-leb (2 ^ 63 - 2 ^ 31) r h) (lt-ltb r (2 ^ 63 + 2 ^ 31) k)) refl;
  number = (int_fits r h k).0;
}
has_value types.Big r n h k = record { value = rw (lt-ltb r (2 ^ 64) k) refl; number = (number_fits r k).0 }
has_value types.Text r n h k = absurd cc

no_low : (kind : ColType) (r : ℕ) → r < first_rank kind → value_of_rank kind r ≡ None
no_low types.Bool r h = rw (ne_eqb r (2 ^ 63) (λ e. omega (arith, h, e)), ne_eqb r (2 ^ 63 + 1) (λ e. omega (arith, h, e))) refl
no_low types.Int r h = rw (lt-leb (2 ^ 63 - 2 ^ 31) r h) refl
no_low types.Big r h = absurd (omega (arith, h))
no_low types.Text r h = refl

and_false : (b : Bool) → (b && false) ≡ false
and_false true = refl
and_false false = refl

no_high : (kind : ColType) (r : ℕ) → end_rank kind ≤ r → value_of_rank kind r ≡ None
no_high types.Bool r h = rw (ne_eqb r (2 ^ 63) (λ e. omega (arith, h, e)), ne_eqb r (2 ^ 63 + 1) (λ e. omega (arith, h, e))) refl
no_high types.Int r h = rw (le-ltb r (2 ^ 63 + 2 ^ 31) h, and_false (leb (2 ^ 63 - 2 ^ 31) r)) refl
no_high types.Big r h = rw (le-ltb r (2 ^ 64) h) refl
no_high types.Text r h = refl

-- ---- all differences

-- the greatest of some numbers is no less than each
greatest_above : (m : ℕ) (xs : List ℕ) → (m ≤ fold max m xs) × AllByRecursion (λ x. x ≤ fold max m xs) xs
greatest_above m [] = (omega arith, tt)
greatest_above m (x ∷ xs) =
    let ih = greatest_above (max m x) xs in
    (omega (arith, ih.0), (omega (arith, ih.0), ih.1))

end_small : (kind : ColType) → end_rank kind ≤ 2 ^ 64
end_small types.Bool = omega arith
end_small types.Int = omega arith
end_small types.Big = omega arith
end_small types.Text = omega arith

-- the ranks up to the top stand for values
pub record AllHave (kind : ColType) (base : ℕ) (ds : List ℕ) : Type 0 where
  pub values : values_above kind base ds ≡ Some (map (value_above kind base) ds)
  pub numbers : AllByRecursion (λ n. stored.IsNumber kind (Some n)) (map (number_above base) ds)

all_have : (kind : ColType) (base top : ℕ) (ds : List ℕ) → is_numeric kind ≡ true → first_rank kind ≤ base → base + top < end_rank kind → AllByRecursion (λ d. d ≤ top) ds → AllHave kind base ds
all_have kind base top [] n low high all = record { values = refl; numbers = tt }
all_have kind base top (d ∷ ds) n low high all =
    let ih = all_have kind base top ds n low high all.1 in
    let v = has_value kind (base + d) n (omega (arith, low)) (omega (arith, high, all.0)) in
    let same : (base + d) % 2 ^ 64 ≡ base + d = omega (arith, high, all.0, end_small kind) in
    record {
      values = rw (v.value, ih.values, same) refl;
      numbers = (subst (λ (r : ℕ). stored.IsNumber kind (Some (number_of_rank r))) (sym same) v.number, ih.numbers);
    }

with_none : (o : Option Value) → with_value o None ≡ None
with_none None = refl
with_none (Some value) = refl

-- a difference of 0 above a rank without a value
none_low : (kind : ColType) (base : ℕ) (ds : List ℕ) → value_of_rank kind base ≡ None → list_any (λ d. d == 0) ds ≡ true → values_above kind base ds ≡ None
none_low kind base [] e h = absurd cc
none_low kind base (d ∷ ds) e h = by_test (d == 0) refl (λ later. none_low kind base ds e later)
  where
    by_test : (b : Bool) → (d == 0) ≡ b → (list_any (λ x. x == 0) ds ≡ true → values_above kind base ds ≡ None) → values_above kind base (d ∷ ds) ≡ None
    by_test true z next =
        let same : base + d ≡ base = omega (arith, eqb-true d 0 z) in
        rw (same, e) refl
    by_test false z next =
        let later : list_any (λ x. x == 0) ds ≡ true = subst (λ (b : Bool). (b || list_any (λ x. x == 0) ds) ≡ true) z h in
        rw (next later) (with_none (value_of_rank kind (base + d)))

-- a greatest difference without a value
none_high : (kind : ColType) (base m : ℕ) (ds : List ℕ) → base + m < end_rank kind → end_rank kind ≤ base + fold max m ds → values_above kind base ds ≡ None
none_high kind base m [] h k = absurd (omega (arith, h, k))
none_high kind base m (d ∷ ds) h k =
    elim (cases_lt (base + d) (end_rank kind)) [
      | inl lt ↦
          let below : base + max m d < end_rank kind = omega (arith, lt, h) in
          rw (none_high kind base (max m d) ds below k) (with_none (value_of_rank kind (base + d)))
      | inr le ↦ rw (no_high kind (base + d) le) refl
    ]

min_zero : (xs : List ℕ) → fold min 0 xs ≡ 0
min_zero [] = refl
min_zero (x ∷ xs) = let none : min 0 x ≡ 0 = omega arith in ap (λ (m : ℕ). fold min m xs) none ∙ min_zero xs

positive : (n : ℕ) → (n == 0) ≡ false → 0 < n
positive zero e = absurd cc
positive (suc n) e = omega arith

-- the least is 0 where one is 0
zero_least : (m : ℕ) (xs : List ℕ) → 0 < m → list_any (λ x. x == 0) xs ≡ (fold min m xs == 0)
zero_least m [] h = sym (ne_eqb m 0 (λ e. omega (arith, h, e)))
zero_least m (x ∷ xs) h = by_test (x == 0) refl (λ some. zero_least (min m x) xs some)
  where
    by_test : (b : Bool) → (x == 0) ≡ b → (0 < min m x → list_any (λ y. y == 0) xs ≡ (fold min (min m x) xs == 0)) → list_any (λ y. y == 0) (x ∷ xs) ≡ (fold min m (x ∷ xs) == 0)
    by_test true z next =
        let none : min m x ≡ 0 = omega (arith, eqb-true x 0 z) in
        rw (z, none, min_zero xs) refl
    by_test false z next =
        let low = positive x z in
        let some : 0 < min m x = omega (arith, h, low) in
        rw z (next some)

never : false ≡ true → ⊥
never e = cc

-- ---- what a reader finds

module _ (kind : ColType) (base width count : ℕ) (bytes : List ℕ) (above : Above)
    (numeric : is_numeric kind ≡ true) (is : IsAbove base (unpacked width count bytes) above)
    (end_is : above.is_ended ≡ (number 256 bytes / 2 ^ (width * count) == 0)) where
  abbrev ds : List ℕ
  ds = unpacked width count bytes

  -- the values, where all tests pass
  pub values_found : may_stand kind base width above ≡ true → values_of kind base width (numbers_in width count bytes) ≡ Some (map (value_above kind base) ds)
  values_found h =
      let p = and_parts above.is_ended _ h in
      let q = and_parts (above.least == 0) _ p.1 in
      let r = and_parts (bit_width above.greatest == width) _ q.1 in
      let s = and_parts (leb (first_rank kind) base) (ltb (base + above.greatest) (end_rank kind)) r.1 in
      let there : list_any (λ d. d == 0) ds ≡ true = zero_least (2 ^ 64 - 1) ds (omega arith) ∙ ap (λ (n : ℕ). n == 0) (sym is.least) ∙ q.0 in
      let wide : (bit_width (greatest ds) == width) ≡ true = ap (λ (n : ℕ). bit_width n == width) (sym is.greatest) ∙ r.0 in
      let all = all_have kind base above.greatest ds numeric (leb-true _ _ s.0) (ltb-true _ _ s.1) (subst (λ (top : ℕ). AllByRecursion (λ d. d ≤ top) ds) (sym is.greatest) (greatest_above 0 ds).1) in
      rw (sym end_is ∙ p.0, and_from _ _ there wide) all.values

  pub numbers_found : may_stand kind base width above ≡ true → All (λ n. stored.IsNumber kind (Some n)) (map (number_above base) ds)
  numbers_found h =
      let p = and_parts above.is_ended _ h in
      let q = and_parts (above.least == 0) _ p.1 in
      let r = and_parts (bit_width above.greatest == width) _ q.1 in
      let s = and_parts (leb (first_rank kind) base) (ltb (base + above.greatest) (end_rank kind)) r.1 in
      let all = all_have kind base above.greatest ds numeric (leb-true _ _ s.0) (ltb-true _ _ s.1) (subst (λ (top : ℕ). AllByRecursion (λ d. d ≤ top) ds) (sym is.greatest) (greatest_above 0 ds).1) in
      All-from_recursion (λ n. stored.IsNumber kind (Some n)) (map (number_above base) ds) all.numbers

  none_above : list_any (λ d. d == 0) ds ≡ true → are_ranks kind base (base + greatest ds) ≡ false → values_above kind base ds ≡ None
  none_above there h =
      elim (cases_lt base (first_rank kind)) [
        | inl below ↦ none_low kind base ds (no_low kind base below) there
        | inr from ↦
            elim (cases_lt base (end_rank kind)) [
              | inl lt ↦
                  elim (cases_lt (base + greatest ds) (end_rank kind)) [
                    | inl within ↦ absurd (never (sym h ∙ and_from _ _ (le-leb (first_rank kind) base from) (lt-ltb (base + greatest ds) (end_rank kind) within)))
                    | inr beyond ↦ none_high kind base 0 ds (omega (arith, lt)) beyond
                  ]
              | inr le ↦ none_low kind base ds (no_high kind base le) there
            ]
      ]

  -- nothing, where one test fails
  pub none_found : may_stand kind base width above ≡ false → values_of kind base width (numbers_in width count bytes) ≡ None
  none_found h = by_end above.is_ended refl
    where
      by_ranks : (b : Bool) → are_ranks kind base (base + above.greatest) ≡ b → b ≡ false → list_any (λ d. d == 0) ds ≡ true → values_above kind base ds ≡ None
      by_ranks b e f there = none_above there (ap (λ (n : ℕ). are_ranks kind base (base + n)) (sym is.greatest) ∙ e ∙ f)

      by_tests : (z w : Bool) → (above.least == 0) ≡ z → (bit_width above.greatest == width) ≡ w → (z && (w && are_ranks kind base (base + above.greatest))) ≡ false → values_of kind base width (Some ds) ≡ None
      by_tests false w e f g = rw (zero_least (2 ^ 64 - 1) ds (omega arith), ← is.least, e) refl
      by_tests true false e f g = rw (← is.greatest, f, and_false (list_any (λ d. d == 0) ds)) refl
      by_tests true true e f g =
          let there : list_any (λ d. d == 0) ds ≡ true = zero_least (2 ^ 64 - 1) ds (omega arith) ∙ ap (λ (n : ℕ). n == 0) (sym is.least) ∙ e in
          let wide : (bit_width (greatest ds) == width) ≡ true = ap (λ (n : ℕ). bit_width n == width) (sym is.greatest) ∙ f in
          rw (and_from _ _ there wide) (by_ranks _ refl g there)

      by_end : (b : Bool) → above.is_ended ≡ b → values_of kind base width (numbers_in width count bytes) ≡ None
      by_end false e = rw (sym end_is ∙ e) refl
      by_end true e =
          let rest : ((above.least == 0) && ((bit_width above.greatest == width) && are_ranks kind base (base + above.greatest))) ≡ false =
          subst (λ (b : Bool). (b && ((above.least == 0) && ((bit_width above.greatest == width) && are_ranks kind base (base + above.greatest)))) ≡ false) e h in
          rw (sym end_is ∙ e) (by_tests _ _ refl refl rest)

-- ---- one difference more

module _ (w i d : ℕ) (bytes : List ℕ) (is : d ≡ number_in w i bytes) where
  more : unpacked w (i + 1) bytes ≡ unpacked w i bytes ++ d ∷ []
  more = digits_more w i bytes ∙ ap (λ (n : ℕ). unpacked w i bytes ++ n ∷ []) (sym is)

  pub more_least : (m : ℕ) → m ≡ least (unpacked w i bytes) → min m d ≡ least (unpacked w (i + 1) bytes)
  more_least m e = ap (λ (k : ℕ). min k d) e ∙ sym (ap least more ∙ fold-append min (2 ^ 64 - 1) (unpacked w i bytes) (d ∷ []))

  pub more_greatest : (m : ℕ) → m ≡ greatest (unpacked w i bytes) → max m d ≡ greatest (unpacked w (i + 1) bytes)
  more_greatest m e = ap (λ (k : ℕ). max k d) e ∙ sym (ap greatest more ∙ fold-append max 0 (unpacked w i bytes) (d ∷ []))

  pub put_number : (base : ℕ) (n : ℤ) (numbers : List ℤ) → i < length numbers → n ≡ number_above base d → take i numbers ≡ map (number_above base) (unpacked w i bytes) → take (i + 1) (slice_set numbers i n) ≡ map (number_above base) (unpacked w (i + 1) bytes)
  put_number base n numbers h e told =
      take_more_set numbers i n h
      ∙ ap (λ (l : List ℤ). l ++ n ∷ []) told ∙ ap (λ (m : ℤ). map (number_above base) (unpacked w i bytes) ++ m ∷ []) e
      ∙ sym (ap (map (number_above base)) more ∙ map-append (number_above base) (unpacked w i bytes) (d ∷ []))

-- what follows bytes that were taken for the differences
pub differences_found : (kind : ColType) (count base width : ℕ) (p q : Place) (bytes : List ℕ) (vs : List Value) → bytes_at (byte_count (width * count)) p ≡ Ok (bytes, q) → values_of kind base width (numbers_in width count bytes) ≡ Some vs → differences_at kind count base width p ≡ Ok (vs, q)
unfolding differences_at
differences_found kind count base width p q bytes vs e f = rw (e, f) refl

pub differences_lack : (kind : ColType) (count base width : ℕ) (p q : Place) (bytes : List ℕ) → bytes_at (byte_count (width * count)) p ≡ Ok (bytes, q) → values_of kind base width (numbers_in width count bytes) ≡ None → differences_at kind count base width p ≡ Err p.at
unfolding differences_at
differences_lack kind count base width p q bytes e f = rw (e, f) refl

-- a column without values, to which the differences are read, and what was found of them
module _ (kind kind' kind'' : ColType) (count base width : ℕ) (p q : Place) (bytes : List ℕ) (above : Above) (passed : Bool)
    (numeric : is_numeric kind ≡ true) (emptied : kind' ≡ kind) (asked : kind'' ≡ kind')
    (taken : bytes_at (byte_count (width * count)) p ≡ Ok (bytes, q))
    (is : IsAbove base (unpacked width count bytes) above) (end_is : above.is_ended ≡ (number 256 bytes / 2 ^ (width * count) == 0))
    (tested : passed ≡ may_stand kind'' base width above) where
  tests : passed ≡ may_stand kind base width above
  tests = subst (λ (k : ColType). passed ≡ may_stand k base width above) (asked ∙ emptied) tested

  pub refused : passed ≡ false → differences_at kind count base width p ≡ Err p.at
  refused h =
      differences_lack kind count base width p q bytes taken
      (none_found kind base width count bytes above numeric is end_is (sym tests ∙ h))

  pub all_numbers : passed ≡ true → All (λ n. stored.IsNumber kind' (Some n)) above.numbers.items
  all_numbers h =
      let all = numbers_found kind base width count bytes above numeric is end_is (sym tests ∙ h) in
      subst (λ (k : ColType). All (λ n. stored.IsNumber k (Some n)) above.numbers.items) (sym emptied)
      (subst (λ (ns : List ℤ). All (λ n. stored.IsNumber kind (Some n)) ns) (sym is.numbers) all)

  pub answered : passed ≡ true → differences_at kind count base width p ≡ Ok (map (λ n. stored.number_value kind' (Some n)) above.numbers.items, q)
  answered h =
      let ds : List ℕ = unpacked width count bytes in
      let told = values_found kind base width count bytes above numeric is end_is (sym tests ∙ h) in
      let same : map (value_above kind base) ds ≡ map (λ n. stored.number_value kind' (Some n)) above.numbers.items =
      sym (mapped_twice (number_above base) (λ n. stored.number_value kind (Some n)) ds)
      ∙ ap (λ (ns : List ℤ). map (λ n. stored.number_value kind (Some n)) ns) (sym is.numbers)
      ∙ ap (λ (k : ColType). map (λ n. stored.number_value k (Some n)) above.numbers.items) (sym emptied) in
      subst (λ (vs : List Value). differences_at kind count base width p ≡ Ok (vs, q)) same (differences_found kind count base width p q bytes _ taken told)
