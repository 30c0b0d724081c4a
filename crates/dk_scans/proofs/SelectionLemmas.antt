-- Flags and what they select.
use Rattle.std.proofs.Common.{map, ℤ, cond, ◌≡◌, ℕ, zero, suc, ◌+◌, ◌-◌, ◌*◌, ◌≤◌, ◌<◌, ◌==◌, ◌&&◌, min, Bool, true, false, List, [], ◌∷◌, ◌++◌, length, take, drop, Some, inl, inr, refl, ap, sym, ◌∙◌, arith}
use Rattle.std.specs.Prelude.{slice_get}
use Rattle.std.specs.List.{filter}
use Rattle.std.specs.Int.{bit_at}
use Rattle.std.specs.Int.RustNames.{bit_and}
use Rattle.std.proofs.lemmas.List.{length-take, length-take-le, length-drop, length-map, take_all}
use Rattle.std.proofs.lemmas.Nat.Bits.{bit_at_and}
use Rattle.std.proofs.lemmas.Bool.{cases_lt}
use Rattle.std.proofs.Math.Seq.{take-add}
use Rattle.dk_rows.proofs.RowLemmas.{take_more}
use Rattle.dk_values.specs.declared.value.Value.{Value}
use Rattle.dk_columns.specs.Flags.{IsWord}
use Rattle.dk_columns.specs.Columns.{is_present, number_of}
use Rattle.dk_scans.specs.Extremes.{first}
use Rattle.dk_scans.specs.Selection.{select, both, set_flags, bits, in_word, in_words, present_values, numbers}

-- as many flags as the first list has
pub both_len : (bs cs : List Bool) → length bs ≡ length cs → length (both bs cs) ≡ length bs
both_len [] cs h = refl
both_len (b ∷ bs) [] h = absurd (omega (arith, h))
both_len (b ∷ bs) (c ∷ cs) h = ap suc (both_len bs cs (omega (arith, h)))

-- the flag that both have at a place
pub both_at : (bs cs : List Bool) (i : ℕ) (b c : Bool) → slice_get bs i ≡ Some b → slice_get cs i ≡ Some c → slice_get (both bs cs) i ≡ Some (b && c)
both_at [] cs i b c e f = absurd cc
both_at (x ∷ bs) [] i b c e f = absurd cc
both_at (x ∷ bs) (y ∷ cs) zero b c e f =
    let first : x ≡ b = cc in
    let second : y ≡ c = cc in
    rw (first, second) refl
both_at (x ∷ bs) (y ∷ cs) (suc i) b c e f = both_at bs cs i b c e f

bit_most : (n i : ℕ) → bit_at n i ≤ 1
bit_most n i = omega arith

and_bits : (a b : ℕ) → a ≤ 1 → b ≤ 1 → ((a == 1) && (b == 1)) ≡ (min a b == 1)
and_bits zero b h k = let e : 0 ≡ min 0 b = omega arith in ap (λ (m : ℕ). m == 1) e
and_bits (suc zero) zero h k = refl
and_bits (suc zero) (suc zero) h k = refl
and_bits (suc zero) (suc (suc b)) h k = absurd (omega (arith, k))
and_bits (suc (suc a)) b h k = absurd (omega (arith, h))

-- the word of what both have
pub both_word : (rows present : List Bool) (k v w : ℕ) → length rows ≡ length present → IsWord k v rows → IsWord k w present → IsWord k (bit_and v w) (both rows present)
both_word rows present k v w len a b j lt within =
    let all = both_len rows present len in
    both_at rows present (64 * k + j) _ _ (a j lt (omega (arith, within, all))) (b j lt (omega (arith, within, all, len)))
    ∙ ap (λ (x : Bool). Some x) (and_bits (bit_at v j) (bit_at w j) (bit_most v j) (bit_most w j) ∙ ap (λ (m : ℕ). m == 1) (sym (bit_at_and v w j)))

drop_at : (n : ℕ) (xs : List Bool) (j : ℕ) → slice_get (drop n xs) j ≡ slice_get xs (n + j)
drop_at zero xs j = ap (slice_get xs) (omega arith)
drop_at (suc n) [] j = refl
drop_at (suc n) (x ∷ xs) j = let next : suc n + j ≡ suc (n + j) = omega arith in drop_at n xs j ∙ ap (slice_get (x ∷ xs)) (sym next)

-- the bits of a word are the flags from its place on
pub bits_of_word : (all : List Bool) (k word n : ℕ) → IsWord k word all → n ≤ 64 → 64 * k + n ≤ length all → bits n word ≡ take n (drop (64 * k) all)
bits_of_word all k word zero h le within = refl
bits_of_word all k word (suc n) h le within =
    let next : n + 1 ≡ suc n = omega arith in
    ap (λ (bs : List Bool). bs ++ (bit_at word n == 1) ∷ []) (bits_of_word all k word n h (omega (arith, le)) (omega (arith, within)))
    ∙ sym (take_more (drop (64 * k) all) n (bit_at word n == 1) (drop_at (64 * k) all n ∙ h n (omega (arith, le)) (omega (arith, within))))
    ∙ ap (λ (m : ℕ). take m (drop (64 * k) all)) next

-- fronts that reach as far
pub same_take : {T : Type 0} (xs : List T) (m n : ℕ) → min m (length xs) ≡ n → take m xs ≡ take n xs
same_take xs m n h =
    elim (cases_lt m (length xs)) [
      | inl lt ↦ ap (λ (k : ℕ). take k xs) (omega (arith, h, lt))
      | inr le ↦ take_all m xs le ∙ sym (take_all n xs (omega (arith, h, le)))
    ]

module _ {T : Type 0} where
  pub select_append : (bs cs : List Bool) (xs ys : List T) → length bs ≡ length xs → select (bs ++ cs) (xs ++ ys) ≡ select bs xs ++ select cs ys
  select_append [] cs [] ys h = refl
  select_append [] cs (x ∷ xs) ys h = absurd (omega (arith, h))
  select_append (b ∷ bs) cs [] ys h = absurd (omega (arith, h))
  select_append (true ∷ bs) cs (x ∷ xs) ys h = ap (λ (zs : List T). x ∷ zs) (select_append bs cs xs ys (omega (arith, h)))
  select_append (false ∷ bs) cs (x ∷ xs) ys h = select_append bs cs xs ys (omega (arith, h))

  -- one flag and one item more
  pub select_next : (bs : List Bool) (xs : List T) (i : ℕ) (b : Bool) (x : T) → slice_get bs i ≡ Some b → slice_get xs i ≡ Some x → i < length xs → length bs ≡ length xs
      → select (take (i + 1) bs) (take (i + 1) xs) ≡ select (take i bs) (take i xs) ++ select (b ∷ []) (x ∷ [])
  select_next bs xs i b x at_flag at_item within len =
      ap (λ (cs : List Bool). select cs (take (i + 1) xs)) (take_more bs i b at_flag) ∙ ap (λ (ys : List T). select (take i bs ++ b ∷ []) ys) (take_more xs i x at_item)
      ∙ select_append (take i bs) (b ∷ []) (take i xs) (x ∷ []) (omega (arith, length-take-le i bs (omega (arith, within, len)), length-take-le i xs (omega (arith, within))))

  -- how many are selected is told by the flags
  pub select_len : {S : Type 0} (bs : List Bool) (xs : List T) (ys : List S) → length xs ≡ length ys → length (select bs xs) ≡ length (select bs ys)
  select_len [] xs ys h = refl
  select_len (b ∷ bs) [] [] h = refl
  select_len (b ∷ bs) [] (y ∷ ys) h = absurd (omega (arith, h))
  select_len (b ∷ bs) (x ∷ xs) [] h = absurd (omega (arith, h))
  select_len (true ∷ bs) (x ∷ xs) (y ∷ ys) h = ap suc (select_len bs xs ys (omega (arith, h)))
  select_len (false ∷ bs) (x ∷ xs) (y ∷ ys) h = select_len bs xs ys (omega (arith, h))

  pub select_map : {S : Type 0} (f : T → S) (bs : List Bool) (xs : List T) → select bs (map f xs) ≡ map f (select bs xs)
  select_map f [] xs = refl
  select_map f (b ∷ bs) [] = refl
  select_map f (true ∷ bs) (x ∷ xs) = ap (λ ys. f x ∷ ys) (select_map f bs xs)
  select_map f (false ∷ bs) (x ∷ xs) = select_map f bs xs

  -- the first item whose flag is set is the first that is selected
  pub first_selected : (bs : List Bool) (xs : List T) (i : ℕ) (x : T) → select (take i bs) (take i xs) ≡ [] → slice_get bs i ≡ Some true → slice_get xs i ≡ Some x → Some x ≡ first (select bs xs)
  first_selected [] xs i x none set at = absurd cc
  first_selected (b ∷ bs) [] i x none set at = absurd cc
  first_selected (true ∷ bs) (y ∷ xs) zero x none set at = let here : y ≡ x = cc in ap (λ (z : T). Some z) (sym here)
  first_selected (false ∷ bs) (y ∷ xs) zero x none set at = absurd cc
  first_selected (true ∷ bs) (y ∷ xs) (suc i) x none set at = absurd cc
  first_selected (false ∷ bs) (y ∷ xs) (suc i) x none set at = first_selected bs xs i x none set at

  pick : (p : T → Bool) (bs : List Bool) (x : T) (xs : List T) (b : Bool) → select (b ∷ bs) (x ∷ xs) ≡ cond b (x ∷ select bs xs) (select bs xs)
  pick p bs x xs true = refl
  pick p bs x xs false = refl

  -- flags that both have select what the first ones do and the test of the others passes
  pub select_both : (p : T → Bool) (bs : List Bool) (xs : List T) → length bs ≡ length xs → select (both bs (map p xs)) xs ≡ filter p (select bs xs)
  select_both p [] xs h = refl
  select_both p (b ∷ bs) [] h = refl
  select_both p (true ∷ bs) (x ∷ xs) h = pick p (both bs (map p xs)) x xs (p x) ∙ ap (λ ys. cond (p x) (x ∷ ys) ys) (select_both p bs xs (omega (arith, h)))
  select_both p (false ∷ bs) (x ∷ xs) h = select_both p bs xs (omega (arith, h))

  -- one word more
  pub next_word : (flags : List Bool) (items chunk : List T) (k word : ℕ) → length flags ≡ length items → 64 * k ≤ length items → IsWord k word flags → chunk ≡ take 64 (drop (64 * k) items)
      → in_words (k + 1) flags items ≡ in_words k flags items ++ in_word word chunk
  next_word flags items chunk k word len le h e =
      let next : 64 * (k + 1) ≡ 64 * k + 64 = omega arith in
      let size : length chunk ≡ min 64 (length items - 64 * k) = ap (λ (xs : List T). length xs) e ∙ length-take 64 (drop (64 * k) items) ∙ ap (min 64) (length-drop (64 * k) items) in
      let front : length (take (64 * k) flags) ≡ length (take (64 * k) items) = omega (arith, length-take (64 * k) flags, length-take (64 * k) items, len) in
      let flags_here : take 64 (drop (64 * k) flags) ≡ bits (length chunk) word =
      same_take (drop (64 * k) flags) 64 (length chunk) (omega (arith, size, length-drop (64 * k) flags, len)) ∙ sym (bits_of_word flags k word (length chunk) h (omega (arith, size)) (omega (arith, size, len, le))) in
      ap (λ (n : ℕ). select (take n flags) (take n items)) next
      ∙ ap (λ (bs : List Bool). select bs (take (64 * k + 64) items)) (take-add (64 * k) 64 flags) ∙ ap (λ (xs : List T). select (take (64 * k) flags ++ take 64 (drop (64 * k) flags)) xs) (take-add (64 * k) 64 items)
      ∙ select_append (take (64 * k) flags) _ (take (64 * k) items) _ front
      ∙ ap (λ (bs : List Bool). select (take (64 * k) flags) (take (64 * k) items) ++ select bs (take 64 (drop (64 * k) items))) flags_here
      ∙ ap (λ (xs : List T). select (take (64 * k) flags) (take (64 * k) items) ++ select (bits (length chunk) word) xs) (sym e)

-- what a scan is handed: a flag for each value, which is set where the row is asked for and the value not null
pub record IsAsked (rows present flags : List Bool) (all : List Value) : Type 0 where
  pub both : flags ≡ both rows present
  pub not_null : present ≡ map is_present all
  pub long : length rows ≡ length all

module _ (rows present flags : List Bool) (all : List Value) (asked : IsAsked rows present flags all) where
  pub asked_len : length flags ≡ length all
  asked_len =
      let flags_len = ap (λ (bs : List Bool). length bs) asked.both in
      let present_len = ap (λ (bs : List Bool). length bs) asked.not_null ∙ length-map all is_present in
      omega (arith, flags_len, both_len rows present (omega (arith, present_len, asked.long)), present_len, asked.long)

  asked_values : select flags all ≡ present_values rows all
  asked_values = ap (λ (bs : List Bool). select bs all) (asked.both ∙ ap (both rows) asked.not_null) ∙ select_both is_present rows all asked.long

  -- as many flags are set as values are asked for and not null
  pub asked_count : length (set_flags flags) ≡ length (present_values rows all)
  asked_count = select_len flags flags all asked_len ∙ ap (λ (vs : List Value). length vs) asked_values

  module _ (ns : List ℤ) (numbers_are : ns ≡ map number_of all) where
    pub numbers_len : length flags ≡ length ns
    numbers_len = asked_len ∙ sym (ap (λ (ms : List ℤ). length ms) numbers_are ∙ length-map all number_of)

    -- the numbers that are asked for and not null
    pub asked_numbers : select flags ns ≡ numbers rows all
    asked_numbers = ap (select flags) numbers_are ∙ select_map number_of flags all ∙ ap (map number_of) asked_values
