-- Folds over what is selected.
use Rattle.std.proofs.Common.{◌≡◌, ℕ, ℤ, zero, suc, pos, ◌+◌, ◌-◌, ◌*◌, ◌/◌, ◌^◌, ◌<◌, ◌≤◌, ◌==◌, ◌+ℤ◌, Bool, true, false, List, [], ◌∷◌, ◌++◌, length, fold, take, get_or, Some, refl, ap, sym, ◌∙◌, arith, length-append}
use Rattle.std.specs.Prelude.{slice_get}
use Rattle.std.specs.Int.{bit_at}
use Rattle.std.specs.Int.RustNames.{bit_and}
use Rattle.std.proofs.lemmas.Int.{ints}
use Rattle.std.proofs.lemmas.List.{take_all, length-take-le}
use Rattle.std.proofs.lemmas.Option.{slice_get-get_or}
use Rattle.std.proofs.lemmas.List.Sums.{fold-append}
use Rattle.std.proofs.lemmas.Nat.Bits.{shr_and_one, bit_at_ones}
use Rattle.dk_rows.proofs.RowLemmas.{take_more}
use Rattle.dk_scans.specs.Selection.{select, bits, in_word, in_words, if_set}
use Rattle.dk_scans.proofs.SelectionLemmas.{select_append}

pub tested : (word i : ℕ) → (bit_and (word / 2 ^ i) 1 == 1) ≡ (bit_at word i == 1)
tested word i = ap (λ (b : ℕ). b == 1) (shr_and_one word i)

pub bits_len : (n word : ℕ) → length (bits n word) ≡ n
bits_len zero word = refl
bits_len (suc n) word = omega (arith, bits_len n word, length-append (bits n word) ((bit_at word n == 1) ∷ []))

module _ {T : Type 0} where
  -- one bit and one item more
  pub select_more : (items : List T) (word i : ℕ) (item : T) → slice_get items i ≡ Some item → i < length items
      → select (bits (i + 1) word) (take (i + 1) items) ≡ select (bits i word) (take i items) ++ select ((bit_at word i == 1) ∷ []) (item ∷ [])
  select_more items word i item e lt =
      let next : i + 1 ≡ suc i = omega arith in
      ap (λ (n : ℕ). select (bits n word) (take (i + 1) items)) next
      ∙ ap (λ (xs : List T). select (bits i word ++ (bit_at word i == 1) ∷ []) xs) (take_more items i item e)
      ∙ select_append (bits i word) ((bit_at word i == 1) ∷ []) (take i items) (item ∷ []) (omega (arith, bits_len i word, length-take-le i items (omega (arith, lt))))

  front_bits : (d : T) (n : ℕ) (items : List T) → n ≤ length items → n ≤ 64 → select (bits n (2 ^ 64 - 1)) (take n items) ≡ take n items
  front_bits d zero items within le = refl
  front_bits d (suc n) items within le =
      let next : n + 1 ≡ suc n = omega arith in
      let at = slice_get-get_or items n d (omega (arith, within)) in
      let set : (bit_at (2 ^ 64 - 1) n == 1) ≡ true = ap (λ (b : ℕ). b == 1) (bit_at_ones 64 n (omega (arith, le))) in
      ap (λ (k : ℕ). select (bits k (2 ^ 64 - 1)) (take k items)) (sym next)
      ∙ select_more items (2 ^ 64 - 1) n (get_or items n d) at (omega (arith, within))
      ∙ ap (λ (xs : List T). xs ++ select ((bit_at (2 ^ 64 - 1) n == 1) ∷ []) (get_or items n d ∷ [])) (front_bits d n items (omega (arith, within)) (omega (arith, le)))
      ∙ ap (λ (b : Bool). take n items ++ select (b ∷ []) (get_or items n d ∷ [])) set
      ∙ sym (take_more items n (get_or items n d) at)
      ∙ ap (λ (k : ℕ). take k items) next

  -- all are selected by a word of set bits
  pub all_bits : (d : T) (items : List T) (word : ℕ) → word ≡ 2 ^ 64 - 1 → length items ≤ 64 → in_word word items ≡ items
  all_bits d items word e le =
      let all = take_all (length items) items (omega arith) in
      ap (λ (w : ℕ). select (bits (length items) w) items) e ∙ ap (λ (xs : List T). select (bits (length items) (2 ^ 64 - 1)) xs) (sym all) ∙ front_bits d (length items) items (omega arith) le ∙ all

  -- what all words have selected
  pub all_words : {Y : Type 0} (f : List T → Y) (flags : List Bool) (items : List T) (k : ℕ) (y : Y) → y ≡ f (in_words k flags items) → length flags ≡ length items → length items ≤ 64 * k → y ≡ f (select flags items)
  all_words f flags items k y e len le =
      e ∙ ap f (ap (λ (bs : List Bool). select bs (take (64 * k) items)) (take_all (64 * k) flags (omega (arith, le, len))) ∙ ap (select flags) (take_all (64 * k) items le))

-- a fold goes on over what is selected
pub folded_more : {T Y : Type 0} (f : Y → T → Y) (a y y' : Y) (xs ys zs : List T) → y ≡ fold f a xs → zs ≡ xs ++ ys → y' ≡ fold f y ys → y' ≡ fold f a zs
folded_more f a y y' xs ys zs e more g = g ∙ ap (λ (x : _). fold f x ys) e ∙ sym (ap (fold f a) more ∙ fold-append f a xs ys)

pub plus_fold : (s : ℤ) (xs : List ℤ) → fold ◌+ℤ◌ s xs ≡ s +ℤ fold ◌+ℤ◌ (pos 0) xs
plus_fold s [] = omega (arith, ints)
plus_fold s (x ∷ xs) =
    let here = plus_fold (s +ℤ x) xs in
    let other = plus_fold (pos 0 +ℤ x) xs in
    omega (arith, ints, here, other)

pub plus_set : (s : ℤ) (b : Bool) (n : ℤ) → s +ℤ if_set b n ≡ fold ◌+ℤ◌ s (select (b ∷ []) (n ∷ []))
plus_set s true n = refl
plus_set s false n = omega (arith, ints)
