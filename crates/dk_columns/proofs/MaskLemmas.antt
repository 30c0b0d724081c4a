-- Flags in words of 64 bits.
use Rattle.std.proofs.Common.{false, ◌≡◌, ◌≢◌, ℕ, zero, suc, ◌+◌, ◌-◌, ◌*◌, ◌/◌, ◌%◌, ◌^◌, ◌<◌, ◌≤◌, ◌==◌, Bool, true, List, [], ◌∷◌, ◌++◌, length, get_or, Some, refl, ap, sym, ◌∙◌, arith, inl, inr, length-append}
use Rattle.std.specs.Prelude.{slice_get, slice_set, replicate, take, Result, Ok, Err, OnErr}
use Rattle.std.specs.Int.{w64, bit_at, bit_not, div_ceil}
use Rattle.std.specs.Int.RustNames.{bit_and, bit_or}
use Rattle.std.proofs.lemmas.Bool.{cases_lt, cases_eq}
use Rattle.std.proofs.lemmas.List.{get_or-set_same, get_or-set_other, get_or_past, get_or-take, length-take, set-append_left, take-append-le, take_all, append-nil, append_assoc}
use Rattle.std.proofs.lemmas.Grind.{div_ceil_times}
use Rattle.std.proofs.Math.Seq.{set-append_seam}
use Rattle.std.proofs.lemmas.Nat.Bits.{bit_at_set_same, bit_at_set_other, shr_and_one, bit_at_ones, bit_at_clear_same, bit_at_clear_other}
use Rattle.dk_columns.specs.Flags.{flag, flags, Widened}

pub flags_len : (n : ℕ) (words : List ℕ) → length (flags n words) ≡ n
flags_len zero words = refl
flags_len (suc n) words = let ih = flags_len n words in omega (arith, ih, length-append (flags n words) (flag words n ∷ []))

pub no_words : (i : ℕ) → flag [] i ≡ true
no_words i = ap (λ (b : ℕ). b == 1) (bit_at_ones 64 (i % 64) (omega arith))

pub tested : (words : List ℕ) (i : ℕ) (word : ℕ) → word ≡ get_or words (i / 64) (2 ^ 64 - 1) → (bit_and (word / 2 ^ (i % 64)) 1 == 1) ≡ flag words i
tested words i word e = ap (λ (b : ℕ). b == 1) (shr_and_one word (i % 64)) ∙ ap (λ (w : ℕ). bit_at w (i % 64) == 1) e

slice_get_past : (xs : List Bool) (x : Bool) → slice_get (xs ++ x ∷ []) (length xs) ≡ Some x
slice_get_past [] x = refl
slice_get_past (y ∷ xs) x = slice_get_past xs x

slice_get_front : (xs ys : List Bool) (i : ℕ) → i < length xs → slice_get (xs ++ ys) i ≡ slice_get xs i
slice_get_front [] ys i h = absurd (omega (arith, h))
slice_get_front (x ∷ xs) ys zero h = refl
slice_get_front (x ∷ xs) ys (suc i) h = slice_get_front xs ys i (omega (arith, h))

-- flag i of the first n
pub flags_get : (n : ℕ) (words : List ℕ) (i : ℕ) → i < n → slice_get (flags n words) i ≡ Some (flag words i)
flags_get zero words i h = absurd (omega (arith, h))
flags_get (suc n) words i h =
    let len = flags_len n words in
    elim (cases_lt i n) [
      | inl lt ↦ slice_get_front (flags n words) (flag words n ∷ []) i (omega (arith, len, lt)) ∙ flags_get n words i lt
      | inr le ↦
          let same : i ≡ n = omega (arith, h, le) in
          rw same (ap (slice_get (flags n words ++ flag words n ∷ [])) (sym len) ∙ slice_get_past (flags n words) (flag words n))
    ]

-- the flag of a place, as a caller asks for it
pub got : (n : ℕ) (words : List ℕ) (i : ℕ) (shown : List Bool) (b : Bool) → flags n words ≡ shown → i < length shown → b ≡ flag words i → slice_get shown i ≡ Some b
got n words i shown b e h f =
    let len = flags_len n words in
    let le : length (flags n words) ≡ length shown = ap length e in
    ap (λ xs. slice_get xs i) (sym e) ∙ flags_get n words i (omega (arith, len, le, h)) ∙ ap Some (sym f)

-- a word more, of set flags
pub filled : (words : List ℕ) (j : ℕ) (d : ℕ) → get_or (words ++ d ∷ []) j d ≡ get_or words j d
filled [] zero d = refl
filled [] (suc j) d = refl
filled (w ∷ words) zero d = refl
filled (w ∷ words) (suc j) d = filled words j d

pub cleared_here : (words : List ℕ) (i word : ℕ) → i / 64 < length words → flag (slice_set words (i / 64) (bit_and word (bit_not w64 (1 * 2 ^ (i % 64) % 2 ^ 64)))) i ≡ false
cleared_here words i word h =
    ap (λ (w : ℕ). bit_at w (i % 64) == 1) (get_or-set_same words (i / 64) _ _ h)
    ∙ ap (λ (b : ℕ). b == 1) (bit_at_clear_same w64 word (i % 64) (omega arith))

pub cleared_other : (words : List ℕ) (i j word : ℕ) → word ≡ get_or words (i / 64) (2 ^ 64 - 1) → i / 64 < length words → j ≢ i → flag (slice_set words (i / 64) (bit_and word (bit_not w64 (1 * 2 ^ (i % 64) % 2 ^ 64)))) j ≡ flag words j
cleared_other words i j word e h ne =
    elim (cases_eq (j / 64) (i / 64)) [
      | inl same ↦
          ap (λ (w : ℕ). bit_at w (j % 64) == 1) (ap (λ (k : ℕ). get_or (slice_set words (i / 64) (bit_and word (bit_not w64 (1 * 2 ^ (i % 64) % 2 ^ 64)))) k (2 ^ 64 - 1)) same ∙ get_or-set_same words (i / 64) _ _ h)
          ∙ ap (λ (b : ℕ). b == 1) (bit_at_clear_other w64 word (i % 64) (omega arith) (j % 64) (omega arith) (λ r. ne (omega (arith, same, r))))
          ∙ ap (λ (w : ℕ). bit_at w (j % 64) == 1) (e ∙ ap (λ (k : ℕ). get_or words k (2 ^ 64 - 1)) (sym same))
      | inr other ↦ ap (λ (w : ℕ). bit_at w (j % 64) == 1) (get_or-set_other words (i / 64) (j / 64) _ _ other)
    ]

-- flags that are the same one by one
pub same_flags : (n : ℕ) (old new : List ℕ) → ((j : ℕ) → j < n → flag new j ≡ flag old j) → flags n new ≡ flags n old
same_flags zero old new h = refl
same_flags (suc n) old new h =
    let ih = same_flags n old new (λ j lt. h j (omega (arith, lt))) in
    ap (λ (xs : List Bool). xs ++ flag new n ∷ []) ih ∙ ap (λ (b : Bool). flags n old ++ b ∷ []) (h n (omega arith))

-- a flag was put behind the first n
pub pushed : (n : ℕ) (old new : List ℕ) (set : Bool) (shown : List Bool) → flags n old ≡ shown → flag new n ≡ set → ((j : ℕ) → j ≢ n → flag new j ≡ flag old j) → flags (n + 1) new ≡ shown ++ set ∷ []
pushed n old new set shown e h others =
    let next : n + 1 ≡ suc n = omega arith in
    ap (λ (k : ℕ). flags k new) next
    ∙ ap (λ (xs : List Bool). xs ++ flag new n ∷ []) (same_flags n old new (λ j lt. others j (λ r. omega (arith, lt, r))) ∙ e)
    ∙ ap (λ (b : Bool). shown ++ b ∷ []) h

pub behind : (n : ℕ) (old new : List ℕ) → ((i : ℕ) → n ≤ i → flag old i ≡ true) → ((j : ℕ) → j ≢ n → flag new j ≡ flag old j) → (i : ℕ) → n + 1 ≤ i → flag new i ≡ true
behind n old new h others i le = others i (λ r. omega (arith, le, r)) ∙ h i (omega (arith, le))

-- what indexing gave, for any default
pub got_or : (xs : List ℕ) (i x d : ℕ) → i < length xs → x ≡ get_or xs i x → x ≡ get_or xs i d
got_or [] i x d h e = absurd (omega (arith, h))
got_or (y ∷ xs) zero x d h e = e
got_or (y ∷ xs) (suc i) x d h e = got_or xs i x d (omega (arith, h)) e

-- flags without words are set
replicate_more : (n : ℕ) (b : Bool) → replicate n b ++ b ∷ [] ≡ b ∷ replicate n b
replicate_more zero b = refl
replicate_more (suc n) b = ap (λ (xs : List Bool). b ∷ xs) (replicate_more n b)

pub all_set : (n : ℕ) → flags n [] ≡ replicate n true
all_set zero = refl
all_set (suc n) = ap (λ (xs : List Bool). xs ++ flag [] n ∷ []) (all_set n) ∙ ap (λ (b : Bool). replicate n true ++ b ∷ []) (no_words n) ∙ replicate_more n true

-- flags that are set, behind the words' last one
pub set_behind : (n count : ℕ) (words : List ℕ) → ((i : ℕ) → n ≤ i → flag words i ≡ true) → flags (n + count) words ≡ flags n words ++ replicate count true
set_behind n zero words h =
    let none : n + 0 ≡ n = omega arith in
    ap (λ (k : ℕ). flags k words) none ∙ sym (append-nil (flags n words))
set_behind n (suc count) words h =
    let next : n + suc count ≡ suc (n + count) = omega arith in
    ap (λ (k : ℕ). flags k words) next
    ∙ ap (λ (xs : List Bool). xs ++ flag words (n + count) ∷ []) (set_behind n count words h)
    ∙ ap (λ (b : Bool). (flags n words ++ replicate count true) ++ b ∷ []) (h (n + count) (omega arith))
    ∙ append_assoc (flags n words) (replicate count true) (true ∷ [])
    ∙ ap (λ (xs : List Bool). flags n words ++ xs) (replicate_more count true)

pub whole : (n : ℕ) (words : List ℕ) (shown : List Bool) → length words ≡ 0 → flags n words ≡ shown → shown ≡ replicate (length shown) true
whole n [] shown e f =
    let len : n ≡ length shown = sym (flags_len n []) ∙ ap (λ (xs : List Bool). length xs) f in
    sym f ∙ all_set n ∙ ap (λ (k : ℕ). replicate k true) len
whole n (w ∷ words) shown e f = absurd (omega (arith, e))

pub on_err : {T E : Type 0} {P : Type 0} (r : Result T E) → P → OnErr r P
on_err (Ok x) p = tt
on_err (Err e) p = p

-- a flag was put in the place of the i-th
pub set_flags : (n : ℕ) (old new : List ℕ) (i : ℕ) (set : Bool) → i < n → flag new i ≡ set → ((j : ℕ) → j ≢ i → flag new j ≡ flag old j) → flags n new ≡ slice_set (flags n old) i set
set_flags zero old new i set lt h others = absurd (omega (arith, lt))
set_flags (suc n) old new i set lt h others =
    let len = flags_len n old in
    elim (cases_lt i n) [
      | inl less ↦
          ap (λ (xs : List Bool). xs ++ flag new n ∷ []) (set_flags n old new i set less h others)
          ∙ ap (λ (b : Bool). slice_set (flags n old) i set ++ b ∷ []) (others n (λ r. omega (arith, less, r)))
          ∙ sym (set-append_left (flags n old) (flag old n ∷ []) i set (omega (arith, len, less)))
      | inr le ↦
          let same : i ≡ n = omega (arith, lt, le) in
          let front = same_flags n old new (λ j less. others j (λ r. omega (arith, less, r, same))) in
          ap (λ (xs : List Bool). xs ++ flag new n ∷ []) front ∙ ap (λ (b : Bool). flags n old ++ b ∷ []) (ap (flag new) (sym same) ∙ h)
          ∙ sym (ap (λ (k : ℕ). slice_set (flags n old ++ flag old n ∷ []) k set) (same ∙ sym len) ∙ set-append_seam (flags n old) (flag old n) [] set)
    ]

-- the first flags of more
pub front_flags : (n len : ℕ) (words : List ℕ) → n ≤ len → flags n words ≡ take n (flags len words)
front_flags n zero words le = let none : n ≡ 0 = omega (arith, le) in rw none refl
front_flags n (suc len) words le =
    let length_is = flags_len len words in
    elim (cases_lt n (suc len)) [
      | inl lt ↦ front_flags n len words (omega (arith, lt)) ∙ sym (take-append-le n (flags len words) (flag words len ∷ []) (omega (arith, length_is, lt)))
      | inr ge ↦
          let same : n ≡ suc len = omega (arith, le, ge) in
          rw same (sym (take_all (suc len) (flags (suc len) words) (omega (arith, flags_len (suc len) words))))
    ]

pub raised_here : (words : List ℕ) (i word : ℕ) → i / 64 < length words → flag (slice_set words (i / 64) (bit_or word (1 * 2 ^ (i % 64) % 2 ^ 64))) i ≡ true
raised_here words i word h =
    ap (λ (w : ℕ). bit_at w (i % 64) == 1) (get_or-set_same words (i / 64) _ _ h)
    ∙ ap (λ (b : ℕ). b == 1) (bit_at_set_same w64 word (i % 64) (omega arith))

pub raised_other : (words : List ℕ) (i j word : ℕ) → word ≡ get_or words (i / 64) (2 ^ 64 - 1) → i / 64 < length words → j ≢ i → flag (slice_set words (i / 64) (bit_or word (1 * 2 ^ (i % 64) % 2 ^ 64))) j ≡ flag words j
raised_other words i j word e h ne =
    elim (cases_eq (j / 64) (i / 64)) [
      | inl same ↦
          ap (λ (w : ℕ). bit_at w (j % 64) == 1) (ap (λ (k : ℕ). get_or (slice_set words (i / 64) (bit_or word (1 * 2 ^ (i % 64) % 2 ^ 64))) k (2 ^ 64 - 1)) same ∙ get_or-set_same words (i / 64) _ _ h)
          ∙ ap (λ (b : ℕ). b == 1) (bit_at_set_other w64 word (i % 64) (omega arith) (j % 64) (λ r. ne (omega (arith, same, r))))
          ∙ ap (λ (w : ℕ). bit_at w (j % 64) == 1) (e ∙ ap (λ (k : ℕ). get_or words k (2 ^ 64 - 1)) (sym same))
      | inr other ↦ ap (λ (w : ℕ). bit_at w (j % 64) == 1) (get_or-set_other words (i / 64) (j / 64) _ _ other)
    ]

pub past_words : (words : List ℕ) (i : ℕ) → length words ≤ i / 64 → flag words i ≡ true
past_words words i le = ap (λ (w : ℕ). bit_at w (i % 64) == 1) (get_or_past words (i / 64) (2 ^ 64 - 1) le) ∙ no_words i

pub widened_none : (words : List ℕ) (from : ℕ) → Widened words words from from
widened_none words from = record { here = λ j le lt. absurd (omega (arith, le, lt)); below = λ j lt. refl; behind = λ j le. refl }

pub widened_more : (old words new : List ℕ) (from i : ℕ) → Widened old words from i → flag new i ≡ true → ((j : ℕ) → j ≢ i → flag new j ≡ flag words j) → from ≤ i → Widened old new from (i + 1)
widened_more old words new from i w h others le =
    record {
      here = λ j ge lt. elim (cases_eq j i) [ inl same ↦ ap (flag new) same ∙ h | inr ne ↦ others j ne ∙ w.here j ge (omega (arith, lt, ne)) ];
      below = λ j lt. others j (λ r. omega (arith, lt, le, r)) ∙ w.below j lt;
      behind = λ j ge. others j (λ r. omega (arith, ge, r)) ∙ w.behind j (omega (arith, ge));
    }

-- words that are cut at a place that is not set before it
cut_flag : (words : List ℕ) (m j : ℕ) → j / 64 < m → flag (take m words) j ≡ flag words j
cut_flag words m j lt = ap (λ (w : ℕ). bit_at w (j % 64) == 1) (get_or-take m words (j / 64) (2 ^ 64 - 1) lt)

cut_behind : (words : List ℕ) (m j : ℕ) → m ≤ j / 64 → flag (take m words) j ≡ true
cut_behind words m j le = past_words (take m words) j (omega (arith, length-take m words, le))

pub cut_set : (words new : List ℕ) (n len : ℕ) → Widened words new n len → ((i : ℕ) → len ≤ i → flag words i ≡ true) → (j : ℕ) → n ≤ j → flag (take (div_ceil n 64) new) j ≡ true
cut_set words new n len w behind j ge =
    elim (cases_lt (j / 64) (div_ceil n 64)) [
      | inl lt ↦ cut_flag new _ j lt ∙ elim (cases_lt j len) [ inl less ↦ w.here j ge less | inr le ↦ w.behind j le ∙ behind j le ]
      | inr le ↦ cut_behind new _ j le
    ]

pub cut_flags : (words new : List ℕ) (n len : ℕ) (shown : List Bool) → Widened words new n len → n ≤ len → flags len words ≡ shown → flags n (take (div_ceil n 64) new) ≡ take n shown
cut_flags words new n len shown w le e =
    let times = div_ceil_times n 64 (omega arith) in
    same_flags n words (take (div_ceil n 64) new) (λ j lt. cut_flag new (div_ceil n 64) j (omega (arith, times.0, lt)) ∙ w.below j lt)
    ∙ front_flags n len words le ∙ ap (take n) e

-- all flags stay, where there are no more than n
pub flags_all : (n len : ℕ) (words : List ℕ) (shown : List Bool) → flags len words ≡ shown → len ≤ n → flags len words ≡ take n shown
flags_all n len words shown e le = e ∙ sym (take_all n shown (omega (arith, ap (λ (bs : List Bool). length bs) e, flags_len len words, le)))
