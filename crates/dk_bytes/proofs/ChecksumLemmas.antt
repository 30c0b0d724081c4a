-- The checksum tells byte strings apart that differ in one word.
use Rattle.dk_bytes.specs.Fields.{IsBytes}
use Rattle.std.proofs.Common.{◌≡◌, ℕ, zero, suc, ◌+◌, ◌*◌, ◌/◌, ◌%◌, ◌^◌, ◌<◌, List, [], ◌∷◌, ◌++◌, length, fold, drop, sym, ap, subst, ◌∙◌, arith}
use Rattle.std.specs.Prelude.{bit_xor}
use Rattle.std.specs.List.{AllByRecursion}
use Rattle.std.specs.Int.{bit_at}
use Rattle.std.specs.Int.Bits.{xor_assoc, xor_self, xor_zero_r}
use Rattle.std.proofs.lemmas.Nat.{xor_comm, xor_lt, shr-shr}
use Rattle.std.proofs.lemmas.Nat.Bits.{bit_at_xor, same_from_bits}
use Rattle.dk_bytes.specs.Checksum.{spread, with_word, words, word_count, checksum_of, DifferInOneWord}
use Rattle.dk_bytes.proofs.NumberLemmas.{IsBytes-drop, wide64}

-- ---- exclusive or

xor_twice : (a b : ℕ) → bit_xor (bit_xor a b) b ≡ a
xor_twice a b = xor_assoc a b b ∙ ap (bit_xor a) (xor_self b) ∙ xor_zero_r a

xor_right : (a b c : ℕ) → bit_xor a c ≡ bit_xor b c → a ≡ b
xor_right a b c e = sym (xor_twice a c) ∙ ap (λ (n : ℕ). bit_xor n c) e ∙ xor_twice b c

xor_left : (a b c : ℕ) → bit_xor c a ≡ bit_xor c b → a ≡ b
xor_left a b c e = xor_right a b c (xor_comm a c ∙ e ∙ xor_comm c b)

-- ---- the higher bits folded into the lower ones

abbrev high : ℕ → ℕ
high x = x / 2 ^ 29

high_bit : (x i : ℕ) → bit_at (high x) i ≡ bit_at x (29 + i)
high_bit x i = ap (λ (n : ℕ). n % 2) (shr-shr x 29 i)

xor_high : (a b : ℕ) → high (bit_xor a b) ≡ bit_xor (high a) (high b)
xor_high a b = same_from_bits (high (bit_xor a b)) (bit_xor (high a) (high b)) (λ i.
    high_bit (bit_xor a b) i ∙ bit_at_xor a b (29 + i)
    ∙ sym (bit_at_xor (high a) (high b) i ∙ ap (λ (n : ℕ). (n + bit_at (high b) i) % 2) (high_bit a i) ∙ ap (λ (n : ℕ). (bit_at a (29 + i) + n) % 2) (high_bit b i)))

spread_high : (x y : ℕ) → spread x ≡ spread y → spread (high x) ≡ spread (high y)
spread_high x y e = sym (xor_high x (high x)) ∙ ap high e ∙ xor_high y (high y)

spread_with : (x y : ℕ) → high x ≡ high y → spread x ≡ spread y → x ≡ y
spread_with x y h e = xor_right x y (high x) (e ∙ ap (bit_xor y) (sym h))

-- three folds leave nothing of 64 bits
spread_told : (x y : ℕ) → x < 2 ^ 64 → y < 2 ^ 64 → spread x ≡ spread y → x ≡ y
spread_told x y lx ly e =
    let once : spread (high x) ≡ spread (high y) = spread_high x y e in
    let twice : spread (high (high x)) ≡ spread (high (high y)) = spread_high (high x) (high y) once in
    let none : high (high (high x)) ≡ high (high (high y)) = omega arith in
    let last : high (high x) ≡ high (high y) = spread_with (high (high x)) (high (high y)) none twice in
    spread_with x y (spread_with (high x) (high y) last once) e

-- ---- a word folded in

unturned : (x : ℕ) → x < 2 ^ 64 → (x * 0x9E3779B97F4A7C15 % 2 ^ 64) * 0xF1DE83E19937733D % 2 ^ 64 ≡ x
unturned x h = omega arith

turned_told : (x y : ℕ) → x < 2 ^ 64 → y < 2 ^ 64 → x * 0x9E3779B97F4A7C15 % 2 ^ 64 ≡ y * 0x9E3779B97F4A7C15 % 2 ^ 64 → x ≡ y
turned_told x y lx ly e = sym (unturned x lx) ∙ ap (λ (n : ℕ). n * 0xF1DE83E19937733D % 2 ^ 64) e ∙ unturned y ly

turned_below : (x : ℕ) → x * 0x9E3779B97F4A7C15 % 2 ^ 64 < 2 ^ 64
turned_below x = omega arith

mixed_told : (x y : ℕ) → x < 2 ^ 64 → y < 2 ^ 64 → spread (x * 0x9E3779B97F4A7C15 % 2 ^ 64) ≡ spread (y * 0x9E3779B97F4A7C15 % 2 ^ 64) → x ≡ y
mixed_told x y lx ly e = turned_told x y lx ly (spread_told (x * 0x9E3779B97F4A7C15 % 2 ^ 64) (y * 0x9E3779B97F4A7C15 % 2 ^ 64) (turned_below x) (turned_below y) e)

word_below : (sum word : ℕ) → with_word sum word < 2 ^ 64
word_below sum word =
    let n = bit_xor sum word * 0x9E3779B97F4A7C15 % 2 ^ 64 in
    xor_lt 64 n (n / 2 ^ 29) (turned_below (bit_xor sum word)) (omega (arith, turned_below (bit_xor sum word)))

word_told : (sum u v : ℕ) → sum < 2 ^ 64 → u < 2 ^ 64 → v < 2 ^ 64 → with_word sum u ≡ with_word sum v → u ≡ v
word_told sum u v ls lu lv e = xor_left u v sum (mixed_told (bit_xor sum u) (bit_xor sum v) (xor_lt 64 sum u ls lu) (xor_lt 64 sum v ls lv) e)

sum_told : (s t word : ℕ) → s < 2 ^ 64 → t < 2 ^ 64 → word < 2 ^ 64 → with_word s word ≡ with_word t word → s ≡ t
sum_told s t word ls lt lw e = xor_right s t word (mixed_told (bit_xor s word) (bit_xor t word) (xor_lt 64 s word ls lw) (xor_lt 64 t word lt lw) e)

-- ---- words folded in

abbrev AreWords : List ℕ → Type 0
AreWords ws = AllByRecursion (λ w. w < 2 ^ 64) ws

fold_told : (ws : List ℕ) (s t : ℕ) → s < 2 ^ 64 → t < 2 ^ 64 → AreWords ws → fold with_word s ws ≡ fold with_word t ws → s ≡ t
fold_told [] s t ls lt h e = e
fold_told (w ∷ ws) s t ls lt h e = sum_told s t w ls lt h.0 (fold_told ws (with_word s w) (with_word t w) (word_below s w) (word_below t w) h.1 e)

one_told : (front back : List ℕ) (s u v : ℕ) → s < 2 ^ 64 → AreWords (front ++ u ∷ back) → AreWords (front ++ v ∷ back) → fold with_word s (front ++ u ∷ back) ≡ fold with_word s (front ++ v ∷ back) → u ≡ v
one_told [] back s u v ls h k e = word_told s u v ls h.0 k.0 (fold_told back (with_word s u) (with_word s v) (word_below s u) (word_below s v) h.1 e)
one_told (w ∷ front) back s u v ls h k e = one_told front back (with_word s w) u v (word_below s w) h.1 k.1 e

fold_below : (ws : List ℕ) (s : ℕ) → s < 2 ^ 64 → fold with_word s ws < 2 ^ 64
fold_below [] s h = h
fold_below (w ∷ ws) s h = fold_below ws (with_word s w) (word_below s w)

words_below : (n : ℕ) (bytes : List ℕ) → IsBytes bytes → AreWords (words n bytes)
words_below zero bytes h = tt
words_below (suc n) bytes h = (wide64.below bytes h, words_below n (drop 8 bytes) (IsBytes-drop 8 bytes h))

-- another word, and so another checksum
pub checksum_told : (bytes other : List ℕ) (sum : ℕ) → IsBytes bytes → length bytes < 2 ^ 64 → sum ≡ checksum_of bytes → DifferInOneWord bytes other → checksum_of other ≡ sum → ⊥
checksum_told bytes other sum h small is d e =
    let P : List ℕ → Type 0 = λ ws. AreWords ws in
    let mine : AreWords (d.front ++ d.word ∷ d.back) = subst P d.is (words_below (word_count (length bytes)) bytes h) in
    let others : AreWords (d.front ++ d.other_word ∷ d.back) = subst P d.other_is (words_below (word_count (length other)) other d.fits) in
    let same : with_word (fold with_word 5381 (d.front ++ d.other_word ∷ d.back)) (length bytes) ≡ with_word (fold with_word 5381 (d.front ++ d.word ∷ d.back)) (length bytes) =
    ap (λ (n : ℕ). with_word (fold with_word 5381 (d.front ++ d.other_word ∷ d.back)) n) (sym d.len)
    ∙ ap (λ (ws : List ℕ). with_word (fold with_word 5381 ws) (length other)) (sym d.other_is)
    ∙ e ∙ is
    ∙ ap (λ (ws : List ℕ). with_word (fold with_word 5381 ws) (length bytes)) d.is in
    let start : 5381 < 2 ^ 64 = omega arith in
    let sums = sum_told (fold with_word 5381 (d.front ++ d.other_word ∷ d.back)) (fold with_word 5381 (d.front ++ d.word ∷ d.back)) (length bytes) (fold_below (d.front ++ d.other_word ∷ d.back) 5381 start) (fold_below (d.front ++ d.word ∷ d.back) 5381 start) small same in
    d.differs (one_told d.front d.back 5381 d.word d.other_word start mine others (sym sums))
