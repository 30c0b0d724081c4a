-- How many bits of a word are set.
use Rattle.std.proofs.Common.{◌≡◌, ℕ, zero, suc, ◌+◌, ◌-◌, ◌*◌, ◌%◌, ◌^◌, ◌<◌, ◌≤◌, ◌==◌, min, Bool, List, [], ◌∷◌, ◌++◌, length, take, drop, refl, ap, sym, ◌∙◌, arith, length-append}
use Rattle.std.specs.Int.{bit_at}
use Rattle.std.specs.Int.Count.{ones}
use Rattle.std.specs.Int.RustNames.{bit_and}
use Rattle.std.proofs.lemmas.Nat.{and_mask, one_shl, ones_cat, ones-le, shr_split, field_of, mod_below, pow_pos}
use Rattle.std.proofs.Math.Pow.{mod-mod-pow}
use Rattle.std.proofs.lemmas.List.{length-drop}
use Rattle.dk_columns.specs.Flags.{IsWord}
use Rattle.dk_scans.specs.Selection.{select, set_flags, bits, in_word, in_words}
use Rattle.dk_scans.proofs.SelectionLemmas.{select_append, bits_of_word, next_word, same_take}
use Rattle.dk_scans.proofs.FoldLemmas.{bits_len}

pub cut : (word n : ℕ) → n < 64 → bit_and word ((1 * 2 ^ n) % 2 ^ 64 - 1) ≡ word % 2 ^ n
cut word n lt = ap (λ (m : ℕ). bit_and word (m - 1)) (one_shl n 64 lt) ∙ and_mask word n

pub uncut : (word n : ℕ) → word < 2 ^ 64 → n ≡ 64 → word ≡ word % 2 ^ n
uncut word n lt e = let small : word ≡ word % 2 ^ 64 = omega (arith, lt) in small ∙ ap (λ (m : ℕ). word % 2 ^ m) (sym e)

below : (word n : ℕ) → word % 2 ^ n < 2 ^ n
below word n = mod_below word (2 ^ n) (pow_pos n)

-- one bit more
bit_more : (word n : ℕ) → word % 2 ^ suc n ≡ bit_at word n * 2 ^ n + word % 2 ^ n
bit_more word n =
    let next : suc n ≡ 1 + n = omega arith in
    ap (λ (m : ℕ). word % 2 ^ m) next ∙ sym (shr_split (word % 2 ^ (1 + n)) n)
    ∙ ap (λ (b : ℕ). b * 2 ^ n + word % 2 ^ (1 + n) % 2 ^ n) (field_of word 1 n)
    ∙ ap (λ (r : ℕ). bit_at word n * 2 ^ n + r) (mod-mod-pow word 1 n)

one_bit : (b : ℕ) → b ≤ 1 → ones b ≡ length (set_flags ((b == 1) ∷ []))
unfolding ones
one_bit zero h = refl
one_bit (suc zero) h = refl
one_bit (suc (suc b)) h = absurd (omega (arith, h))

-- the set bits are the ones of the number
pub set_ones : (n word : ℕ) → length (set_flags (bits n word)) ≡ ones (word % 2 ^ n)
unfolding ones
set_ones zero word = let e : word % 1 ≡ 0 = omega arith in sym (ap ones e)
set_ones (suc n) word =
    let last = (bit_at word n == 1) ∷ [] in
    let split = ap (λ (xs : List Bool). length xs) (select_append (bits n word) last (bits n word) last refl) ∙ length-append (set_flags (bits n word)) (set_flags last) in
    let here = ones_cat n (bit_at word n) (word % 2 ^ n) (below word n) in
    omega (arith, split, set_ones n word, one_bit (bit_at word n) (omega arith), here, ap ones (bit_more word n))

-- a word has at most as many set bits as bits
pub set_most : (n word : ℕ) → length (set_flags (bits n word)) ≤ n
set_most n word = omega (arith, set_ones n word, ones-le n (word % 2 ^ n) (below word n))

-- the set flags of one word more
pub next_set : (flags : List Bool) (k word n : ℕ) → IsWord k word flags → 64 * k ≤ length flags → n ≡ min 64 (length flags - 64 * k)
    → length (in_words (k + 1) flags flags) ≡ length (in_words k flags flags) + length (set_flags (bits n word))
next_set flags k word n h le size =
    let chunk : List Bool = take 64 (drop (64 * k) flags) in
    let chunk_is : chunk ≡ bits n word = same_take (drop (64 * k) flags) 64 n (omega (arith, size, length-drop (64 * k) flags)) ∙ sym (bits_of_word flags k word n h (omega (arith, size)) (omega (arith, size, le))) in
    let same : in_word word chunk ≡ set_flags (bits n word) =
    ap (λ (bs : List Bool). in_word word bs) chunk_is ∙ ap (λ (m : ℕ). select (bits m word) (bits n word)) (bits_len n word) in
    let more = ap (λ (xs : List Bool). length xs) (next_word flags flags chunk k word refl le h refl ∙ ap (λ (xs : List Bool). in_words k flags flags ++ xs) same) in
    omega (arith, more, length-append (in_words k flags flags) (set_flags (bits n word)))
