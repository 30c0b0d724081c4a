-- The checksum of a byte string.
use Rattle.std.specs.Prelude.{◌≡◌, ℕ, zero, suc, ◌+◌, ◌*◌, ◌/◌, ◌%◌, ◌^◌, ◌<◌, List, [], ◌∷◌, ◌++◌, length, drop, fold, get_or, bit_xor}
use Rattle.std.specs.Int.{w64, from_le_bytes}
use Rattle.dk_bytes.specs.declared.sum.TheConstants.{MULTIPLIER, SEED, SPREAD}

-- the higher bits of a word, folded into the lower ones
abbrev pub spread : ℕ → ℕ
spread x = bit_xor x (x / 2 ^ SPREAD)

-- a word folded in
abbrev pub with_word : ℕ → ℕ → ℕ
with_word sum word = spread (bit_xor sum word * MULTIPLIER % 2 ^ 64)

-- the first n words of 8 bytes, the least byte first; past the end stand zeros
abbrev pub words : ℕ → List ℕ → List ℕ
words zero bytes = []
words (suc n) bytes = from_le_bytes w64 bytes ∷ words n (drop 8 bytes)

-- how many words hold that many bytes
abbrev pub word_count : ℕ → ℕ
word_count n = (n + 7) / 8

-- a byte string folded in
abbrev pub with_bytes : ℕ → List ℕ → ℕ
with_bytes sum bytes = fold with_word sum (words (word_count (length bytes)) bytes)

-- all words and then the length, folded into the seed
abbrev pub checksum_of : List ℕ → ℕ
checksum_of bytes = with_word (with_bytes SEED bytes) (length bytes)

-- two byte strings of one length whose words are the same but for one
pub record DifferInOneWord (bytes other : List ℕ) : Type 0 where
  pub len : length other ≡ length bytes
  pub fits : (i : ℕ) → get_or other i 0 < 256
  pub front : List ℕ
  pub back : List ℕ
  pub word : ℕ
  pub other_word : ℕ
  pub is : words (word_count (length bytes)) bytes ≡ front ++ word ∷ back
  pub other_is : words (word_count (length other)) other ≡ front ++ other_word ∷ back
  pub differs : word ≡ other_word → ⊥
