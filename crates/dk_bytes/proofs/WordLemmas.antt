-- Words of a byte string, one after the other.
use Rattle.std.proofs.Common.{◌≡◌, ℕ, suc, ◌-◌, ◌<◌, ◌≤◌, List, length, drop, refl, arith, length-drop}
use Rattle.std.specs.Int.{w64, from_le_bytes}
use Rattle.dk_bytes.specs.Checksum.{with_word, with_bytes, word_count}

word_count-eight : (n : ℕ) → 8 ≤ n → word_count n ≡ suc (word_count (n - 8))
word_count-eight n h = omega arith

word_count-last : (n : ℕ) → 0 < n → n < 8 → word_count n ≡ suc 0
word_count-last n h k = omega arith

-- one word folded in, and then the others
pub fold_first : (sum : ℕ) (bytes : List ℕ) → 8 ≤ length bytes → with_bytes (with_word sum (from_le_bytes w64 bytes)) (drop 8 bytes) ≡ with_bytes sum bytes
fold_first sum bytes h = rw (word_count-eight (length bytes) h, length-drop 8 bytes) refl

-- the last word folded in
pub fold_last : (sum : ℕ) (bytes : List ℕ) → 0 < length bytes → length bytes < 8 → with_word sum (from_le_bytes w64 bytes) ≡ with_bytes sum bytes
fold_last sum bytes h k = rw (word_count-last (length bytes) h k) refl

-- no word is left
pub fold_none : (sum : ℕ) (bytes : List ℕ) → length bytes ≡ 0 → sum ≡ with_bytes sum bytes
fold_none sum bytes h = rw h refl
