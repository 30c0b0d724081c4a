-- Numbers of one width, each found by its place in a string of bytes.
use Rattle.std.proofs.Common.{◌≡◌, ℕ, zero, suc, ◌+◌, ◌-◌, ◌*◌, ◌/◌, ◌%◌, ◌^◌, ◌<◌, ◌≤◌, List, [], ◌∷◌, ◌++◌, length, take, drop, ap, sym, ◌∙◌, arith, bit_and}
use Rattle.std.specs.Simd.Lanes.{number_l as number, digits_l as digits}
use Rattle.std.proofs.Math.Nat.{div-one, zero-div}
use Rattle.std.proofs.Math.Pow.{mod-mod-pow}
use Rattle.std.proofs.lemmas.Nat.{field_of, shr-shr, one_shl, and_mask}
use Rattle.std.proofs.lemmas.List.{take_all, length-drop}
use Rattle.dk_bytes.specs.Bits.{number_in}
use Rattle.dk_bytes.specs.Fields.{IsBytes}
use Rattle.dk_bytes.proofs.DigitLemmas.{digits-add}

-- the bytes from a place on
number-drop : (at : ℕ) (bytes : List ℕ) → IsBytes bytes → number 256 bytes / 2 ^ (8 * at) ≡ number 256 (drop at bytes)
number-drop zero bytes h = div-one (number 256 bytes)
number-drop (suc at) [] h = zero-div (2 ^ (8 * suc at))
number-drop (suc at) (b ∷ bytes) h =
    let ih = number-drop at bytes (λ i. h (suc i)) in
    let low : b < 2 ^ 8 = h 0 in
    let first : (b + 256 * number 256 bytes) / 2 ^ 8 ≡ number 256 bytes = omega (arith, low) in
    let e : 8 + 8 * at ≡ 8 * suc at = omega arith in
    sym (shr-shr (b + 256 * number 256 bytes) 8 (8 * at) ∙ ap (λ (k : ℕ). (b + 256 * number 256 bytes) / 2 ^ k) e)
    ∙ ap (λ (x : ℕ). x / 2 ^ (8 * at)) first ∙ ih

-- the bytes from that one on in which a bit stands
pub from_bit : (bytes : List ℕ) (bit : ℕ) → IsBytes bytes → number 256 (take (length bytes - bit / 8) (drop (bit / 8) bytes)) / 2 ^ (bit % 8) ≡ number 256 bytes / 2 ^ bit
from_bit bytes bit h =
    let whole : take (length bytes - bit / 8) (drop (bit / 8) bytes) ≡ drop (bit / 8) bytes = take_all (length bytes - bit / 8) (drop (bit / 8) bytes) (omega (arith, length-drop (bit / 8) bytes)) in
    let place : 8 * (bit / 8) + bit % 8 ≡ bit = omega arith in
    ap (λ (l : List ℕ). number 256 l / 2 ^ (bit % 8)) whole
    ∙ ap (λ (x : ℕ). x / 2 ^ (bit % 8)) (sym (number-drop (bit / 8) bytes h))
    ∙ shr-shr (number 256 bytes) (8 * (bit / 8)) (bit % 8)
    ∙ ap (λ (k : ℕ). number 256 bytes / 2 ^ k) place

-- a number of at most 56 bits in the word of its first byte
pub field_in : (x width s word above : ℕ) → width ≤ 56 → s < 8 → word < 2 ^ 64 → x ≡ word + 2 ^ 64 * above → bit_and (word / 2 ^ s) (1 * 2 ^ width % 2 ^ 64 - 1) ≡ x / 2 ^ s % 2 ^ width
field_in x width s word above h low fits e =
    let is : word ≡ x % 2 ^ 64 = omega (arith, e, fits) in
    let parts : 64 - s + s ≡ 64 = omega (arith, low) in
    let more : 64 - s - width + width ≡ 64 - s = omega (arith, low, h) in
    let high : x % 2 ^ 64 / 2 ^ s ≡ x / 2 ^ s % 2 ^ (64 - s) = ap (λ (k : ℕ). x % 2 ^ k / 2 ^ s) (sym parts) ∙ field_of x (64 - s) s in
    let cut : x / 2 ^ s % 2 ^ (64 - s) % 2 ^ width ≡ x / 2 ^ s % 2 ^ width = ap (λ (k : ℕ). x / 2 ^ s % 2 ^ k % 2 ^ width) (sym more) ∙ mod-mod-pow (x / 2 ^ s) (64 - s - width) width in
    let masked : bit_and (word / 2 ^ s) (1 * 2 ^ width % 2 ^ 64 - 1) ≡ word / 2 ^ s % 2 ^ width = rw (one_shl width 64 (omega (arith, h))) (and_mask (word / 2 ^ s) width) in
    masked ∙ ap (λ (w : ℕ). w / 2 ^ s % 2 ^ width) is ∙ ap (λ (z : ℕ). z % 2 ^ width) high ∙ cut

-- a number more
pub digits_more : (w i : ℕ) (bytes : List ℕ) → digits (2 ^ w) (i + 1) (number 256 bytes) ≡ digits (2 ^ w) i (number 256 bytes) ++ number_in w i bytes ∷ []
digits_more w i bytes = digits-add w i 1 (number 256 bytes)

pub one_more : (w i v : ℕ) (bytes numbers numbers' : List ℕ) → numbers ≡ digits (2 ^ w) i (number 256 bytes) → v ≡ number_in w i bytes → numbers' ≡ numbers ++ v ∷ [] → numbers' ≡ digits (2 ^ w) (i + 1) (number 256 bytes)
one_more w i v bytes numbers numbers' told e more =
    more ∙ ap (λ (l : List ℕ). l ++ v ∷ []) told ∙ ap (λ (n : ℕ). digits (2 ^ w) i (number 256 bytes) ++ n ∷ []) e ∙ sym (digits_more w i bytes)
