-- Numbers put behind pending bits, and taken off the front of a number.
use Rattle.std.proofs.Common.{◌≡◌, ℕ, zero, suc, ◌+◌, ◌-◌, ◌*◌, ◌/◌, ◌%◌, ◌^◌, ◌<◌, ◌≤◌, List, [], ◌∷◌, ◌++◌, length, Some, None, IsTrue, true, false, ◌==◌, ◌↔◌, refl, ne_eqb, append-nil, ap, sym, ◌∙◌, append_assoc, arith}
use Rattle.std.specs.Int.{w64, to_le_bytes}
use Rattle.std.specs.Simd.Lanes.{number_l as number, digits_l as digits}
use Rattle.std.specs.List.{AllByRecursion}
use Rattle.std.proofs.Math.Nat.{mul-zero, mul-suc, div-one, pow-le-pow_right, mod-eq_of_lt, div-eq_of_lt}
use Rattle.std.proofs.lemmas.Bool.{eqb-true}
use Rattle.std.proofs.lemmas.Nat.{pow-add, shr-shr, div-add-mod'}
use Rattle.dk_bytes.specs.Bits.{Pending, byte_count, PutsBehind, packed_behind, packed, unpacked, numbers_in}
use Rattle.dk_bytes.proofs.DigitLemmas.{length-digits, number-digits, digits-number, number_below, digits-add, digits-mod, word_bytes}
use Rattle.dk_bytes.specs.Fields.{IsBytes}
use Rattle.dk_bytes.proofs.NumberLemmas.{chosen}

-- all bits of pending ones, a number of that width and others
together : (bits count width n others : ℕ) → bits + 2 ^ count * n + 2 ^ (count + width) * others ≡ bits + 2 ^ count * (n + 2 ^ width * others)
together bits count width n others = rw (pow-add 2 count width) (omega arith)

-- a number behind bits that stay below a word
pub behind_none : (bits count width n bits' count' : ℕ) → bits' ≡ bits + 2 ^ count * n → count' ≡ count + width → (numbers : List ℕ) → packed_behind bits' count' width numbers ≡ packed_behind bits count width (n ∷ numbers)
behind_none bits count width n bits' count' e f numbers =
    let len : count + width + width * length numbers ≡ count + width * suc (length numbers) = omega (arith, mul-suc width (length numbers)) in
    rw (e, f, len, together bits count width n (number (2 ^ width) numbers)) refl

-- the digits of a word and of what stands above it
above_word : (n word above : ℕ) → word < 2 ^ 64 → digits 256 (8 + n) (word + 2 ^ 64 * above) ≡ to_le_bytes w64 word ++ digits 256 n above
above_word n word above h =
    let order : word + 2 ^ 64 * above ≡ above * 2 ^ 64 + word = omega arith in
    let low : (word + 2 ^ 64 * above) % 2 ^ 64 ≡ word = omega arith in
    let high : (word + 2 ^ 64 * above) / 2 ^ 64 ≡ above = omega arith in
    let front : digits 256 8 (word + 2 ^ 64 * above) ≡ digits 256 8 word =
    sym (digits-mod 8 8 8 (word + 2 ^ 64 * above) (omega arith)) ∙ ap (λ (x : ℕ). digits 256 8 x) low in
    digits-add 8 8 n (word + 2 ^ 64 * above)
    ∙ ap (λ (bytes : List ℕ). bytes ++ digits 256 n ((word + 2 ^ 64 * above) / 2 ^ 64)) (front ∙ sym (word_bytes word))
    ∙ ap (λ (x : ℕ). to_le_bytes w64 word ++ digits 256 n x) high

-- a number behind bits that fill a word
pub behind_word : (bits count width n word bits' count' : ℕ) → word < 2 ^ 64 → word + 2 ^ 64 * bits' ≡ bits + 2 ^ count * n → count' + 64 ≡ count + width → (numbers : List ℕ) → to_le_bytes w64 word ++ packed_behind bits' count' width numbers ≡ packed_behind bits count width (n ∷ numbers)
behind_word bits count width n word bits' count' h e f numbers =
    let others : ℕ = number (2 ^ width) numbers in
    let len : byte_count (count + width * suc (length numbers)) ≡ 8 + byte_count (count' + width * length numbers) = omega (arith, mul-suc width (length numbers)) in
    let power : 2 ^ (count + width) ≡ 2 ^ 64 * 2 ^ count' = ap (λ (k : ℕ). 2 ^ k) (sym f) ∙ pow-add 2 count' 64 ∙ omega arith in
    let all : bits + 2 ^ count * (n + 2 ^ width * others) ≡ word + 2 ^ 64 * (bits' + 2 ^ count' * others) =
    sym (together bits count width n others) ∙ rw (power, ← e) (omega arith) in
    sym (above_word (byte_count (count' + width * length numbers)) word (bits' + 2 ^ count' * others) h)
    ∙ sym (ap (λ (k : ℕ). digits 256 k (bits + 2 ^ count * (n + 2 ^ width * others))) len ∙ ap (λ (x : ℕ). digits 256 (8 + byte_count (count' + width * length numbers)) x) all)

-- the same, where the word was appended
pub puts_word : (out out' : List ℕ) (pending pending' : Pending) (width n word : ℕ) → word < 2 ^ 64 → word + 2 ^ 64 * pending'.number ≡ pending.number + 2 ^ pending.count * n → pending'.count + 64 ≡ pending.count + width → out' ≡ out ++ to_le_bytes w64 word → PutsBehind out out' pending pending' width n
puts_word out out' pending pending' width n word h e f appended numbers =
    rw (appended, append_assoc) (ap (λ (bytes : List ℕ). out ++ bytes) (behind_word pending.number pending.count width n word pending'.number pending'.count h e f numbers))

-- where nothing is pending
pub behind_start : (width : ℕ) (numbers : List ℕ) → packed_behind 0 0 width numbers ≡ packed width numbers
behind_start width numbers =
    let len : 0 + width * length numbers ≡ width * length numbers = omega arith in
    let all : 0 + 2 ^ 0 * number (2 ^ width) numbers ≡ number (2 ^ width) numbers = omega arith in
    rw (len, all) refl

-- where no number is to come
pub behind_end : (bits count width : ℕ) → packed_behind bits count width [] ≡ digits 256 (byte_count count) bits
behind_end bits count width =
    let len : count + width * zero ≡ count = rw mul-zero (omega arith) in
    let all : bits + 2 ^ count * zero ≡ bits = rw mul-zero (omega arith) in
    rw (len, all) refl

-- the next number off the front, behind those that were taken
pub one_taken : (width n i : ℕ) (taken taken' : List ℕ) (x x' v : ℕ) (all : List ℕ) → i < n → taken' ≡ taken ++ v ∷ [] → v ≡ x % 2 ^ width → x' ≡ x / 2 ^ width → taken ++ digits (2 ^ width) (n - i) x ≡ all → taken' ++ digits (2 ^ width) (n - (i + 1)) x' ≡ all
one_taken width n i taken taken' x x' v all h e f g told =
    let left : n - i ≡ suc (n - (i + 1)) = omega arith in
    rw (e, g, append_assoc, f) (ap (λ (k : ℕ). taken ++ digits (2 ^ width) k x) (sym left) ∙ told)

-- what stands behind them all
pub one_behind : (width n i x x' all : ℕ) → i < n → x' ≡ x / 2 ^ width → x / 2 ^ (width * (n - i)) ≡ all → x' / 2 ^ (width * (n - (i + 1))) ≡ all
one_behind width n i x x' all h g told =
    let left : n - i ≡ suc (n - (i + 1)) = omega arith in
    let e : width + width * (n - (i + 1)) ≡ width * (n - i) = sym (ap (λ (k : ℕ). width * k) left ∙ mul-suc width (n - (i + 1)) ∙ omega arith) in
    rw g (shr-shr x width (width * (n - (i + 1))) ∙ ap (λ (k : ℕ). x / 2 ^ k) e ∙ told)

-- after the last number
at_last : (width n i x all : ℕ) → n ≤ i → x / 2 ^ (width * (n - i)) ≡ all → x ≡ all
at_last width n i x all h told =
    let e : n - i ≡ zero = omega arith in
    let f : x / 2 ^ (width * (n - i)) ≡ x = rw (e, mul-zero) (div-one x) in
    sym f ∙ told

pub all_taken : (width n i : ℕ) (taken bytes : List ℕ) (x : ℕ) → n ≤ i → x / 2 ^ (width * (n - i)) ≡ number 256 bytes / 2 ^ (width * n) → (IsTrue true ↔ (x ≡ 0)) → taken ++ digits (2 ^ width) (n - i) x ≡ unpacked width n bytes → Some taken ≡ numbers_in width n bytes
all_taken width n i taken bytes x h told zero_left all =
    let e : n - i ≡ zero = omega arith in
    let none : number 256 bytes / 2 ^ (width * n) ≡ 0 = sym (at_last width n i x _ h told) ∙ zero_left.0 refl in
    let same : taken ≡ unpacked width n bytes = sym (append-nil taken) ∙ ap (λ (k : ℕ). taken ++ digits (2 ^ width) k x) (sym e) ∙ all in
    rw (none, ← same) refl

never : false ≡ true → ⊥
never e = cc

pub some_behind : (width n i : ℕ) (bytes : List ℕ) (x : ℕ) → n ≤ i → x / 2 ^ (width * (n - i)) ≡ number 256 bytes / 2 ^ (width * n) → (IsTrue false ↔ (x ≡ 0)) → None ≡ numbers_in width n bytes
some_behind width n i bytes x h told zero_left =
    let some : (number 256 bytes / 2 ^ (width * n) == 0) ≡ false = ne_eqb _ _ (λ e. absurd (never (zero_left.1 (at_last width n i x _ h told ∙ e)))) in
    rw some refl

-- so many bits lie in so many bytes
enough_bytes : (bits : ℕ) → bits ≤ 8 * byte_count bits
enough_bytes bits = omega arith

-- packed numbers are found again
pub packed_again : (width : ℕ) (ds : List ℕ) → AllByRecursion (λ d. d < 2 ^ width) ds → numbers_in width (length ds) (packed width ds) ≡ Some ds
packed_again width ds h =
    let bits : ℕ = width * length ds in
    let x : ℕ = number (2 ^ width) ds in
    let below : x < 2 ^ bits = number_below width ds h in
    let room : 2 ^ bits ≤ 2 ^ (8 * byte_count bits) = pow-le-pow_right {n = 2} (omega arith) (enough_bytes bits) in
    let same : number 256 (packed width ds) ≡ x = number-digits 8 (byte_count bits) x ∙ mod-eq_of_lt (omega arith) in
    let none : x / 2 ^ bits ≡ 0 = div-eq_of_lt below in
    rw (same, none) (ap (λ (xs : List ℕ). Some xs) (digits-number width ds h))

byte_parts : (bytes : List ℕ) → IsBytes bytes → AllByRecursion (λ b. b < 2 ^ 8) bytes
byte_parts [] h = tt
byte_parts (b ∷ bytes) h = (h 0, byte_parts bytes (λ i. h (suc i)))

-- bytes are those of the numbers that were found in them
pub found_packed : (width n : ℕ) (bytes ds : List ℕ) → IsBytes bytes → length bytes ≡ byte_count (width * n) → numbers_in width n bytes ≡ Some ds → (packed width ds ≡ bytes) × (length ds ≡ n)
found_packed width n bytes ds h len e =
    let bits : ℕ = width * n in
    let x : ℕ = number 256 bytes in
    let c = chosen (x / 2 ^ bits == 0) (unpacked width n bytes) ds e in
    let none : x / 2 ^ bits ≡ 0 = eqb-true (x / 2 ^ bits) 0 c.0 in
    let plus : x % 2 ^ bits ≡ 0 * 2 ^ bits + x % 2 ^ bits = omega arith in
    let all : x % 2 ^ bits ≡ x = plus ∙ ap (λ (q : ℕ). q * 2 ^ bits + x % 2 ^ bits) (sym none) ∙ div-add-mod' x (2 ^ bits) in
    let same : number (2 ^ width) ds ≡ x = ap (number (2 ^ width)) (sym c.1) ∙ number-digits width n x ∙ all in
    let count : length ds ≡ n = ap length (sym c.1) ∙ length-digits (2 ^ width) n x in
    let back : digits 256 (length bytes) x ≡ bytes = digits-number 8 bytes (byte_parts bytes h) in
    (rw (count, same, ← len) back, count)
