-- Digits of numbers to a base that is a power of two.
use Rattle.std.proofs.Common.{◌≡◌, ℕ, zero, suc, ◌+◌, ◌-◌, ◌*◌, ◌/◌, ◌%◌, ◌^◌, ◌<◌, ◌≤◌, List, [], ◌∷◌, ◌++◌, length, take, refl, ap, sym, ◌∙◌, arith}
use Rattle.std.specs.List.{All, AllByRecursion}
use Rattle.std.specs.Int.{w64, from_le_bytes, to_le_bytes, bytes_low_first}
use Rattle.std.specs.Simd.Lanes.{number_l as number, digits_l as digits}
use Rattle.std.proofs.Math.Nat.{mul-zero, div-one, div-div-eq-div-mul, eq_of_mul-eq-mul_left, pow-suc}
use Rattle.std.proofs.lemmas.Nat.{pow_pos, pow-add, mod_below, field_of, mod-pow-add, mod_low, shr_high, shr-shr, mul-add-lt}
use Rattle.std.proofs.lemmas.List.Elements.{All-from_recursion, recursion_from_All}
use Rattle.std.proofs.lemmas.List.{take_all, take-append-le}

pub length-digits : (base n x : ℕ) → length (digits base n x) ≡ n
length-digits base zero x = refl
length-digits base (suc n) x = let ih = length-digits base n (x / base) in omega (arith, ih)

none : (w : ℕ) → 2 ^ (w * zero) ≡ 1
none w = rw mul-zero refl

-- the number that n digits of x make
pub number-digits : (w n x : ℕ) → number (2 ^ w) (digits (2 ^ w) n x) ≡ x % 2 ^ (w * n)
number-digits w zero x = let one : 2 ^ (w * zero) ≡ 1 = none w in rw one (omega arith)
number-digits w (suc n) x =
    let ih = number-digits w n (x / 2 ^ w) in
    let split = mod-pow-add x (w * n) w in
    let e : w * n + w ≡ w * suc n = omega arith in
    rw (ih, ← e, split) (omega arith)

-- the digits of the number that digits make
pub digits-number : (w : ℕ) (xs : List ℕ) → AllByRecursion (λ x. x < 2 ^ w) xs → digits (2 ^ w) (length xs) (number (2 ^ w) xs) ≡ xs
digits-number w [] h = refl
digits-number w (x ∷ xs) h =
    let e : x + 2 ^ w * number (2 ^ w) xs ≡ number (2 ^ w) xs * 2 ^ w + x = omega arith in
    let low = mod_low (number (2 ^ w) xs) w x h.0 in
    let high = shr_high (number (2 ^ w) xs) w x h.0 in
    rw (e, low, high, digits-number w xs h.1) refl

-- n digits make a number below the base's n-th power
pub number_below : (w : ℕ) (xs : List ℕ) → AllByRecursion (λ x. x < 2 ^ w) xs → number (2 ^ w) xs < 2 ^ (w * length xs)
number_below w [] h = let one : 2 ^ (w * zero) ≡ 1 = none w in omega arith
number_below w (x ∷ xs) h =
    let ih = number_below w xs h.1 in
    let p = mul-add-lt (number (2 ^ w) xs) (2 ^ w) x (2 ^ (w * length xs)) ih h.0 in
    let e : w + w * length xs ≡ w * suc (length xs) = omega arith in
    rw (← e, pow-add 2 w (w * length xs)) (omega (arith, p))

-- the lower digits and then the higher ones
pub digits-add : (w m n x : ℕ) → digits (2 ^ w) (m + n) x ≡ digits (2 ^ w) m x ++ digits (2 ^ w) n (x / 2 ^ (w * m))
digits-add w zero n x =
    let none : zero + n ≡ n = omega arith in
    let whole : x / 2 ^ (w * zero) ≡ x = rw mul-zero (div-one x) in
    rw (none, whole) refl
digits-add w (suc m) n x =
    let ih = digits-add w m n (x / 2 ^ w) in
    let count : suc m + n ≡ suc (m + n) = omega arith in
    let e : w + w * m ≡ w * suc m = omega arith in
    let above : x / 2 ^ w / 2 ^ (w * m) ≡ x / 2 ^ (w * suc m) = shr-shr x w (w * m) ∙ ap (λ k. x / 2 ^ k) e in
    rw (count, ih, above) refl

-- digits of a number of which only the lower part counts
pub digits-mod : (w n k x : ℕ) → n ≤ k → digits (2 ^ w) n (x % 2 ^ (w * k)) ≡ digits (2 ^ w) n x
digits-mod w zero k x h = refl
digits-mod w (suc n) zero x h = absurd (omega arith)
digits-mod w (suc n) (suc k) x h =
    let ih = digits-mod w n k (x / 2 ^ w) (omega arith) in
    let e : w * suc k ≡ w * k + w = omega arith in
    let below : x % 2 ^ w < 2 ^ w = mod_below x (2 ^ w) (pow_pos w) in
    let low : x % 2 ^ (w * k + w) % 2 ^ w ≡ x % 2 ^ w = ap (λ m. m % 2 ^ w) (mod-pow-add x (w * k) w) ∙ mod_low (x / 2 ^ w % 2 ^ (w * k)) w (x % 2 ^ w) below in
    rw (e, low, field_of x (w * k) w, ih) refl

bytes_from : (i n x : ℕ) → bytes_low_first (suc i) n x ≡ digits 256 n (x / 256 ^ suc i)
bytes_from i zero x = refl
bytes_from i (suc n) x =
    let above : x / 256 ^ suc i / 256 ≡ x / 256 ^ suc (suc i) = div-div-eq-div-mul x (256 ^ suc i) 256 ∙ ap (λ k. x / k) (sym (pow-suc 256 (suc i))) in
    rw (above, bytes_from (suc i) n x) refl

-- the bytes of a word are its digits to the base 256
pub word_bytes : (x : ℕ) → to_le_bytes w64 x ≡ digits 256 8 x
word_bytes x = ap (λ bytes. x % 256 ∷ bytes) (bytes_from 0 7 x)

-- the number of a word's bytes
pub word_number : (bytes : List ℕ) → from_le_bytes w64 bytes ≡ number 256 (take 8 bytes)
word_number [] = omega arith
word_number (a ∷ []) = omega arith
word_number (a ∷ b ∷ []) = omega arith
word_number (a ∷ b ∷ c ∷ []) = omega arith
word_number (a ∷ b ∷ c ∷ d ∷ []) = omega arith
word_number (a ∷ b ∷ c ∷ d ∷ e ∷ []) = omega arith
word_number (a ∷ b ∷ c ∷ d ∷ e ∷ f ∷ []) = omega arith
word_number (a ∷ b ∷ c ∷ d ∷ e ∷ f ∷ g ∷ []) = omega arith
word_number (a ∷ b ∷ c ∷ d ∷ e ∷ f ∷ g ∷ h ∷ rest) = omega arith

pub number-append : (w : ℕ) (xs ys : List ℕ) → number (2 ^ w) (xs ++ ys) ≡ number (2 ^ w) xs + 2 ^ (w * length xs) * number (2 ^ w) ys
number-append w [] ys = let one : 2 ^ (w * zero) ≡ 1 = none w in rw one (omega arith)
number-append w (x ∷ xs) ys =
    let ih = number-append w xs ys in
    let e : w + w * length xs ≡ w * suc (length xs) = omega arith in
    let p = pow-add 2 w (w * length xs) in
    rw (ih, ← e, p) (omega arith)

-- the first bytes of a word
pub front_bytes : (n x : ℕ) → n ≤ 8 → take n (to_le_bytes w64 x) ≡ digits 256 n x
front_bytes n x h =
    let count : n + (8 - n) ≡ 8 = omega arith in
    let all : to_le_bytes w64 x ≡ digits 256 n x ++ digits 256 (8 - n) (x / 2 ^ (8 * n)) =
    word_bytes x ∙ ap (λ k. digits 256 k x) (sym count) ∙ digits-add 8 n (8 - n) x in
    let len = length-digits 256 n x in
    rw (all, take-append-le n (digits 256 n x) (digits 256 (8 - n) (x / 2 ^ (8 * n))) (omega arith)) (take_all n (digits 256 n x) (omega arith))

-- a word of the bytes and the bytes behind it
pub first_word : (a b c d e f g h : ℕ) (rest : List ℕ) → number 256 (a ∷ b ∷ c ∷ d ∷ e ∷ f ∷ g ∷ h ∷ rest) ≡ from_le_bytes w64 (a ∷ b ∷ c ∷ d ∷ e ∷ f ∷ g ∷ h ∷ []) + 2 ^ 64 * number 256 rest
first_word a b c d e f g h rest = omega arith

pub zero_number : (bytes : List ℕ) → number 256 bytes ≡ 0 → AllByRecursion (λ byte. byte ≡ 0) bytes
zero_number [] h = tt
zero_number (b ∷ bytes) h = (omega arith, zero_number bytes (omega arith))

pub number_zero : (bytes : List ℕ) → AllByRecursion (λ byte. byte ≡ 0) bytes → number 256 bytes ≡ 0
number_zero [] h = refl
number_zero (b ∷ bytes) h = let ih = number_zero bytes h.1 in omega (arith, h.0)

pub short_word : (bytes : List ℕ) (word : ℕ) → length bytes < 8 → word ≡ from_le_bytes w64 bytes → number 256 bytes ≡ word + 0
short_word bytes word h e =
    let all : number 256 (take 8 bytes) ≡ number 256 bytes = ap (number 256) (take_all 8 bytes (omega arith)) in
    let same = word_number bytes in
    omega arith

-- a number of which a part is held is 0 where both parts are
pub zero_from : (held count : ℕ) (bytes : List ℕ) → held ≡ 0 → All (λ byte. byte ≡ 0) bytes → held + 2 ^ count * number 256 bytes ≡ 0
zero_from held count bytes e h =
    let none = number_zero bytes (recursion_from_All (λ byte. byte ≡ 0) bytes h) in
    rw (e, none) (omega arith)

pub zero_to : (held count : ℕ) (bytes : List ℕ) → held + 2 ^ count * number 256 bytes ≡ 0 → All (λ byte. byte ≡ 0) bytes
zero_to held count bytes e =
    let product : 2 ^ count * number 256 bytes ≡ 2 ^ count * 0 = omega arith in
    let none = eq_of_mul-eq-mul_left (2 ^ count) (pow_pos count) (number 256 bytes) 0 product in
    All-from_recursion (λ byte. byte ≡ 0) bytes (zero_number bytes none)
