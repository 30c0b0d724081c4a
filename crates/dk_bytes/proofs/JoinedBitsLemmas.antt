-- Bits in a word of 64 and in one of 128.
use Rattle.std.proofs.Common.{◌≡◌, ℕ, ◌+◌, ◌-◌, ◌*◌, ◌/◌, ◌%◌, ◌^◌, ◌<◌, ◌≤◌, ap, sym, ◌∙◌, subst, arith, bit_and}
use Rattle.std.proofs.lemmas.Nat.{shl_whole, one_shl, and_mask, pow_pos, pow-add, mul-add-lt, mod_below, mod_low, shr_below, shr_high, shr_split}

-- a number that fits is shifted without loss
pub shifted : (n width count : ℕ) → n < 2 ^ width → width ≤ 64 → count < 64 → n * 2 ^ count % 2 ^ 128 ≡ n * 2 ^ count
shifted n width count h k l = shl_whole n width count 128 h (omega arith)

-- bits and a number above them
pub joined_below : (held n width count : ℕ) → held < 2 ^ count → n < 2 ^ width → width ≤ 64 → count < 64 → held + n * 2 ^ count % 2 ^ 128 < 2 ^ (count + width)
joined_below held n width count h k l m =
    let e = shifted n width count k l m in
    let p : n * 2 ^ count + held < 2 ^ count * 2 ^ width = mul-add-lt n (2 ^ count) held (2 ^ width) k h in
    omega (arith, e, p, pow-add 2 count width)

pub joined_is : (held n width count : ℕ) → n < 2 ^ width → width ≤ 64 → count < 64 → held + n * 2 ^ count % 2 ^ 128 ≡ held + 2 ^ count * n
joined_is held n width count k l m = let e = shifted n width count k l m in omega (arith, e)

-- what is left of them above a word
pub above_below : (x bits : ℕ) → x < 2 ^ bits → 64 ≤ bits → x / 2 ^ 64 < 2 ^ (bits - 64)
above_below x bits h k =
    let e : bits - 64 + 64 ≡ bits = omega arith in
    shr_below x (bits - 64) 64 (subst (λ (b : ℕ). x < 2 ^ b) (sym e) h)

-- the low bits of a number of which a part is held, and what is left of it
pub split_held : (held above width count : ℕ) → width ≤ count → held + 2 ^ count * above ≡ (held / 2 ^ width + 2 ^ (count - width) * above) * 2 ^ width + held % 2 ^ width
split_held held above width count h =
    let e : count - width + width ≡ count = omega arith in
    let p : 2 ^ count ≡ 2 ^ (count - width) * 2 ^ width = ap (λ k. 2 ^ k) (sym e) ∙ pow-add 2 (count - width) width in
    let q = shr_split held width in
    rw p (omega (arith, q))

pub low_of : (held above width count : ℕ) → width ≤ count → (held + 2 ^ count * above) % 2 ^ width ≡ held % 2 ^ width
low_of held above width count h =
    ap (λ x. x % 2 ^ width) (split_held held above width count h)
    ∙ mod_low (held / 2 ^ width + 2 ^ (count - width) * above) width (held % 2 ^ width) (mod_below held (2 ^ width) (pow_pos width))

pub left_of : (held above width count : ℕ) → width ≤ count → (held + 2 ^ count * above) / 2 ^ width ≡ held / 2 ^ width + 2 ^ (count - width) * above
left_of held above width count h =
    ap (λ x. x / 2 ^ width) (split_held held above width count h)
    ∙ shr_high (held / 2 ^ width + 2 ^ (count - width) * above) width (held % 2 ^ width) (mod_below held (2 ^ width) (pow_pos width))

pub held_below : (held width count : ℕ) → held < 2 ^ count → width ≤ count → held / 2 ^ width < 2 ^ (count - width)
held_below held width count h k =
    let e : count - width + width ≡ count = omega arith in
    shr_below held (count - width) width (subst (λ (b : ℕ). held < 2 ^ b) (sym e) h)

pub masked : (held width : ℕ) → width ≤ 64 → bit_and held (1 * 2 ^ width % 2 ^ 128 - 1) ≡ held % 2 ^ width
masked held width h = rw (one_shl width 128 (omega arith)) (and_mask held width)

-- a word that moves from what stands above to what is held
pub joined_above : (held word count above after : ℕ) → word < 2 ^ 64 → count < 64 → above ≡ word + 2 ^ 64 * after → held + word * 2 ^ count % 2 ^ 128 + 2 ^ (count + 64) * after ≡ held + 2 ^ count * above
joined_above held word count above after h k e =
    let s = shifted word 64 count h (omega arith) k in
    rw (s, e, pow-add 2 count 64) (omega arith)
