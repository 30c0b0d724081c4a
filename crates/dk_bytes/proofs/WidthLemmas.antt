-- The least width of a number.
use Rattle.std.proofs.Common.{◌≡◌, ℕ, suc, ◌-◌, ◌<◌, ◌≤◌, ◌^◌, subst, arith, inl, inr}
use Rattle.std.specs.Int.{w64, leading_zeros}
use Rattle.std.proofs.Math.Nat.{pow-le-pow_right, pow-suc}
use Rattle.std.proofs.lemmas.Bool.{cases_lt}
use Rattle.std.proofs.lemmas.Nat.{leading_length}
use Rattle.dk_bytes.specs.Bits.{bit_width}

pub width_fits : (n : ℕ) → n < 2 ^ 64 → n < 2 ^ bit_width n
unfolding bit_width
width_fits n h =
    let m = leading_length 64 n h in
    let e : m.0 ≡ 64 - leading_zeros w64 n = omega (arith, m.1) in
    subst (λ (k : ℕ). n < 2 ^ k) e m.2

pub width_most : (n : ℕ) → bit_width n ≤ 64
unfolding bit_width
width_most n = omega arith

pub width_least : (n : ℕ) → n < 2 ^ 64 → (width : ℕ) → n < 2 ^ width → bit_width n ≤ width
unfolding bit_width
width_least n h width k =
    let m = leading_length 64 n h in
    elim (cases_lt width m.0) [
      | inl lt ↦
          let up : 2 ^ suc width ≤ 2 ^ m.0 = pow-le-pow_right {n = 2} (omega arith) (omega arith) in
          absurd (omega (arith, pow-suc 2 width, up, m.3, k))
      | inr le ↦ omega (arith, m.1, le)
    ]
