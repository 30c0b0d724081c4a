-- Numbers that digits spell.
use Rattle.std.proofs.Common.{◌≡◌, ℕ, ◌≤◌, ◌<◌, ◌+◌, ◌-◌, ◌*◌, ◌^◌, ◌/◌, suc, List, [], ◌∷◌, length, drop, get_or, ◌∙◌, sym, ap, arith}
use Rattle.std.proofs.Math.Seq.{drop-cons}
use Rattle.dk_copy.specs.Numbers.{value_from}

-- more digits make no number smaller
pub value_grows : (digits : List ℕ) (n : ℕ) → n ≤ value_from n digits
value_grows [] n = omega arith
value_grows (d ∷ digits) n = omega (arith, value_grows digits (10 * n + (d - 48)))

-- a number that is too large by now stays so
value_over : (digits : List ℕ) (n d : ℕ) (rest : List ℕ) → 2 ^ 64 ≤ 10 * n + (d - 48)
    → value_from n (d ∷ rest) ≡ value_from 0 digits → 2 ^ 64 ≤ value_from 0 digits
value_over digits n d rest large reads = omega (arith, value_grows rest (10 * n + (d - 48)), reads)

-- the same, where the digit is the one that comes next
pub value_over_at : (digits : List ℕ) (n i : ℕ) → i < length digits
    → ((2 ^ 64 - 1) - (get_or digits i 0 - 48)) / 10 < n → value_from n (drop i digits) ≡ value_from 0 digits
    → 2 ^ 64 ≤ value_from 0 digits
value_over_at digits n i within large reads =
    value_over digits n (get_or digits i 0) (drop (suc i) digits) (omega arith)
    (ap (value_from n) (sym (drop-cons digits i 0 within)) ∙ reads)
