-- Sums that end at the greatest number of 64 bits.
use Rattle.std.proofs.Common.{◌≡◌, ℕ, ◌+◌, ◌<◌, ◌≤◌, ◌-◌, ◌^◌, List, length, map, drop, ap, arith}
use Rattle.std.specs.Prelude.{min, sum}
use Rattle.std.proofs.Math.ListN.{drop_of_length-le}
use Rattle.dk_fault.specs.Counts.{capped}
use Rattle.dk_si.specs.Weight.{cap}

-- the two ways to say it are one
pub cap_size : (n size : ℕ) → n ≡ cap size → n ≡ capped size
cap_size n size is = grind (arith, is)

pub cap_sum : {T : Type 0} (f : T → ℕ) (items : List T) (total : ℕ) → total ≡ capped (sum (map f items)) → total
    ≡ cap (sum (map f items))
cap_sum f items total is = grind (arith, is)

pub cap_least : (total x rest : ℕ) → cap (min (2 ^ 64 - 1) (total + cap x) + rest) ≡ cap (total + (x + rest))
cap_least total x rest = grind arith

pub cap_both : (a b : ℕ) → min (2 ^ 64 - 1) (cap a + cap b) ≡ cap (a + b)
cap_both a b = grind arith

sum_end : {T : Type 0} → (f : T → ℕ) → (items : List T) → (i : ℕ) → length items ≤ i → sum (map f (drop i items)) ≡ 0
sum_end f items i end = ap (λ rest. sum (map f rest)) (drop_of_length-le items end)

cap_end : (total rest all : ℕ) → total < 2 ^ 64 → rest ≡ 0 → cap (total + rest) ≡ cap all → total ≡ cap all
cap_end total rest all small none same = grind (arith, small, none, same)

pub cap_ends : {T : Type 0} → (f : T → ℕ) → (items : List T) → (i total : ℕ) → total < 2 ^ 64 → length items ≤ i
    → cap (total + sum (map f (drop i items))) ≡ cap (sum (map f items)) → total ≡ cap (sum (map f items))
cap_ends f items i total small end same = cap_end total _ _ small (sum_end f items i end) same
