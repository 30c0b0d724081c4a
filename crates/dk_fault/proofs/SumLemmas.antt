-- Sums that end at the greatest number of 64 bits.
use Rattle.std.proofs.Common.{◌≡◌, ℕ, ◌+◌, ◌<◌, ◌≤◌, ◌-◌, ◌^◌, List, length, map, drop, get_or, ap, ◌∙◌, sym, arith}
use Rattle.std.specs.Prelude.{min, sum, sum_by}
use Rattle.std.proofs.Math.ListN.{drop_of_length-le}
use Rattle.std.proofs.lemmas.List.Sums.{sum-map, sum_by-drop_more}
use Rattle.dk_fault.specs.Counts.{capped}

-- a sum of two, each capped
pub capped_both : (a b : ℕ) → min (2 ^ 64 - 1) (capped a + capped b) ≡ capped (a + b)
capped_both a b = grind arith

-- the sum of the items from a place on begins with the item there
sum_from : {T : Type 0} (f : T → ℕ) (items : List T) (i : ℕ) (item : T) → i < length items → item ≡ get_or items i item → sum (map f (drop i items)) ≡ f item + sum (map f (drop (i + 1) items))
sum_from f items i item within is =
    sum-map f (drop i items) ∙ sum_by-drop_more f items i item within
    ∙ ap (λ n. n + sum_by f (drop (i + 1) items)) (ap f (sym is))
    ∙ ap (λ n. f item + n) (sym (sum-map f (drop (i + 1) items)))

-- the next item's size goes from the rest to the total
pub capped_step : {T : Type 0} (f : T → ℕ) (items : List T) (i : ℕ) (item : T) (total size next : ℕ) → i < length items → item ≡ get_or items i item → size ≡ capped (f item) → next ≡ min (total + size) (2 ^ 64 - 1) → capped (total + sum (map f (drop i items))) ≡ capped (sum (map f items)) → capped (next + sum (map f (drop (i + 1) items))) ≡ capped (sum (map f items))
capped_step f items i item total size next within is sized sum_is same =
    let from = sum_from f items i item within is in
    grind (arith, from, sized, sum_is, same)

sum_end : {T : Type 0} → (f : T → ℕ) → (items : List T) → (i : ℕ) → length items ≤ i → sum (map f (drop i items)) ≡ 0
sum_end f items i end = ap (λ rest. sum (map f rest)) (drop_of_length-le items end)

whole_sum : (total rest all : ℕ) → total < 2 ^ 64 → rest ≡ 0 → capped (total + rest) ≡ capped all → total ≡ capped all
whole_sum total rest all small none same = grind (arith, small, none, same)

-- behind the last item the total is the capped sum
pub capped_end : {T : Type 0} → (f : T → ℕ) → (items : List T) → (i total : ℕ) → total < 2 ^ 64 → length items ≤ i → capped (total + sum (map f (drop i items))) ≡ capped (sum (map f items)) → total ≡ capped (sum (map f items))
capped_end f items i total small end same = whole_sum total _ _ small (sum_end f items i end) same
