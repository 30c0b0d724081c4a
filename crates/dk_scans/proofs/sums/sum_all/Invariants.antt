-- The sum so far, within bounds.
use Rattle.std.proofs.Common.{◌≡◌, ◌*◌, ◌^◌, take, pos, ◌+ℤ◌, neg_ℤ, ◌≤ℤ◌, fold}
use Rattle.dk_scans.proofs.sums.sum_all.Given as goal

abbrev pub invariant-numbers : goal.invariant-numbers
invariant-numbers l =
    (l.sum ≡ fold ◌+ℤ◌ (pos 0) (take l.number-index l.numbers))
    × (neg_ℤ (pos (2 ^ 63 * l.number-index)) ≤ℤ l.sum) × (l.sum ≤ℤ pos (2 ^ 63 * l.number-index))
