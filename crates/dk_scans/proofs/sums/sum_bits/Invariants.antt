-- The sum of what the first i bits select, within bounds.
use Rattle.std.proofs.Common.{◌≡◌, ◌*◌, ◌^◌, take, pos, ◌+ℤ◌, neg_ℤ, ◌≤ℤ◌, fold}
use Rattle.dk_scans.specs.Selection.{select, bits}
use Rattle.dk_scans.proofs.sums.sum_bits.Given as goal

abbrev pub invariant-numbers : goal.invariant-numbers
invariant-numbers l =
    (l.sum ≡ fold ◌+ℤ◌ (pos 0) (select (bits l.i l.word) (take l.i l.numbers)))
    × (neg_ℤ (pos (2 ^ 63 * l.i)) ≤ℤ l.sum) × (l.sum ≤ℤ pos (2 ^ 63 * l.i))
