-- The sum of what the first k words select, with room for the rest.
use Rattle.std.proofs.Common.{◌≡◌, ◌*◌, ◌^◌, length, pos, ◌+ℤ◌, neg_ℤ, ◌≤ℤ◌, fold, min}
use Rattle.dk_scans.specs.Selection.{in_words}
use Rattle.dk_scans.proofs.sums.sum.Given as goal

abbrev pub invariant-words : goal.invariant-words
invariant-words l =
    (l.sum ≡ fold ◌+ℤ◌ (pos 0) (in_words l.k l.flags l.numbers))
    × (neg_ℤ (pos (2 ^ 63 * min (64 * l.k) (length l.numbers))) ≤ℤ l.sum) × (l.sum ≤ℤ pos (2 ^ 63 * min (64 * l.k) (length l.numbers)))
