use Rattle.std.proofs.Common.{◌≡◌, ◌-◌, ◌+◌, ◌^◌, ℕ, get_or, length}
use Rattle.dk_columns.proofs.mask.fill.Given as goal

abbrev pub invariant-fill : goal.invariant-fill
invariant-fill l = (j : ℕ) → get_or l.words.items j (2 ^ 64 - 1) ≡ get_or l.fn.words.items j (2 ^ 64 - 1)

abbrev pub decreases-fill : goal.decreases-fill
decreases-fill l = l.k + 1 - length l.words.items
