-- Counts and sums in 64 bits, which stand still at the greatest number.
use Rattle.std.specs.Prelude.{ℕ, ◌+◌, ◌-◌, ◌^◌, min}

-- the greatest number of 64 bits stands for all above
abbrev pub capped : ℕ → ℕ
capped n = min n (2 ^ 64 - 1)

-- a count of one more
abbrev pub next_count : ℕ → ℕ
next_count n = capped (n + 1)
