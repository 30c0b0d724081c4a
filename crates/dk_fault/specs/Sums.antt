-- A closure that tells a size of each item.
use Rattle.std.specs.Prelude.{◌≡◌, ℕ}
use Rattle.dk_fault.specs.Counts.{capped}

-- what is returned of each item is its size, or the greatest number of 64 bits for all above
abbrev pub Sizes : {T : Type 0} → (T → ℕ → Type 0) → (T → ℕ) → Type 0
Sizes {T} returns size = (item : T) (n : ℕ) → returns item n → n ≡ capped (size item)
