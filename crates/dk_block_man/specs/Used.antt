-- The used blocks of a file.
use Rattle.std.specs.Prelude.{◌≡◌, ℕ, ◌+◌, ◌<◌, ◌≤◌, Bool, true, false, List, [], ◌∷◌, length, get_or, nat_lt, ◌==◌, if◌then◌else◌}
use Rattle.std.specs.List.{list_any}

-- the numbers of the used blocks, ascending, and how many blocks there are
pub record Blocks : Type 0 where
  pub used : List ℕ
  pub blocks : ℕ

-- the places of the flags that are set, from a number on
abbrev pub used_from : ℕ → List Bool → List ℕ
used_from block [] = []
used_from block (true ∷ flags) = block ∷ used_from (block + 1) flags
used_from block (false ∷ flags) = used_from (block + 1) flags

abbrev pub used_of : List Bool → List ℕ
used_of flags = used_from 0 flags

-- whether a block is one of these
abbrev pub is_among : List ℕ → ℕ → Bool
is_among used block = list_any (λ y. y == block) used

-- all of these are numbers of blocks
abbrev pub AreBelow : ℕ → List ℕ → Type 0
AreBelow blocks used = (k : ℕ) → is_among used k ≡ true → k < blocks

-- the least number from this one on that isn't among ascending ones
abbrev pub least_from : ℕ → List ℕ → ℕ
least_from block [] = block
least_from block (x ∷ used) = if x == block then least_from (block + 1) used else block

abbrev pub least_unused : List ℕ → ℕ
least_unused used = least_from 0 used

-- ascending numbers with one more
abbrev pub with_block : ℕ → List ℕ → List ℕ
with_block block [] = block ∷ []
with_block block (x ∷ used) = if nat_lt block x then block ∷ x ∷ used else x ∷ with_block block used

-- and with one less
abbrev pub without_block : ℕ → List ℕ → List ℕ
without_block block [] = []
without_block block (x ∷ used) = if x == block then used else x ∷ without_block block used

-- a block is the least that isn't used: each lesser one is
pub record IsLeastUnused (block : ℕ) (used : List ℕ) : Type 0 where
  pub is : block ≡ least_unused used
  pub unused : is_among used block ≡ false
  pub lesser : (k : ℕ) → k < block → is_among used k ≡ true

-- a block that wasn't used is, and no other changes; giving it back restores what was
pub record Gains (block : ℕ) (old new : List ℕ) : Type 0 where
  pub is : new ≡ with_block block old
  pub others : (k : ℕ) → is_among new k ≡ (if k == block then true else is_among old k)
  pub restores : without_block block new ≡ old

-- a used block isn't, and no other changes
pub record Loses (block : ℕ) (old new : List ℕ) : Type 0 where
  pub is : new ≡ without_block block old
  pub others : (k : ℕ) → is_among new k ≡ (if k == block then false else is_among old k)

-- each flag below a place is set
pub record AllUsed (place : ℕ) (flags : List Bool) : Type 0 where
  pub within : place ≤ length flags
  pub set : (k : ℕ) → k < place → get_or flags k false ≡ true
