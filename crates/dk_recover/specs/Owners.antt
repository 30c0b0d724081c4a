-- What the claims of a group keep in step while its page is read.
use Rattle.std.specs.Prelude.{◌≡◌, ℕ, ◌≤◌, Result}
use Rattle.dk_block_man.specs.Used.{Blocks, is_among}
use Rattle.dk_types.specs.declared.damage.Damage.{Damage}
use Rattle.dk_block_file.specs.declared.fault.BlockFault.{BlockFault}
use Rattle.dk_strings.specs.Effects.{StaysUsed, Tells}
use Rattle.dk_recover.specs.declared.blocks.Owner.{Owner}
use Rattle.dk_recover.specs.Blocks.{Claimed}

-- what a group has claimed
abbrev pub claimed_of : Blocks → Owner → Claimed
claimed_of man owner = record { own = owner.blocks; used = man.used }

-- its blocks are marked as such, and all blocks of the file can be marked
pub record IsOwner (man : Blocks) (owner : Owner) : Type 0 where
  pub marked : (k : ℕ) → is_among owner.marks.used k ≡ is_among owner.blocks k
  pub count : owner.marks.blocks ≡ owner.count
  pub within : owner.count ≤ man.blocks

-- blocks were claimed as this reading says, or it ends there
pub record Claims (reading : ℕ → Claimed → Result Claimed Damage) (man man' : Blocks) (owner owner' : Owner)
    (result : Result (Unit {0}) BlockFault) : Type 0 where
  pub exact : Tells (λ _. claimed_of man' owner') (reading owner.count (claimed_of man owner)) result
  pub count : owner'.count ≡ owner.count
  pub stays : StaysUsed man.used man'.used
  pub blocks : man'.blocks ≡ man.blocks
