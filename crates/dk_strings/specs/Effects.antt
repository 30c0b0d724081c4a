-- What the calls on chains answer, and what several written blocks leave as they were.
use Rattle.std.specs.Prelude.{◌≡◌, ◌≢◌, ℕ, ◌+◌, ◌<◌, ◌≤◌, max, true, false, List, [], ◌∷◌, ◌++◌, length, take, Option, Some, None, IfSome, Result, Ok, Err}
use Rattle.dk_types.specs.declared.damage.Damage.{Damage}
use Rattle.dk_device.specs.declared.device.Disk.{Ghosts}
use Rattle.dk_device.specs.declared.device.FileId.TheVariants.{Main, Wal}
use Rattle.dk_device.specs.Changes.{images_of, Changes}
use Rattle.dk_block_man.specs.Used.{is_among, AreBelow, Gains}
use Rattle.dk_block_file.specs.declared.fault.BlockFault.{BlockFault}
use Rattle.dk_block_file.specs.declared.fault.BlockFault.TheVariants.{DiskFault, Damaged, OutOfMemory}
use Rattle.dk_block_file.specs.declared.layout.TheConstants.{HEADERS_BYTES, BLOCK_BYTES}
use Rattle.dk_block_file.specs.Blocks.{blocks_in, place_of, block_at, HasOneBlock}
use Rattle.dk_block_file.specs.Current.{HasHeaders}
use Rattle.dk_block_file.specs.Effects.{KeepsHeaders}
use Rattle.dk_meta.specs.Chain.{Part}
use Rattle.dk_strings.specs.declared.string.Found.{Found}
use Rattle.dk_strings.specs.Chains.{Chain, HoldsPart, HoldsTo}

-- what was found, without where it lies in memory
abbrev pub chain_of : Found → Chain
chain_of found = record { bytes = found.bytes.items; blocks = found.blocks }

-- what a call answered is what is read, and its damage the first thing that is wrong
abbrev pub Tells : {X Y : Type 0} → (X → Y) → Result Y Damage → Result X BlockFault → Type 0
Tells view reading (Ok x) = reading ≡ Ok (view x)
Tells view reading (Err DiskFault) = Unit {0}
Tells view reading (Err (Damaged damage)) = reading ≡ Err damage
Tells view reading (Err OutOfMemory) = Unit {0}

-- the bytes of a part were added, and its next block answered
abbrev pub Joins : Result Part Damage → List ℕ → List ℕ → Result (Option ℕ) BlockFault → Type 0
Joins reading old new (Ok next) = (bytes : List ℕ) × (reading ≡ Ok (record { next = next; bytes = bytes }))
    × (new ≡ old ++ bytes)
Joins reading old new (Err DiskFault) = Unit {0}
Joins reading old new (Err (Damaged damage)) = reading ≡ Err damage
Joins reading old new (Err OutOfMemory) = Unit {0}

-- the blocks that are there are not found wanting: it is the disk or the memory that failed
abbrev pub NamesNoDamage : {T : Type 0} → Result T BlockFault → Type 0
NamesNoDamage (Ok done) = Unit {0}
NamesNoDamage (Err DiskFault) = Unit {0}
NamesNoDamage (Err (Damaged damage)) = ⊥
NamesNoDamage (Err OutOfMemory) = Unit {0}

-- each block that was used is used
abbrev pub StaysUsed : List ℕ → List ℕ → Type 0
StaysUsed old new = (k : ℕ) → is_among old k ≡ true → is_among new k ≡ true

-- these blocks, which nothing used, were taken one after the other
abbrev pub Takes : List ℕ → List ℕ → List ℕ → Type 0
Takes [] old new = new ≡ old
Takes (block ∷ blocks) old new = (between : List ℕ) × (is_among old block ≡ false) × Gains block old between
    × Takes blocks between new

-- no shorter, the same headers, and the same block at each kept number that lies in it and in a file of this length
pub record SameKept (kept : ℕ → Type 0) (extent : ℕ) (old new : List ℕ) : Type 0 where
  pub no_shorter : length old ≤ length new
  pub headers : HEADERS_BYTES ≤ length old → take HEADERS_BYTES new ≡ take HEADERS_BYTES old
  pub blocks : (k : ℕ) → kept k → k < blocks_in extent → k < blocks_in (length old) → block_at k new ≡ block_at k old

-- the same of what a file reads as, where that is known
abbrev pub SameContent : (ℕ → Type 0) → Option (List ℕ) → Option (List ℕ) → Type 0
SameContent kept None None = Unit {0}
SameContent kept None (Some new) = ⊥
SameContent kept (Some old) None = ⊥
SameContent kept (Some old) (Some new) = SameKept kept (length old) old new

-- Several blocks of Main were written, none of them a kept one: in each image between, each kept block is as in one at
-- the start, and one that is the same in each stays so. The log stays.
pub record KeepsBlocks {D : Type 0} (g : Ghosts D) (kept : ℕ → Type 0) (old new : D) : Type 0 where
  pub no_shorter : g.extent old Main ≤ g.extent new Main
  pub images : Changes g (SameKept kept (g.extent old Main)) Main old new
  pub one_block : (k : ℕ) → kept k → k < blocks_in (g.extent old Main) → HasOneBlock k (images_of g old Main) →
      HasOneBlock k (images_of g new Main)
  pub log : g.content new Wal ≡ g.content old Wal
  pub log_extent : g.extent new Wal ≡ g.extent old Wal

-- a block that isn't one of these
abbrev pub IsOther : List ℕ → ℕ → Type 0
IsOther blocks k = is_among blocks k ≡ false

-- and one that is
abbrev pub IsOneOf : List ℕ → ℕ → Type 0
IsOneOf blocks k = is_among blocks k ≡ true

-- A part of a chain is written in its block: every other block stays, and the headers.
pub record WritesBlockAlone {D : Type 0} (g : Ghosts D) (block : ℕ) (old new : D) : Type 0 where
  pub keeps : KeepsBlocks g (λ k. k ≢ block) old new
  pub headers : HasHeaders g old → KeepsHeaders g old new

-- it holds the part, the file reads as before elsewhere, and reaches the block's end
pub record HasPart {D : Type 0} (g : Ghosts D) (block : ℕ) (part : Part) (old new : D) : Type 0 where
  pub holds : IfSome (g.content new Main) (λ main. HoldsPart main block part.next part.bytes)
  pub same : SameContent (λ k. k ≢ block) (g.content old Main) (g.content new Main)
  pub grown : g.extent new Main ≡ max (g.extent old Main) (place_of block + BLOCK_BYTES)

-- Blocks that nothing used were taken, and Main was written in them alone: every other block stays, and the headers.
pub record WritesInto {D : Type 0} (g : Ghosts D) (blocks used used' : List ℕ) (old new : D) : Type 0 where
  pub takes : Takes blocks used used'
  pub keeps : KeepsBlocks g (IsOther blocks) old new
  pub headers : HasHeaders g old → KeepsHeaders g old new

-- they hold these bytes, the file reads as before elsewhere, and every used block lies in it
pub record HasBytes {D : Type 0} (g : Ghosts D) (blocks used' bytes : List ℕ) (old new : D) : Type 0 where
  pub some : 0 < length blocks
  pub holds : IfSome (g.content new Main) (λ main. HoldsTo main None blocks bytes)
  pub same : SameContent (IsOther blocks) (g.content old Main) (g.content new Main)
  pub within : AreBelow (blocks_in (g.extent new Main)) used'
