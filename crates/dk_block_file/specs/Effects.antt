-- The effects of the calls on blocks and headers, a record for each.
use Rattle.std.specs.Prelude.{◌≡◌, ◌≢◌, ℕ, ◌+◌, ◌<◌, ◌≤◌, max, Bool, Result, Ok, Err, OnOk, IfErr, List, [], ◌∷◌, length, take, drop, IfSome}
use Rattle.std.proofs.Common.{option_map}
use Rattle.dk_types.specs.declared.damage.Damage.TheVariants.{Sum}
use Rattle.dk_fault.specs.Causes.{Rose}
use Rattle.dk_header.specs.declared.header.TheConstants.{HEADER_BYTES, SUM_BYTES, OPEN_GATE, VERSION}
use Rattle.dk_header.specs.declared.header.DbHeader.{DbHeader}
use Rattle.dk_header.specs.Layout.{main_read, body_bytes}
use Rattle.dk_header.specs.LogLayout.{log_header_bytes}
use Rattle.dk_device.specs.declared.device.Disk.{Ghosts}
use Rattle.dk_device.specs.declared.device.FileId.TheVariants.{Main, Wal}
use Rattle.dk_device.specs.Calls.{Call, Did, Stopped, Makes, synced_write}
use Rattle.dk_device.specs.Changes.{images_of, IsSynced, Earlier, Changes, ChangesAlone, HoldsOnly}
use Rattle.dk_device.specs.Disk.{overlay, TornWrite, Allows}
use Rattle.dk_block_file.specs.declared.fault.BlockFault.{BlockFault}
use Rattle.dk_block_file.specs.declared.fault.BlockFault.TheVariants.{DiskFault, Damaged, OutOfMemory}
use Rattle.dk_block_file.specs.declared.layout.TheConstants.{HEADERS_BYTES, BLOCK_BYTES}
use Rattle.dk_block_file.specs.Blocks.{blocks_in, place_of, block_at, block_read, stored_sum, payload_sum, first_header, empty_main, HasOneBlock, SameOthers}
use Rattle.dk_block_file.specs.Current.{HasHeaders, Overtakes, HasCurrent, SameCurrent, SameCurrentOr}
use Rattle.dk_block_file.specs.Flips.{header_place, gate_place, IsClosed, IsOpen, HasBody, HasOneBody, MayClose, closing_bytes}

-- the count of faults did not fall; the only refusal is a fault of the disk, and it shows there
pub record FailsByDisk {T : Type 0} (before now : ℕ) (result : Result T BlockFault) : Type 0 where
  pub later : before ≤ now
  pub failed : IfErr result (λ e. (e ≡ DiskFault) × Rose before now)

-- these calls of the disk were made: all of them, or up to one that failed
pub record MakesToFault {D : Type 0} (g : Ghosts D) (calls : List Call) (old new : D)
    (result : Result (Unit {0}) BlockFault) : Type 0 where
  pub done : result ≢ Err DiskFault → Did calls (g.time old) (g.calls old) (g.time new) (g.calls new)
  pub failed : result ≡ Err DiskFault → Stopped calls (g.time old) (g.calls old) (g.time new) (g.calls new)

-- what the two checksums of a block that was read decide
abbrev pub DecidedBySums : ℕ → List ℕ → Result (Unit {0}) BlockFault → Type 0
DecidedBySums block bytes (Ok done) = stored_sum bytes ≡ payload_sum bytes
DecidedBySums block bytes (Err DiskFault) = Unit {0}
DecidedBySums block bytes (Err (Damaged damage)) = (damage ≡ Sum block (stored_sum bytes) (payload_sum bytes))
    × (stored_sum bytes ≢ payload_sum bytes)
DecidedBySums block bytes (Err OutOfMemory) = ⊥

-- Main is written at a block's place with these bytes: the block reads as their payload, each other one as before
pub record WritesBlock {D : Type 0} (g : Ghosts D) (block : ℕ) (bytes : List ℕ) (old new : D) : Type 0 where
  pub written : g.content new Main ≡ option_map (overlay (place_of block) bytes) (g.content old Main)
  pub reads : IfSome (g.content new Main) (λ main. block_read block main ≡ Ok (drop SUM_BYTES bytes))
  pub others : (k : ℕ) → k < blocks_in (g.extent old Main) → k ≢ block →
      option_map (block_at k) (g.content new Main) ≡ option_map (block_at k) (g.content old Main)
  pub grown : g.extent new Main ≡ max (g.extent old Main) (place_of block + BLOCK_BYTES)
  pub torn : Allows (TornWrite (place_of block) BLOCK_BYTES (g.extent old Main)) (images_of g old Main)
      (images_of g new Main)

-- all but one block stays: in each image between it is as in one at the start, and one that is the same in each
-- stays so
pub record KeepsOtherBlocks {D : Type 0} (g : Ghosts D) (block : ℕ) (old new : D) : Type 0 where
  pub no_shorter : g.extent old Main ≤ g.extent new Main
  pub no_longer : g.extent new Main ≤ max (g.extent old Main) (place_of block + BLOCK_BYTES)
  pub images : Changes g (SameOthers block (g.extent old Main)) Main old new
  pub one_block : (k : ℕ) → k < blocks_in (g.extent old Main) → k ≢ block → HasOneBlock k (images_of g old Main) →
      HasOneBlock k (images_of g new Main)

-- the headers stay, with what a coming flip needs of them
pub record KeepsHeaders {D : Type 0} (g : Ghosts D) (old new : D) : Type 0 where
  pub there : HasHeaders g new
  pub current : Changes g SameCurrent Main old new
  pub closes : (was_open : Bool) (twin : ℕ) → twin ≤ 1 → MayClose was_open twin (images_of g old Main) →
      MayClose was_open twin (images_of g new Main)

-- Main reads with these bytes at a place, and a crash leaves nothing else
pub record IsWritten {D : Type 0} (g : Ghosts D) (at : ℕ) (bytes : List ℕ) (old new : D) : Type 0 where
  pub written : g.content new Main ≡ option_map (overlay at bytes) (g.content old Main)
  pub synced : IsSynced g new Main

-- A range of the headers is written with these bytes and synced: all of it after Ok, up to the call that failed else.
-- Main is as long as it was, and the log stays.
pub record WritesHeaders {D : Type 0} (g : Ghosts D) (at : ℕ) (bytes : List ℕ) (old new : D)
    (result : Result (Unit {0}) BlockFault) : Type 0 where
  pub done : OnOk result (IsWritten g at bytes old new)
  pub headers : HasHeaders g new
  pub extent : g.extent new Main ≡ g.extent old Main
  pub alone : ChangesAlone g (TornWrite at (length bytes) (g.extent old Main)) Main old new
  pub calls : Makes g (synced_write Main at bytes) old new result

-- A twin's gate is closed, or was: after Ok it is closed in each image, and after a fault it may be closed again. The
-- current header of each image between is one at the start.
pub record ClosesGate {D : Type 0} (g : Ghosts D) (twin : ℕ) (was_open : Bool) (old new : D)
    (result : Result (Unit {0}) BlockFault) : Type 0 where
  pub writes : WritesHeaders g (gate_place twin) (closing_bytes was_open) old new result
  pub closed : OnOk result (IsClosed twin (images_of g new Main))
  pub again : MayClose was_open twin (images_of g new Main)
  pub current : Changes g SameCurrent Main old new

-- A twin's body is written while its gate is closed, and the gate stays so: after Ok each image has that body. The
-- current header of each image between is one at the start.
pub record WritesBody {D : Type 0} (g : Ghosts D) (twin : ℕ) (header : DbHeader) (old new : D)
    (result : Result (Unit {0}) BlockFault) : Type 0 where
  pub writes : WritesHeaders g (header_place twin) (body_bytes header) old new result
  pub closed : IsClosed twin (images_of g new Main)
  pub body : OnOk result (HasBody twin (body_bytes header) (images_of g new Main))
  pub one_body : OnOk result (HasOneBody twin (images_of g new Main))
  pub current : Changes g SameCurrent Main old new

-- A twin's gate is opened: after Ok it is open in each image. Where the twin's header overtakes the other, it is the
-- current one then, and the current header of each image between is one at the start or this.
pub record OpensGate {D : Type 0} (g : Ghosts D) (twin : ℕ) (old new : D)
    (result : Result (Unit {0}) BlockFault) : Type 0 where
  pub writes : WritesHeaders g (gate_place twin) (OPEN_GATE ∷ []) old new result
  pub open_gate : OnOk result (IsOpen twin (images_of g new Main))
  pub current : (header : DbHeader) → Overtakes twin header (images_of g old Main) →
      Changes g (SameCurrentOr twin header) Main old new
  pub this : OnOk result ((header : DbHeader) → Overtakes twin header (images_of g old Main) →
      HasCurrent twin header (images_of g new Main))

-- these calls of the disk were made: all of them after Ok, up to one that failed after its fault, none without memory
pub record MakesWithMemory {D : Type 0} (g : Ghosts D) (calls : List Call) (old new : D)
    (result : Result (Unit {0}) BlockFault) : Type 0 where
  pub done : OnOk result (Did calls (g.time old) (g.calls old) (g.time new) (g.calls new))
  pub failed : result ≡ Err DiskFault → Stopped calls (g.time old) (g.calls old) (g.time new) (g.calls new)
  pub memory : result ≡ Err OutOfMemory → new ≡ old

-- the log has no records, and a crash leaves nothing else of it
abbrev pub HasNewLog : {D : Type 0} → Ghosts D → D → Type 0
HasNewLog g disk = HoldsOnly g Wal (log_header_bytes 1) disk

-- the log is new, and Main begins as that of an empty database
pub record WritesFiles {D : Type 0} (g : Ghosts D) (old new : D) : Type 0 where
  pub log : HasNewLog g new
  pub main : IsWritten g 0 empty_main old new
  pub extent : g.extent new Main ≡ max (g.extent old Main) HEADERS_BYTES

-- the empty database is there, and a crash leaves nothing else: of this version, its current header in twin 0,
-- twin 1 closed
pub record IsCreated {D : Type 0} (g : Ghosts D) (old new : D) : Type 0 where
  pub main : IsWritten g 0 empty_main old new
  pub empty : g.extent old Main ≡ 0 → IfSome (g.content new Main) (λ main. main ≡ empty_main)
  pub extent : g.extent new Main ≡ max (g.extent old Main) HEADERS_BYTES
  pub log : HasNewLog g new
  pub version : (c : List ℕ) → images_of g new Main c → main_read (take HEADER_BYTES c) ≡ Ok VERSION
  pub current : HasCurrent 0 first_header (images_of g new Main)
  pub headers : HasHeaders g new
  pub second : IsClosed 1 (images_of g new Main)

-- the empty database is made: it is there after Ok; Main gets no shorter, and images of the past stay what they were
pub record Creates {D : Type 0} (g : Ghosts D) (old new : D) (result : Result (Unit {0}) BlockFault) : Type 0 where
  pub created : OnOk result (IsCreated g old new)
  pub no_shorter : g.extent old Main ≤ g.extent new Main
  pub earlier : Earlier g old new
