-- Records that stand in the image of a crash by chance: bytes that no write was handed, and that read as a record.
use Rattle.std.specs.Prelude.{◌≡◌, ◌≢◌, ℕ, zero, suc, ◌+◌, ◌-◌, ◌≤◌, Bool, true, false, ◌&&◌, List, [], ◌∷◌, ◌++◌, take, drop, slice_get, Option, None, Some, IfSome, nat_le, nat_lt, ◌==◌}
use Rattle.std.specs.List.{list_any, filter}
use Rattle.dk_device.specs.declared.device.Disk.{Ghosts}
use Rattle.dk_device.specs.declared.device.FileId.TheVariants.{Wal}
use Rattle.dk_device.specs.declared.calls.DiskCall.{DiskCall}
use Rattle.dk_device.specs.declared.calls.Request.{Request}
use Rattle.dk_device.specs.declared.calls.Request.TheVariants.{Read, Write, Cut, Sync}
use Rattle.dk_device.specs.Replay.{if_same}
use Rattle.dk_header.specs.declared.log.TheConstants.{LOG_HEADER_BYTES}
use Rattle.dk_wal.specs.Records.{payload_at}
use Rattle.dk_wal.specs.LogReading.{record_len}

-- ---- records of an image, whatever their payloads are

-- a record stands whole at a place
abbrev pub StandsAt : List ℕ → ℕ → Type 0
StandsAt image place = (payload : List ℕ) × (payload_at (drop place image) ≡ Some payload)

-- the bytes of the record at a place
abbrev pub record_in : ℕ → List ℕ → List ℕ
record_in place image = take (record_len (drop place image)) (drop place image)

-- so many whole records lead from the first place to the second
abbrev pub Lead : ℕ → List ℕ → ℕ → ℕ → Type 0
Lead zero image from place = from ≡ place
Lead (suc n) image from place = StandsAt image from × Lead n image (from + record_len (drop from image)) place

-- reading takes the record at a place: whole records lead there from the header on, and one stands there
pub record IsTaken (image : List ℕ) (place : ℕ) : Type 0 where
  pub records : ℕ
  pub lead : Lead records image LOG_HEADER_BYTES place
  pub stands : StandsAt image place

-- ---- the writes that a crash may have torn

-- the place of a write, and its bytes
abbrev pub WalWrite : Type 0
WalWrite = ℕ × List ℕ

-- the writes of the log since its last sync, behind a call for it
abbrev pub unsynced_by : Bool → Request → List WalWrite → List WalWrite
unsynced_by done (Read at len) writes = writes
unsynced_by done (Write at bytes) writes = writes ++ (at, bytes) ∷ []
unsynced_by done (Cut len) writes = writes
unsynced_by true Sync writes = []
unsynced_by false Sync writes = writes

-- behind these calls
abbrev pub unsynced_after : List WalWrite → List DiskCall → List WalWrite
unsynced_after writes [] = writes
unsynced_after writes (call ∷ calls) =
    unsynced_after (if_same Wal call.file (unsynced_by call.done call.request writes) writes) calls

-- at a moment, by the calls that were begun before it
abbrev pub unsynced_writes : ℕ → List DiskCall → List WalWrite
unsynced_writes moment calls = unsynced_after [] (filter (λ call. nat_lt call.moment moment) calls)

abbrev pub is_byte : Option ℕ → ℕ → Bool
is_byte None byte = false
is_byte (Some b) byte = b == byte

-- one of these writes has this byte for a place
abbrev pub is_handed : List WalWrite → ℕ → ℕ → Bool
is_handed writes place byte =
    list_any (λ (w : WalWrite). nat_le w.0 place && is_byte (slice_get w.1 (place - w.0)) byte) writes

-- ---- chance

-- Behind the end of the last synced record reading takes a record of this image that is not the one whose append was
-- last begun there, and of which some byte was handed, for its place, to none of these writes.
pub record IsByChance (end : ℕ) (last : Option (List ℕ)) (writes : List WalWrite) (image : List ℕ) : Type 0 where
  pub place : ℕ
  pub behind : end ≤ place
  pub taken : IsTaken image place
  pub other : place ≡ end → Some (record_in place image) ≢ last
  pub at : ℕ
  pub byte : ℕ
  pub is : slice_get (record_in place image) at ≡ Some byte
  pub unknown : is_handed writes (place + at) byte ≡ false

-- where a record stands at the end, it is this one
abbrev pub HasNoOther : ℕ → List ℕ → List ℕ → Type 0
HasNoOther end bytes image = StandsAt image end → record_in end image ≡ bytes

-- from now on the calls so far have no write of the log without its sync
abbrev pub HasSyncedWrites : {D : Type 0} → Ghosts D → D → Type 0
HasSyncedWrites g disk = (k : ℕ) → g.time disk ≤ k → IfSome (g.calls disk) (λ calls. unsynced_writes k calls ≡ [])
