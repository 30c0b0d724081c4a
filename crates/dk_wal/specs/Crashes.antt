-- What the calls that change the log do to it, and what a crash leaves of it at each moment between: a record for each.
use Rattle.std.specs.Prelude.{◌≡◌, ◌⊎◌, ℕ, ◌+◌, ◌≤◌, ◌<◌, false, List, length, take, None, Some, Ok, IfSome}
use Rattle.std.proofs.Common.{option_map}
use Rattle.dk_device.specs.declared.device.Disk.{Ghosts}
use Rattle.dk_device.specs.declared.device.TheConstants.{LAST_MOMENT}
use Rattle.dk_device.specs.declared.device.FileId.TheVariants.{Wal}
use Rattle.dk_device.specs.Calls.{Call, synced_replacement}
use Rattle.dk_device.specs.Changes.{images_of, IsSynced, Changes, ChangesAlone, HoldsOnly}
use Rattle.dk_device.specs.Disk.{overlay, Follows}
use Rattle.dk_header.specs.LogLayout.{log_header_bytes}
use Rattle.dk_pages.specs.declared.log.LogCommit.{LogCommit}
use Rattle.dk_pages.specs.declared.tree.TableEntry.{TableEntry}
use Rattle.dk_wal.specs.declared.log_scan.Scan.{Scan}
use Rattle.dk_wal.specs.LogReading.{header_read, log_read, nothing, with_record}
use Rattle.dk_wal.specs.Logs.{tables_behind, IsFilled, IsRecord, HoldsNothing}
use Rattle.dk_wal.specs.Chance.{IsByChance, HasNoOther, HasSyncedWrites, unsynced_writes}

-- before the last moment no write of the log is without its sync
abbrev pub StaysSynced : {D : Type 0} → Ghosts D → D → Type 0
StaysSynced g disk = g.time disk < LAST_MOMENT → HasSyncedWrites g disk

-- ---- a record is appended

-- what a log says whose records fill it up to this end, and what it says with the record of one more commit
abbrev pub ForEachRecord : ℕ → List ℕ → List ℕ
    → (List TableEntry → ℕ → Scan → Scan → Type 0) → Type 0
ForEachRecord end bytes old Says = (tables : List TableEntry) (iteration : ℕ) (scan : Scan) (commit : LogCommit) →
    IsFilled tables iteration scan old → scan.end ≡ end → IsRecord (tables_behind tables scan.commits) commit bytes →
    Says tables iteration scan (with_record commit (length bytes) scan)

-- the new log says what the old one said, or that and this one record
abbrev pub SaysOneMoreAtMost : ℕ → List ℕ → List ℕ → List ℕ → Type 0
SaysOneMoreAtMost end bytes old new = ForEachRecord end bytes old (λ tables iteration scan more.
    (log_read tables iteration new ≡ Ok scan) ⊎ (log_read tables iteration new ≡ Ok more))

-- it says that and this one record, which fill it
abbrev pub SaysOneMore : ℕ → List ℕ → List ℕ → List ℕ → Type 0
SaysOneMore end bytes old new =
    ForEachRecord end bytes old (λ tables iteration scan more. IsFilled tables iteration more new)

-- the record stands at the end, and a crash leaves no log without it
pub record IsAppended {D : Type 0} (g : Ghosts D) (end : ℕ) (bytes : List ℕ) (old new : D) : Type 0 where
  pub written : g.content new Wal ≡ option_map (overlay end bytes) (g.content old Wal)
  pub extent : g.extent new Wal ≡ end + length bytes
  pub synced : IsSynced g new Wal
  pub recorded : Follows (SaysOneMore end bytes) (images_of g old Wal) (images_of g new Wal)
  pub writes : StaysSynced g new

-- A crash at each moment between leaves a log that says what one at the start said, or that and this one record: where
-- no other record stands at the end, and so in each image that holds no record by chance.
pub record AppendCrash {D : Type 0} (g : Ghosts D) (end : ℕ) (bytes : List ℕ) (old new : D) : Type 0 where
  pub images : Changes g (λ d c. HasNoOther end bytes c → SaysOneMoreAtMost end bytes d c) Wal old new
  pub by_calls : HasSyncedWrites g old → (k : ℕ) (c : List ℕ) → g.time old ≤ k → k ≤ g.time new
      → g.may_leave new k Wal c → IfSome (g.calls new) (λ calls.
      (IsByChance end (Some bytes) (unsynced_writes k calls) c → ⊥)
      → (d : List ℕ) × images_of g old Wal d × SaysOneMoreAtMost end bytes d c)

-- ---- a log is made or emptied

-- a cut to nothing and a header, each with its sync
abbrev pub log_reset : ℕ → List Call
log_reset iteration = synced_replacement Wal (log_header_bytes iteration)

-- a log of this iteration without records, and a crash leaves no other
pub record IsReset {D : Type 0} (g : Ghosts D) (iteration : ℕ) (disk : D) : Type 0 where
  pub log : HoldsOnly g Wal (log_header_bytes iteration) disk
  pub filled : (c : List ℕ) → images_of g disk Wal c → (tables : List TableEntry)
      → IsFilled tables iteration (nothing false) c
  pub writes : StaysSynced g disk

-- an empty or a stale log stays one
abbrev pub StaysEmpty : List ℕ → List ℕ → Type 0
StaysEmpty old new = (tables : List TableEntry) (iteration : ℕ) → HoldsNothing tables iteration old →
    HoldsNothing tables iteration new

-- a crash at each moment between leaves an empty or a stale log of one
abbrev pub ResetCrash : {D : Type 0} → Ghosts D → D → D → Type 0
ResetCrash g old new = ChangesAlone g StaysEmpty Wal old new

-- ---- a torn tail is cut

-- a log that is not stale and whose records end at or before a length says the same
abbrev pub SaysSame : ℕ → List ℕ → List ℕ → Type 0
SaysSame len old new = (tables : List TableEntry) (iteration : ℕ) (scan : Scan) →
    log_read tables iteration old ≡ Ok scan → scan.stale ≡ false → scan.bad ≡ None → scan.end ≤ len →
    log_read tables iteration new ≡ Ok scan

-- a log of this iteration whose records ended at the length says the same, and they fill it
abbrev pub FillsSame : ℕ → List ℕ → List ℕ → Type 0
FillsSame len old new = (tables : List TableEntry) (iteration : ℕ) (scan : Scan) →
    log_read tables iteration old ≡ Ok scan → header_read iteration old ≡ Ok false → scan.bad ≡ None →
    scan.end ≡ len → IsFilled tables iteration scan new

-- the log ends at a length, and a crash leaves no longer one
pub record IsCut {D : Type 0} (g : Ghosts D) (len : ℕ) (old new : D) : Type 0 where
  pub content : g.content new Wal ≡ option_map (take len) (g.content old Wal)
  pub extent : g.extent new Wal ≡ len
  pub synced : IsSynced g new Wal
  pub filled : Follows (FillsSame len) (images_of g old Wal) (images_of g new Wal)
  pub writes : StaysSynced g new

-- a crash at each moment between leaves a log that says the same
abbrev pub CutCrash : {D : Type 0} → Ghosts D → ℕ → D → D → Type 0
CutCrash g len old new = ChangesAlone g (SaysSame len) Wal old new
