-- The effect of each call of a disk, over what the disk means: how a file reads, how long it is, the moment, and what
-- a crash at a moment could have left.
use Rattle.std.specs.Prelude.{◌≡◌, ◌⊎◌, ◌↔◌, ℕ, ◌+◌, ◌<◌, ◌≤◌, max, Bool, true, false, is_ok, List, length, take, Option, Some, Result, OnOk, OnErr, IsErr}
use Rattle.std.proofs.Common.{option_map}
use Rattle.dk_device.specs.declared.device.TheConstants.{LAST_MOMENT, MOST_BYTES}
use Rattle.dk_device.specs.declared.device.FileId.{FileId}
use Rattle.dk_device.specs.declared.calls.DiskCall.{DiskCall}
use Rattle.dk_device.specs.declared.calls.Request.{Request}
use Rattle.dk_device.specs.Disk.{other, overlay, TornWrite, TornCut, MayHappen, LeavesOther, SameImages, SameFiles, Elapses, with_call, call_at}

abbrev pub ContentOf : Type 0 → Type 0
ContentOf D = D → FileId → Option (List ℕ)

abbrev pub ExtentOf : Type 0 → Type 0
ExtentOf D = D → FileId → ℕ

abbrev pub LeftOf : Type 0 → Type 1
LeftOf D = D → ℕ → FileId → List ℕ → Type 0

-- nothing is changed: what both files read as, how long they are, and what a crash may leave of them
pub record KeepsAll {D : Type 0} (read : ContentOf D) (len : ExtentOf D) (time : D → ℕ) (left : LeftOf D)
    (old new : D) : Type 0 where
  pub content : SameFiles (read old) (read new)
  pub extent : SameFiles (len old) (len new)
  pub images : SameImages (left old (time old)) (left new (time new))

-- A file is written at a place: after Ok it reads with these bytes over what was there and past the end. A write that
-- fails may be done in part; one that would end too far fails with nothing changed.
pub record Writes {D T E : Type 0} (read : ContentOf D) (len : ExtentOf D) (time : D → ℕ) (left : LeftOf D)
    (file : FileId) (at : ℕ) (bytes : List ℕ) (old new : D) (result : Result T E) : Type 0 where
  pub written : OnOk result (read new file ≡ option_map (overlay at bytes) (read old file))
  pub grown : OnOk result (len new file ≡ max (len old file) (at + length bytes))
  pub no_shorter : len old file ≤ len new file
  pub no_longer : len new file ≤ max (len old file) (at + length bytes)
  pub too_far : MOST_BYTES < at + length bytes → IsErr result × KeepsAll read len time left old new
  pub crash : MayHappen (TornWrite at (length bytes) (len old file)) result (left old (time old) file)
      (left new (time new) file)
  pub other_file : LeavesOther file (read old) (read new) (len old) (len new) (left old (time old))
      (left new (time new))

-- A file is cut to a length: after Ok it reads as its front. A cut that fails may be done in part.
pub record Cuts {D T E : Type 0} (read : ContentOf D) (len : ExtentOf D) (time : D → ℕ) (left : LeftOf D)
    (file : FileId) (front : ℕ) (old new : D) (result : Result T E) : Type 0 where
  pub cut : OnOk result (read new file ≡ option_map (take front) (read old file))
  pub shrunk : OnOk result (len new file ≡ front)
  pub no_shorter : front ≤ len new file
  pub no_longer : len new file ≤ len old file
  pub crash : MayHappen (TornCut front) result (left old (time old) file) (left new (time new) file)
  pub other_file : LeavesOther file (read old) (read new) (len old) (len new) (left old (time old))
      (left new (time new))

-- A file is synced: after Ok a crash leaves of it what it reads as. It changes no content, and lets a crash leave
-- nothing that it couldn't leave before.
pub record Settles {D T E : Type 0} (read : ContentOf D) (len : ExtentOf D) (time : D → ℕ) (left : LeftOf D)
    (file : FileId) (old new : D) (result : Result T E) : Type 0 where
  pub durable : OnOk result ((c : List ℕ) → left new (time new) file c → read new file ≡ Some c)
  pub content : SameFiles (read old) (read new)
  pub extent : SameFiles (len old) (len new)
  pub crash : (c : List ℕ) → left new (time new) file c → left old (time old) file c
  pub other_images : (c : List ℕ) → left new (time new) (other file) c ↔ left old (time old) (other file) c

-- A call stands in the list behind those before it, as done after Ok. One that failed stands there as not done, or is
-- left out with nothing changed.
pub record Lists {D T E : Type 0} (read : ContentOf D) (len : ExtentOf D) (time : D → ℕ) (left : LeftOf D)
    (calls : D → Option (List DiskCall)) (file : FileId) (request : Request) (old new : D)
    (result : Result T E) : Type 0 where
  pub done : OnOk result (calls new ≡ with_call (call_at (time old) file request true) (calls old))
  pub failed : OnErr result ((calls new ≡ with_call (call_at (time old) file request false) (calls old))
      ⊎ ((calls new ≡ calls old) × KeepsAll read len time left old new))

-- why a call was done or not: for what the disk tells of it, and never at the last moment
pub record HasReason {T E : Type 0} (told : Type 0) (moment : ℕ) (result : Result T E) : Type 0 where
  pub reason : told
  pub ended : LAST_MOMENT ≤ moment → IsErr result

-- a call is made: time goes on by one, the list shows it, and it was done or not for a reason
pub record MakesCall {D T E : Type 0} (read : ContentOf D) (len : ExtentOf D) (now : D → ℕ) (left : LeftOf D)
    (listed : D → Option (List DiskCall)) (told : D → Request → Bool → D → Type 0) (file : FileId)
    (request : Request) (old new : D) (result : Result T E) : Type 0 where
  pub time : Elapses (now old) (now new) (left old) (left new)
  pub calls : Lists read len now left listed file request old new result
  pub reason : HasReason (told old request (is_ok result) new) (now old) result
