-- What a crash may leave of both files, at each moment, while one of them is changed.
use Rattle.std.specs.Prelude.{◌≡◌, ◌↔◌, ℕ, ◌<◌, ◌≤◌, List, Some, IfSome, length, get_or}
use Rattle.dk_device.specs.declared.device.Disk.{Ghosts}
use Rattle.dk_device.specs.declared.device.FileId.{FileId}
use Rattle.dk_device.specs.Disk.{other, SameFiles, SameImages}

-- what a crash now may leave of a file
abbrev pub images_of : {D : Type 0} → Ghosts D → D → FileId → List ℕ → Type 0
images_of g disk file c = g.may_leave disk (g.time disk) file c

-- all that a crash now may leave of a file is its content
abbrev pub IsSynced : {D : Type 0} → Ghosts D → D → FileId → Type 0
IsSynced g disk file = (c : List ℕ) → images_of g disk file c → g.content disk file ≡ Some c

-- time doesn't go back, and what a crash up to the first moment could have left stays what it was
pub record Earlier {D : Type 0} (g : Ghosts D) (old new : D) : Type 0 where
  pub later : g.time old ≤ g.time new
  pub same : (k : ℕ) (f : FileId) (c : List ℕ) → k ≤ g.time old → g.may_leave new k f c ↔ g.may_leave old k f c

-- A file alone is changed: at each moment between, a crash leaves of it what a step makes of an image at the start,
-- and of the other file what it might have left at the start.
pub record Changes {D : Type 0} (g : Ghosts D) (step : List ℕ → List ℕ → Type 0) (file : FileId)
    (old new : D) : Type 0 where
  pub inside : (k : ℕ) (c : List ℕ) → g.time old ≤ k → k ≤ g.time new → g.may_leave new k file c →
      (d : List ℕ) × images_of g old file d × step d c
  pub outside : (k : ℕ) (c : List ℕ) → g.time old ≤ k → k ≤ g.time new → g.may_leave new k (other file) c
      ↔ images_of g old (other file) c
  pub earlier : Earlier g old new

-- nothing is changed: what both files read as, their lengths, and what a crash may leave of them
pub record Looks {D : Type 0} (g : Ghosts D) (old new : D) : Type 0 where
  pub content : SameFiles (g.content old) (g.content new)
  pub extent : SameFiles (g.extent old) (g.extent new)
  pub images : SameImages (images_of g old) (images_of g new)
  pub earlier : Earlier g old new

-- a file alone is changed, by this step in what a crash may leave of it; the other reads as before
pub record ChangesAlone {D : Type 0} (g : Ghosts D) (step : List ℕ → List ℕ → Type 0) (file : FileId)
    (old new : D) : Type 0 where
  pub content : g.content new (other file) ≡ g.content old (other file)
  pub extent : g.extent new (other file) ≡ g.extent old (other file)
  pub images : Changes g step file old new

-- a file has these bytes and no others, and a crash leaves nothing else of it
pub record HoldsOnly {D : Type 0} (g : Ghosts D) (file : FileId) (bytes : List ℕ) (disk : D) : Type 0 where
  pub content : IfSome (g.content disk file) (λ c. c ≡ bytes)
  pub extent : g.extent disk file ≡ length bytes
  pub synced : IsSynced g disk file

-- a length that a call may have changed in part: from the lower to the higher of these
pub record IsWithin (low high length : ℕ) : Type 0 where
  pub no_shorter : low ≤ length
  pub no_longer : length ≤ high

-- no shorter, and the same byte at each of these places
pub record SamePlaces (kept : ℕ → Type 0) (old new : List ℕ) : Type 0 where
  pub no_shorter : length old ≤ length new
  pub same : (place : ℕ) → kept place → place < length old → get_or new place 0 ≡ get_or old place 0

-- a file alone is changed, and keeps the bytes at these places
abbrev pub KeepsPlaces : {D : Type 0} → Ghosts D → (ℕ → Type 0) → FileId → D → D → Type 0
KeepsPlaces g kept file old new = Changes g (SamePlaces kept) file old new
