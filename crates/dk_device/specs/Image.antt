-- The images of a disk in memory that a test asks for.
use Rattle.std.specs.Prelude.{ℕ, Bool, true, false, List, [], ◌∷◌, length, take, replicate}
use Rattle.dk_device.specs.declared.device.FileId.{FileId}
use Rattle.dk_device.specs.declared.calls.DiskCall.{DiskCall}
use Rattle.dk_device.specs.declared.calls.Request.{Request}
use Rattle.dk_device.specs.declared.calls.Request.TheVariants.{Read, Write, Cut, Sync}
use Rattle.dk_device.specs.declared.image.Choice.{Choice}
use Rattle.dk_device.specs.declared.image.Choice.TheVariants.{Kept, Lost, Torn}
use Rattle.dk_device.specs.Disk.{overlay}
use Rattle.dk_device.specs.Replay.{History, if_same, effect_on, start_of, calls_before}

-- what a write leaves: all of its bytes, none, or each replaced by this one
abbrev pub written_by : Choice → ℕ → List ℕ → List ℕ → List ℕ
written_by Kept at bytes image = overlay at bytes image
written_by Lost at bytes image = image
written_by (Torn byte) at bytes image = overlay at (replicate (length bytes) byte) image

-- what a cut leaves
abbrev pub cut_by : Choice → ℕ → List ℕ → List ℕ
cut_by Kept len image = take len image
cut_by Lost len image = image
cut_by (Torn byte) len image = take len image

-- a sync leaves what a read gives
abbrev pub image_by : Choice → Request → List ℕ → List ℕ → List ℕ
image_by choice (Read at len) now image = image
image_by choice (Write at bytes) now image = written_by choice at bytes image
image_by choice (Cut len) now image = cut_by choice len image
image_by choice Sync now image = now

abbrev pub image_if : Bool → Choice → Request → List ℕ → List ℕ → List ℕ
image_if true choice request now image = image_by choice request now image
image_if false choice request now image = image

-- the image behind these calls
abbrev pub image_after : Choice → FileId → List ℕ → List ℕ → List DiskCall → List ℕ
image_after choice file now image [] = image
image_after choice file now image (call ∷ calls) =
    image_after choice file (effect_on call.done file call.file call.request now)
    (if_same file call.file (image_if call.done choice call.request now image) image) calls

-- the image of a crash at a moment
abbrev pub image_of : History → ℕ → Choice → FileId → List ℕ
image_of h moment choice file = image_after choice file (start_of h file) (start_of h file) (calls_before h moment)
