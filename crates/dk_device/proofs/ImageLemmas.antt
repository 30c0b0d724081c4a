-- An image that a test asks for is one that a crash may leave.
use Rattle.std.specs.Prelude.{◌≡◌, ℕ, Bool, true, false, List, [], ◌∷◌, length, replicate, refl}
use Rattle.std.proofs.Common.{sym, ◌∙◌, ap, subst}
use Rattle.std.proofs.lemmas.List.{length-replicate}
use Rattle.dk_device.specs.declared.device.FileId.{FileId}
use Rattle.dk_device.specs.declared.device.FileId.TheVariants.{Main, Wal}
use Rattle.dk_device.specs.declared.calls.DiskCall.{DiskCall}
use Rattle.dk_device.specs.declared.calls.Request.{Request}
use Rattle.dk_device.specs.declared.calls.Request.TheVariants.{Read, Write, Cut, Sync}
use Rattle.dk_device.specs.declared.image.Choice.{Choice}
use Rattle.dk_device.specs.declared.image.Choice.TheVariants.{Kept, Lost, Torn}
use Rattle.dk_device.specs.Disk.{overlay, TornWrite, TornCut}
use Rattle.dk_device.specs.Image.{written_by, cut_by, image_by, image_if, image_after, image_of}
use Rattle.dk_device.specs.ContentIsImage.{torn_overlaid, torn_take}
use Rattle.dk_device.specs.Memory.{MemoryState, IsInTime}
use Rattle.dk_device.specs.Replay.{History, MayLeaveBy, MayLeaveIf, MayLeaveOf, if_same, effect_on, MayLeaveAfter, MayLeaveAt, start_of, calls_before}
use Rattle.dk_device.proofs.ReplayLemmas.{before, calls_before-is}
use Rattle.dk_device.proofs.ChangeLemmas.{torn_same, cut_same}

torn_write : (choice : Choice) (at extent : ℕ) (bytes d : List ℕ)
    → TornWrite at (length bytes) extent d (written_by choice at bytes d)
torn_write Kept at extent bytes d = torn_overlaid at extent bytes d
torn_write Lost at extent bytes d = torn_same at (length bytes) extent d
torn_write (Torn byte) at extent bytes d =
    subst (λ n. TornWrite at n extent d (overlay at (replicate (length bytes) byte) d))
    (length-replicate (length bytes) byte) (torn_overlaid at extent (replicate (length bytes) byte) d)

torn_cut : (choice : Choice) (len : ℕ) (d : List ℕ) → TornCut len d (cut_by choice len d)
torn_cut Kept len d = torn_take len d
torn_cut Lost len d = cut_same len d
torn_cut (Torn byte) len d = torn_take len d

by_left : (choice : Choice) (request : Request) (now d : List ℕ)
    → MayLeaveBy request now d (image_by choice request now d)
by_left choice (Read at len) now d = refl
by_left choice (Write at bytes) now d = torn_write choice at (length now) bytes d
by_left choice (Cut len) now d = torn_cut choice len d
by_left choice Sync now d = refl

if_left : (done : Bool) (choice : Choice) (request : Request) (now d : List ℕ)
    → MayLeaveIf done request now d (image_if done choice request now d)
if_left true choice request now d = by_left choice request now d
if_left false choice request now d = refl

file_left : (done : Bool) (choice : Choice) (file file_called : FileId) (request : Request) (now d : List ℕ)
    → MayLeaveOf done file file_called request now d (if_same file file_called (image_if done choice request now d) d)
file_left done choice Main Main request now d = if_left done choice request now d
file_left done choice Main Wal request now d = refl
file_left done choice Wal Main request now d = refl
file_left done choice Wal Wal request now d = if_left done choice request now d

image_left : (choice : Choice) (file : FileId) (now d : List ℕ) (calls : List DiskCall)
    → MayLeaveAfter file now d calls (image_after choice file now d calls)
image_left choice file now d [] = refl
image_left choice file now d (call ∷ calls) =
    let next = if_same file call.file (image_if call.done choice call.request now d) d in (
      next,
      file_left call.done choice file call.file call.request now d,
      image_left choice file
          (effect_on call.done file call.file call.request now) next calls,
    )

pub image_of_left : (h : History) (moment : ℕ) (choice : Choice) (file : FileId)
    → MayLeaveAt h moment file (image_of h moment choice file)
image_of_left h moment choice file = image_left choice file (start_of h file) (start_of h file) (calls_before h moment)

-- the image behind the calls that began before a moment
pub chosen_is : (s : MemoryState) (start : List ℕ) (calls : List DiskCall) (moment : ℕ) (choice : Choice)
    (file : FileId) (image : List ℕ) → IsInTime s.history.moment s.history.calls
    → start ≡ start_of s.history file → calls ≡ s.history.calls
    → image ≡ image_after choice file start start (before moment calls)
    → image ≡ image_of s.history moment choice file
chosen_is s start calls moment choice file image all same_start same_calls is =
    is
    ∙ ap (λ (l : List ℕ). image_after choice file l l (before moment calls)) same_start
    ∙ ap (λ (l : List DiskCall). image_after choice file (start_of s.history file) (start_of s.history file) l)
    (ap (before moment) same_calls ∙ sym (calls_before-is s.history moment all))

pub is_left : (h : History) (moment : ℕ) (choice : Choice) (file : FileId) (image : List ℕ)
    → image ≡ image_of h moment choice file → MayLeaveAt h moment file image
is_left h moment choice file image is =
    subst (λ (l : List ℕ). MayLeaveAt h moment file l) (sym is) (image_of_left h moment choice file)
