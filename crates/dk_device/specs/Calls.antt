-- The calls of a disk that a call above it makes, one after the other.
use Rattle.std.specs.Prelude.{◌≡◌, ◌⊎◌, ℕ, true, false, List, [], ◌∷◌, ◌++◌, Option, Result, OnOk, OnErr}
use Rattle.dk_device.specs.declared.device.Disk.{Ghosts}
use Rattle.dk_device.specs.declared.device.FileId.{FileId}
use Rattle.dk_device.specs.declared.calls.DiskCall.{DiskCall}
use Rattle.dk_device.specs.declared.calls.Request.{Request}
use Rattle.dk_device.specs.declared.calls.Request.TheVariants.{Write, Cut, Sync}
use Rattle.dk_device.specs.Disk.{next_moment, with_call, call_at}

-- a file, and what a call for it is request
abbrev pub Call : Type 0
Call = FileId × Request

-- these calls were made from a moment on, and each was done
abbrev pub Did : List Call → ℕ → Option (List DiskCall) → ℕ → Option (List DiskCall) → Type 0
Did [] before old now new = (now ≡ before) × (new ≡ old)
Did (call ∷ calls) before old now new = Did calls (next_moment before)
    (with_call (call_at before call.0 call.1 true) old) now new

-- one of them failed, which the list may leave out; those before it were done, and those behind it were not begun
abbrev pub Stopped : List Call → ℕ → Option (List DiskCall) → ℕ → Option (List DiskCall) → Type 0
Stopped [] before old now new = ⊥
Stopped (call ∷ calls) before old now new =
    ((now ≡ next_moment before) × ((new ≡ with_call (call_at before call.0 call.1 false) old) ⊎ (new ≡ old)))
    ⊎ Stopped calls (next_moment before) (with_call (call_at before call.0 call.1 true) old) now new

-- these calls were made from the old state to the new one: all of them after Ok, up to the one that failed after an
-- error
pub record Makes {D T E : Type 0} (g : Ghosts D) (calls : List Call) (old new : D) (result : Result T E) : Type 0 where
  pub done : OnOk result (Did calls (g.time old) (g.calls old) (g.time new) (g.calls new))
  pub failed : OnErr result (Stopped calls (g.time old) (g.calls old) (g.time new) (g.calls new))

abbrev pub synced_write : FileId → ℕ → List ℕ → List Call
synced_write file at bytes = (file, Write at bytes) ∷ (file, Sync) ∷ []

abbrev pub synced_cut : FileId → ℕ → List Call
synced_cut file len = (file, Cut len) ∷ (file, Sync) ∷ []

-- a cut to nothing and a write, each with its sync
abbrev pub synced_replacement : FileId → List ℕ → List Call
synced_replacement file bytes = synced_cut file 0 ++ synced_write file 0 bytes
