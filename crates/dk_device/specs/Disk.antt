-- What the calls of a disk do to its two files, and what a crash may leave of each.
use Rattle.std.specs.Prelude.{◌≡◌, ◌⊎◌, ◌↔◌, ℕ, ◌+◌, ◌≤◌, min, max, Bool, List, [], ◌∷◌, ◌++◌, length, take, drop, Option, Result, OnOk}
use Rattle.std.proofs.Common.{option_map}
use Rattle.dk_device.specs.declared.device.TheConstants.{LAST_MOMENT}
use Rattle.dk_device.specs.declared.device.FileId.{FileId}
use Rattle.dk_device.specs.declared.device.FileId.TheVariants.{Main, Wal}
use Rattle.dk_device.specs.declared.calls.DiskCall.{DiskCall}
use Rattle.dk_device.specs.declared.calls.Request.{Request}

-- what stands for a file, of two
abbrev pub of_file : {T : Type 0} → FileId → T → T → T
of_file Main main wal = main
of_file Wal main wal = wal

-- the file that a call for this one leaves alone
abbrev pub other : FileId → FileId
other Main = Wal
other Wal = Main

-- the bytes with these over those at a place, and past the end
abbrev pub overlay : ℕ → List ℕ → List ℕ → List ℕ
overlay at bytes old = take at old ++ bytes ++ drop (at + length bytes) old

-- What a crash may leave after a write of n bytes to a file that reads as `extent` bytes, where it might have left
-- `old` before: any bytes in the range, the same elsewhere, and a length up to the range's end. A write that lengthens
-- the file makes its end an old one, past which any bytes may stand.
pub record TornWrite (at n extent : ℕ) (old new : List ℕ) : Type 0 where
  pub before : take (min at (length old)) new ≡ take at old
  pub after : at + n ≤ extent → drop (at + n) new ≡ drop (at + n) old
  pub no_shorter : length old ≤ length new
  pub no_longer : length new ≤ max (length old) (at + n)

-- What a crash may leave after a cut: a front of what it might have left before, no shorter than the new length.
pub record TornCut (n : ℕ) (old new : List ℕ) : Type 0 where
  pub front : new ≡ take (length new) old
  pub no_shorter : min n (length old) ≤ length new

-- What a crash may leave while a file is cut to nothing and written with n bytes: a front of what it might have left
-- before, or no more bytes than these.
abbrev pub FrontOrShort : ℕ → List ℕ → List ℕ → Type 0
FrontOrShort n old new = (new ≡ take (length new) old) ⊎ (length new ≤ n)

-- each image after a call is one from before it, after a step
abbrev pub Follows : (List ℕ → List ℕ → Type 0) → (List ℕ → Type 0) → (List ℕ → Type 0) → Type 0
Follows step old new = (c : List ℕ) → new c → (d : List ℕ) × old d × step d c

-- and each such step leads to one
abbrev pub Allows : (List ℕ → List ℕ → Type 0) → (List ℕ → Type 0) → (List ℕ → Type 0) → Type 0
Allows step old new = (d c : List ℕ) → old d → step d c → new c

-- A call may have happened or not: an image after it is one from before it, or one after a step. Where it answered
-- Ok, each such step leads to an image.
pub record MayHappen {T E : Type 0} (step : List ℕ → List ℕ → Type 0) (result : Result T E)
    (old new : List ℕ → Type 0) : Type 0 where
  pub follows : Follows step old new
  pub not_done : (c : List ℕ) → old c → new c
  pub allows : OnOk result (Allows step old new)

-- the file beside one that a call is for reads as before, is as long, and a crash leaves the same of it
pub record LeavesOther (file : FileId) (read read' : FileId → Option (List ℕ)) (len len' : FileId → ℕ)
    (left left' : FileId → List ℕ → Type 0) : Type 0 where
  pub content : read' (other file) ≡ read (other file)
  pub extent : len' (other file) ≡ len (other file)
  pub images : (c : List ℕ) → left' (other file) c ↔ left (other file) c

-- a crash leaves of each file what it might have left before, and nothing else
abbrev pub SameImages : (FileId → List ℕ → Type 0) → (FileId → List ℕ → Type 0) → Type 0
SameImages old new = (f : FileId) (c : List ℕ) → new f c ↔ old f c

-- both files as they were
abbrev pub SameFiles : {T : Type 0} → (FileId → T) → (FileId → T) → Type 0
SameFiles old new = (f : FileId) → new f ≡ old f

-- the moment after a call that begins at this one
abbrev pub next_moment : ℕ → ℕ
next_moment moment = min (moment + 1) LAST_MOMENT

-- Time goes on by one call, up to its end, and what a crash at an earlier moment could have left stays what it was.
pub record Elapses (before now : ℕ) (past since : ℕ → FileId → List ℕ → Type 0) : Type 0 where
  pub bound : before ≤ LAST_MOMENT
  pub next : now ≡ next_moment before
  pub same : (k : ℕ) (f : FileId) (c : List ℕ) → k ≤ before → since k f c ↔ past k f c

-- a list of calls, with one more
abbrev pub with_call : DiskCall → Option (List DiskCall) → Option (List DiskCall)
with_call call told = option_map (λ calls. calls ++ call ∷ []) told

-- a call of this kind that began at a moment, and whether it was done
abbrev pub call_at : ℕ → FileId → Request → Bool → DiskCall
call_at moment file request done = record { moment = moment; file = file; request = request; done = done }
