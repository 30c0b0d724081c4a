-- A disk in memory.
use Rattle.std.specs.Prelude.{◌≡◌, ◌⊎◌, ℕ, ◌+◌, ◌<◌, ◌≤◌, Bool, true, false, List, [], ◌∷◌, length, ◌==◌, Option, None, Some, Result, OnOk, OnErr}
use Rattle.std.specs.List.{list_any}
use Rattle.dk_fault.specs.declared.failed.Failed.{Failed}
use Rattle.dk_device.specs.declared.device.TheConstants.{LAST_MOMENT, MOST_BYTES}
use Rattle.dk_device.specs.declared.device.FileId.{FileId}
use Rattle.dk_device.specs.declared.device.FileId.TheVariants.{Main, Wal}
use Rattle.dk_device.specs.declared.calls.DiskCall.{DiskCall}
use Rattle.dk_device.specs.declared.calls.Request.{Request}
use Rattle.dk_device.specs.declared.calls.Request.TheVariants.{Read, Write, Cut, Sync}
use Rattle.dk_device.specs.declared.faults.Faults.{Faults}
use Rattle.dk_device.specs.declared.faults.Fault.{Fault}
use Rattle.dk_device.specs.declared.faults.Fault.TheVariants.{ListedMoment, NoMemory, LastMoment, PastEnd}
use Rattle.dk_fault.specs.Causes.{Rose}
use Rattle.dk_fault.specs.Counts.{next_count}
use Rattle.dk_device.specs.File.{FileState}
use Rattle.dk_device.specs.Replay.{History, content_after, after_call, after_unlisted_call}

pub record MemoryState : Type 0 where
  pub history : History
  pub failing : List ℕ
  pub faults : Faults

-- each of the calls began before this moment
abbrev pub IsInTime : ℕ → List DiskCall → Type 0
IsInTime moment [] = Unit {0}
IsInTime moment (call ∷ calls) = (call.moment < moment) × IsInTime moment calls

-- the files read as the calls made them
pub record Stands (main wal : FileState) (calls : List DiskCall) (moment : ℕ) : Type 0 where
  pub main_bytes : main.bytes ≡ content_after Main main.start calls
  pub wal_bytes : wal.bytes ≡ content_after Wal wal.start calls
  pub in_time : IsInTime moment calls
  pub bound : moment ≤ LAST_MOMENT

abbrev pub with_fault : Fault → Faults → Faults
with_fault ListedMoment faults = record faults { listed_moments = next_count faults.listed_moments }
with_fault NoMemory faults = record faults { refusals = next_count faults.refusals }
with_fault LastMoment faults = record faults { last_moments = next_count faults.last_moments }
with_fault PastEnd faults = record faults { past_ends = next_count faults.past_ends }

abbrev pub total : Faults → ℕ
total faults = faults.listed_moments + faults.refusals + faults.last_moments + faults.past_ends

-- a write that would end past the greatest length
abbrev pub PassesEnd : Request → Type 0
PassesEnd (Read at len) = ⊥
PassesEnd (Write at bytes) = MOST_BYTES < at + length bytes
PassesEnd (Cut len) = ⊥
PassesEnd Sync = ⊥

-- one of these moments
abbrev pub is_listed : List ℕ → ℕ → Bool
is_listed failing moment = list_any (λ y. y == moment) failing

-- why a call was done or not
abbrev pub Reason : MemoryState → Request → Bool → MemoryState → Type 0
Reason old request true new = (old.history.moment < LAST_MOMENT) × (is_listed old.failing old.history.moment ≡ false)
    × (PassesEnd request → ⊥)
Reason old request false new = (LAST_MOMENT ≤ old.history.moment)
    ⊎ ((is_listed old.failing old.history.moment ≡ true)
    ⊎ (PassesEnd request ⊎ Rose old.faults.refusals new.faults.refusals))

-- what a fault says of the call
abbrev pub FaultShows : List ℕ → ℕ → Request → Option Fault → Type 0
FaultShows failing moment request None = (is_listed failing moment ≡ false) × (PassesEnd request → ⊥)
FaultShows failing moment request (Some ListedMoment) = is_listed failing moment ≡ true
FaultShows failing moment request (Some NoMemory) = Unit {0}
FaultShows failing moment request (Some LastMoment) = ⊥
FaultShows failing moment request (Some PastEnd) = PassesEnd request

-- how a call went
pub record Performs (file : FileId) (request : Request) (r : Result (Unit {0}) Failed) (h h' : History) : Type 0 where
  pub done : OnOk r (h' ≡ after_call file request true h)
  pub not_done : OnErr r ((h' ≡ after_call file request false h) ⊎ (h' ≡ after_unlisted_call h))
  pub in_time : IsInTime h.moment h.calls
  pub bound : h.moment ≤ LAST_MOMENT
  pub later : h'.moment ≤ LAST_MOMENT
