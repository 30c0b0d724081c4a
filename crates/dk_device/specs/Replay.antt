-- What a list of calls makes of a file, and what a crash behind them may leave of it.
use Rattle.std.specs.Prelude.{◌≡◌, ℕ, ◌+◌, Bool, true, false, List, [], ◌∷◌, ◌++◌, length, take, nat_lt, nat_le, if◌then◌else◌}
use Rattle.std.specs.List.{filter}
use Rattle.dk_device.specs.declared.device.FileId.{FileId}
use Rattle.dk_device.specs.declared.device.FileId.TheVariants.{Main, Wal}
use Rattle.dk_device.specs.declared.calls.DiskCall.{DiskCall}
use Rattle.dk_device.specs.declared.calls.Request.{Request}
use Rattle.dk_device.specs.declared.calls.Request.TheVariants.{Read, Write, Cut, Sync}
use Rattle.dk_device.specs.Disk.{of_file, overlay, TornWrite, TornCut, next_moment, call_at}

-- the first where the two files are one, else the second
abbrev pub if_same {ℓ} : {T : Type ℓ} → FileId → FileId → T → T → T
if_same Main Main same differs = same
if_same Main Wal same differs = differs
if_same Wal Main same differs = differs
if_same Wal Wal same differs = same

-- what a call that is done makes of its file
abbrev pub effect : Request → List ℕ → List ℕ
effect (Read at len) old = old
effect (Write at bytes) old = overlay at bytes old
effect (Cut len) old = take len old
effect Sync old = old

-- what a crash may leave of its file, of which it might have left `before` and which reads `now`
abbrev pub MayLeaveBy : Request → List ℕ → List ℕ → List ℕ → Type 0
MayLeaveBy (Read at len) now before after = after ≡ before
MayLeaveBy (Write at bytes) now before after = TornWrite at (length bytes) (length now) before after
MayLeaveBy (Cut len) now before after = TornCut len before after
MayLeaveBy Sync now before after = after ≡ now

-- a call that is not done does nothing
abbrev pub effect_if : Bool → Request → List ℕ → List ℕ
effect_if true request old = effect request old
effect_if false request old = old

abbrev pub MayLeaveIf : Bool → Request → List ℕ → List ℕ → List ℕ → Type 0
MayLeaveIf true request now before after = MayLeaveBy request now before after
MayLeaveIf false request now before after = after ≡ before

-- nor does one for the other file
abbrev pub effect_on : Bool → FileId → FileId → Request → List ℕ → List ℕ
effect_on done file file_called request old = if_same file file_called (effect_if done request old) old

abbrev pub MayLeaveOf : Bool → FileId → FileId → Request → List ℕ → List ℕ → List ℕ → Type 0
MayLeaveOf done file file_called request now before after = if_same file file_called
    (MayLeaveIf done request now before after) (after ≡ before)

-- how a file reads behind these calls
abbrev pub content_after : FileId → List ℕ → List DiskCall → List ℕ
content_after file now [] = now
content_after file now (call ∷ calls) = content_after file (effect_on call.done file call.file call.request now) calls

-- what a crash behind these calls may leave of it
abbrev pub MayLeaveAfter : FileId → List ℕ → List ℕ → List DiskCall → List ℕ → Type 0
MayLeaveAfter file now image [] c = c ≡ image
MayLeaveAfter file now image (call ∷ calls) c = (next : List ℕ)
    × MayLeaveOf call.done file call.file call.request now image next
    × MayLeaveAfter file (effect_on call.done file call.file call.request now) next calls c

-- two files as they were at first, and the calls since
pub record History : Type 0 where
  pub main : List ℕ
  pub wal : List ℕ
  pub calls : List DiskCall
  pub moment : ℕ

abbrev pub start_of : History → FileId → List ℕ
start_of h file = of_file file h.main h.wal

-- the calls that began before a moment
abbrev pub calls_before : History → ℕ → List DiskCall
calls_before h k = if nat_le h.moment k then h.calls else filter (λ call. nat_lt call.moment k) h.calls

abbrev pub content_of : History → FileId → List ℕ
content_of h file = content_after file (start_of h file) h.calls

-- what a crash at a moment could have left
abbrev pub MayLeaveAt : History → ℕ → FileId → List ℕ → Type 0
MayLeaveAt h k file c = MayLeaveAfter file (start_of h file) (start_of h file) (calls_before h k) c

-- with one call more
abbrev pub after_call : FileId → Request → Bool → History → History
after_call file request done h = record h {
  calls = h.calls ++ call_at h.moment file request done ∷ [];
  moment = h.moment + 1;
}

-- with a call more that left nothing in the list
abbrev pub after_unlisted_call : History → History
after_unlisted_call h = record h { moment = next_moment h.moment }
