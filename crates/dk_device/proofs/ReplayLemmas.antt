-- One call more, in the list of a disk in memory.
use Rattle.std.specs.Prelude.{◌≡◌, ℕ, ◌+◌, ◌<◌, ◌≤◌, Bool, List, [], ◌∷◌, ◌++◌, nat_lt, refl}
use Rattle.std.proofs.Common.{inl, inr, sym, ◌∙◌, ap, subst, arith}
use Rattle.std.proofs.lemmas.Bool.{le-leb, lt-leb, lt-ltb, le-ltb, cases_lt}
use Rattle.std.proofs.lemmas.List.{append-nil}
use Rattle.std.proofs.lemmas.List.Elements.{filter-append}
use Rattle.std.specs.List.{filter}
use Rattle.dk_device.specs.declared.device.TheConstants.{LAST_MOMENT}
use Rattle.dk_device.specs.declared.device.FileId.{FileId}
use Rattle.dk_device.specs.declared.device.FileId.TheVariants.{Main, Wal}
use Rattle.dk_device.specs.declared.calls.DiskCall.{DiskCall}
use Rattle.dk_device.specs.declared.calls.Request.{Request}
use Rattle.dk_device.specs.Disk.{call_at}
use Rattle.dk_device.specs.File.{FileState}
use Rattle.dk_device.specs.Memory.{IsInTime, Stands}
use Rattle.dk_device.specs.Replay.{History, MayLeaveOf, effect_on, MayLeaveAfter, content_after, calls_before}

pub content-push : (file : FileId) (now : List ℕ) (calls : List DiskCall) (call : DiskCall)
    → content_after file now (calls ++ call ∷ []) ≡ effect_on call.done file call.file call.request
    (content_after file now calls)
content-push file now [] call = refl
content-push file now (first ∷ calls) call =
    content-push file (effect_on first.done file first.file first.request now) calls call

pub left-push : (file : FileId) (now image : List ℕ) (calls : List DiskCall) (call : DiskCall) (e c : List ℕ)
    → MayLeaveAfter file now image calls e
    → MayLeaveOf call.done file call.file call.request (content_after file now calls) e c
    → MayLeaveAfter file now image (calls ++ call ∷ []) c
left-push file now image [] call e c is step =
    (c, subst (λ (l : List ℕ). MayLeaveOf call.done file call.file call.request now l c) is step, refl)
left-push file now image (first ∷ calls) call e c (next, here, rest) step =
    (next, here, left-push file (effect_on first.done file first.file first.request now) next calls call e c rest step)

pub left-pop : (file : FileId) (now image : List ℕ) (calls : List DiskCall) (call : DiskCall) (c : List ℕ)
    → MayLeaveAfter file now image (calls ++ call ∷ []) c
    → (e : List ℕ) × MayLeaveAfter file now image calls e × MayLeaveOf call.done file call.file call.request
    (content_after file now calls) e c
left-pop file now image [] call c (next, step, is) = (
  image,
  refl,
  subst (λ (l : List ℕ). MayLeaveOf call.done file call.file call.request now image l) (sym is)
      step,
)
left-pop file now image (first ∷ calls) call c (next, here, rest) =
    let popped = left-pop file (effect_on first.done file first.file first.request now) next calls call c rest in
    (popped.0, (next, here, popped.1), popped.2)

pub in_time-later : (m n : ℕ) (calls : List DiskCall) → m ≤ n → IsInTime m calls → IsInTime n calls
in_time-later m n [] le all = tt
in_time-later m n (call ∷ calls) le all = (omega (arith, all.0), in_time-later m n calls le all.1)

pub in_time-push : (m : ℕ) (calls : List DiskCall) (call : DiskCall) → IsInTime m calls → call.moment < m
    → IsInTime m (calls ++ call ∷ [])
in_time-push m [] call all lt = (lt, tt)
in_time-push m (first ∷ calls) call all lt = (all.0, in_time-push m calls call all.1 lt)

abbrev pub before : ℕ → List DiskCall → List DiskCall
before k calls = filter (λ call. nat_lt call.moment k) calls

pub before_all : (k : ℕ) (calls : List DiskCall) → IsInTime k calls → before k calls ≡ calls
before_all k [] all = refl
before_all k (call ∷ calls) all =
    rw (lt-ltb call.moment k all.0) (ap (λ (l : List DiskCall). call ∷ l) (before_all k calls all.1))

pub before-push_late : (k : ℕ) (calls : List DiskCall) (call : DiskCall) → k ≤ call.moment
    → before k (calls ++ call ∷ []) ≡ before k calls
before-push_late k calls call le =
    let none : before k (call ∷ []) ≡ [] = rw (le-ltb call.moment k le) refl in
    filter-append _ calls (call ∷ []) ∙ ap (λ (l : List DiskCall). before k calls ++ l) none
    ∙ append-nil (before k calls)

-- the calls before any moment
pub calls_before-is : (h : History) (k : ℕ) → IsInTime h.moment h.calls → calls_before h k ≡ before k h.calls
calls_before-is h k all = elim (cases_lt k h.moment) [
  | inl past ↦ rw (lt-leb h.moment k past) refl
  | inr now ↦ rw (le-leb h.moment k now) (sym (before_all k h.calls (in_time-later h.moment k h.calls now all)))
]

pub stands_later : (main wal : FileState) (calls : List DiskCall) (m n : ℕ) → m ≤ n → n ≤ LAST_MOMENT
    → Stands main wal calls m → Stands main wal calls n
stands_later main wal calls m n le bound stands = record {
  main_bytes = stands.main_bytes;
  wal_bytes = stands.wal_bytes;
  in_time = in_time-later m n calls le stands.in_time;
  bound = bound;
}

-- what a file reads as, with one call more
bytes_called : (f : FileId) (old new : FileState) (calls calls' : List DiskCall) (m : ℕ) (file : FileId)
    (request : Request) (done : Bool) → old.bytes ≡ content_after f old.start calls → new.start ≡ old.start
    → new.bytes ≡ effect_on done f file request old.bytes → calls' ≡ calls ++ call_at m file request done ∷ []
    → new.bytes ≡ content_after f new.start calls'
bytes_called f old new calls calls' m file request done reads start bytes is =
    let call = call_at m file request done in
    bytes
    ∙ ap (λ (l : List ℕ). effect_on done f file request l) reads
    ∙ sym (content-push f old.start calls call)
    ∙ ap (λ (l : List ℕ). content_after f l (calls ++ call ∷ [])) (sym start)
    ∙ ap (λ (l : List DiskCall). content_after f new.start l) (sym is)

pub stands_called : (main wal main' wal' : FileState) (calls calls' : List DiskCall) (m : ℕ) (file : FileId)
    (request : Request) (done : Bool) → Stands main wal calls m → m < LAST_MOMENT
    → main'.start ≡ main.start → wal'.start ≡ wal.start → main'.bytes ≡ effect_on done Main file request main.bytes
    → wal'.bytes ≡ effect_on done Wal file request wal.bytes
    → calls' ≡ calls ++ call_at m file request done ∷ [] → Stands main' wal' calls' (m + 1)
stands_called main wal main' wal' calls calls' m file request done stands lt main_start wal_start main_bytes
    wal_bytes is =
    let call = call_at m file request done in
    record {
      main_bytes = bytes_called Main main main' calls calls' m file request done stands.main_bytes main_start
          main_bytes is;
      wal_bytes = bytes_called Wal wal wal' calls calls' m file request done stands.wal_bytes wal_start wal_bytes is;
      in_time = subst (λ (l : List DiskCall). IsInTime (m + 1) l) (sym is)
          (in_time-push (m + 1) calls call (in_time-later m (m + 1) calls (omega arith) stands.in_time)
          (omega arith));
      bound = omega arith;
    }
