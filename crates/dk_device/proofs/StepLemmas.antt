-- What a call does to the files of a disk in memory, and to what a crash may leave of them.
use Rattle.std.specs.Prelude.{◌≡◌, ◌↔◌, ℕ, ◌+◌, ◌≤◌, Bool, List, [], ◌∷◌, ◌++◌, refl}
use Rattle.std.proofs.Common.{sym, ◌∙◌, ap, subst, arith}
use Rattle.std.proofs.lemmas.Bool.{le-leb}
use Rattle.dk_device.specs.declared.device.TheConstants.{LAST_MOMENT}
use Rattle.dk_device.specs.declared.device.FileId.{FileId}
use Rattle.dk_device.specs.declared.device.FileId.TheVariants.{Main, Wal}
use Rattle.dk_device.specs.declared.calls.DiskCall.{DiskCall}
use Rattle.dk_device.specs.declared.calls.Request.{Request}
use Rattle.dk_device.specs.Disk.{call_at, next_moment, other, SameImages, SameFiles, Elapses, Follows, Allows}
use Rattle.dk_device.specs.Memory.{IsInTime}
use Rattle.dk_device.specs.Replay.{History, MayLeaveIf, MayLeaveOf, effect_if, effect_on, MayLeaveAfter, content_of, MayLeaveAt, start_of, calls_before, after_call, after_unlisted_call}
use Rattle.dk_device.proofs.ReplayLemmas.{content-push, left-push, left-pop, before-push_late, calls_before-is, in_time-later, in_time-push}

-- what a crash now may leave
abbrev pub Now : History → FileId → List ℕ → Type 0
Now h f c = MayLeaveAt h h.moment f c

all_now : (h : History) → calls_before h h.moment ≡ h.calls
all_now h = rw (le-leb h.moment h.moment (omega arith)) refl

pub from_now : (h : History) (f : FileId) (c : List ℕ) → Now h f c
    → MayLeaveAfter f (start_of h f) (start_of h f) h.calls c
from_now h f c left = subst (λ (calls : List DiskCall). MayLeaveAfter f (start_of h f) (start_of h f) calls c)
    (all_now h) left

pub to_now : (h : History) (f : FileId) (c : List ℕ) → MayLeaveAfter f (start_of h f) (start_of h f) h.calls c
    → Now h f c
to_now h f c left = subst (λ (calls : List DiskCall). MayLeaveAfter f (start_of h f) (start_of h f) calls c)
    (sym (all_now h)) left

at_same : (file : FileId) (request : Request) (done : Bool) (now d c : List ℕ)
    → MayLeaveOf done file file request now d c → MayLeaveIf done request now d c
at_same Main request done now d c is = is
at_same Wal request done now d c is = is

to_same : (file : FileId) (request : Request) (done : Bool) (now d c : List ℕ) → MayLeaveIf done request now d c
    → MayLeaveOf done file file request now d c
to_same Main request done now d c is = is
to_same Wal request done now d c is = is

at_other : (file : FileId) (request : Request) (done : Bool) (now d c : List ℕ)
    → MayLeaveOf done (other file) file request now d c → c ≡ d
at_other Main request done now d c is = is
at_other Wal request done now d c is = is

to_other : (file : FileId) (request : Request) (done : Bool) (now d : List ℕ)
    → MayLeaveOf done (other file) file request now d d
to_other Main request done now d = refl
to_other Wal request done now d = refl

-- a call in the list
pub follows : (file : FileId) (request : Request) (done : Bool) (h h' : History)
    → h' ≡ after_call file request done h
    → Follows (MayLeaveIf done request (content_of h file)) (Now h file) (Now h' file)
follows file request done h h' is =
    subst (λ (g : History). Follows (MayLeaveIf done request (content_of h file)) (Now h file) (Now g file))
    (sym is) (λ c left. there c (from_now (after_call file request done h) file c left))
  where
    there : (c : List ℕ)
        → MayLeaveAfter file (start_of h file) (start_of h file)
        (h.calls ++ call_at h.moment file request done ∷ []) c
        → (d : List ℕ) × Now h file d × MayLeaveIf done request (content_of h file) d c
    there c left =
        let popped = left-pop file (start_of h file) (start_of h file) h.calls (call_at h.moment file request done)
        c left in
        (popped.0, to_now h file popped.0 popped.1, at_same file request done (content_of h file) popped.0 c popped.2)

pub allows : (file : FileId) (request : Request) (done : Bool) (h h' : History)
    → h' ≡ after_call file request done h
    → Allows (MayLeaveIf done request (content_of h file)) (Now h file) (Now h' file)
allows file request done h h' is =
    subst (λ (g : History). Allows (MayLeaveIf done request (content_of h file)) (Now h file) (Now g file))
    (sym is) (λ d c left step.
    to_now (after_call file request done h) file c
    (left-push file (start_of h file) (start_of h file) h.calls (call_at h.moment file request done) d c
    (from_now h file d left) (to_same file request done (content_of h file) d c step)))

pub other_images : (file : FileId) (request : Request) (done : Bool) (h h' : History)
    → h' ≡ after_call file request done h → (c : List ℕ) → Now h' (other file) c ↔ Now h (other file) c
other_images file request done h h' is c =
    subst (λ (g : History). Now g (other file) c ↔ Now h (other file) c) (sym is) (forth, back)
  where
    forth : Now (after_call file request done h) (other file) c → Now h (other file) c
    forth left =
        let popped = left-pop (other file) (start_of h (other file)) (start_of h (other file)) h.calls
        (call_at h.moment file request done) c
        (from_now (after_call file request done h) (other file) c left) in
        to_now h (other file) c
        (subst (λ (l : List ℕ). MayLeaveAfter (other file) (start_of h (other file)) (start_of h (other file))
        h.calls l) (sym (at_other file request done (content_of h (other file)) popped.0 c popped.2)) popped.1)

    back : Now h (other file) c → Now (after_call file request done h) (other file) c
    back left = to_now (after_call file request done h) (other file) c
        (left-push (other file) (start_of h (other file)) (start_of h (other file)) h.calls
        (call_at h.moment file request done) c c (from_now h (other file) c left)
        (to_other file request done (content_of h (other file)) c))

pub content_called : (file : FileId) (request : Request) (done : Bool) (h h' : History)
    → h' ≡ after_call file request done h → content_of h' file ≡ effect_if done request (content_of h file)
content_called file request done h h' is =
    ap (λ (g : History). content_of g file) is
    ∙ content-push file (start_of h file) h.calls (call_at h.moment file request done) ∙ same file
  where
    same : (f : FileId) → effect_on done f f request (content_of h file) ≡ effect_if done request (content_of h file)
    same Main = refl
    same Wal = refl

pub other_content : (file : FileId) (request : Request) (done : Bool) (h h' : History)
    → h' ≡ after_call file request done h → content_of h' (other file) ≡ content_of h (other file)
other_content file request done h h' is =
    ap (λ (g : History). content_of g (other file)) is
    ∙ content-push (other file) (start_of h (other file)) h.calls (call_at h.moment file request done)
    ∙ same file
  where
    same : (f : FileId) → effect_on done (other f) f request (content_of h (other file)) ≡ content_of h (other file)
    same Main = refl
    same Wal = refl

pub elapses_called : (file : FileId) (request : Request) (done : Bool) (h h' : History)
    → h' ≡ after_call file request done h → IsInTime h.moment h.calls → h'.moment ≤ LAST_MOMENT
    → Elapses h.moment h'.moment (MayLeaveAt h) (MayLeaveAt h')
elapses_called file request done h h' is all bound = record {
  bound = let m : h'.moment ≡ h.moment + 1 = ap (λ (g : History). g.moment) is in omega (arith, bound, m);
  next = let m : h'.moment ≡ h.moment + 1 = ap (λ (g : History). g.moment) is in omega (arith, bound, m);
  same = λ k f c le. subst (λ (g : History). MayLeaveAt g k f c ↔ MayLeaveAt h k f c) (sym is) (both k f c le);
}
  where
    in_time : IsInTime (h.moment + 1) (h.calls ++ call_at h.moment file request done ∷ [])
    in_time = in_time-push (h.moment + 1) h.calls (call_at h.moment file request done)
        (in_time-later h.moment (h.moment + 1) h.calls (omega arith) all) (omega arith)

    same_calls : (k : ℕ) → k ≤ h.moment → calls_before (after_call file request done h) k ≡ calls_before h k
    same_calls k le = calls_before-is (after_call file request done h) k in_time
        ∙ before-push_late k h.calls (call_at h.moment file request done) le ∙ sym (calls_before-is h k all)

    both : (k : ℕ) (f : FileId) (c : List ℕ) → k ≤ h.moment
        → MayLeaveAt (after_call file request done h) k f c ↔ MayLeaveAt h k f c
    both k f c le = (
      (λ left. subst (λ (l : List DiskCall). MayLeaveAfter f (start_of h f) (start_of h f) l c) (same_calls k le) left),
      (λ left. subst (λ (l : List DiskCall). MayLeaveAfter f (start_of h f) (start_of h f) l c)
          (sym (same_calls k le)) left),
    )

-- a call that left nothing in the list
pub same_images : (h h' : History) → h' ≡ after_unlisted_call h → IsInTime h.moment h.calls
    → h.moment ≤ LAST_MOMENT → SameImages (Now h) (Now h')
same_images h h' is all bound f c =
    subst (λ (g : History). Now g f c ↔ Now h f c) (sym is) (
      (λ left. to_now h f c (from_now (after_unlisted_call h) f c left)),
      (λ left. to_now (after_unlisted_call h) f c (from_now h f c left)),
    )

pub same_content : (h h' : History) → h' ≡ after_unlisted_call h → SameFiles (content_of h) (content_of h')
same_content h h' is f = ap (λ (g : History). content_of g f) is

pub elapses_unlisted : (h h' : History) → h' ≡ after_unlisted_call h → IsInTime h.moment h.calls
    → h.moment ≤ LAST_MOMENT → Elapses h.moment h'.moment (MayLeaveAt h) (MayLeaveAt h')
elapses_unlisted h h' is all bound = record {
  bound = bound;
  next = ap (λ (g : History). g.moment) is;
  same = λ k f c le. subst (λ (g : History). MayLeaveAt g k f c ↔ MayLeaveAt h k f c) (sym is) (both k f c);
}
  where
    same_calls : (k : ℕ) → calls_before (after_unlisted_call h) k ≡ calls_before h k
    same_calls k = calls_before-is (after_unlisted_call h) k
        (in_time-later h.moment (next_moment h.moment) h.calls (omega (arith, bound)) all)
        ∙ sym (calls_before-is h k all)

    both : (k : ℕ) (f : FileId) (c : List ℕ) → MayLeaveAt (after_unlisted_call h) k f c ↔ MayLeaveAt h k f c
    both k f c = (
      (λ left. subst (λ (l : List DiskCall). MayLeaveAfter f (start_of h f) (start_of h f) l c) (same_calls k) left),
      (λ left. subst (λ (l : List DiskCall). MayLeaveAfter f (start_of h f) (start_of h f) l c)
          (sym (same_calls k)) left),
    )
