-- What the caller of a call sees of it.
use Rattle.std.specs.Prelude.{◌≡◌, ◌⊎◌, ◌↔◌, ℕ, ◌+◌, ◌<◌, ◌≤◌, max, Bool, true, false, List, length, Result, Ok, Err, is_ok, IsErr, Option, Some, OnOk, OnErr, refl}
use Rattle.std.proofs.Common.{inl, inr, ⊎_elim, sym, ◌∙◌, ap, subst, arith}
use Rattle.std.proofs.lemmas.List.{length-take, length-take-le}
use Rattle.dk_fault.specs.declared.failed.Failed.{Failed}
use Rattle.dk_device.specs.declared.device.FileId.{FileId}
use Rattle.dk_device.specs.declared.device.FileId.TheVariants.{Main, Wal}
use Rattle.dk_device.specs.declared.calls.Request.{Request}
use Rattle.dk_device.specs.declared.calls.Request.TheVariants.{Read, Write, Cut, Sync}
use Rattle.dk_device.specs.declared.calls.DiskCall.{DiskCall}
use Rattle.dk_device.specs.Disk.{overlay, other, SameImages, SameFiles, Elapses, Follows, MayHappen, Allows, LeavesOther}
use Rattle.dk_device.specs.Effects.{KeepsAll, Writes, Cuts, Settles, Lists, HasReason, MakesCall}
use Rattle.dk_device.specs.declared.device.TheConstants.{LAST_MOMENT, MOST_BYTES}
use Rattle.dk_device.specs.ContentIsImage.{length-overlaid, content_is_left}
use Rattle.dk_device.specs.Memory.{MemoryState, IsInTime, Performs, Reason}
use Rattle.dk_device.specs.Replay.{History, MayLeaveIf, MayLeaveBy, effect, content_of, MayLeaveAt, after_call, after_unlisted_call}
use Rattle.dk_device.proofs.ChangeLemmas.{torn_same, cut_same}
use Rattle.dk_device.proofs.StepLemmas.{Now, follows, allows, other_images, content_called, other_content, elapses_called, same_images, same_content, elapses_unlisted}

-- in the list, done or not, or not in it
ways : (file : FileId) (request : Request) (r : Result (Unit {0}) Failed) (h h' : History)
    → Performs file request r h h'
    → ((h' ≡ after_call file request true h) ⊎ (h' ≡ after_call file request false h))
    ⊎ (h' ≡ after_unlisted_call h)
ways file request (Ok u) h h' went = inl (inl went.done)
ways file request (Err e) h h' went = ⊎_elim (λ is. inl (inr is)) (λ is. inr is) went.not_done

pub other_same : (file : FileId) (request : Request) (r : Result (Unit {0}) Failed) (h h' : History)
    → Performs file request r h h' → content_of h' (other file) ≡ content_of h (other file)
other_same file request r h h' went = elim (ways file request r h h' went) [
  | inl (inl is) ↦ other_content file request true h h' is
  | inl (inr is) ↦ other_content file request false h h' is
  | inr is ↦ same_content h h' is (other file)
]

pub other_left : (file : FileId) (request : Request) (r : Result (Unit {0}) Failed) (h h' : History)
    → Performs file request r h h' → (c : List ℕ) → Now h' (other file) c ↔ Now h (other file) c
other_left file request r h h' went c = elim (ways file request r h h' went) [
  | inl (inl is) ↦ other_images file request true h h' is c
  | inl (inr is) ↦ other_images file request false h h' is c
  | inr is ↦ same_images h h' is went.in_time went.bound (other file) c
]

pub elapses : (file : FileId) (request : Request) (r : Result (Unit {0}) Failed) (h h' : History)
    → Performs file request r h h' → Elapses h.moment h'.moment (MayLeaveAt h) (MayLeaveAt h')
elapses file request r h h' went = elim (ways file request r h h' went) [
  | inl (inl is) ↦ elapses_called file request true h h' is went.in_time went.later
  | inl (inr is) ↦ elapses_called file request false h h' is went.in_time went.later
  | inr is ↦ elapses_unlisted h h' is went.in_time went.bound
]

pub done_content : (file : FileId) (request : Request) (r : Result (Unit {0}) Failed) (h h' : History)
    → Performs file request r h h' → OnOk r (content_of h' file ≡ effect request (content_of h file))
done_content file request (Ok u) h h' went = content_called file request true h h' went.done
done_content file request (Err e) h h' went = tt

-- a call that failed changed nothing
failed_file : (file : FileId) (request : Request) (h h' : History)
    → (h' ≡ after_call file request false h) ⊎ (h' ≡ after_unlisted_call h) → content_of h' file ≡ content_of h file
failed_file file request h h' (inl is) = content_called file request false h h' is
failed_file file request h h' (inr is) = same_content h h' is file

either_file : (P : FileId → Type 0) (file : FileId) → P file → P (other file) → (f : FileId) → P f
either_file P Main here there Main = here
either_file P Main here there Wal = there
either_file P Wal here there Main = there
either_file P Wal here there Wal = here

pub failed_content : (file : FileId) (request : Request) (r : Result (Unit {0}) Failed) (h h' : History)
    → Performs file request r h h' → OnErr r (SameFiles (content_of h) (content_of h'))
failed_content file request (Ok u) h h' went = tt
failed_content file request (Err e) h h' went =
    either_file (λ f. content_of h' f ≡ content_of h f) file (failed_file file request h h' went.not_done)
    (other_same file request (Err e) h h' went)

same_left : (file : FileId) (request : Request) (done : Bool) (h h' : History)
    → h' ≡ after_call file request done h
    → ((d c : List ℕ) → MayLeaveIf done request (content_of h file) d c → c ≡ d)
    → ((d : List ℕ) → MayLeaveIf done request (content_of h file) d d) → (c : List ℕ) → Now h' file c ↔ Now h file c
same_left file request done h h' is same here c = (
  (λ left. let from = follows file request done h h' is c left in
      subst (λ (l : List ℕ). Now h file l) (sym (same from.0 c from.2)) from.1),
  (λ left. allows file request done h h' is c c left (here c)),
)

failed_here : (file : FileId) (request : Request) (h h' : History)
    → (h' ≡ after_call file request false h) ⊎ (h' ≡ after_unlisted_call h) → IsInTime h.moment h.calls
    → h.moment ≤ LAST_MOMENT
    → (c : List ℕ) → Now h' file c ↔ Now h file c
failed_here file request h h' (inl is) all bound c = same_left file request false h h' is (λ d c' e. e) (λ d. refl) c
failed_here file request h h' (inr is) all bound c = same_images h h' is all bound file c

pub failed_left : (file : FileId) (request : Request) (r : Result (Unit {0}) Failed) (h h' : History)
    → Performs file request r h h' → OnErr r (SameImages (Now h) (Now h'))
failed_left file request (Ok u) h h' went = tt
failed_left file request (Err e) h h' went =
    either_file (λ f. (c : List ℕ) → Now h' f c ↔ Now h f c) file
    (failed_here file request h h' went.not_done went.in_time went.bound)
    (other_left file request (Err e) h h' went)

-- a read changes nothing
read_here : (file : FileId) (at len : ℕ) (r : Result (Unit {0}) Failed) (h h' : History)
    → Performs file (Read at len) r h h' → (c : List ℕ) → Now h' file c ↔ Now h file c
read_here file at len (Ok u) h h' went c = same_left file (Read at len) true h h' went.done (λ d c' e. e) (λ d. refl) c
read_here file at len (Err e) h h' went c = failed_here file (Read at len) h h' went.not_done went.in_time went.bound c

pub read_left : (file : FileId) (at len : ℕ) (r : Result (Unit {0}) Failed) (h h' : History)
    → Performs file (Read at len) r h h' → SameImages (Now h) (Now h')
read_left file at len r h h' went =
    either_file (λ f. (c : List ℕ) → Now h' f c ↔ Now h f c) file (read_here file at len r h h' went)
    (other_left file (Read at len) r h h' went)

pub read_file : (file : FileId) (at len : ℕ) (r : Result (Unit {0}) Failed) (h h' : History)
    → Performs file (Read at len) r h h' → content_of h' file ≡ content_of h file
read_file file at len (Ok u) h h' went = content_called file (Read at len) true h h' went.done
read_file file at len (Err e) h h' went = failed_file file (Read at len) h h' went.not_done

pub read_content : (file : FileId) (at len : ℕ) (r : Result (Unit {0}) Failed) (h h' : History)
    → Performs file (Read at len) r h h' → SameFiles (content_of h) (content_of h')
read_content file at len r h h' went =
    either_file (λ f. content_of h' f ≡ content_of h f) file (read_file file at len r h h' went)
    (other_same file (Read at len) r h h' went)

-- nor does a sync
sync_file : (file : FileId) (r : Result (Unit {0}) Failed) (h h' : History) → Performs file Sync r h h'
    → content_of h' file ≡ content_of h file
sync_file file (Ok u) h h' went = content_called file Sync true h h' went.done
sync_file file (Err e) h h' went = failed_file file Sync h h' went.not_done

pub sync_content : (file : FileId) (r : Result (Unit {0}) Failed) (h h' : History) → Performs file Sync r h h'
    → SameFiles (content_of h) (content_of h')
sync_content file r h h' went =
    either_file (λ f. content_of h' f ≡ content_of h f) file (sync_file file r h h' went)
    (other_same file Sync r h h' went)

pub sync_durable : (file : FileId) (r : Result (Unit {0}) Failed) (h h' : History) → Performs file Sync r h h'
    → OnOk r ((c : List ℕ) → Now h' file c → Some (content_of h' file) ≡ Some c)
sync_durable file (Ok u) h h' went = λ c left.
    let from = follows file Sync true h h' went.done c left in
    ap Some (sync_file file (Ok u) h h' went ∙ sym from.2)
sync_durable file (Err e) h h' went = tt

pub sync_left : (file : FileId) (r : Result (Unit {0}) Failed) (h h' : History) → Performs file Sync r h h'
    → (c : List ℕ) → Now h' file c → Now h file c
sync_left file (Ok u) h h' went c left =
    let from = follows file Sync true h h' went.done c left in
    subst (λ (l : List ℕ). Now h file l) (sym from.2) (content_is_left h file)
sync_left file (Err e) h h' went c left = (failed_here file Sync h h' went.not_done went.in_time went.bound c).0 left

-- the file beside stays as it was
pub other_stays : (file : FileId) (request : Request) (r : Result (Unit {0}) Failed) (h h' : History)
    → Performs file request r h h'
    → LeavesOther file (λ f. Some (content_of h f)) (λ f. Some (content_of h' f)) (λ f. length (content_of h f))
    (λ f. length (content_of h' f)) (Now h) (Now h')
other_stays file request r h h' went = record {
  content = ap Some (other_same file request r h h' went);
  extent = ap length (other_same file request r h h' went);
  images = other_left file request r h h' went;
}

-- what a call leaves is a step from what it could leave before
crashes : (file : FileId) (request : Request) (r : Result (Unit {0}) Failed) (h h' : History)
    → Performs file request r h h'
    → ((d : List ℕ) → MayLeaveBy request (content_of h file) d d)
    → Follows (MayLeaveBy request (content_of h file)) (Now h file) (Now h' file)
crashes file request (Ok u) h h' went here c left = follows file request true h h' went.done c left
crashes file request (Err e) h h' went here c left =
    (c, (failed_here file request h h' went.not_done went.in_time went.bound c).0 left, here c)

pub allowed : (file : FileId) (request : Request) (r : Result (Unit {0}) Failed) (h h' : History)
    → Performs file request r h h'
    → OnOk r (Allows (MayLeaveBy request (content_of h file)) (Now h file) (Now h' file))
allowed file request (Ok u) h h' went = allows file request true h h' went.done
allowed file request (Err e) h h' went = tt

stays : (file : FileId) (request : Request) (r : Result (Unit {0}) Failed) (h h' : History)
    → Performs file request r h h' → ((d : List ℕ) → MayLeaveBy request (content_of h file) d d)
    → (c : List ℕ) → Now h file c → Now h' file c
stays file request (Ok u) h h' went here c left = allows file request true h h' went.done c c left (here c)
stays file request (Err e) h h' went here c left =
    (failed_here file request h h' went.not_done went.in_time went.bound c).1 left

pub may_happen : (file : FileId) (request : Request) (r : Result (Unit {0}) Failed) (h h' : History)
    → Performs file request r h h'
    → ((d : List ℕ) → MayLeaveBy request (content_of h file) d d)
    → MayHappen (MayLeaveBy request (content_of h file)) r (Now h file) (Now h' file)
may_happen file request r h h' went here = record {
  follows = crashes file request r h h' went here;
  not_done = stays file request r h h' went here;
  allows = allowed file request r h h' went;
}

pub on_ok : {T E P Q : Type 0} (r : Result T E) → (P → Q) → OnOk r P → OnOk r Q
on_ok (Ok x) f p = f p
on_ok (Err e) f p = tt

-- lengths
pub grown : (at : ℕ) (bytes d : List ℕ) → at ≤ length d
    → length (overlay at bytes d) ≡ max (length d) (at + length bytes)
grown at bytes d le = omega (arith, length-overlaid at bytes d, le)

pub write_length : (file : FileId) (at : ℕ) (bytes : List ℕ) (r : Result (Unit {0}) Failed) (h h' : History)
    → Performs file (Write at bytes) r h h' → at ≤ length (content_of h file)
    → (length (content_of h file) ≤ length (content_of h' file))
    × (length (content_of h' file) ≤ max (length (content_of h file)) (at + length bytes))
write_length file at bytes (Ok u) h h' went le =
    let is = ap length (content_called file (Write at bytes) true h h' went.done)
    ∙ grown at bytes (content_of h file) le in
    (omega (arith, is), omega (arith, is))
write_length file at bytes (Err e) h h' went le =
    let is = ap length (failed_file file (Write at bytes) h h' went.not_done) in
    (omega (arith, is), omega (arith, is))

pub cut_length : (file : FileId) (len : ℕ) (r : Result (Unit {0}) Failed) (h h' : History)
    → Performs file (Cut len) r h h' → len ≤ length (content_of h file)
    → (len ≤ length (content_of h' file)) × (length (content_of h' file) ≤ length (content_of h file))
cut_length file len (Ok u) h h' went le =
    let is = ap length (content_called file (Cut len) true h h' went.done) ∙ length-take len (content_of h file) in
    (omega (arith, is), omega (arith, is))
cut_length file len (Err e) h h' went le =
    let is = ap length (failed_file file (Cut len) h h' went.not_done) in
    (omega (arith, is), omega (arith, is))

-- what a disk in memory means
abbrev pub read : MemoryState → FileId → Option (List ℕ)
read s f = Some (content_of s.history f)

abbrev pub len : MemoryState → FileId → ℕ
len s f = length (content_of s.history f)

abbrev pub time : MemoryState → ℕ
time s = s.history.moment

abbrev pub left : MemoryState → ℕ → FileId → List ℕ → Type 0
left s = MayLeaveAt s.history

abbrev pub calls : MemoryState → Option (List DiskCall)
calls s = Some s.history.calls

keeps : (s s' : MemoryState) → SameFiles (content_of s.history) (content_of s'.history)
    → SameImages (Now s.history) (Now s'.history) → KeepsAll read len time left s s'
keeps s s' same images =
    record { content = λ f. ap Some (same f); extent = λ f. ap length (same f); images = images }

-- a call that failed keeps all
pub failed_keeps : (file : FileId) (request : Request) (r : Result (Unit {0}) Failed) (s s' : MemoryState)
    → Performs file request r s.history s'.history → OnErr r (KeepsAll read len time left s s')
failed_keeps file request (Ok u) s s' went = tt
failed_keeps file request (Err e) s s' went =
    keeps s s' (failed_content file request (Err e) s.history s'.history went)
    (failed_left file request (Err e) s.history s'.history went)

-- so does a read
pub read_keeps : (file : FileId) (at n : ℕ) (r : Result (Unit {0}) Failed) (s s' : MemoryState)
    → Performs file (Read at n) r s.history s'.history → KeepsAll read len time left s s'
read_keeps file at n r s s' went =
    keeps s s' (read_content file at n r s.history s'.history went) (read_left file at n r s.history s'.history went)

-- the call in the list
lists : (file : FileId) (request : Request) (r : Result (Unit {0}) Failed) (s s' : MemoryState)
    → Performs file request r s.history s'.history → Lists read len time left calls file request s s' r
lists file request (Ok u) s s' went =
    record { done = ap (λ (h : History). Some h.calls) went.done; failed = tt }
lists file request (Err e) s s' went = record {
  done = tt;
  failed = elim went.not_done [
    | inl is ↦ inl (ap (λ (h : History). Some h.calls) is)
    | inr is ↦ inr (ap (λ (h : History). Some h.calls) is, failed_keeps file request (Err e) s s' went)
  ];
}

-- a write that would pass the end does nothing
too_far : (file : FileId) (at : ℕ) (bytes : List ℕ) (r : Result (Unit {0}) Failed) (s s' : MemoryState)
    → Performs file (Write at bytes) r s.history s'.history → Reason s (Write at bytes) (is_ok r) s'
    → MOST_BYTES < at + length bytes → IsErr r × KeepsAll read len time left s s'
too_far file at bytes (Ok u) s s' went told far = absurd (told.2 far)
too_far file at bytes (Err e) s s' went told far = (refl, failed_keeps file (Write at bytes) (Err e) s s' went)

pub writes : (file : FileId) (at : ℕ) (bytes : List ℕ) (r : Result (Unit {0}) Failed) (s s' : MemoryState)
    → Performs file (Write at bytes) r s.history s'.history → Reason s (Write at bytes) (is_ok r) s'
    → at ≤ length (content_of s.history file) → Writes read len time left file at bytes s s' r
writes file at bytes r s s' went told le =
    let done = done_content file (Write at bytes) r s.history s'.history went in
    let bounds = write_length file at bytes r s.history s'.history went le in
    record {
      written = on_ok r (λ is. ap Some is) done;
      grown = on_ok r (λ is. ap length is ∙ grown at bytes (content_of s.history file) le) done;
      no_shorter = bounds.0;
      no_longer = bounds.1;
      too_far = too_far file at bytes r s s' went told;
      crash = may_happen file (Write at bytes) r s.history s'.history went
          (torn_same at (length bytes) (length (content_of s.history file)));
      other_file = other_stays file (Write at bytes) r s.history s'.history went;
    }

pub cuts : (file : FileId) (front : ℕ) (r : Result (Unit {0}) Failed) (s s' : MemoryState)
    → Performs file (Cut front) r s.history s'.history → front ≤ length (content_of s.history file)
    → Cuts read len time left file front s s' r
cuts file front r s s' went le =
    let done = done_content file (Cut front) r s.history s'.history went in
    let bounds = cut_length file front r s.history s'.history went le in
    record {
      cut = on_ok r (λ is. ap Some is) done;
      shrunk = on_ok r (λ is. ap length is ∙ length-take-le front (content_of s.history file) le) done;
      no_shorter = bounds.0;
      no_longer = bounds.1;
      crash = may_happen file (Cut front) r s.history s'.history went (cut_same front);
      other_file = other_stays file (Cut front) r s.history s'.history went;
    }

pub settles : (file : FileId) (r : Result (Unit {0}) Failed) (s s' : MemoryState)
    → Performs file Sync r s.history s'.history → Settles read len time left file s s' r
settles file r s s' went =
    let same = sync_content file r s.history s'.history went in
    record {
      durable = sync_durable file r s.history s'.history went;
      content = λ f. ap Some (same f);
      extent = λ f. ap length (same f);
      crash = sync_left file r s.history s'.history went;
      other_images = other_left file Sync r s.history s'.history went;
    }

-- at the last moment no call is done
at_end : (request : Request) (r : Result (Unit {0}) Failed) (s s' : MemoryState)
    → Reason s request (is_ok r) s' → LAST_MOMENT ≤ s.history.moment → IsErr r
at_end request (Ok u) s s' told ended = absurd (omega (arith, told.0, ended))
at_end request (Err e) s s' told ended = refl

has_reason : (request : Request) (r : Result (Unit {0}) Failed) (s s' : MemoryState)
    → Reason s request (is_ok r) s' → HasReason (Reason s request (is_ok r) s') s.history.moment r
has_reason request r s s' told = record { reason = told; ended = at_end request r s s' told }

pub makes_call : (file : FileId) (request : Request) (r : Result (Unit {0}) Failed) (s s' : MemoryState)
    → Performs file request r s.history s'.history → Reason s request (is_ok r) s'
    → MakesCall read len time left calls Reason file request s s' r
makes_call file request r s s' went told = record {
  time = elapses file request r s.history s'.history went;
  calls = lists file request r s s' went;
  reason = has_reason request r s s' told;
}
