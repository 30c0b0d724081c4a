-- The content as it reads is one of what a crash may leave.
use Rattle.std.specs.Prelude.{◌≡◌, ℕ, ◌+◌, ◌-◌, min, Bool, true, false, List, [], ◌∷◌, ◌++◌, length, take, drop, Some, refl}
use Rattle.std.proofs.Common.{inl, inr, sym, ◌∙◌, ap, subst, arith, append_assoc, length-append, length-drop}
use Rattle.std.proofs.lemmas.Bool.{le-leb, cases_lt}
use Rattle.std.proofs.lemmas.List.{take_at, take_min, drop_at, drop_all, length-take}
use Rattle.dk_device.specs.declared.device.FileId.{FileId}
use Rattle.dk_device.specs.declared.device.FileId.TheVariants.{Main, Wal}
use Rattle.dk_device.specs.declared.calls.DiskCall.{DiskCall}
use Rattle.dk_device.specs.declared.calls.Request.{Request}
use Rattle.dk_device.specs.declared.calls.Request.TheVariants.{Read, Write, Cut, Sync}
use Rattle.dk_device.specs.Disk.{overlay, TornWrite, TornCut}
use Rattle.dk_device.specs.Replay.{History, MayLeaveOf, MayLeaveIf, MayLeaveBy, effect_on, effect_if, MayLeaveAfter, content_after, content_of, MayLeaveAt, start_of, calls_before}

pub length-overlaid : (at : ℕ) (bytes d : List ℕ) →
    length (overlay at bytes d) ≡ min at (length d) + length bytes + (length d - (at + length bytes))
length-overlaid at bytes d =
    length-append (take at d ++ bytes) (drop (at + length bytes) d)
    ∙ ap (λ n. n + length (drop (at + length bytes) d))
    (length-append (take at d) bytes ∙ ap (λ n. n + length bytes) (length-take at d))
    ∙ ap (λ n. min at (length d) + length bytes + n) (length-drop (at + length bytes) d)

pub back : (at : ℕ) (bytes d : List ℕ) → drop (at + length bytes) (overlay at bytes d) ≡ drop (at + length bytes) d
back at bytes d = elim (cases_lt (length d) at) [
  | inl short ↦
      drop_all (at + length bytes) (overlay at bytes d) (omega (arith, length-overlaid at bytes d))
      ∙ sym (drop_all (at + length bytes) d (omega arith))
  | inr long ↦
      drop_at (take at d ++ bytes) (drop (at + length bytes) d) (at + length bytes)
      (omega (arith, length-append (take at d) bytes, length-take at d))
]

-- a write that is done is one of its outcomes
pub torn_overlaid : (at extent : ℕ) (bytes d : List ℕ) → TornWrite at (length bytes) extent d (overlay at bytes d)
torn_overlaid at extent bytes d = record {
  before =
      ap (λ (l : List ℕ). take (min at (length d)) l) (append_assoc (take at d) bytes (drop (at + length bytes) d))
      ∙ take_at (take at d) (bytes ++ drop (at + length bytes) d) (min at (length d)) (length-take at d);
  after = λ within. back at bytes d;
  no_shorter = omega (arith, length-overlaid at bytes d);
  no_longer = omega (arith, length-overlaid at bytes d);
}

take-at-length : (len : ℕ) (d : List ℕ) → take (length (take len d)) d ≡ take len d
take-at-length len d = ap (λ n. take n d) (length-take len d) ∙ take_min len d

pub torn_take : (len : ℕ) (d : List ℕ) → TornCut len d (take len d)
torn_take len d = record {
  front = sym (take-at-length len d);
  no_shorter = omega (arith, length-take len d);
}

pub left_by : (request : Request) (now : List ℕ) → MayLeaveBy request now now (effect_if true request now)
left_by (Read at len) now = refl
left_by (Write at bytes) now = torn_overlaid at (length now) bytes now
left_by (Cut len) now = torn_take len now
left_by Sync now = refl

pub left_if : (done : Bool) (request : Request) (now : List ℕ) →
    MayLeaveIf done request now now (effect_if done request now)
left_if true request now = left_by request now
left_if false request now = refl

pub made_left : (done : Bool) (file file_called : FileId) (request : Request) (now : List ℕ) →
    MayLeaveOf done file file_called request now now (effect_on done file file_called request now)
made_left done Main Main request now = left_if done request now
made_left done Main Wal request now = refl
made_left done Wal Main request now = refl
made_left done Wal Wal request now = left_if done request now

reads_left : (file : FileId) (now : List ℕ) (calls : List DiskCall) →
    MayLeaveAfter file now now calls (content_after file now calls)
reads_left file now [] = refl
reads_left file now (call ∷ calls) =
    let next = effect_on call.done file call.file call.request now in
    (next, made_left call.done file call.file call.request now, reads_left file next calls)

pub content_is_left : (h : History) (f : FileId) → MayLeaveAt h h.moment f (content_of h f)
content_is_left h f =
    let all : calls_before h h.moment ≡ h.calls = rw (le-leb h.moment h.moment (omega arith)) in
    subst (λ (calls : List DiskCall). MayLeaveAfter f (start_of h f) (start_of h f) calls (content_of h f))
    (sym all) (reads_left f (start_of h f) h.calls)

pub content_told_left : (h : History) (f : FileId) (bytes : List ℕ) → Some (content_of h f) ≡ Some bytes →
    MayLeaveAt h h.moment f bytes
content_told_left h f bytes is =
    let same : content_of h f ≡ bytes = cc in
    subst (λ (l : List ℕ). MayLeaveAt h h.moment f l) same (content_is_left h f)
