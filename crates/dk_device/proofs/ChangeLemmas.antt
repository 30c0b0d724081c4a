-- A file is changed by several calls, one after the other.
use Rattle.std.specs.Prelude.{◌≡◌, ◌⊎◌, ◌↔◌, ℕ, ◌+◌, ◌-◌, ◌<◌, ◌≤◌, min, List, length, take, drop, get_or, Result, refl}
use Rattle.std.proofs.Common.{inl, inr, sym, ◌∙◌, ap, subst, arith, length-drop}
use Rattle.std.proofs.lemmas.Bool.{cases_lt}
use Rattle.std.proofs.lemmas.List.{length-take, take_all, take_min, get_or-take, get_or-drop, ext_get_or}
use Rattle.dk_device.specs.declared.device.Disk.{Ghosts}
use Rattle.dk_device.specs.declared.device.FileId.{FileId}
use Rattle.dk_device.specs.Disk.{TornWrite, TornCut, Follows, MayHappen, LeavesOther, Elapses, SameFiles, SameImages, other}
use Rattle.dk_device.specs.Effects.{KeepsAll, Settles}
use Rattle.dk_device.specs.Changes.{images_of, IsSynced, Earlier, Changes, ChangesAlone, Looks, SamePlaces, KeepsPlaces}

iff_then : {A B C : Type 0} → A ↔ B → B ↔ C → A ↔ C
iff_then p q = (λ a. q.0 (p.0 a), λ c. p.1 (q.1 c))

abbrev pub Step : Type 1
Step = List ℕ → List ℕ → Type 0

module _ {D : Type 0} (g : Ghosts D) where
  pub earlier_one : (a b : D) → Elapses (g.time a) (g.time b) (g.may_leave a) (g.may_leave b) → Earlier g a b
  earlier_one a b time = record { later = omega (arith, time.next, time.bound); same = time.same }

  pub earlier_same : (a : D) → Earlier g a a
  earlier_same a = record { later = omega arith; same = λ k f c upto. (λ x. x, λ x. x) }

  pub earlier_then : (a b c : D) → Earlier g a b → Earlier g b c → Earlier g a c
  earlier_then a b c first second = record {
    later = omega (arith, first.later, second.later);
    same = λ k f e upto. iff_then (second.same k f e (omega (arith, first.later))) (first.same k f e upto);
  }

  -- one call
  pub changes_one : (S : Step) (file : FileId) (a b : D) → ((d : List ℕ) → S d d)
      → Elapses (g.time a) (g.time b) (g.may_leave a) (g.may_leave b)
      → Follows S (g.may_leave a (g.time a) file) (g.may_leave b (g.time b) file)
      → ((c : List ℕ) → g.may_leave b (g.time b) (other file) c ↔ g.may_leave a (g.time a) (other file) c)
      → Changes g S file a b
  changes_one S file a b here time crash left =
      record { inside = inside; outside = outside; earlier = earlier_one a b time }
    where
      inside : (k : ℕ) (c : List ℕ) → g.time a ≤ k → k ≤ g.time b → g.may_leave b k file c
          → (d : List ℕ) × images_of g a file d × S d c
      inside k c from upto now = elim (cases_lt (g.time a) k) [
        | inl after ↦
            let is : k ≡ g.time b = omega (arith, time.next) in
            crash c (subst (λ j. g.may_leave b j file c) is now)
        | inr before ↦
            let is : k ≡ g.time a = omega arith in
            (c, subst (λ j. g.may_leave a j file c) is ((time.same k file c before).0 now), here c)
      ]

      outside : (k : ℕ) (c : List ℕ) → g.time a ≤ k → k ≤ g.time b
          → g.may_leave b k (other file) c ↔ images_of g a (other file) c
      outside k c from upto = elim (cases_lt (g.time a) k) [
        | inl after ↦
            let is : g.time b ≡ k = omega (arith, time.next) in
            subst (λ j. g.may_leave b j (other file) c ↔ g.may_leave a (g.time a) (other file) c) is (left c)
        | inr before ↦
            let is : g.time a ≡ k = omega arith in
            subst (λ j. g.may_leave b j (other file) c ↔ g.may_leave a (g.time a) (other file) c) is
            (time.same (g.time a) (other file) c (omega arith))
      ]

  -- the same is a step
  pub changes_none : (S : Step) (file : FileId) (a : D) → ((d : List ℕ) → S d d) → Changes g S file a a
  changes_none S file a here = record {
    inside = λ k c from upto left. let is : k ≡ g.time a = omega (arith, from, upto) in
        (c, subst (λ j. g.may_leave a j file c) is left, here c);
    outside = λ k c from upto. let is : g.time a ≡ k = omega (arith, from, upto) in
        subst (λ j. g.may_leave a j (other file) c ↔ g.may_leave a (g.time a) (other file) c) is (λ x. x, λ x. x);
    earlier = earlier_same a;
  }

  -- a call that leaves of a file only what might have been left before it
  pub changes_by_sync : (file : FileId) (a b : D) → Elapses (g.time a) (g.time b) (g.may_leave a) (g.may_leave b)
      → ((c : List ℕ) → g.may_leave b (g.time b) file c → g.may_leave a (g.time a) file c)
      → ((c : List ℕ) → g.may_leave b (g.time b) (other file) c ↔ g.may_leave a (g.time a) (other file) c)
      → Changes g (λ d c. c ≡ d) file a b
  changes_by_sync file a b time crash left =
      changes_one (λ d c. c ≡ d) file a b (λ d. refl) time (λ c now. (c, crash c now, refl)) left

  -- one after the other: the first alone, and the second behind it
  pub changes_then : (S T U : Step) (file : FileId) (a b c : D)
      → ((x y : List ℕ) → images_of g a file x → S x y → U x y)
      → ((x y z : List ℕ) → images_of g a file x → images_of g b file y → S x y → T y z → U x z)
      → Changes g S file a b → Changes g T file b c → Changes g U file a c
  changes_then S T U file a b c alone both first second =
      record { inside = inside; outside = outside; earlier = earlier_then a b c first.earlier second.earlier }
    where
      inside : (k : ℕ) (e : List ℕ) → g.time a ≤ k → k ≤ g.time c → g.may_leave c k file e
          → (d : List ℕ) × images_of g a file d × U d e
      inside k e from upto left = elim (cases_lt (g.time b) k) [
        | inl after ↦
            let behind = second.inside k e (omega arith) upto left in
            let start = first.inside (g.time b) behind.0 first.earlier.later (omega arith) behind.1 in
            (start.0, start.1, both start.0 behind.0 e start.1 behind.1 start.2 behind.2)
        | inr before ↦
            let start = first.inside k e from before ((second.earlier.same k file e before).0 left) in
            (start.0, start.1, alone start.0 e start.1 start.2)
      ]

      outside : (k : ℕ) (e : List ℕ) → g.time a ≤ k → k ≤ g.time c
          → g.may_leave c k (other file) e ↔ images_of g a (other file) e
      outside k e from upto = elim (cases_lt (g.time b) k) [
        | inl after ↦ iff_then (second.outside k e (omega arith) upto)
            (first.outside (g.time b) e first.earlier.later (omega arith))
        | inr before ↦ iff_then (second.earlier.same k (other file) e before) (first.outside k e from before)
      ]

  -- what a step makes of an image at the start, told otherwise
  pub changes_less : (S T : Step) (file : FileId) (a b : D)
      → ((d c : List ℕ) → images_of g a file d → S d c → T d c) → Changes g S file a b → Changes g T file a b
  changes_less S T file a b less changes = record {
    inside = λ k c from upto left. let start = changes.inside k c from upto left in
        (start.0, start.1, less start.0 c start.1 start.2);
    outside = changes.outside;
    earlier = changes.earlier;
  }

  -- an image at the end
  pub changes_now : (S : Step) (file : FileId) (a b : D) → Changes g S file a b
      → Follows S (images_of g a file) (images_of g b file)
  changes_now S file a b changes c left = changes.inside (g.time b) c changes.earlier.later (omega arith) left

  -- the other file stays synced
  pub synced_other : (S : Step) (file : FileId) (a b : D) → Changes g S file a b
      → g.content b (other file) ≡ g.content a (other file) → IsSynced g a (other file) → IsSynced g b (other file)
  synced_other S file a b changes same synced c left = same
      ∙ synced c ((changes.outside (g.time b) c changes.earlier.later (omega arith)).0 left)

  -- a call that may be done in part, and the sync behind it
  pub changes_synced : (S : Step) (file : FileId) (a b c : D) → Changes g S file a b
      → Changes g (λ d e. e ≡ d) file b c → Changes g S file a c
  changes_synced S file a b c first second =
      changes_then S (λ d e. e ≡ d) S file a b c (λ x y left step. step)
      (λ x y z left behind step is. subst (λ (l : List ℕ). S x l) (sym is) step) first second

  -- one call that changes nothing
  pub looks_one : (a b : D) → SameFiles (g.content a) (g.content b) → SameFiles (g.extent a) (g.extent b)
      → SameImages (g.may_leave a (g.time a)) (g.may_leave b (g.time b))
      → Elapses (g.time a) (g.time b) (g.may_leave a) (g.may_leave b) → Looks g a b
  looks_one a b content extent images time =
      record { content = content; extent = extent; images = images; earlier = earlier_one a b time }

  -- a read
  pub looks_read : (a b : D) → KeepsAll g.content g.extent g.time g.may_leave a b
      → Elapses (g.time a) (g.time b) (g.may_leave a) (g.may_leave b) → Looks g a b
  looks_read a b same time = looks_one a b same.content same.extent same.images time

  -- no call
  pub looks_none : (a : D) → Looks g a a
  looks_none a = record {
    content = λ f. refl;
    extent = λ f. refl;
    images = λ f c. (λ x. x, λ x. x);
    earlier = earlier_same a;
  }

  -- one call changes a file alone
  pub alone_one : (S : Step) (file : FileId) (a b : D) → ((d : List ℕ) → S d d)
      → LeavesOther file (g.content a) (g.content b) (g.extent a) (g.extent b) (g.may_leave a (g.time a))
      (g.may_leave b (g.time b))
      → Elapses (g.time a) (g.time b) (g.may_leave a) (g.may_leave b)
      → Follows S (g.may_leave a (g.time a) file) (g.may_leave b (g.time b) file)
      → ChangesAlone g S file a b
  alone_one S file a b here beside time crash = record {
    content = beside.content;
    extent = beside.extent;
    images = changes_one S file a b here time crash beside.images;
  }

  -- its step told otherwise
  pub alone_less : (S T : Step) (file : FileId) (a b : D)
      → ((d c : List ℕ) → images_of g a file d → S d c → T d c) → ChangesAlone g S file a b → ChangesAlone g T file a b
  alone_less S T file a b less alone = record {
    content = alone.content;
    extent = alone.extent;
    images = changes_less S T file a b less alone.images;
  }

  -- one after the other: the first alone, and the second behind it
  pub alone_then : (S T U : Step) (file : FileId) (a b c : D)
      → ((x y : List ℕ) → images_of g a file x → S x y → U x y)
      → ((x y z : List ℕ) → images_of g a file x → images_of g b file y → S x y → T y z → U x z)
      → ChangesAlone g S file a b → ChangesAlone g T file b c → ChangesAlone g U file a c
  alone_then S T U file a b c alone both first second = record {
    content = second.content ∙ first.content;
    extent = second.extent ∙ first.extent;
    images = changes_then S T U file a b c alone both first.images second.images;
  }

  -- and so does the sync behind it
  pub alone_synced : (S : Step) (file : FileId) (a b c : D) → ChangesAlone g S file a b
      → SameFiles (g.content b) (g.content c) → SameFiles (g.extent b) (g.extent c)
      → Elapses (g.time b) (g.time c) (g.may_leave b) (g.may_leave c)
      → ((e : List ℕ) → g.may_leave c (g.time c) file e → g.may_leave b (g.time b) file e)
      → ((e : List ℕ) → g.may_leave c (g.time c) (other file) e ↔ g.may_leave b (g.time b) (other file) e)
      → ChangesAlone g S file a c
  alone_synced S file a b c first content extent time crash left = record {
    content = content (other file) ∙ first.content;
    extent = extent (other file) ∙ first.extent;
    images = changes_synced S file a b c first.images (changes_by_sync file b c time crash left);
  }

  pub alone_settled : {T E : Type 0} {r : Result T E} (S : Step) (file : FileId) (a b c : D)
      → ChangesAlone g S file a b → Settles g.content g.extent g.time g.may_leave file b c r
      → Elapses (g.time b) (g.time c) (g.may_leave b) (g.may_leave c) → ChangesAlone g S file a c
  alone_settled S file a b c first settles time =
      alone_synced S file a b c first settles.content settles.extent time settles.crash settles.other_images

  pub keeps_then : (kept : ℕ → Type 0) (file : FileId) (a b c : D) → KeepsPlaces g kept file a b
      → KeepsPlaces g kept file b c → KeepsPlaces g kept file a c
  keeps_then kept file a b c first second =
      changes_then (SamePlaces kept) (SamePlaces kept) (SamePlaces kept) file a b c (λ x y left step. step)
      (λ x y z left behind one two. same_then kept x y z one two) first second
    where
      same_then : (kept : ℕ → Type 0) (x y z : List ℕ) → SamePlaces kept x y → SamePlaces kept y z → SamePlaces kept x z
      same_then kept x y z one two = record {
        no_shorter = omega (arith, one.no_shorter, two.no_shorter);
        same = λ place is lt. two.same place is (omega (arith, one.no_shorter, lt)) ∙ one.same place is lt;
      }

  pub keeps_sync : (kept : ℕ → Type 0) (file : FileId) (a b : D) → Changes g (λ d c. c ≡ d) file a b
      → KeepsPlaces g kept file a b
  keeps_sync kept file a b changes =
      changes_less (λ d c. c ≡ d) (SamePlaces kept) file a b (λ d c left. here d c) changes
    where
      here : (d c : List ℕ) → c ≡ d → SamePlaces kept d c
      here d c is = subst (λ (l : List ℕ). SamePlaces kept d l) (sym is) record {
        no_shorter = omega arith;
        same = λ place is lt. refl;
      }

pub torn_same : (at n extent : ℕ) (d : List ℕ) → TornWrite at n extent d d
torn_same at n extent d =
    record { before = take_min at d; after = λ within. refl; no_shorter = omega arith; no_longer = omega arith }

pub cut_same : (len : ℕ) (d : List ℕ) → TornCut len d d
cut_same len d = record { front = sym (take_all (length d) d (omega arith)); no_shorter = omega arith }

-- a write changes its file alone, and so does a cut
module _ {D : Type 0} (g : Ghosts D) (file : FileId) (a b : D)
    (beside : LeavesOther file (g.content a) (g.content b) (g.extent a) (g.extent b) (g.may_leave a (g.time a))
    (g.may_leave b (g.time b)))
    (time : Elapses (g.time a) (g.time b) (g.may_leave a) (g.may_leave b)) where
  pub write_alone : {T E : Type 0} {r : Result T E} (at n : ℕ)
      → MayHappen (TornWrite at n (g.extent a file)) r (images_of g a file) (images_of g b file)
      → ChangesAlone g (TornWrite at n (g.extent a file)) file a b
  write_alone at n crash = alone_one g (TornWrite at n (g.extent a file)) file a b
      (torn_same at n (g.extent a file)) beside time crash.follows

  pub cut_alone : {T E : Type 0} {r : Result T E} (len : ℕ)
      → MayHappen (TornCut len) r (images_of g a file) (images_of g b file)
      → ChangesAlone g (TornCut len) file a b
  cut_alone len crash = alone_one g (TornCut len) file a b (cut_same len) beside time crash.follows

-- a write keeps the places of the file outside its range
module _ (kept : ℕ → Type 0) (at n extent : ℕ) (apart : (place : ℕ) → kept place
    → (place < at) ⊎ ((at + n ≤ place) × (place < extent))) where
  pub torn_keeps : (d c : List ℕ) → TornWrite at n extent d c → SamePlaces kept d c
  torn_keeps d c torn = record { no_shorter = torn.no_shorter; same = same }
    where
      same : (place : ℕ) → kept place → place < length d → get_or c place 0 ≡ get_or d place 0
      same place is lt = elim (apart place is) [
        | inl front ↦
            sym (get_or-take (min at (length d)) c place 0 (omega (arith, front, lt)))
            ∙ ap (λ (l : List ℕ). get_or l place 0) torn.before
            ∙ get_or-take at d place 0 front
        | inr back ↦
            let there : at + n + (place - (at + n)) ≡ place = omega (arith, back.0) in
            subst (λ j. get_or c j 0 ≡ get_or d j 0) there (
            sym (get_or-drop (at + n) c (place - (at + n)) 0)
            ∙ ap (λ (l : List ℕ). get_or l (place - (at + n)) 0) (torn.after (omega (arith, back.0, back.1)))
            ∙ get_or-drop (at + n) d (place - (at + n)) 0
            )
      ]

pub keeps_write : {D : Type 0} (g : Ghosts D) (kept : ℕ → Type 0) (file : FileId) (at n : ℕ) (a b : D)
    → ((place : ℕ) → kept place → (place < at) ⊎ ((at + n ≤ place) × (place < g.extent a file)))
    → Changes g (TornWrite at n (g.extent a file)) file a b → KeepsPlaces g kept file a b
keeps_write g kept file at n a b apart changes =
    changes_less g (TornWrite at n (g.extent a file)) (SamePlaces kept) file a b
    (λ d c left torn. torn_keeps kept at n (g.extent a file) apart d c torn) changes

-- a range whose places are kept
pub same_range : (kept : ℕ → Type 0) (a n : ℕ) (d c : List ℕ) → SamePlaces kept d c
    → ((place : ℕ) → a ≤ place → place < a + n → kept place) → a + n ≤ length d
    → take n (drop a c) ≡ take n (drop a d)
same_range kept a n d c places all within =
    ext_get_or 0 (take n (drop a c)) (take n (drop a d))
    (omega (
      arith,
      length-take n (drop a c),
      length-take n (drop a d),
      length-drop a c,
      length-drop a d,
      places.no_shorter,
    )) each
  where
    each : (i : ℕ) → i < length (take n (drop a c)) → get_or (take n (drop a c)) i 0 ≡ get_or (take n (drop a d)) i 0
    each i lt =
        let low : i < n = omega (arith, lt, length-take n (drop a c)) in
        get_or-take n (drop a c) i 0 low
        ∙ get_or-drop a c i 0
        ∙ places.same (a + i) (all (a + i) (omega arith) (omega (arith, low))) (omega (arith, low, within))
        ∙ sym (get_or-drop a d i 0)
        ∙ sym (get_or-take n (drop a d) i 0 low)

-- a byte, and a range, outside a write
pub torn_byte : (at n extent place : ℕ) (d c : List ℕ) → TornWrite at n extent d c
    → (place < at) ⊎ ((at + n ≤ place) × (place < extent)) → place < length d → get_or c place 0 ≡ get_or d place 0
torn_byte at n extent place d c torn apart lt =
    (torn_keeps (λ p. p ≡ place) at n extent
    (λ p is. subst (λ q. (q < at) ⊎ ((at + n ≤ q) × (q < extent))) (sym is) apart) d c torn).same place refl lt

pub torn_range : (at n extent a m : ℕ) (d c : List ℕ) → TornWrite at n extent d c
    → (a + m ≤ at) ⊎ ((at + n ≤ a) × (a + m ≤ extent)) → a + m ≤ length d → take m (drop a c) ≡ take m (drop a d)
torn_range at n extent a m d c torn apart within =
    same_range kept a m d c (torn_keeps kept at n extent each d c torn) (λ place from upto. (from, upto)) within
  where
    kept : ℕ → Type 0
    kept place = (a ≤ place) × (place < a + m)

    each : (place : ℕ) → kept place → (place < at) ⊎ ((at + n ≤ place) × (place < extent))
    each place is = elim apart [
      | inl front ↦ inl (omega (arith, front, is.1))
      | inr back ↦ inr (omega (arith, back.0, is.0), omega (arith, back.1, is.1))
    ]
