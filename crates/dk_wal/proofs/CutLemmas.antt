-- A log that is cut, and one that is made anew: what a crash leaves of it.
use Rattle.std.proofs.Common.{◌≡◌, ℕ, ◌<◌, ◌≤◌, ◌^◌, false, List, [], ◌++◌, length, Option, Some, Ok, refl, sym, ap, subst, ◌∙◌, arith, inl, inr}
use Rattle.std.specs.Prelude.{IfSome}
use Rattle.std.specs.Int.{w64, to_le_bytes, from_le_bytes}
use Rattle.std.proofs.lemmas.Bool.{cases_lt, le-ltb, eq-eqb}
use Rattle.std.proofs.lemmas.List.{take_all, append-nil}
use Rattle.dk_bytes.specs.Checksum.{checksum_of}
use Rattle.dk_device.specs.declared.device.Disk.{Ghosts}
use Rattle.dk_device.specs.declared.device.FileId.TheVariants.{Wal}
use Rattle.dk_device.specs.Changes.{images_of, IsSynced, ChangesAlone}
use Rattle.dk_device.specs.Disk.{TornCut, Follows, FrontOrShort}
use Rattle.dk_device.proofs.ChangeLemmas.{alone_less, changes_now}
use Rattle.dk_header.specs.declared.log.TheConstants.{LOG_MAGIC, LOG_HEADER_BYTES}
use Rattle.dk_header.specs.LogLayout.{log_header_bytes}
use Rattle.dk_header.proofs.HeaderLemmas.{checksum_below, number_first}
use Rattle.dk_pages.specs.declared.tree.TableEntry.{TableEntry}
use Rattle.dk_wal.specs.LogReading.{header_read, nothing, log_read}
use Rattle.dk_wal.specs.Logs.{IsFilled, HoldsNothing}
use Rattle.dk_wal.specs.Crashes.{StaysEmpty, SaysSame, FillsSame}
use Rattle.dk_wal.proofs.LogLemmas.{header_front, read_short, front_reads, front_nothing, good_end, good_fresh, header_by}

-- the length of a file that is known
pub known_length : (o : Option (List ℕ)) (c : List ℕ) (n : ℕ) → o ≡ Some c
    → IfSome o (λ (bytes : List ℕ). length bytes ≡ n) → length c ≡ n
known_length o c n is all = subst (λ (p : Option (List ℕ)). IfSome p (λ (bytes : List ℕ). length bytes ≡ n)) is all

-- ---- a cut

pub cut_says : (len : ℕ) (old new : List ℕ) → TornCut len old new → SaysSame len old new
cut_says len old new torn tables iteration scan reads fresh good within = elim (cases_lt (length new) (length old)) [
  | inl part ↦
      subst (λ (l : List ℕ). log_read tables iteration l ≡ Ok scan) (sym torn.front)
      (front_reads tables iteration (length new) old scan reads fresh good
      (omega (arith, within, torn.no_shorter, part)))
  | inr all ↦
      subst (λ (l : List ℕ). log_read tables iteration l ≡ Ok scan)
      (sym (torn.front ∙ take_all (length new) old all)) reads
]

pub cut_fills : (len : ℕ) (old new : List ℕ) → TornCut len old new → length new ≡ len → FillsSame len old new
cut_fills len old new torn whole tables iteration scan reads header good end =
    let low = good_end tables iteration old scan header reads in
    let long : LOG_HEADER_BYTES ≤ length new = omega (arith, low, end, whole) in
    record {
      long = long;
      header =
          ap (λ (l : List ℕ). header_read iteration l) torn.front
          ∙ header_front iteration (length new) old long ∙ header;
      reads = cut_says len old new torn tables iteration scan reads (good_fresh tables iteration old scan header reads)
          good (omega (arith, end));
      good = good;
      end = omega (arith, end, whole);
    }

module _ {D : Type 0} (g : Ghosts D) (a b : D) where
  pub cut_crash : (len : ℕ) → ChangesAlone g (TornCut len) Wal a b → ChangesAlone g (SaysSame len) Wal a b
  cut_crash len cut =
      alone_less g (TornCut len) (SaysSame len) Wal a b (λ d c left torn. cut_says len d c torn) cut

  pub cut_done : (len : ℕ) → ChangesAlone g (TornCut len) Wal a b → IsSynced g b Wal
      → IfSome (g.content b Wal) (λ (bytes : List ℕ). length bytes ≡ g.extent b Wal) → g.extent b Wal ≡ len
      → Follows (FillsSame len) (images_of g a Wal) (images_of g b Wal)
  cut_done len cut synced told is c left =
      let start = changes_now g (TornCut len) Wal a b cut.images c left in
      let whole = known_length (g.content b Wal) c (g.extent b Wal) (synced c left) told in
      (start.0, start.1, cut_fills len start.0 c start.2 (omega (arith, whole, is)))

  -- ---- a new log

  pub reset_crash : (n : ℕ) → n ≡ LOG_HEADER_BYTES → ChangesAlone g (FrontOrShort n) Wal a b
      → ChangesAlone g StaysEmpty Wal a b
  reset_crash n size change = alone_less g (FrontOrShort n) StaysEmpty Wal a b less change
    where
      less : (d c : List ℕ) → images_of g a Wal d → FrontOrShort n d c → StaysEmpty d c
      less d c left (inl front) tables iteration empty =
          subst (λ (l : List ℕ). HoldsNothing tables iteration l) (sym front)
          (front_nothing tables iteration (length c) d empty)
      less d c left (inr short) tables iteration empty =
          (false, read_short tables iteration c (omega (arith, short, size)))

-- a header is one of its iteration
header_written : (iteration : ℕ) → iteration < 2 ^ 64 → header_read iteration (log_header_bytes iteration) ≡ Ok false
header_written iteration fits =
    let fields : List ℕ = to_le_bytes w64 LOG_MAGIC ++ to_le_bytes w64 iteration in
    let sum = checksum_of fields in
    let stored = number_first iteration (to_le_bytes w64 sum) fits in
    let summed : from_le_bytes w64 (to_le_bytes w64 sum) ≡ sum
    = ap (λ (l : List ℕ). from_le_bytes w64 l) (sym (append-nil (to_le_bytes w64 sum)))
    ∙ number_first sum [] (checksum_below fields) in
    ap (λ (n : ℕ). header_by iteration LOG_MAGIC n (from_le_bytes w64 (to_le_bytes w64 sum)) sum) stored
    ∙ ap (λ (n : ℕ). header_by iteration LOG_MAGIC iteration n sum) summed
    ∙ rw (eq-eqb sum sum refl, le-ltb iteration iteration (omega arith)) refl

pub new_fills : (iteration : ℕ) (tables : List TableEntry) (log : List ℕ) → iteration < 2 ^ 64
    → log ≡ log_header_bytes iteration → IsFilled tables iteration (nothing false) log
new_fills iteration tables log fits is =
    subst (λ (l : List ℕ). IsFilled tables iteration (nothing false) l) (sym is) record {
      long = omega arith;
      header = header_written iteration fits;
      reads = read_short tables iteration (log_header_bytes iteration) (omega arith);
      good = refl;
      end = refl;
    }

-- a known log
pub told_is : (o : Option (List ℕ)) (c bytes : List ℕ) → o ≡ Some c → IfSome o (λ (w : List ℕ). w ≡ bytes)
    → c ≡ bytes
told_is o c bytes is all = subst (λ (p : Option (List ℕ)). IfSome p (λ (w : List ℕ). w ≡ bytes)) is all
