-- The record that stands at the front of bytes, and that of a front of them.
use Rattle.std.proofs.Common.{◌≡◌, ℕ, ◌+◌, ◌-◌, ◌<◌, ◌≤◌, ◌^◌, Bool, true, false, cond, ltb, eqb, ◌||◌, List, [], ◌∷◌, ◌++◌, length, take, drop, Option, None, Some, Result, refl, sym, ap, subst, ◌∙◌, arith, option_map, inl, inr}
use Rattle.std.specs.Int.{w32, w64, to_le_bytes, from_le_bytes}
use Rattle.std.proofs.lemmas.Bool.{cases_lt, lt-ltb, le-ltb, eq-eqb}
use Rattle.std.proofs.lemmas.Bool.Decides.{Decides-eqb}
use Rattle.std.proofs.lemmas.List.{take_all, take-take, drop-take, length-take}
use Rattle.std.proofs.lemmas.Nat.{from_le_bytes-to_le_bytes_4}
use Rattle.std.proofs.Math.Seq.{take-append_seam}
use Rattle.dk_bytes.specs.Checksum.{checksum_of}
use Rattle.dk_bytes.proofs.DigitLemmas.{word_number}
use Rattle.std.specs.Simd.Lanes.{number_l as number}
use Rattle.dk_header.proofs.HeaderLemmas.{checksum_below, number_first}
use Rattle.dk_pages.specs.declared.log.LogCommit.{LogCommit}
use Rattle.dk_pages.specs.declared.tree.TableEntry.{TableEntry}
use Rattle.dk_wal.specs.declared.limits.TheConstants.{FRAME_BYTES, MOST_PAYLOAD}
use Rattle.dk_wal.specs.Payload.{payload_read}
use Rattle.dk_wal.specs.Records.{framed, stored_len, stored_sum, stored_payload, ends_early, payload_at}
use Rattle.dk_wal.specs.LogReading.{record_len, record_at}

-- ---- numbers at the front

pub first_four : (x : List ℕ) → from_le_bytes w32 (take 4 x) ≡ from_le_bytes w32 x
first_four [] = refl
first_four (a ∷ []) = refl
first_four (a ∷ b ∷ []) = refl
first_four (a ∷ b ∷ c ∷ []) = refl
first_four (a ∷ b ∷ c ∷ d ∷ x) = refl

pub word_front : (k : ℕ) (x : List ℕ) → 8 ≤ k → from_le_bytes w64 (take k x) ≡ from_le_bytes w64 x
word_front k x long = word_number (take k x) ∙ ap (λ (l : List ℕ). number 256 l) (take-take 8 k x long)
    ∙ sym (word_number x)

-- bytes behind a place, of a front
pub drop_front : (n k : ℕ) (x : List ℕ) → n ≤ k → drop n (take k x) ≡ take (k - n) (drop n x)
drop_front n k x within =
    let is : n + (k - n) ≡ k = omega (arith, within) in
    subst (λ (j : ℕ). drop n (take j x) ≡ take (k - n) (drop n x)) is (drop-take n (k - n) x)

pub len_front : (k : ℕ) (x : List ℕ) → 4 ≤ k → stored_len (take k x) ≡ stored_len x
len_front k x long = sym (first_four (take k x)) ∙ ap (λ (l : List ℕ). from_le_bytes w32 l) (take-take 4 k x long)
    ∙ first_four x

sum_front : (k : ℕ) (x : List ℕ) → FRAME_BYTES ≤ k → stored_sum (take k x) ≡ stored_sum x
sum_front k x long = ap (λ (l : List ℕ). from_le_bytes w64 l) (drop_front 4 k x (omega (arith, long)))
    ∙ word_front (k - 4) (drop 4 x) (omega (arith, long))

payload_front : (k : ℕ) (x : List ℕ) → record_len x ≤ k → stored_payload (take k x) ≡ stored_payload x
payload_front k x long =
    ap (λ (n : ℕ). take n (drop FRAME_BYTES (take k x))) (len_front k x (omega (arith, long)))
    ∙ ap (λ (l : List ℕ). take (stored_len x) l) (drop_front FRAME_BYTES k x (omega (arith, long)))
    ∙ take-take (stored_len x) (k - FRAME_BYTES) (drop FRAME_BYTES x) (omega (arith, long))

-- ---- the payload at the front

-- the test of the length, and of the checksum
abbrev early : ℕ → ℕ → Bool
early len stored = ltb len FRAME_BYTES || (ltb MOST_PAYLOAD stored || ltb (len - FRAME_BYTES) stored)

abbrev found_by : Bool → ℕ → List ℕ → Option (List ℕ)
found_by ends sum payload = cond ends None (cond (eqb sum (checksum_of payload)) (Some payload) None)

early_whole : (len stored : ℕ) → FRAME_BYTES + stored ≤ len → early len stored ≡ (ltb MOST_PAYLOAD stored || false)
early_whole len stored whole =
    rw (le-ltb len FRAME_BYTES (omega (arith, whole)), le-ltb (len - FRAME_BYTES) stored (omega (arith, whole))) refl

or_true : (a : Bool) → (a || true) ≡ true
or_true true = refl
or_true false = refl

early_short : (len stored : ℕ) → len < FRAME_BYTES + stored → early len stored ≡ true
early_short len stored short = elim (cases_lt len FRAME_BYTES) [
  | inl few ↦ rw (lt-ltb len FRAME_BYTES few) refl
  | inr enough ↦
      rw (le-ltb len FRAME_BYTES enough, lt-ltb (len - FRAME_BYTES) stored (omega (arith, short, enough)))
      (or_true (ltb MOST_PAYLOAD stored))
]

early_few : (len stored : ℕ) → len < FRAME_BYTES → early len stored ≡ true
early_few len stored few = rw (lt-ltb len FRAME_BYTES few) refl

early_great : (len stored : ℕ) → MOST_PAYLOAD < stored → early len stored ≡ true
early_great len stored great = rw (lt-ltb MOST_PAYLOAD stored great) (or_true (ltb len FRAME_BYTES))

-- a front that has all that the record says has the same
pub front_same : (k : ℕ) (x : List ℕ) → record_len x ≤ k → payload_at (take k x) ≡ payload_at x
front_same k x long = elim (cases_lt k (length x)) [
  | inl part ↦
      let len : length (take k x) ≡ k = omega (arith, length-take k x, part) in
      let ends : ends_early (take k x) ≡ ends_early x =
      ap (λ (n : ℕ). early n (stored_len (take k x))) len
      ∙ ap (λ (n : ℕ). early k n) (len_front k x (omega (arith, long)))
      ∙ early_whole k (stored_len x) long
      ∙ sym (early_whole (length x) (stored_len x) (omega (arith, long, part))) in
      ap (λ (b : Bool). found_by b (stored_sum (take k x)) (stored_payload (take k x))) ends
      ∙ ap (λ (n : ℕ). found_by (ends_early x) n (stored_payload (take k x))) (sum_front k x (omega (arith, long)))
      ∙ ap (λ (l : List ℕ). found_by (ends_early x) (stored_sum x) l) (payload_front k x long)
  | inr all ↦ ap (λ (l : List ℕ). payload_at l) (take_all k x all)
]

-- in a shorter one no record stands whole
pub front_short : (k : ℕ) (x : List ℕ) → k < record_len x → payload_at (take k x) ≡ None
front_short k x short = elim (cases_lt k FRAME_BYTES) [
  | inl few ↦ ap (λ (b : Bool). found_by b (stored_sum (take k x)) (stored_payload (take k x)))
      (early_few (length (take k x)) (stored_len (take k x)) (omega (arith, few, length-take k x)))
  | inr enough ↦ ap (λ (b : Bool). found_by b (stored_sum (take k x)) (stored_payload (take k x)))
      (early_short (length (take k x)) (stored_len (take k x))
      (omega (arith, short, length-take k x, len_front k x (omega (arith, enough)))))
]

-- where none stands, none stands in a front
pub front_none : (k : ℕ) (x : List ℕ) → payload_at x ≡ None → payload_at (take k x) ≡ None
front_none k x none = elim (cases_lt k (record_len x)) [
  | inl short ↦ front_short k x short
  | inr long ↦ front_same k x long ∙ none
]

-- few bytes have none
pub none_in_few : (x : List ℕ) → length x < FRAME_BYTES → payload_at x ≡ None
none_in_few x few = ap (λ (b : Bool). found_by b (stored_sum x) (stored_payload x))
    (early_few (length x) (stored_len x) few)

some_not_none : {A : Type 0} (o : Option A) (a : A) → o ≡ None → o ≡ Some a → ⊥
some_not_none o a none some = let no : None ≡ Some a = sym none ∙ some in absurd cc

-- a whole record lies within
pub within_of : (x p : List ℕ) → payload_at x ≡ Some p → record_len x ≤ length x
within_of x p some = elim (cases_lt (length x) (record_len x)) [
  | inl short ↦
      absurd (some_not_none (payload_at x) p
      (ap (λ (l : List ℕ). payload_at l) (sym (take_all (length x) x (omega arith))) ∙ front_short (length x) x short)
      some)
  | inr long ↦ long
]

chosen_payload : (a b : Bool) (q p : List ℕ) → cond a None (cond b (Some q) None) ≡ Some p → p ≡ q
chosen_payload true true q p e = absurd cc
chosen_payload true false q p e = absurd cc
chosen_payload false true q p e = cc
chosen_payload false false q p e = absurd cc

pub payload_is : (x p : List ℕ) → payload_at x ≡ Some p → p ≡ stored_payload x
payload_is x p some = chosen_payload (ends_early x) (eqb (stored_sum x) (checksum_of (stored_payload x)))
    (stored_payload x) p some

chosen_sum : (a b : Bool) (q p : List ℕ) → cond a None (cond b (Some q) None) ≡ Some p → (a ≡ false) × (b ≡ true)
chosen_sum true b q p e = absurd cc
chosen_sum false true q p e = (refl, refl)
chosen_sum false false q p e = absurd cc

passed : (x p : List ℕ) → payload_at x ≡ Some p
    → (ends_early x ≡ false) × (eqb (stored_sum x) (checksum_of (stored_payload x)) ≡ true)
passed x p some = chosen_sum (ends_early x) (eqb (stored_sum x) (checksum_of (stored_payload x)))
    (stored_payload x) p some

pub sum_is : (x p : List ℕ) → payload_at x ≡ Some p → stored_sum x ≡ checksum_of p
sum_is x p some =
    (Decides-eqb (stored_sum x) (checksum_of (stored_payload x))).0 (passed x p some).1
    ∙ ap (λ (l : List ℕ). checksum_of l) (sym (payload_is x p some))

pub small_is : (x p : List ℕ) → payload_at x ≡ Some p → length p ≤ MOST_PAYLOAD
small_is x p some = elim (cases_lt MOST_PAYLOAD (stored_len x)) [
  | inl great ↦
      let ends : ends_early x ≡ true = early_great (length x) (stored_len x) great in
      let no : true ≡ false = sym ends ∙ (passed x p some).0 in
      absurd cc
  | inr small ↦
      omega (
        arith,
        small,
        ap (λ (l : List ℕ). length l) (payload_is x p some),
        length-take (stored_len x) (drop FRAME_BYTES x),
      )
]

-- ---- the record at the front

none_or_some : {A : Type 0} {B : Type 0} (f : A → B) (o : Option A) → option_map f o ≡ None → o ≡ None
none_or_some f None e = refl
none_or_some f (Some a) e = absurd cc

pub some_of : {A : Type 0} {B : Type 0} (f : A → B) (o : Option A) (b : B) → option_map f o ≡ Some b
    → (a : A) × (o ≡ Some a) × (f a ≡ b)
some_of f None b e = absurd cc
some_of f (Some a) b e = (a, refl, cc)

module _ (tables : List TableEntry) where
  abbrev read_of : Option (List ℕ) → Option (Result LogCommit ℕ)
  read_of o = option_map (payload_read tables) o

  pub record_none : (k : ℕ) (x : List ℕ) → record_at tables x ≡ None → record_at tables (take k x) ≡ None
  record_none k x none =
      ap read_of (front_none k x (none_or_some (payload_read tables) (payload_at x) none))

  pub record_same : (k : ℕ) (x : List ℕ) → record_len x ≤ k → record_at tables (take k x) ≡ record_at tables x
  record_same k x long = ap read_of (front_same k x long)

  pub record_few : (x : List ℕ) → length x < FRAME_BYTES → record_at tables x ≡ None
  record_few x few = ap read_of (none_in_few x few)

  pub record_within : (x : List ℕ) (read : Result LogCommit ℕ) → record_at tables x ≡ Some read
      → record_len x ≤ length x
  record_within x read some =
      let p = some_of (payload_read tables) (payload_at x) read some in
      within_of x p.0 p.1

  -- bytes behind a whole record change nothing of it
  pub record_before : (x t : List ℕ) (read : Result LogCommit ℕ) → record_at tables x ≡ Some read
      → (record_at tables (x ++ t) ≡ Some read) × (record_len (x ++ t) ≡ record_len x)
  record_before x t read some =
      let front : take (length x) (x ++ t) ≡ x = take-append_seam x t in
      let within = record_within x read some in
      let len : stored_len (x ++ t) ≡ stored_len x =
      sym (len_front (length x) (x ++ t) (omega (arith, within)))
      ∙ ap (λ (l : List ℕ). stored_len l) front in (
        sym (record_same (length x) (x ++ t) (omega (arith, within, len)))
            ∙ ap (λ (l : List ℕ). record_at tables l) front ∙ some,
        ap (λ (n : ℕ). FRAME_BYTES + n) len,
      )

-- ---- a record that was written

four_first : (n : ℕ) (rest : List ℕ) → n < 2 ^ 32 → from_le_bytes w32 (to_le_bytes w32 n ++ rest) ≡ n
four_first n rest lt = from_le_bytes-to_le_bytes_4 n lt

pub framed_len : (p : List ℕ) → length p ≤ MOST_PAYLOAD → stored_len (framed p) ≡ length p
framed_len p small =
    four_first (length p) (to_le_bytes w64 (checksum_of p) ++ p) (omega (arith, small))

pub framed_length : (p : List ℕ) → length (framed p) ≡ FRAME_BYTES + length p
framed_length p = omega arith

framed_sum : (p : List ℕ) → stored_sum (framed p) ≡ checksum_of p
framed_sum p = number_first (checksum_of p) p (checksum_below p)

framed_payload : (p : List ℕ) → length p ≤ MOST_PAYLOAD → stored_payload (framed p) ≡ p
framed_payload p small = ap (λ (n : ℕ). take n p) (framed_len p small) ∙ take_all (length p) p (omega arith)

pub framed_whole : (p : List ℕ) → length p ≤ MOST_PAYLOAD → payload_at (framed p) ≡ Some p
framed_whole p small =
    let ends : ends_early (framed p) ≡ false =
    ap (λ (n : ℕ). early (length (framed p)) n) (framed_len p small)
    ∙ early_whole (length (framed p)) (length p) (omega (arith, framed_length p))
    ∙ rw (le-ltb MOST_PAYLOAD (length p) small) refl in
    ap (λ (b : Bool). found_by b (stored_sum (framed p)) (stored_payload (framed p))) ends
    ∙ ap (λ (n : ℕ). found_by false n (stored_payload (framed p))) (framed_sum p)
    ∙ ap (λ (l : List ℕ). found_by false (checksum_of p) l) (framed_payload p small)
    ∙ rw (eq-eqb (checksum_of p) (checksum_of p) refl) refl
