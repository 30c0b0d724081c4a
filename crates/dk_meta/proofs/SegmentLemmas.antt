-- Where segments stand: what is read is spelled there, and what is spelled there is read.
use Rattle.std.proofs.Common.{◌≡◌, ℕ, ◌+◌, ◌-◌, ◌^◌, ◌<◌, ◌≤◌, true, cond, ltb, leb, eqb, List, [], ◌∷◌, ◌++◌, length, Ok, Err, refl, sym, ap, subst, ◌∙◌, arith}
use Rattle.std.specs.List.{flat_map, AllByRecursion}
use Rattle.std.specs.Int.{w16, w32, w64, to_le_bytes}
use Rattle.std.proofs.lemmas.Bool.{leb-true, le-leb, and_parts}
use Rattle.std.proofs.lemmas.Bool.Decides.{Decides-eqb}
use Rattle.dk_pages.specs.declared.page.SegmentRef.{SegmentRef}
use Rattle.dk_bytes.specs.Fields.{IsBytes, Place, number_at}
use Rattle.dk_bytes.specs.Reading.{◌>>=◌, list_at, AllFollow}
use Rattle.dk_bytes.proofs.NumberLemmas.{Takes, Takes-then, chosen_ok, bind_ok, wide16, wide32, wide64, number_again, ok_is, done}
use Rattle.dk_bytes.proofs.PlainValueLemmas.{after}
use Rattle.dk_bytes.proofs.SpellLemmas.{before, IsSpelled, IsField, list_takes, list_again}
use Rattle.dk_meta.specs.Strings.{checked_at, always}
use Rattle.dk_meta.specs.Segments.{IsSegmentRef, segment_ref_bytes, lies_within, is_some, segment_at, total_rows, is_segment_count, HasCount, IsVector, vector_bytes, vector_at, vector_count, vector_rows, IsNextVector, AreVectors, vectors_bytes, next_vector_at, vectors_at}
use Rattle.dk_meta.proofs.StringLemmas.{IsChecked, checked_takes, number_spelled, first_step, each_takes, each_again}

-- ---- a segment

segment_takes : (p : Place) (x : SegmentRef × Place) → IsBytes p.rest → segment_at p ≡ Ok x
    → IsSpelled IsSegmentRef segment_ref_bytes p x
unfolding segment_at segment_ref_bytes
segment_takes p x fits e =
    let a = first_step (number_at w64) (λ n. n < 2 ^ 64) (to_le_bytes w64) (number_spelled w64 wide64) p
    (λ block. number_at w32 block.1 >>= λ offset. checked_at w32 (lies_within offset.0) offset.1
    >>= λ bytes. checked_at w16 is_some bytes.1
    >>= λ rows. Ok (record { block = block.0; offset = offset.0; bytes = bytes.0; rows = rows.0 }, rows.1)) x fits e in
    let block = a.first in
    let b = first_step (number_at w32) (λ n. n < 2 ^ 32) (to_le_bytes w32) (number_spelled w32 wide32) block.1
    (λ offset. checked_at w32 (lies_within offset.0) offset.1
    >>= λ bytes. checked_at w16 is_some bytes.1
    >>= λ rows. Ok (record { block = block.0; offset = offset.0; bytes = bytes.0; rows = rows.0 }, rows.1)) x
    a.spelled.takes.left a.onward in
    let offset = b.first in
    let c = first_step (checked_at w32 (lies_within offset.0)) (IsChecked w32 (lies_within offset.0)) (to_le_bytes w32)
    (checked_takes w32 wide32 (lies_within offset.0)) offset.1
    (λ bytes. checked_at w16 is_some bytes.1
    >>= λ rows. Ok (record { block = block.0; offset = offset.0; bytes = bytes.0; rows = rows.0 }, rows.1)) x
    b.spelled.takes.left b.onward in
    let bytes = c.first in
    let d = first_step (checked_at w16 is_some) (IsChecked w16 is_some) (to_le_bytes w16)
    (checked_takes w16 wide16 is_some) bytes.1
    (λ rows. Ok (record { block = block.0; offset = offset.0; bytes = bytes.0; rows = rows.0 }, rows.1)) x
    c.spelled.takes.left c.onward in
    let rows = d.first in
    subst (λ (y : SegmentRef × Place). IsSpelled IsSegmentRef segment_ref_bytes p y)
    (ok_is (record { block = block.0; offset = offset.0; bytes = bytes.0; rows = rows.0 }, rows.1) x d.onward)
    (record {
      lawful = record {
        block = a.spelled.lawful;
        offset = b.spelled.lawful;
        bytes = c.spelled.lawful.fits;
        rows = d.spelled.lawful.fits;
        within = leb-true (offset.0 + bytes.0) 262136 c.spelled.lawful.passes;
        some = leb-true 1 rows.0 d.spelled.lawful.passes;
      };
      takes = Takes-then p block.1 rows.1 (to_le_bytes w64 block.0)
          (to_le_bytes w32 offset.0 ++ (to_le_bytes w32 bytes.0 ++ to_le_bytes w16 rows.0)) a.spelled.takes
          (Takes-then block.1 offset.1 rows.1 (to_le_bytes w32 offset.0)
          (to_le_bytes w32 bytes.0 ++ to_le_bytes w16 rows.0) b.spelled.takes
          (Takes-then offset.1 bytes.1 rows.1 (to_le_bytes w32 bytes.0) (to_le_bytes w16 rows.0) c.spelled.takes
          d.spelled.takes));
    })

segment_again : (segment : SegmentRef) (at : ℕ) (rest : List ℕ) → IsSegmentRef segment
    → segment_at (before at (segment_ref_bytes segment) rest) ≡ Ok (segment, after at (segment_ref_bytes segment) rest)
unfolding segment_at segment_ref_bytes
segment_again segment at rest h =
    let within : lies_within segment.offset segment.bytes ≡ true =
    le-leb (segment.offset + segment.bytes) 262136 h.within in
    let some : is_some segment.rows ≡ true = le-leb 1 segment.rows h.some in
    let place : at + 8 + 4 + 4 + 2 ≡ at + length (segment_ref_bytes segment) = omega arith in
    rw (
      number_again w64 wide64 segment.block
          (to_le_bytes w32 segment.offset ++ (to_le_bytes w32 segment.bytes ++ (to_le_bytes w16 segment.rows ++ rest)))
          at h.block,
      number_again w32 wide32 segment.offset
          (to_le_bytes w32 segment.bytes ++ (to_le_bytes w16 segment.rows ++ rest)) (at + 8) h.offset,
      number_again w32 wide32 segment.bytes (to_le_bytes w16 segment.rows ++ rest) (at + 8 + 4) h.bytes,
      within,
      number_again w16 wide16 segment.rows rest (at + 8 + 4 + 4) h.rows,
      some,
    ) (ap (λ (n : ℕ). done (segment, record { at = n; rest = rest })) place)

pub segment_field : IsField segment_at IsSegmentRef segment_ref_bytes
segment_field = record { takes = segment_takes; again = segment_again }

-- ---- the segments of a vector

eqb-self : (n : ℕ) → eqb n n ≡ true
eqb-self n = (Decides-eqb n n).1 refl

vector_takes : (rows : ℕ) (p : Place) (x : List SegmentRef × Place) → IsBytes p.rest → vector_at rows p ≡ Ok x
    → IsSpelled (IsVector rows) vector_bytes p x
unfolding vector_at
vector_takes rows p x fits e =
    let a = first_step (checked_at w16 is_segment_count) (IsChecked w16 is_segment_count) (to_le_bytes w16)
    (checked_takes w16 wide16 is_segment_count) p
    (λ count. list_at (always segment_at) count.0 [] count.1
    >>= λ segments. cond (eqb (total_rows segments.0) rows) (Ok segments) (Err (segments.1.at - 2))) x fits e in
    let count = a.first in
    let b = bind_ok (list_at (always segment_at) count.0 [] count.1)
    (λ segments. cond (eqb (total_rows segments.0) rows) (Ok segments) (Err (segments.1.at - 2))) x a.onward in
    let segments = b.0 in
    let u = each_takes segment_at IsSegmentRef segment_ref_bytes segment_field count.0 count.1 segments
    a.spelled.takes.left b.1 in
    let g = chosen_ok (eqb (total_rows segments.0) rows) (segments.1.at - 2) segments x b.2 in
    subst (λ (y : List SegmentRef × Place). IsSpelled (IsVector rows) vector_bytes p y) g.1
    (record {
      lawful = record {
        count = subst (λ (k : ℕ). is_segment_count k ≡ true) (sym u.count) a.spelled.lawful.passes;
        each = u.each;
        total = (Decides-eqb (total_rows segments.0) rows).0 g.0;
      };
      takes = Takes-then p count.1 segments.1 (to_le_bytes w16 (length segments.0))
          (flat_map segment_ref_bytes segments.0)
          (subst (λ (k : ℕ). Takes p count.1 (to_le_bytes w16 k)) (sym u.count) a.spelled.takes) u.takes;
    })

-- a number of segments fits its field
pub count_fits : (segments : List SegmentRef) → HasCount segments → length segments < 2 ^ 16
count_fits segments h =
    let few : length segments ≤ 2048 = leb-true (length segments) 2048
    (and_parts (ltb 0 (length segments)) (leb (length segments) 2048) h).1 in
    omega arith

vector_again : (rows : ℕ) (segments : List SegmentRef) (at : ℕ) (rest : List ℕ) → IsVector rows segments
    → vector_at rows (before at (vector_bytes segments) rest) ≡ Ok (segments, after at (vector_bytes segments) rest)
unfolding vector_at
vector_again rows segments at rest h =
    let total : eqb (total_rows segments) rows ≡ true = (Decides-eqb (total_rows segments) rows).1 h.total in
    let place : at + 2 + length (flat_map segment_ref_bytes segments) ≡ at + length (vector_bytes segments) =
    omega arith in
    rw (
      number_again w16 wide16 (length segments) (flat_map segment_ref_bytes segments ++ rest) at
          (count_fits segments h.count),
      h.count,
      each_again segment_at IsSegmentRef segment_ref_bytes segment_field segments (at + 2) rest h.each,
      total,
    ) (ap (λ (n : ℕ). done (segments, record { at = n; rest = rest })) place)

pub vector_field : (rows : ℕ) → IsField (vector_at rows) (IsVector rows) vector_bytes
vector_field rows = record { takes = vector_takes rows; again = vector_again rows }

-- ---- the vectors of a column

vectors_takes : (rows : ℕ) (p : Place) (x : List (List SegmentRef) × Place) → IsBytes p.rest → vectors_at rows p ≡ Ok x
    → IsSpelled (AreVectors rows) vectors_bytes p x
unfolding vectors_at
vectors_takes rows p x fits e =
    let u = list_takes (next_vector_at rows) (IsNextVector rows) vector_bytes
    (λ earlier q y b k. vector_takes (vector_rows rows (length earlier)) q y b k) (vector_count rows) [] p x fits e in
    record {
      lawful = record {
        count = ap (λ (l : List (List SegmentRef)). length l) u.all ∙ u.count;
        each = subst (λ (l : List (List SegmentRef)). AllFollow (IsNextVector rows) [] l) (sym u.all) u.follow;
      };
      takes = subst (λ (l : List (List SegmentRef)). Takes p x.1 (vectors_bytes l)) (sym u.all) u.takes;
    }

vectors_again : (rows : ℕ) (vectors : List (List SegmentRef)) (at : ℕ) (rest : List ℕ) → AreVectors rows vectors
    → vectors_at rows (before at (vectors_bytes vectors) rest) ≡ Ok (vectors, after at (vectors_bytes vectors) rest)
unfolding vectors_at
vectors_again rows vectors at rest h =
    let P : ℕ → Type 0 = λ n. list_at (next_vector_at rows) n [] (before at (vectors_bytes vectors) rest) ≡ Ok
    (vectors, after at (vectors_bytes vectors) rest) in
    subst P h.count
    (list_again (next_vector_at rows) (IsNextVector rows) vector_bytes
    (λ earlier y at' rest' k. vector_again (vector_rows rows (length earlier)) y at' rest' k) vectors [] at rest h.each)

pub vectors_field : (rows : ℕ) → IsField (vectors_at rows) (AreVectors rows) vectors_bytes
vectors_field rows = record { takes = vectors_takes rows; again = vectors_again rows }

-- each vector has its number of segments
pub vectors_counted : (rows : ℕ) (earlier vectors : List (List SegmentRef))
    → AllFollow (IsNextVector rows) earlier vectors → AllByRecursion HasCount vectors
vectors_counted rows earlier [] h = tt
vectors_counted rows earlier (segments ∷ vectors) h =
    (h.0.count, vectors_counted rows (earlier ++ segments ∷ []) vectors h.1)
