-- Pages: what is read is spelled there, and what is spelled there is read.
use Rattle.std.proofs.Common.{◌≡◌, ℕ, ◌+◌, ◌^◌, ◌<◌, ◌≤◌, true, ltb, leb, eqb, List, [], ◌∷◌, ◌++◌, length, Ok, refl, sym, ap, subst, ◌∙◌, append_assoc, length-append, arith}
use Rattle.std.specs.List.{flat_map, AllByRecursion}
use Rattle.std.specs.Int.{w16, w32, to_le_bytes}
use Rattle.std.proofs.lemmas.Bool.{leb-true, and_parts}
use Rattle.std.proofs.lemmas.Bool.Decides.{Decides-eqb}
use Rattle.std.proofs.lemmas.List.Sums.{fold-append}
use Rattle.dk_pages.specs.declared.page.GroupPage.{GroupPage}
use Rattle.dk_pages.specs.declared.page.SegmentRef.{SegmentRef}
use Rattle.dk_bytes.specs.Fields.{IsBytes, Place, number_at}
use Rattle.dk_bytes.specs.Reading.{◌>>=◌, list_at, AllFollow}
use Rattle.dk_bytes.proofs.NumberLemmas.{Takes, Takes-then, bind_ok, wide16, wide32, number_again, ok_is, done}
use Rattle.dk_bytes.proofs.PlainValueLemmas.{after}
use Rattle.dk_bytes.proofs.SpellLemmas.{before, IsSpelled, IsField, list_takes, list_again}
use Rattle.dk_meta.specs.Strings.{checked_at, always}
use Rattle.dk_meta.specs.Segments.{HasCount, AreVectors, vectors_bytes, vectors_at}
use Rattle.dk_meta.specs.Page.{least_offset, is_next_offset, IsNextOffset, AreOffsets, offset_bytes, offsets_bytes, offset_at, offsets_at, is_row_count, IsPage, page_bytes, is_width, page_at}
use Rattle.dk_meta.proofs.StringLemmas.{IsChecked, checked_takes, number_spelled, first_step, each_takes, each_again}
use Rattle.dk_meta.proofs.SegmentLemmas.{vectors_field, vectors_counted}

-- ---- the deleted rows

-- the least offset behind one more
pub least_behind : (earlier : List ℕ) (offset : ℕ) → offset + 1 ≡ least_offset (earlier ++ offset ∷ [])
least_behind earlier offset = sym (fold-append (λ (_ : ℕ) (n : ℕ). n + 1) 0 earlier (offset ∷ []))

offset_takes : (rows : ℕ) (earlier : List ℕ) (p : Place) (x : ℕ × Place) → IsBytes p.rest
    → offset_at rows earlier p ≡ Ok x → IsSpelled (IsNextOffset rows earlier) offset_bytes p x
offset_takes rows earlier p x fits e =
    let t = checked_takes w32 wide32 (is_next_offset rows earlier) p x fits e in
    record { lawful = record { fits = t.lawful.fits; next = t.lawful.passes }; takes = t.takes }

offset_again : (rows : ℕ) (earlier : List ℕ) (offset : ℕ) (at : ℕ) (rest : List ℕ) → IsNextOffset rows earlier offset
    → offset_at rows earlier (before at (offset_bytes offset) rest) ≡ Ok (offset, after at (offset_bytes offset) rest)
offset_again rows earlier offset at rest h = rw (number_again w32 wide32 offset rest at h.fits, h.next) refl

offsets_takes : (rows : ℕ) (p : Place) (x : List ℕ × Place) → IsBytes p.rest → offsets_at rows p ≡ Ok x
    → IsSpelled (AreOffsets rows) offsets_bytes p x
unfolding offsets_at
offsets_takes rows p x fits e =
    let a = first_step (number_at w32) (λ n. n < 2 ^ 32) (to_le_bytes w32) (number_spelled w32 wide32) p
    (λ count. list_at (offset_at rows) count.0 [] count.1) x fits e in
    let u = list_takes (offset_at rows) (IsNextOffset rows) offset_bytes (offset_takes rows) a.first.0 [] a.first.1 x
    a.spelled.takes.left a.onward in
    let len : length x.0 ≡ a.first.0 = ap (λ (l : List ℕ). length l) u.all ∙ u.count in
    record {
      lawful = record {
        count = subst (λ (k : ℕ). k < 2 ^ 32) (sym len) a.spelled.lawful;
        each = subst (λ (l : List ℕ). AllFollow (IsNextOffset rows) [] l) (sym u.all) u.follow;
      };
      takes = Takes-then p a.first.1 x.1 (to_le_bytes w32 (length x.0)) (flat_map offset_bytes x.0)
          (subst (λ (k : ℕ). Takes p a.first.1 (to_le_bytes w32 k)) (sym len) a.spelled.takes)
          (subst (λ (l : List ℕ). Takes a.first.1 x.1 (flat_map offset_bytes l)) (sym u.all) u.takes);
    }

offsets_again : (rows : ℕ) (offsets : List ℕ) (at : ℕ) (rest : List ℕ) → AreOffsets rows offsets
    → offsets_at rows (before at (offsets_bytes offsets) rest) ≡ Ok (offsets, after at (offsets_bytes offsets) rest)
unfolding offsets_at
offsets_again rows offsets at rest h =
    let place : at + 4 + length (flat_map offset_bytes offsets) ≡ at + length (offsets_bytes offsets) = omega arith in
    rw (
      number_again w32 wide32 (length offsets) (flat_map offset_bytes offsets ++ rest) at h.count,
      list_again (offset_at rows) (IsNextOffset rows) offset_bytes (offset_again rows) offsets [] (at + 4) rest h.each,
    ) (ap (λ (n : ℕ). done (offsets, record { at = n; rest = rest })) place)

-- ---- the page

page_takes : (columns : ℕ) (p : Place) (x : GroupPage × Place) → IsBytes p.rest → page_at columns p ≡ Ok x
    → IsSpelled (IsPage columns) page_bytes p x
unfolding page_at
page_takes columns p x fits e =
    let a = first_step (checked_at w32 is_row_count) (IsChecked w32 is_row_count) (to_le_bytes w32)
    (checked_takes w32 wide32 is_row_count) p
    (λ rows. checked_at w16 (is_width columns) rows.1 >>= λ width. offsets_at rows.0 width.1
    >>= λ deleted. list_at (always (vectors_at rows.0)) columns [] deleted.1
    >>= λ refs. Ok (record { rows = rows.0; deleted = deleted.0; columns = refs.0 }, refs.1)) x fits e in
    let rows = a.first in
    let b = first_step (checked_at w16 (is_width columns)) (IsChecked w16 (is_width columns)) (to_le_bytes w16)
    (checked_takes w16 wide16 (is_width columns)) rows.1
    (λ width. offsets_at rows.0 width.1
    >>= λ deleted. list_at (always (vectors_at rows.0)) columns [] deleted.1
    >>= λ refs. Ok (record { rows = rows.0; deleted = deleted.0; columns = refs.0 }, refs.1)) x
    a.spelled.takes.left a.onward in
    let width = b.first in
    let c = first_step (offsets_at rows.0) (AreOffsets rows.0) offsets_bytes (offsets_takes rows.0) width.1
    (λ deleted. list_at (always (vectors_at rows.0)) columns [] deleted.1
    >>= λ refs. Ok (record { rows = rows.0; deleted = deleted.0; columns = refs.0 }, refs.1)) x
    b.spelled.takes.left b.onward in
    let deleted = c.first in
    let d = bind_ok (list_at (always (vectors_at rows.0)) columns [] deleted.1)
    (λ refs. Ok (record { rows = rows.0; deleted = deleted.0; columns = refs.0 }, refs.1)) x c.onward in
    let refs = d.0 in
    let u = each_takes (vectors_at rows.0) (AreVectors rows.0) vectors_bytes (vectors_field rows.0) columns deleted.1 refs
    c.spelled.takes.left d.1 in
    let is_it : width.0 ≡ columns = (Decides-eqb width.0 columns).0 b.spelled.lawful.passes in
    let wide : width.0 ≡ length refs.0 = is_it ∙ sym u.count in
    subst (λ (y : GroupPage × Place). IsSpelled (IsPage columns) page_bytes p y)
    (ok_is (record { rows = rows.0; deleted = deleted.0; columns = refs.0 }, refs.1) x d.2)
    (record {
      lawful = record {
        rows = a.spelled.lawful.passes;
        width = u.count;
        fits = subst (λ (k : ℕ). k < 2 ^ 16) is_it b.spelled.lawful.fits;
        deleted = c.spelled.lawful;
        each = u.each;
      };
      takes = Takes-then p rows.1 refs.1 (to_le_bytes w32 rows.0)
          (to_le_bytes w16 (length refs.0) ++ (offsets_bytes deleted.0 ++ flat_map vectors_bytes refs.0)) a.spelled.takes
          (Takes-then rows.1 width.1 refs.1 (to_le_bytes w16 (length refs.0))
          (offsets_bytes deleted.0 ++ flat_map vectors_bytes refs.0)
          (subst (λ (k : ℕ). Takes rows.1 width.1 (to_le_bytes w16 k)) wide b.spelled.takes)
          (Takes-then width.1 deleted.1 refs.1 (offsets_bytes deleted.0) (flat_map vectors_bytes refs.0) c.spelled.takes
          u.takes));
    })

page_again : (columns : ℕ) (page : GroupPage) (at : ℕ) (rest : List ℕ) → IsPage columns page
    → page_at columns (before at (page_bytes page) rest) ≡ Ok (page, after at (page_bytes page) rest)
unfolding page_at
page_again columns page at rest h =
    let rows = to_le_bytes w32 page.rows in
    let width = to_le_bytes w16 (length page.columns) in
    let deleted = offsets_bytes page.deleted in
    let refs = flat_map vectors_bytes page.columns in
    let few : page.rows ≤ 122880 = leb-true page.rows 122880
    (and_parts (ltb 0 page.rows) (leb page.rows 122880) h.rows).1 in
    let same : eqb (length page.columns) columns ≡ true = (Decides-eqb (length page.columns) columns).1 h.width in
    let fits : length page.columns < 2 ^ 16 = subst (λ (k : ℕ). k < 2 ^ 16) (sym h.width) h.fits in
    let each : list_at (always (vectors_at page.rows)) columns []
    (before (at + 4 + 2 + length (offsets_bytes page.deleted)) (flat_map vectors_bytes page.columns) rest) ≡ Ok
    (page.columns, after (at + 4 + 2 + length (offsets_bytes page.deleted)) (flat_map vectors_bytes page.columns) rest)
    = subst (λ (k : ℕ). list_at (always (vectors_at page.rows)) k []
    (before (at + 4 + 2 + length (offsets_bytes page.deleted)) (flat_map vectors_bytes page.columns) rest) ≡ Ok
    (page.columns, after (at + 4 + 2 + length (offsets_bytes page.deleted)) (flat_map vectors_bytes page.columns) rest))
    h.width
    (each_again (vectors_at page.rows) (AreVectors page.rows) vectors_bytes (vectors_field page.rows) page.columns
    (at + 4 + 2 + length (offsets_bytes page.deleted)) rest h.each) in
    let place : at + 4 + 2 + length (offsets_bytes page.deleted) + length (flat_map vectors_bytes page.columns)
    ≡ at + length (page_bytes page)
    = omega (arith, length-append (offsets_bytes page.deleted) (flat_map vectors_bytes page.columns)) in
    ap (λ (l : List ℕ). page_at columns (record { at = at; rest = rows ++ (width ++ l) })) (append_assoc deleted refs rest)
    ∙ rw (
      number_again w32 wide32 page.rows (width ++ (deleted ++ (refs ++ rest))) at (omega arith),
      h.rows,
      number_again w16 wide16 (length page.columns) (deleted ++ (refs ++ rest)) (at + 4) fits,
      same,
      offsets_again page.rows page.deleted (at + 4 + 2) (refs ++ rest) h.deleted,
      each,
    ) (ap (λ (n : ℕ). done (page, record { at = n; rest = rest })) place)

pub page_field : (columns : ℕ) → IsField (page_at columns) (IsPage columns) page_bytes
page_field columns = record { takes = page_takes columns; again = page_again columns }

-- each vector has its number of segments
pub columns_counted : (rows : ℕ) (columns : List (List (List SegmentRef))) → AllByRecursion (AreVectors rows) columns
    → AllByRecursion (AllByRecursion HasCount) columns
columns_counted rows [] h = tt
columns_counted rows (vectors ∷ columns) h =
    (vectors_counted rows [] vectors h.0.each, columns_counted rows columns h.1)
