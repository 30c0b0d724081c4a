-- A row within a list of values.
use Rattle.std.proofs.Common.{◌≡◌, ℕ, zero, suc, ◌+◌, ◌-◌, ◌<◌, List, [], ◌∷◌, ◌++◌, length, take, drop, get_or, Some, refl, ap, sym, ◌∙◌, arith}
use Rattle.std.specs.Prelude.{slice_get, Result, Ok, Err, OnOk, OnErr}
use Rattle.dk_rows.specs.Parts.{LiesIn}
use Rattle.std.proofs.lemmas.List.{drop_more, length-drop, length-take-le, take-append-le, take_all, append_assoc}
use Rattle.std.proofs.lemmas.Option.{slice_get-get_or, slice_get_within, get_or_from_slice_get}
use Rattle.dk_rows.specs.Parts.{parts, AreEnds}
use Rattle.dk_rows.proofs.PartsLemmas.{parts_more, ends_more}

module _ {T : Type 0} where
  pub row_len : (values : List T) (start end : ℕ) → LiesIn start end (length values) → length (take (end - start) (drop start values)) ≡ end - start
  row_len values start end h = length-take-le (end - start) (drop start values) (omega (arith, h.order, h.within, length-drop start values))

  take_at : (n : ℕ) (xs : List T) (j : ℕ) → j < n → slice_get (take n xs) j ≡ slice_get xs j
  take_at zero xs j h = absurd (omega (arith, h))
  take_at (suc n) [] j h = refl
  take_at (suc n) (x ∷ xs) zero h = refl
  take_at (suc n) (x ∷ xs) (suc j) h = take_at n xs j (omega (arith, h))

  drop_at : (n : ℕ) (xs : List T) (j : ℕ) → slice_get (drop n xs) j ≡ slice_get xs (n + j)
  drop_at zero xs j = ap (slice_get xs) (omega arith)
  drop_at (suc n) [] j = refl
  drop_at (suc n) (x ∷ xs) j = let next : suc n + j ≡ suc (n + j) = omega arith in drop_at n xs j ∙ ap (slice_get (x ∷ xs)) (sym next)

  -- a front that is longer by one
  pub take_more : (xs : List T) (j : ℕ) (x : T) → slice_get xs j ≡ Some x → take (j + 1) xs ≡ take j xs ++ x ∷ []
  take_more [] j x e = absurd cc
  take_more (y ∷ xs) zero x e = let same : y ≡ x = cc in ap (λ (z : T). z ∷ []) same
  take_more (y ∷ xs) (suc j) x e =
      let next : suc j + 1 ≡ suc (j + 1) = omega arith in
      ap (λ (k : ℕ). take k (y ∷ xs)) next ∙ ap (λ (zs : List T). y ∷ zs) (take_more xs j x e)

  -- the j-th value of the row stands j behind its start
  pub row_at : (values : List T) (start len j : ℕ) → j < len → slice_get (take len (drop start values)) j ≡ slice_get values (start + j)
  row_at values start len j h = take_at len (drop start values) j h ∙ drop_at start values j

  -- what was put behind a list is taken back
  pub taken_back : (front more all : List T) (n : ℕ) → all ≡ front ++ more → n ≡ length front → take n all ≡ front
  taken_back front more all n e h = rw (e, h) (take-append-le (length front) front more (omega arith) ∙ take_all (length front) front (omega arith))

  -- the next value of a row behind those that were put before
  pub put_next : (front row all : List T) (j : ℕ) (x : T) → all ≡ front ++ take j row → slice_get row j ≡ Some x → all ++ x ∷ [] ≡ front ++ take (j + 1) row
  put_next front row all j x e h = rw (e, take_more row j x h) (append_assoc front (take j row) (x ∷ []))

  -- what a row leaves that ended behind all values, or was taken back
  pub row_ended : {E : Type 0} (r : Result (Unit {0}) E) (items put items' : List T) (ends ends' : List ℕ) (row : List T) (n : ℕ) → AreEnds 0 items ends → n ≡ length items → put ≡ items ++ row
      → OnOk r (items' ≡ put) → OnOk r (ends' ≡ ends ++ length put ∷ []) → OnErr r (items' ≡ take n put) → OnErr r (ends' ≡ ends)
      → AreEnds 0 items' ends' × OnOk r (parts 0 items' ends' ≡ parts 0 items ends ++ row ∷ []) × OnErr r (parts 0 items' ends' ≡ parts 0 items ends)
  row_ended (Ok x) items put items' ends ends' row n h len e p q u v = rw (q, p, e) (ends_more 0 items row ends h, parts_more 0 items row ends h, tt)
  row_ended (Err x) items put items' ends ends' row n h len e p q u v =
      let back : items' ≡ items = u ∙ taken_back items row put n e len in
      rw (v, back) (h, tt, refl)

  -- fronts that are the same stay so at the same next value
  pub same_more : (xs ys : List T) (j : ℕ) (x y : T) → take j xs ≡ take j ys → slice_get xs j ≡ Some x → slice_get ys j ≡ Some y → x ≡ y → take (j + 1) xs ≡ take (j + 1) ys
  same_more xs ys j x y e h k same =
      take_more xs j x h ∙ ap (λ (zs : List T). zs ++ x ∷ []) e ∙ ap (λ (z : T). take j ys ++ z ∷ []) same ∙ sym (take_more ys j y k)

  -- what indexing gave
  pub indexed : (ys : List T) (j : ℕ) (y : T) → j < length ys → y ≡ get_or ys j y → slice_get ys j ≡ Some y
  indexed ys j y lt f = slice_get-get_or ys j y lt ∙ ap (λ (z : T). Some z) (sym f)

  -- a copy of a front, and of the next value
  pub copied_more : (xs made made' : List T) (j : ℕ) (x y : T) → made ≡ take j xs → slice_get xs j ≡ Some x → y ≡ x → made' ≡ made ++ y ∷ [] → made' ≡ take (j + 1) xs
  copied_more xs made made' j x y e h same more = more ∙ ap (λ (zs : List T). zs ++ y ∷ []) e ∙ ap (λ (z : T). take j xs ++ z ∷ []) same ∙ sym (take_more xs j x h)

  -- what is left from the j-th on
  pub drop_next : (xs : List T) (j : ℕ) (x : T) → slice_get xs j ≡ Some x → drop j xs ≡ x ∷ drop (j + 1) xs
  drop_next xs j x e = drop_more xs j x (slice_get_within xs j x e) ∙ ap (λ (y : T). y ∷ drop (j + 1) xs) (get_or_from_slice_get xs j x x e)
