-- A chunk is read, and made, by its items.
use Rattle.std.proofs.Common.{◌≡◌, ℕ, zero, suc, ◌+◌, ◌-◌, ◌<◌, List, [], ◌∷◌, ◌++◌, map, length, replicate, set, get_or, slice_get, Option, Some, None, refl, sym, ap, ◌∙◌, arith, length-append}
use Rattle.std.proofs.lemmas.List.{length-map, length-replicate, length_push}
use Rattle.dk_undo.specs.Places.{somes, filled}
use Rattle.dk_undo.specs.Chunk.{IsChunk}
use Rattle.dk_undo.specs.declared.chunk.Chunk.TheInside.{Inside}
use Rattle.dk_undo.specs.declared.cells.Cells.{Cells}
use Rattle.dk_undo.proofs.PlaceLemmas.{somes-filled, filled_at, filled-put, filled-take}

module _ {X : Type 0} where
  -- a list with an item is one that ends with an item
  pub cut_end : (xs : List X) (n : ℕ) → length xs ≡ n + 1 → (us : List X) × (x : X) × (xs ≡ us ++ x ∷ [])
  cut_end [] n h = absurd (omega arith)
  cut_end (x ∷ []) n h = ([], x, refl)
  cut_end (x ∷ y ∷ xs) n h = let on = cut_end (y ∷ xs) (length xs) (omega arith) in
      (x ∷ on.0, on.1, ap (λ l. x ∷ l) on.2)

  slice_get-last : (us : List X) (x : X) (i : ℕ) → i ≡ length us → slice_get (us ++ x ∷ []) i ≡ Some x
  slice_get-last [] x i e = rw e refl
  slice_get-last (y ∷ us) x zero e = absurd (omega arith)
  slice_get-last (y ∷ us) x (suc i) e = slice_get-last us x i (omega arith)

  -- the item at an index within
  pub item_at : (xs : List X) (i : ℕ) → i < length xs → (x : X) × (slice_get xs i ≡ Some x)
  item_at [] i h = absurd (omega arith)
  item_at (x ∷ xs) zero h = (x, refl)
  item_at (x ∷ xs) (suc i) h = item_at xs i (omega arith)

  -- an index within the first list
  pub slice_get-front : (xs ys : List X) (i : ℕ) → i < length xs → slice_get (xs ++ ys) i ≡ slice_get xs i
  slice_get-front [] ys i h = absurd (omega arith)
  slice_get-front (x ∷ xs) ys zero h = refl
  slice_get-front (x ∷ xs) ys (suc i) h = slice_get-front xs ys i (omega arith)

  -- an index past the first list
  pub slice_get-behind : (xs ys : List X) (i j : ℕ) → i ≡ length xs + j → slice_get (xs ++ ys) i ≡ slice_get ys j
  slice_get-behind [] ys i j h = ap (slice_get ys) (omega arith)
  slice_get-behind (x ∷ xs) ys zero j h = absurd (omega arith)
  slice_get-behind (x ∷ xs) ys (suc i) j h = slice_get-behind xs ys i j (omega arith)

  -- a chunk is made by its items
  pub laid_as : (b : Inside X) (ys : List X) (k : ℕ) → (b.cells.at ≡ b.base.ptr) × (b.deed.at ≡ b.base.ptr)
      × (b.deed.len ≡ 64) × (b.deed.alloc ≡ b.alloc)
      → b.cells.slots ≡ filled ys k → k + length ys ≡ 64 → IsChunk b × (somes b.cells.slots ≡ ys)
  laid_as b ys k block laid all =
      let e : somes b.cells.slots ≡ ys = ap somes laid ∙ somes-filled ys k in
      let left : k ≡ 64 - length (somes b.cells.slots) = omega (arith, ap length e) in
      (record { block = block; within = omega (arith, ap length e); laid = laid ∙ (λ j. filled (sym e j) (left j)) }, e)

  module _ (a : Inside X) (is : IsChunk a) where
    abbrev xs : List X
    xs = somes a.cells.slots

    -- a place holds the item at its index, if there is one
    pub place_holds : (i : ℕ) → get_or a.cells.slots i None ≡ slice_get xs i
    place_holds i = ap (λ cs. get_or cs i None) is.laid ∙ filled_at xs (64 - length xs) i

    -- a chunk has 64 places
    pub length-slots : length a.cells.slots ≡ 64
    length-slots = let low = is.within in
        omega (
          arith,
          ap length is.laid,
          length-append (map Some xs) (replicate (64 - length xs) None),
          length-map xs (λ x. Some x),
          length-replicate {A = Option X} (64 - length xs) None,
        )

    -- an empty place is filled
    pub put_into : (cells : Cells X) (i : ℕ) (x : X) → i ≡ length xs → i < 64 → cells.at ≡ a.cells.at
        → cells.slots ≡ set a.cells.slots i (Some x)
        → IsChunk (record a { cells = cells }) × (somes cells.slots ≡ xs ++ x ∷ [])
    put_into cells i x here room at put =
        let k : ℕ = 64 - (length xs + 1) in let more : 64 - length xs ≡ suc k = omega arith in
        laid_as (record a { cells = cells }) (xs ++ x ∷ []) k (at ∙ is.block.0, is.block.1, is.block.2, is.block.3)
        (put ∙ (λ j. set (is.laid j) (here j) (Some x)) ∙ ap (λ n. set (filled xs n) (length xs) (Some x)) more
        ∙ filled-put xs k x)
        (omega (arith, length_push xs x))

    -- the last item is taken
    pub taken_from : (cells : Cells X) (i : ℕ) (x : X) → length xs ≡ i + 1 → cells.at ≡ a.cells.at
        → cells.slots ≡ set a.cells.slots i None → get_or a.cells.slots i None ≡ Some x
        → IsChunk (record a { cells = cells }) × (xs ≡ somes cells.slots ++ x ∷ [])
    taken_from cells i x here at taken value =
        let on = cut_end xs i here in let us = on.0 in let y = on.1 in let low = is.within in
        let long : length xs ≡ length us + 1 = ap length on.2 ∙ length_push us y in
        let i_is : i ≡ length us = omega arith in
        let k : ℕ = 64 - length xs in
        let made = laid_as (record a { cells = cells }) us (suc k) (at ∙ is.block.0, is.block.1, is.block.2, is.block.3)
        (taken ∙ (λ j. set (is.laid j) (i_is j) None) ∙ ap (λ l. set (filled l k) (length us) None) on.2
        ∙ filled-take us k y) (omega arith) in
        let got : Some x ≡ Some y = sym value ∙ place_holds i ∙ ap (λ l. slice_get l i) on.2
        ∙ slice_get-last us y i i_is in
        let same : y ≡ x = cc in
        (made.0, on.2 ∙ (λ j. sym made.1 j ++ same j ∷ []))

    -- a chunk without items has empty places alone
    pub empty_laid : xs ≡ [] → a.cells.slots ≡ replicate 64 None
    empty_laid none = is.laid ∙ ap (λ l. filled l (64 - length l)) none
