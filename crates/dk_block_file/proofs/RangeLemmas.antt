-- A range written over bytes, and the bytes around it.
use Rattle.std.specs.Prelude.{◌≡◌, ℕ, ◌+◌, ◌-◌, ◌≤◌, min, List, [], ◌∷◌, ◌++◌, length, take, drop, replicate, Option, None, Some, IfSome}
use Rattle.std.proofs.Common.{option_map, sym, ◌∙◌, ap, subst, arith, get_or, append_assoc, length-append, length-drop}
use Rattle.std.proofs.lemmas.List.{length-replicate, take_all, take_at, drop_at, take-append-le, take-take, drop-drop, drop-take, length-take, get_or-drop, get_or_at}
use Rattle.std.proofs.Math.Seq.{take-append-add}
use Rattle.dk_header.specs.declared.header.TheConstants.{SUM_BYTES}
use Rattle.dk_device.specs.Disk.{overlay}
use Rattle.dk_device.specs.ContentIsImage.{back, torn_overlaid}
use Rattle.dk_device.proofs.ReplacementLemmas.{all_written}
use Rattle.dk_block_file.specs.Lending.{with_payload}
use Rattle.dk_block_file.specs.declared.layout.TheConstants.{BLOCK_BYTES, PAYLOAD_BYTES}

-- the bytes behind a place, replaced
replaced : (n k m : ℕ) (items w : List ℕ) → n ≡ k + m → length items ≡ k + m
    → take n ((take k items ++ (w ++ drop (length w) (drop k items))) ++ drop
    (length (take k items ++ (w ++ drop (length w) (drop k items)))) items)
    ≡ take k items ++ take m (w ++ drop (length w) (drop k items))
replaced n k m items w is len =
    let front : List ℕ = take k items in
    let back : List ℕ = w ++ drop (length w) (drop k items) in
    let front_len : length front ≡ k = omega (arith, length-take k items) in
    let whole : n ≡ length front + m = omega (arith, length-take k items) in
    let back_len : m ≤ length back =
    omega (
      arith,
      length-append w (drop (length w) (drop k items)),
      length-drop (length w) (drop k items),
      length-drop k items,
    ) in
    take-append-le n (front ++ back) (drop (length (front ++ back)) items) (omega (arith, length-append front back))
    ∙ ap (λ (j : ℕ). take j (front ++ back)) whole
    ∙ take-append-add front back m

pub with_lent : (n : ℕ) (items w : List ℕ) → n ≡ length items → length items ≡ BLOCK_BYTES
    → take n ((take SUM_BYTES items ++ (w ++ drop (length w) (drop SUM_BYTES items))) ++ drop
    (length (take SUM_BYTES items ++ (w ++ drop (length w) (drop SUM_BYTES items)))) items) ≡ with_payload
    items w
with_lent n items w is len = replaced n SUM_BYTES PAYLOAD_BYTES items w (omega arith) (omega arith)

-- the written range reads as it was written
pub range_inside : (at n : ℕ) (bytes m : List ℕ) → length bytes ≡ n → at ≤ length m
    → take n (drop at (overlay at bytes m)) ≡ bytes
range_inside at n bytes m len within =
    let behind : List ℕ = drop (at + length bytes) m in
    ap (λ (l : List ℕ). take n (drop at l)) (append_assoc (take at m) bytes behind)
    ∙ ap (λ (l : List ℕ). take n l) (drop_at (take at m) (bytes ++ behind) at (omega (arith, length-take at m)))
    ∙ take_at bytes (drop (at + length bytes) m) n len

-- what stands before it stays
pub range_before : (a n at : ℕ) (bytes m : List ℕ) → a + n ≤ at → at ≤ length m
    → take n (drop a (overlay at bytes m)) ≡ take n (drop a m)
range_before a n at bytes m upto within =
    let new = overlay at bytes m in
    let is : min at (length m) ≡ at = omega arith in
    let front : take at new ≡ take at m =
    subst (λ (j : ℕ). take j new ≡ take at m) is (torn_overlaid at 0 bytes m).before in
    sym (drop-take a n new)
    ∙ ap (λ (l : List ℕ). drop a l) (sym (take-take (a + n) at new upto)
    ∙ ap (λ (l : List ℕ). take (a + n) l) front ∙ take-take (a + n) at m upto)
    ∙ drop-take a n m

-- and what stands behind it
pub range_behind : (a at : ℕ) (bytes m : List ℕ) → at + length bytes ≤ a → drop a (overlay at bytes m) ≡ drop a m
range_behind a at bytes m past =
    let new = overlay at bytes m in
    let e = at + length bytes in
    let is : e + (a - e) ≡ a = omega arith in
    subst (λ (j : ℕ). drop j new ≡ drop j m) is (sym (drop-drop (a - e) e new)
    ∙ ap (λ (l : List ℕ). drop (a - e) l) (back at bytes m) ∙ drop-drop (a - e) e m)

pub byte_behind : (i at : ℕ) (bytes m : List ℕ) → at + length bytes ≤ i
    → get_or (overlay at bytes m) i 0 ≡ get_or m i 0
byte_behind i at bytes m past =
    let new = overlay at bytes m in
    let is : i + 0 ≡ i = omega arith in
    subst (λ (j : ℕ). get_or new j 0 ≡ get_or m j 0) is (sym (get_or-drop i new 0 0)
    ∙ ap (λ (l : List ℕ). get_or l 0 0) (range_behind i at bytes m past) ∙ get_or-drop i m 0 0)

pub byte_written : (at b : ℕ) (m : List ℕ) → at ≤ length m → get_or (overlay at (b ∷ []) m) at 0 ≡ b
byte_written at b m within =
    ap (λ (l : List ℕ). get_or l at 0) (append_assoc (take at m) (b ∷ []) (drop (at + 1) m))
    ∙ get_or_at (take at m) b (drop (at + 1) m) 0 at (omega (arith, length-take at m))

-- nothing written leaves all as it was
pub nothing_written : (i at : ℕ) (m : List ℕ) → at ≤ i → get_or (overlay at [] m) i 0 ≡ get_or m i 0
nothing_written i at m past = byte_behind i at [] m (omega arith)

-- a file without bytes that was written
pub told_whole : (bytes : List ℕ) (old new : Option (List ℕ)) → IfSome old (λ (m : List ℕ). length m ≡ 0)
    → new ≡ option_map (overlay 0 bytes) old → IfSome new (λ (w : List ℕ). w ≡ bytes)
told_whole bytes None new none written = rw written tt
told_whole bytes (Some m) new none written = rw written (all_written bytes m none)

-- all bytes behind a place
pub rest_is : (k n : ℕ) (items : List ℕ) → n ≡ length items → take (n - k) (drop k items) ≡ drop k items
rest_is k n items is = take_all (n - k) (drop k items) (omega (arith, length-drop k items))

-- all bytes of a block made zero
pub zeroed : (n m : ℕ) (new items : List ℕ) → new ≡ replicate m 0 → m ≡ BLOCK_BYTES → n ≡ BLOCK_BYTES
    → take n (new ++ drop (length new) items) ≡ replicate BLOCK_BYTES 0
zeroed n m new items is len whole =
    take_at new (drop (length new) items) n (ap (λ (l : List ℕ). length l) is ∙ length-replicate {A = ℕ} m 0 ∙ len
    ∙ sym whole)
    ∙ is
    ∙ ap (λ (k : ℕ). replicate k 0) len
