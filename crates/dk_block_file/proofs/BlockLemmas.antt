-- A block that was written is read, and the others stay.
use Rattle.std.specs.Prelude.{◌≡◌, ◌≢◌, ℕ, ◌+◌, ◌<◌, ◌≤◌, max, Bool, true, false, ◌==◌, nat_lt, Result, Ok, Err, OnOk, IfErr, IsErrAnd, List, length, take, drop, Option, None, Some, IfSome, refl, if◌then◌else◌}
use Rattle.std.proofs.Common.{option_map, inl, inr, sym, ◌∙◌, ap, subst, arith}
use Rattle.std.proofs.lemmas.Bool.{cases_lt, lt-ltb, le-ltb, eq-eqb}
use Rattle.std.proofs.lemmas.Bool.Decides.{eqb_tells}
use Rattle.std.proofs.lemmas.Result.{err_from_is_err_and}
use Rattle.dk_types.specs.declared.damage.Damage.{Damage}
use Rattle.dk_types.specs.declared.damage.Damage.TheVariants.{Sum, Outside}
use Rattle.dk_header.specs.declared.header.TheConstants.{SUM_BYTES}
use Rattle.dk_header.proofs.HeaderLemmas.{with_checksum_matches}
use Rattle.dk_fault.specs.Causes.{Rose}
use Rattle.dk_device.specs.declared.device.Disk.{Ghosts}
use Rattle.dk_device.specs.Calls.{Call, Stopped}
use Rattle.dk_device.specs.declared.device.FileId.TheVariants.{Main}
use Rattle.dk_device.specs.Changes.{images_of}
use Rattle.dk_device.specs.Disk.{overlay, TornWrite, Allows}
use Rattle.dk_device.specs.ContentIsImage.{length-overlaid}
use Rattle.dk_block_file.specs.declared.fault.BlockFault.{BlockFault}
use Rattle.dk_block_file.specs.declared.fault.BlockFault.TheVariants.{DiskFault, Damaged, OutOfMemory}
use Rattle.dk_block_file.specs.Blocks.{blocks_in, place_of, block_at, stored_sum, payload_sum, with_sum, payload_in, block_read, ReadsAs}
use Rattle.dk_block_file.proofs.RangeLemmas.{range_inside, range_before, range_behind}
use Rattle.dk_block_file.specs.declared.layout.TheConstants.{BLOCK_BYTES}
use Rattle.dk_block_file.specs.Effects.{DecidedBySums, FailsByDisk, MakesToFault, MakesWithMemory, WritesBlock}

chosen : {A : Type 0} (b : Bool) (x y : A) → b ≡ true → (if b then x else y) ≡ x
chosen b x y is = rw is refl

not_chosen : {A : Type 0} (b : Bool) (x y : A) → b ≡ false → (if b then x else y) ≡ y
not_chosen b x y is = rw is refl

within : (block : ℕ) (main : List ℕ) → block < blocks_in (length main)
    → block_read block main ≡ payload_in block (block_at block main)
within block main lt = chosen (nat_lt block (blocks_in (length main))) (payload_in block (block_at block main))
    (Err (Outside block (blocks_in (length main)))) (lt-ltb block (blocks_in (length main)) lt)

opens : (block : ℕ) (bytes : List ℕ) → stored_sum bytes ≡ payload_sum bytes
    → payload_in block bytes ≡ Ok (drop SUM_BYTES bytes)
opens block bytes is =
    chosen (stored_sum bytes == payload_sum bytes) (Ok (drop SUM_BYTES bytes))
    (Err (Sum block (stored_sum bytes) (payload_sum bytes))) (eq-eqb (stored_sum bytes) (payload_sum bytes) is)

differs : (a b : ℕ) → a ≢ b → (a == b) ≡ false
differs a b not = elim (eqb_tells a b) [ inl same ↦ absurd (not same.1) | inr other ↦ other.0 ]

refuses : (block : ℕ) (bytes : List ℕ) → stored_sum bytes ≢ payload_sum bytes
    → payload_in block bytes ≡ Err (Sum block (stored_sum bytes) (payload_sum bytes))
refuses block bytes not =
    not_chosen (stored_sum bytes == payload_sum bytes) (Ok (drop SUM_BYTES bytes))
    (Err (Sum block (stored_sum bytes) (payload_sum bytes))) (differs (stored_sum bytes) (payload_sum bytes) not)

-- what the answer of the comparison says of the block that was read
module _ (block : ℕ) (main buf : List ℕ) (lies : block < blocks_in (length main)) (is : buf ≡ block_at block main) where
  read_is : block_read block main ≡ payload_in block buf
  read_is = within block main lies ∙ ap (λ (l : List ℕ). payload_in block l) (sym is)

  answers : (r : Result (Unit {0}) BlockFault) → OnOk r (stored_sum buf ≡ payload_sum buf)
      → IfErr r (λ e. (e ≡ Damaged (Sum block (stored_sum buf) (payload_sum buf)))
      × (stored_sum buf ≢ payload_sum buf)) → ReadsAs (block_read block main) (drop SUM_BYTES buf) r
  answers (Ok done) matches wrong = read_is ∙ opens block buf matches
  answers (Err DiskFault) matches wrong = tt
  answers (Err (Damaged damage)) matches wrong =
      let told : damage ≡ Sum block (stored_sum buf) (payload_sum buf) = cc in
      read_is ∙ refuses block buf wrong.1 ∙ ap (λ (d : Damage). Err d) (sym told)
  answers (Err OutOfMemory) matches wrong = absurd cc

pub told_answers : (block extent at n : ℕ) (content : Option (List ℕ)) (buf : List ℕ)
    (r : Result (Unit {0}) BlockFault) → IfSome content (λ (m : List ℕ). length m ≡ extent)
    → block < blocks_in extent
    → at ≡ place_of block → n ≡ BLOCK_BYTES → IfSome content (λ (m : List ℕ). buf ≡ take n (drop at m))
    → OnOk r (stored_sum buf ≡ payload_sum buf)
    → IfErr r (λ e. (e ≡ Damaged (Sum block (stored_sum buf) (payload_sum buf)))
    × (stored_sum buf ≢ payload_sum buf))
    → IfSome content (λ (m : List ℕ). ReadsAs (block_read block m) (drop SUM_BYTES buf) r)
told_answers block extent at n None buf r len lies place size is matches wrong = tt
told_answers block extent at n (Some m) buf r len lies place size is matches wrong =
    answers block m buf (subst (λ (n : ℕ). block < blocks_in n) (sym len) lies)
    (is ∙ ap (λ (k : ℕ). take k (drop at m)) size ∙ ap (λ (a : ℕ). take BLOCK_BYTES (drop a m)) place) r
    matches wrong

pub told_fault : (content : Option (List ℕ)) (block : ℕ) (buf : List ℕ)
    → IfSome content (λ (m : List ℕ). ReadsAs (block_read block m) buf (Err DiskFault))
told_fault None block buf = tt
told_fault (Some m) block buf = tt

-- what an exit by a failed call of the disk answers
pub fault_is : (r : Result (Unit {0}) BlockFault) → IsErrAnd r (λ e. e ≡ DiskFault) → r ≡ Err DiskFault
fault_is r h = let p = err_from_is_err_and r h in p.1 ∙ ap (λ (e : BlockFault). Err e) p.2

outside_is : (block : ℕ) (main : List ℕ) → blocks_in (length main) ≤ block
    → block_read block main ≡ Err (Outside block (blocks_in (length main)))
outside_is block main past =
    not_chosen (nat_lt block (blocks_in (length main))) (payload_in block (block_at block main))
    (Err (Outside block (blocks_in (length main)))) (le-ltb block (blocks_in (length main)) past)

pub told_outside : (block extent : ℕ) (content : Option (List ℕ)) (buf : List ℕ)
    → IfSome content (λ (m : List ℕ). length m ≡ extent) → blocks_in extent ≤ block
    → IfSome content (λ (m : List ℕ). ReadsAs (block_read block m) buf
    (Err (Damaged (Outside block (blocks_in extent)))))
told_outside block extent None buf len past = tt
told_outside block extent (Some m) buf len past =
    subst (λ (n : ℕ). block_read block m ≡ Err (Outside block (blocks_in n))) len
    (outside_is block m (subst (λ (n : ℕ). blocks_in n ≤ block) (sym len) past))

-- an answer of another kind is no fault of the disk
pub no_fault : (damage : Damage) (P : Type 0) (r : Result (Unit {0}) BlockFault)
    → IfErr r (λ e. (e ≡ Damaged damage) × P) → r ≡ Err DiskFault → ⊥
no_fault damage P (Ok done) wrong is = cc
no_fault damage P (Err e) wrong is = absurd cc

-- a block behind its write
module _ (block : ℕ) (bytes m : List ℕ) (len : length bytes ≡ BLOCK_BYTES) (begins : place_of block ≤ length m) where
  lies : block < blocks_in (length (overlay (place_of block) bytes m))
  lies = omega (arith, length-overlaid (place_of block) bytes m)

  reads_written : stored_sum bytes ≡ payload_sum bytes
      → block_read block (overlay (place_of block) bytes m) ≡ Ok (drop SUM_BYTES bytes)
  reads_written matches =
      within block (overlay (place_of block) bytes m) lies
      ∙ ap (λ (l : List ℕ). payload_in block l) (range_inside (place_of block) BLOCK_BYTES bytes m len begins)
      ∙ opens block bytes matches

  other_stays : (k : ℕ) → k < blocks_in (length m) → k ≢ block
      → block_at k (overlay (place_of block) bytes m) ≡ block_at k m
  other_stays k there not = elim (cases_lt k block) [
    | inl before ↦ range_before (place_of k) BLOCK_BYTES (place_of block) bytes m (omega arith) begins
    | inr behind ↦ ap (λ (l : List ℕ). take BLOCK_BYTES l)
        (range_behind (place_of k) (place_of block) bytes m (omega (arith, not)))
  ]

pub sealed_matches : (buf : List ℕ) → stored_sum (with_sum buf) ≡ payload_sum (with_sum buf)
sealed_matches buf = with_checksum_matches (drop SUM_BYTES buf)

pub told_reads : (block extent : ℕ) (bytes : List ℕ) (old new : Option (List ℕ))
    → IfSome old (λ (m : List ℕ). length m ≡ extent) → place_of block ≤ extent → length bytes ≡ BLOCK_BYTES
    → stored_sum bytes ≡ payload_sum bytes → new ≡ option_map (overlay (place_of block) bytes) old
    → IfSome new (λ (m : List ℕ). block_read block m ≡ Ok (drop SUM_BYTES bytes))
told_reads block extent bytes None new len begins whole matches written = rw written tt
told_reads block extent bytes (Some m) new len begins whole matches written =
    rw written (reads_written block bytes m whole (omega arith) matches)

pub told_others : (block extent : ℕ) (bytes : List ℕ) (old new : Option (List ℕ))
    → IfSome old (λ (m : List ℕ). length m ≡ extent) → place_of block ≤ extent → length bytes ≡ BLOCK_BYTES
    → new ≡ option_map (overlay (place_of block) bytes) old → (k : ℕ) → k < blocks_in extent → k ≢ block
    → option_map (block_at k) new ≡ option_map (block_at k) old
told_others block extent bytes None new len begins whole written k there not = rw written refl
told_others block extent bytes (Some m) new len begins whole written k there not =
    rw written (ap (λ (l : List ℕ). Some l)
    (other_stays block bytes m whole (omega arith) k (subst (λ (n : ℕ). k < blocks_in n) (sym len) there) not))

-- what a comparison of the checksums answers
pub decided : (block : ℕ) (bytes : List ℕ) (r : Result (Unit {0}) BlockFault)
    → OnOk r (stored_sum bytes ≡ payload_sum bytes)
    → IfErr r (λ e. (e ≡ Damaged (Sum block (stored_sum bytes) (payload_sum bytes)))
    × (stored_sum bytes ≢ payload_sum bytes)) → DecidedBySums block bytes r
decided block bytes (Ok done) matches wrong = matches
decided block bytes (Err DiskFault) matches wrong = tt
decided block bytes (Err (Damaged damage)) matches wrong = (same_damage wrong.0, wrong.1)
  where
    same_damage : {d e : Damage} → Damaged d ≡ Damaged e → d ≡ e
    same_damage is = cc
decided block bytes (Err OutOfMemory) matches wrong = absurd cc

pub fault_decides : (block : ℕ) (bytes : List ℕ) (r : Result (Unit {0}) BlockFault)
    → IsErrAnd r (λ e. e ≡ DiskFault) → DecidedBySums block bytes r
fault_decides block bytes r is =
    subst (λ (x : Result (Unit {0}) BlockFault). DecidedBySums block bytes x) (sym (fault_is r is)) tt

-- where a call of the disk failed
pub fails_by_disk : {T : Type 0} (before now : ℕ) (r : Result T BlockFault) → IsErrAnd r (λ e. e ≡ DiskFault)
    → before ≤ now → Rose before now → FailsByDisk before now r
fails_by_disk before now (Ok v) is later rose = record { later = later; failed = tt }
fails_by_disk before now (Err e) is later rose = record { later = later; failed = (is, rose) }

pub makes_up_to : {D : Type 0} (g : Ghosts D) (calls : List Call) (a b : D) (r : Result (Unit {0}) BlockFault)
    → IsErrAnd r (λ e. e ≡ DiskFault)
    → Stopped calls (g.time a) (g.calls a) (g.time b) (g.calls b) → MakesToFault g calls a b r
makes_up_to g calls a b r is stopped = record { done = λ not. absurd (not (fault_is r is)); failed = λ fault. stopped }

-- what a creation makes that met a fault of the disk
pub made_to_fault : {D : Type 0} (g : Ghosts D) (calls : List Call) (a b : D) (r : Result (Unit {0}) BlockFault)
    → IsErrAnd r (λ e. e ≡ DiskFault)
    → Stopped calls (g.time a) (g.calls a) (g.time b) (g.calls b) → MakesWithMemory g calls a b r
made_to_fault g calls a b (Ok v) is stopped = absurd is
made_to_fault g calls a b (Err e) is stopped =
    record { done = tt; failed = λ fault. stopped; memory = λ none. absurd cc }

-- a block that was written, told by the call that wrote it
pub written_block : {D T E : Type 0} (g : Ghosts D) (block at : ℕ) (bytes : List ℕ) (a b : D) (r : Result T E)
    → IfSome (g.content a Main) (λ (m : List ℕ). length m ≡ g.extent a Main)
    → place_of block ≤ g.extent a Main → length bytes ≡ BLOCK_BYTES → stored_sum bytes ≡ payload_sum bytes
    → at ≡ place_of block
    → OnOk r (g.content b Main ≡ option_map (overlay at bytes) (g.content a Main))
    → OnOk r (g.extent b Main ≡ max (g.extent a Main) (at + length bytes))
    → OnOk r (Allows (TornWrite at (length bytes) (g.extent a Main)) (images_of g a Main) (images_of g b Main))
    → OnOk r (WritesBlock g block bytes a b)
written_block g block at bytes a b (Err e) len begins whole matches place written grown torn = tt
written_block g block at bytes a b (Ok v) len begins whole matches place written grown torn = record {
  written = there;
  reads = told_reads block (g.extent a Main) bytes (g.content a Main) (g.content b Main) len begins whole matches there;
  others = told_others block (g.extent a Main) bytes (g.content a Main) (g.content b Main) len begins whole there;
  grown = omega (arith, grown, place, whole);
  torn =
      subst (λ (p : ℕ). Allows (TornWrite p BLOCK_BYTES (g.extent a Main)) (images_of g a Main)
      (images_of g b Main)) place
      (subst (λ (n : ℕ). Allows (TornWrite at n (g.extent a Main)) (images_of g a Main) (images_of g b Main)) whole
      torn);
}
  where
    there : g.content b Main ≡ option_map (overlay (place_of block) bytes) (g.content a Main)
    there = subst (λ (p : ℕ). g.content b Main ≡ option_map (overlay p bytes) (g.content a Main)) place written
