-- The reading of a chain, part by part.
use Rattle.std.specs.Prelude.{◌≡◌, ℕ, zero, suc, ◌+◌, ◌-◌, ◌<◌, ◌≤◌, ◌==◌, Bool, true, false, not, cond, List, [], ◌∷◌, ◌++◌, length, take, drop, Option, Some, None, IfSome, IfOk, Result, Ok, Err, refl}
use Rattle.std.specs.List.{list_all}
use Rattle.std.specs.Int.{w32, w64, from_le_bytes}
use Rattle.std.proofs.Common.{sym, ◌∙◌, ap, subst, arith, append_assoc, length-append, ltb, leb}
use Rattle.std.proofs.lemmas.Bool.{leb-true, and_parts}
use Rattle.std.proofs.lemmas.Bool.Decides.{Decides-eqb}
use Rattle.dk_types.specs.declared.damage.Damage.{Damage}
use Rattle.dk_types.specs.declared.damage.Damage.TheVariants.{Twice}
use Rattle.dk_types.specs.declared.damage.Part as the
use Rattle.dk_block_man.specs.Used.{is_among, with_block}
use Rattle.dk_device.specs.declared.device.Disk.{Ghosts}
use Rattle.dk_device.specs.declared.device.FileId.TheVariants.{Main}
use Rattle.dk_block_file.specs.Blocks.{blocks_in, block_read, ReadsAs}
use Rattle.dk_block_file.specs.declared.fault.BlockFault.{BlockFault}
use Rattle.dk_block_file.specs.declared.fault.BlockFault.TheVariants.{DiskFault, Damaged, OutOfMemory}
use Rattle.dk_strings.specs.declared.string.StringRef.{StringRef}
use Rattle.dk_strings.specs.declared.string.Found.{Found}
use Rattle.dk_strings.proofs.ChainLemmas.{chain_found, chain_again}
use Rattle.dk_meta.specs.Chain.{Part, next_of, is_length, part_at}
use Rattle.dk_strings.specs.Chains.{Chain, IsChain, unused_read, part_read, behind, chain_from, string_at, with_blocks}
use Rattle.dk_strings.specs.Effects.{chain_of, Tells, Joins}

-- ---- where the place that breaks a rule may lie

length_few : (next : Option ℕ) (len : ℕ) → is_length next len ≡ true → len ≤ 262124
length_few None len h = leb-true len 262124 (and_parts (ltb 0 len) (leb len 262124) h).1
length_few (Some block) len h = let same : len ≡ 262124 = (Decides-eqb len 262124).0 h in omega (arith, same)

place_by : (b z : Bool) (used at : ℕ) (part : Part) → (b ≡ true → used ≤ 262124)
    → cond b (cond z (Ok part) (Err used)) (Err 0) ≡ Err at → at ≤ 262124
place_by true true used at part few e = absurd cc
place_by true false used at part few e = let is : used ≡ at = cc in let le = few refl in omega (arith, le, is)
place_by false z used at part few e = let is : 0 ≡ at = cc in omega (arith, is)

pub place_within : (payload : List ℕ) (at : ℕ) → part_at payload ≡ Err at → at ≤ 262124
place_within payload at e =
    let next = next_of (from_le_bytes w64 (take 8 payload)) in
    let used = from_le_bytes w32 (take 4 (drop 8 payload)) in
    let rest = drop 4 (drop 8 payload) in
    place_by (is_length next used) (list_all (λ byte. byte == 0) (drop used rest)) used at
    (record { next = next; bytes = take used rest }) (length_few next used) e

-- ---- a block

-- a block that isn't there, or is damaged
pub unused_fault : (c : Option (List ℕ)) (used : List ℕ) (block : ℕ) (payload : List ℕ) (fault : BlockFault)
    → IfSome c (λ main. ReadsAs (block_read block main) payload (Err fault))
    → IfSome c (λ main. ReadsAs (unused_read main used block) payload (Err fault))
unfolding unused_read
unused_fault None used block payload fault h = tt
unused_fault (Some main) used block payload DiskFault h = tt
unused_fault (Some main) used block payload (Damaged damage) h = rw h refl
unused_fault (Some main) used block payload OutOfMemory h = h

-- a block that is used already
pub unused_twice : (c : Option (List ℕ)) (used : List ℕ) (block : ℕ) (payload : List ℕ) (was : Bool)
    → was ≡ not (is_among used block) → was ≡ false
    → IfSome c (λ main. ReadsAs (block_read block main) payload (Ok tt))
    → IfSome c (λ main. ReadsAs (unused_read main used block) payload (Err (Damaged (Twice block))))
unfolding unused_read
unused_twice None used block payload was is off h = tt
unused_twice (Some main) used block payload was is off h =
    let on : is_among used block ≡ true = by (is_among used block) (sym is ∙ off) in
    rw (h, on) refl
  where
    by : (b : Bool) → not b ≡ false → b ≡ true
    by true e = refl
    by false e = absurd cc

-- and one that isn't
pub unused_is : (c : Option (List ℕ)) (used : List ℕ) (block : ℕ) (payload : List ℕ) (was : Bool)
    → was ≡ not (is_among used block) → was ≡ true
    → IfSome c (λ main. ReadsAs (block_read block main) payload (Ok tt))
    → IfSome c (λ main. ReadsAs (unused_read main used block) payload (Ok tt))
unfolding unused_read
unused_is None used block payload was is on h = tt
unused_is (Some main) used block payload was is on h =
    let off : is_among used block ≡ false = by (is_among used block) (sym is ∙ on) in
    rw (h, off) refl
  where
    by : (b : Bool) → not b ≡ true → b ≡ false
    by true e = absurd cc
    by false e = refl

-- a part whose block can't be read
pub part_fault : (c : Option (List ℕ)) (part : the.Part) (used : List ℕ) (joined block : ℕ) (payload old new : List ℕ)
    (fault : BlockFault) → IfSome c (λ main. ReadsAs (unused_read main used block) payload (Err fault))
    → IfSome c (λ main. Joins (part_read part main used joined block) old new (Err fault))
part_fault None part used joined block payload old new fault h = tt
part_fault (Some main) part used joined block payload old new DiskFault h = tt
part_fault (Some main) part used joined block payload old new (Damaged damage) h = rw h refl
part_fault (Some main) part used joined block payload old new OutOfMemory h = tt

-- ---- one part more

behind_then : (a b : Chain) (r : Result Chain Damage)
    → behind (record { bytes = a.bytes ++ b.bytes; blocks = a.blocks ++ b.blocks }) r ≡ behind a (behind b r)
behind_then a b (Ok rest) =
    rw (append_assoc a.bytes b.bytes rest.bytes, append_assoc a.blocks b.blocks rest.blocks) refl
behind_then a b (Err d) = refl

-- what was found, and behind it what is read on, is all that is read
abbrev pub IsLeft : (List ℕ → Result Chain Damage) → ℕ → the.Part → List ℕ → Chain → ℕ → List ℕ → Type 0
IsLeft total left part used found root main =
    behind found (chain_from left part main used (length found.bytes) root) ≡ total main

module _ (total : List ℕ → Result Chain Damage) (part : the.Part) (used : List ℕ) (root : ℕ) (found : Chain)
    (main : List ℕ) where
  more_at : (n next : ℕ) (bytes : List ℕ)
      → part_read part main used (length found.bytes) root ≡ Ok (record { next = Some next; bytes = bytes })
      → IsLeft total (suc n) part used found root main
      → IsLeft total n part (with_block root used)
      (record { bytes = found.bytes ++ bytes; blocks = found.blocks ++ root ∷ [] }) next main
  more_at n next bytes read told =
      let rest : Result Chain Damage =
      chain_from n part main (with_block root used) (length found.bytes + length bytes) next in
      let on : chain_from (suc n) part main used (length found.bytes) root
      ≡ behind (record { bytes = bytes; blocks = root ∷ [] }) rest = rw read refl in
      ap (λ (k : ℕ). behind (record { bytes = found.bytes ++ bytes; blocks = found.blocks ++ root ∷ [] })
      (chain_from n part main (with_block root used) k next)) (length-append found.bytes bytes)
      ∙ behind_then found (record { bytes = bytes; blocks = root ∷ [] }) rest
      ∙ ap (λ (r : Result Chain Damage). behind found r) (sym on)
      ∙ told

  last_at : (n : ℕ) (bytes : List ℕ)
      → part_read part main used (length found.bytes) root ≡ Ok (record { next = None; bytes = bytes })
      → IsLeft total (suc n) part used found root main
      → total main ≡ Ok (record { bytes = found.bytes ++ bytes; blocks = found.blocks ++ root ∷ [] })
  last_at n bytes read told =
      let on : chain_from (suc n) part main used (length found.bytes) root
      ≡ Ok (record { bytes = bytes; blocks = root ∷ [] }) = rw read refl in
      sym told ∙ ap (λ (r : Result Chain Damage). behind found r) on

  fault_at : (n : ℕ) (damage : Damage) → part_read part main used (length found.bytes) root ≡ Err damage
      → IsLeft total (suc n) part used found root main → total main ≡ Err damage
  fault_at n damage read told =
      let on : chain_from (suc n) part main used (length found.bytes) root ≡ Err damage = rw read refl in
      sym told ∙ ap (λ (r : Result Chain Damage). behind found r) on

pub with_last : (blocks used : List ℕ) (block : ℕ)
    → with_blocks (blocks ++ block ∷ []) used ≡ with_block block (with_blocks blocks used)
with_last [] used block = refl
with_last (b ∷ blocks) used block = with_last blocks (with_block b used) block

pub marked_more : (blocks blocks' before used used' : List ℕ) (block : ℕ) → used ≡ with_blocks blocks before
    → used' ≡ with_block block used → blocks' ≡ blocks ++ block ∷ [] → used' ≡ with_blocks blocks' before
marked_more blocks blocks' before used used' block marked more noted =
    more ∙ ap (λ (l : List ℕ). with_block block l) marked ∙ sym (with_last blocks before block)
    ∙ ap (λ (l : List ℕ). with_blocks l before) (sym noted)

-- ---- the grammar

-- what was read is in the grammar
pub string_found : (c : Option (List ℕ)) (string : StringRef) (used : List ℕ) (r : Result Found BlockFault)
    → IfSome c (λ main. Tells chain_of (string_at string used main) r)
    → IfSome c (λ main. IfOk r (λ found. IsChain main used string.root (chain_of found)))
string_found None string used r h = tt
string_found (Some main) string used (Ok found) h = chain_found string used main (chain_of found) h
string_found (Some main) string used (Err fault) h = tt

-- and what is in it is read
pub string_only : (c : Option (List ℕ)) (string : StringRef) (used : List ℕ) (r : Result Found BlockFault)
    → IfSome c (λ main. Tells chain_of (string_at string used main) r)
    → IfSome c (λ main. (chain : Chain) → IsChain main used string.root chain → Tells chain_of (Ok chain) r)
string_only None string used r h = tt
string_only (Some main) string used r h = λ chain is.
    subst (λ (reading : Result Chain Damage). Tells chain_of reading r) (chain_again string used main chain is) h

-- ---- on a disk

behind_none : (r : Result Chain Damage) → behind (record { bytes = []; blocks = [] }) r ≡ r
behind_none (Ok rest) = refl
behind_none (Err d) = refl

module _ {D : Type 0} (g : Ghosts D) (string : StringRef) (before : List ℕ) where
  -- what was found, and behind it what is read on with so many blocks left, is the string
  pub record ReadsOn (found : Chain) (used : List ℕ) (left : ℕ) (place : StringRef) (disk : D) : Type 0 where
    pub told : IfSome (g.content disk Main)
        (λ main. IsLeft (λ main. string_at string before main) left place.part used found place.root main)

  pub reads_start : (left extent : ℕ) (disk : D) → IfSome (g.content disk Main) (λ main. length main ≡ extent)
      → left ≡ blocks_in extent + 1 → ReadsOn (record { bytes = []; blocks = [] }) before left string disk
  reads_start left extent disk long is = record { told = at (g.content disk Main) long }
    where
      at : (c : Option (List ℕ)) → IfSome c (λ main. length main ≡ extent)
          → IfSome c (λ main. IsLeft (λ main. string_at string before main) left string.part before
          (record { bytes = []; blocks = [] }) string.root main)
      at None long = tt
      at (Some main) long =
          behind_none (chain_from left string.part main before 0 string.root)
          ∙ ap (λ (n : ℕ). chain_from n string.part main before 0 string.root)
          (is ∙ ap (λ (n : ℕ). blocks_in n + 1) (sym long))

  module _ (found : Chain) (used : List ℕ) (left : ℕ) (place : StringRef) (a b : D) (some : 0 < left)
      (same : g.content b Main ≡ g.content a Main) (on : ReadsOn found used left place a) where
    pub reads_next : (got : Option ℕ) (next : ℕ) (bytes blocks used' : List ℕ) → got ≡ Some next
        → used' ≡ with_block place.root used → blocks ≡ found.blocks ++ place.root ∷ []
        → IfSome (g.content b Main) (λ main. Joins (part_read place.part main used (length found.bytes) place.root)
        found.bytes bytes (Ok got))
        → ReadsOn (record { bytes = bytes; blocks = blocks }) used' (left - 1) (record place { root = next }) a
    reads_next got next bytes blocks used' is marked noted joins =
        record {
          told = at left (g.content a Main) some on.told
              (subst (λ (c : Option (List ℕ)). IfSome c (λ main. Joins
              (part_read place.part main used (length found.bytes) place.root) found.bytes bytes (Ok (Some next)))) same
              (subst (λ (n : Option ℕ). IfSome (g.content b Main) (λ main. Joins
              (part_read place.part main used (length found.bytes) place.root) found.bytes bytes (Ok n))) is joins));
        }
      where
        at : (n : ℕ) (c : Option (List ℕ)) → 0 < n
            → IfSome c (λ main. IsLeft (λ main. string_at string before main) n place.part used found place.root main)
            → IfSome c (λ main. Joins (part_read place.part main used (length found.bytes) place.root) found.bytes bytes
            (Ok (Some next)))
            → IfSome c (λ main. IsLeft (λ main. string_at string before main) (n - 1) place.part used'
            (record { bytes = bytes; blocks = blocks }) next main)
        at n None some told joins = tt
        at zero (Some main) some told joins = absurd (omega (arith, some))
        at (suc n) (Some main) some told joins =
            let less : suc n - 1 ≡ n = omega arith in
            let more = more_at (λ main. string_at string before main) place.part used place.root found main n next joins.0
            joins.1 told in
            rw (less, marked, noted, joins.2) more

    pub reads_last : (got : Option ℕ) (bytes blocks : List ℕ) → got ≡ None → blocks ≡ found.blocks ++ place.root ∷ []
        → IfSome (g.content b Main) (λ main. Joins (part_read place.part main used (length found.bytes) place.root)
        found.bytes bytes (Ok got))
        → IfSome (g.content a Main) (λ main. string_at string before main ≡ Ok (record { bytes = bytes; blocks = blocks }))
    reads_last got bytes blocks is noted joins = at left (g.content a Main) some on.told
        (subst (λ (c : Option (List ℕ)). IfSome c (λ main. Joins
        (part_read place.part main used (length found.bytes) place.root) found.bytes bytes (Ok None))) same
        (subst (λ (n : Option ℕ). IfSome (g.content b Main) (λ main. Joins
        (part_read place.part main used (length found.bytes) place.root) found.bytes bytes (Ok n))) is joins))
      where
        at : (n : ℕ) (c : Option (List ℕ)) → 0 < n
            → IfSome c (λ main. IsLeft (λ main. string_at string before main) n place.part used found place.root main)
            → IfSome c (λ main. Joins (part_read place.part main used (length found.bytes) place.root) found.bytes bytes
            (Ok None))
            → IfSome c (λ main. string_at string before main ≡ Ok (record { bytes = bytes; blocks = blocks }))
        at n None some told joins = tt
        at zero (Some main) some told joins = absurd (omega (arith, some))
        at (suc n) (Some main) some told joins =
            let last = last_at (λ main. string_at string before main) place.part used place.root found main n joins.0
            joins.1 told in
            rw (noted, joins.2) last

    pub reads_fault : (bytes : List ℕ) (fault : BlockFault)
        → IfSome (g.content b Main) (λ main. Joins (part_read place.part main used (length found.bytes) place.root)
        found.bytes bytes (Err fault))
        → IfSome (g.content a Main) (λ main. Tells chain_of (string_at string before main) (Err fault))
    reads_fault bytes fault joins = at left (g.content a Main) fault some on.told
        (subst (λ (c : Option (List ℕ)). IfSome c (λ main. Joins
        (part_read place.part main used (length found.bytes) place.root) found.bytes bytes (Err fault))) same joins)
      where
        at : (n : ℕ) (c : Option (List ℕ)) (fault : BlockFault) → 0 < n
            → IfSome c (λ main. IsLeft (λ main. string_at string before main) n place.part used found place.root main)
            → IfSome c (λ main. Joins (part_read place.part main used (length found.bytes) place.root) found.bytes bytes
            (Err fault))
            → IfSome c (λ main. Tells chain_of (string_at string before main) (Err fault))
        at n None fault some told joins = tt
        at zero (Some main) fault some told joins = absurd (omega (arith, some))
        at (suc n) (Some main) DiskFault some told joins = tt
        at (suc n) (Some main) OutOfMemory some told joins = tt
        at (suc n) (Some main) (Damaged damage) some told joins =
            fault_at (λ main. string_at string before main) place.part used place.root found main n damage joins told

  pub reads_out : (found : Chain) (used : List ℕ) (left : ℕ) (place : StringRef) (a : D) → left ≡ 0
      → ReadsOn found used left place a
      → IfSome (g.content a Main) (λ main. Tells chain_of (string_at string before main)
      (Err (Damaged (Twice place.root))))
  reads_out found used left place a none on = at (g.content a Main) on.told
    where
      at : (c : Option (List ℕ))
          → IfSome c (λ main. IsLeft (λ main. string_at string before main) left place.part used found place.root main)
          → IfSome c (λ main. Tells chain_of (string_at string before main) (Err (Damaged (Twice place.root))))
      at None told = tt
      at (Some main) told = sym told ∙ ap (λ (n : ℕ). behind found
          (chain_from n place.part main used (length found.bytes) place.root)) none
