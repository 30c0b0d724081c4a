-- The blocks beside one that is written, in all that a crash may leave.
use Rattle.std.specs.Prelude.{◌≡◌, ◌≢◌, ℕ, ◌+◌, ◌<◌, ◌≤◌, List, Some, IfSome, length}
use Rattle.std.proofs.Common.{inl, inr, sym, ◌∙◌, subst, arith}
use Rattle.std.proofs.lemmas.Bool.{cases_lt}
use Rattle.dk_device.specs.declared.device.Disk.{Ghosts}
use Rattle.dk_device.specs.declared.device.FileId.TheVariants.{Main}
use Rattle.dk_device.specs.Changes.{images_of, IsSynced, Changes, SamePlaces, KeepsPlaces}
use Rattle.dk_device.specs.Disk.{TornWrite}
use Rattle.dk_device.proofs.ChangeLemmas.{changes_less, changes_now, torn_range, same_range}
use Rattle.dk_block_file.specs.Blocks.{blocks_in, place_of, block_at, HasOneBlock, SameOthers}
use Rattle.dk_block_file.specs.declared.layout.TheConstants.{HEADERS_BYTES, BLOCK_BYTES}

pub torn_others : (block extent : ℕ) (d c : List ℕ) → TornWrite (place_of block) BLOCK_BYTES extent d c
    → SameOthers block extent d c
torn_others block extent d c torn = record {
  no_shorter = torn.no_shorter;
  headers = λ whole. torn_range (place_of block) BLOCK_BYTES extent 0 HEADERS_BYTES d c torn (inl (omega arith))
      (omega (arith, whole));
  others = λ k lies there not. torn_range (place_of block) BLOCK_BYTES extent (place_of k) BLOCK_BYTES d c torn
      (elim (cases_lt k block) [
        | inl before ↦ inl (omega (arith, before))
        | inr behind ↦ let lt : block < k = omega (arith, behind, not) in inr (omega (arith, lt), omega (arith, lies))
      ]) (omega (arith, there));
}

module _ {D : Type 0} (g : Ghosts D) (block : ℕ) (a b : D)
    (changes : Changes g (TornWrite (place_of block) BLOCK_BYTES (g.extent a Main)) Main a b) where
  pub others_images : Changes g (SameOthers block (g.extent a Main)) Main a b
  others_images = changes_less g (TornWrite (place_of block) BLOCK_BYTES (g.extent a Main))
      (SameOthers block (g.extent a Main)) Main a b (λ d c left torn. torn_others block (g.extent a Main) d c torn)
      changes

  pub one_block_stays : (k : ℕ) → k < blocks_in (g.extent a Main) → k ≢ block → HasOneBlock k (images_of g a Main)
      → HasOneBlock k (images_of g b Main)
  one_block_stays k lies not one = record { lies = there; same = both }
    where
      from : (c : List ℕ) → images_of g b Main c
          → (d : List ℕ) × images_of g a Main d × SameOthers block (g.extent a Main) d c
      from c left = changes_now g (SameOthers block (g.extent a Main)) Main a b others_images c left

      there : (c : List ℕ) → images_of g b Main c → k < blocks_in (length c)
      there c left = let start = from c left in let old = one.lies start.0 start.1 in
          omega (arith, old, start.2.no_shorter)

      is : (c : List ℕ) → (left : images_of g b Main c) → block_at k c ≡ block_at k (from c left).0
      is c left = let start = from c left in start.2.others k lies (one.lies start.0 start.1) not

      both : (c d : List ℕ) → images_of g b Main c → images_of g b Main d → block_at k c ≡ block_at k d
      both c d left right = is c left ∙ one.same (from c left).0 (from d right).0 (from c left).1 (from d right).1
          ∙ sym (is d right)

-- after a sync each block of the file is one block
pub one_block_synced : {D : Type 0} (g : Ghosts D) (disk : D) (k : ℕ)
    → IfSome (g.content disk Main) (λ (m : List ℕ). length m ≡ g.extent disk Main)
    → IsSynced g disk Main → k < blocks_in (g.extent disk Main) → HasOneBlock k (images_of g disk Main)
one_block_synced g disk k len synced lies = record {
  lies = λ c left. subst (λ (n : ℕ). k < blocks_in n) (sym (long c left)) lies;
  same = λ c d left right. same c d (sym (synced c left) ∙ synced d right);
}
  where
    long : (c : List ℕ) → images_of g disk Main c → length c ≡ g.extent disk Main
    long c left = subst (λ o. IfSome o (λ (m : List ℕ). length m ≡ g.extent disk Main)) (synced c left) len

    same : (c d : List ℕ) → Some c ≡ Some d → block_at k c ≡ block_at k d
    same c d is = cc

-- a block at kept places
pub one_block_kept : {D : Type 0} (g : Ghosts D) (kept : ℕ → Type 0) (a b : D) (k : ℕ)
    → KeepsPlaces g kept Main a b
    → ((place : ℕ) → place_of k ≤ place → place < place_of k + BLOCK_BYTES → kept place)
    → HasOneBlock k (images_of g a Main) → HasOneBlock k (images_of g b Main)
one_block_kept g kept a b k keeps all one = record { lies = there; same = both }
  where
    from : (c : List ℕ) → images_of g b Main c → (d : List ℕ) × images_of g a Main d × SamePlaces kept d c
    from c left = changes_now g (SamePlaces kept) Main a b keeps c left

    there : (c : List ℕ) → images_of g b Main c → k < blocks_in (length c)
    there c left = let start = from c left in let old = one.lies start.0 start.1 in
        omega (arith, old, start.2.no_shorter)

    is : (c : List ℕ) → (left : images_of g b Main c) → block_at k c ≡ block_at k (from c left).0
    is c left = let start = from c left in let old = one.lies start.0 start.1 in
        same_range kept (place_of k) BLOCK_BYTES start.0 c start.2 all (omega (arith, old))

    both : (c d : List ℕ) → images_of g b Main c → images_of g b Main d → block_at k c ≡ block_at k d
    both c d left right = is c left ∙ one.same (from c left).0 (from d right).0 (from c left).1 (from d right).1
        ∙ sym (is d right)
