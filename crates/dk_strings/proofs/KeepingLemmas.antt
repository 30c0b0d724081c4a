-- Several blocks are written, one after the other.
use Rattle.std.specs.Prelude.{◌≢◌, ℕ, List, refl}
use Rattle.std.proofs.Common.{◌∙◌, arith}
use Rattle.dk_device.specs.declared.device.Disk.{Ghosts}
use Rattle.dk_device.specs.declared.device.FileId.TheVariants.{Main}
use Rattle.dk_device.specs.Disk.{TornWrite}
use Rattle.dk_device.specs.Changes.{ChangesAlone}
use Rattle.dk_device.proofs.ChangeLemmas.{changes_then, changes_less, changes_none}
use Rattle.dk_block_file.specs.Blocks.{place_of, SameOthers}
use Rattle.dk_block_file.specs.Current.{HasHeaders, SameCurrent}
use Rattle.dk_block_file.specs.Effects.{KeepsOtherBlocks, KeepsHeaders}
use Rattle.dk_block_file.specs.declared.layout.TheConstants.{BLOCK_BYTES}
use Rattle.dk_strings.specs.Effects.{SameKept, KeepsBlocks}
use Rattle.dk_strings.proofs.HoldingLemmas.{same_others, kept_same, kept_then}

kept_less : (A C : ℕ → Type 0) (m : ℕ) (x y : List ℕ) → ((k : ℕ) → C k → A k) → SameKept A m x y → SameKept C m x y
kept_less A C m x y less one = record {
  no_shorter = one.no_shorter;
  headers = one.headers;
  blocks = λ k is lies there. one.blocks k (less k is) lies there;
}

module _ {D : Type 0} (g : Ghosts D) where
  -- one block
  pub keeps_other : (block : ℕ) (a b : D) → KeepsOtherBlocks g block a b
      → ChangesAlone g (TornWrite (place_of block) BLOCK_BYTES (g.extent a Main)) Main a b
      → KeepsBlocks g (λ k. k ≢ block) a b
  keeps_other block a b others alone = record {
    no_shorter = others.no_shorter;
    images = changes_less g (SameOthers block (g.extent a Main)) (SameKept (λ k. k ≢ block) (g.extent a Main)) Main a b
        (λ d c left same. same_others block (g.extent a Main) d c same) others.images;
    one_block = λ k is lies one. others.one_block k lies is one;
    log = alone.content;
    log_extent = alone.extent;
  }

  pub keeps_none : (kept : ℕ → Type 0) (a : D) → KeepsBlocks g kept a a
  keeps_none kept a = record {
    no_shorter = omega arith;
    images = changes_none g (SameKept kept (g.extent a Main)) Main a (λ d. kept_same kept (g.extent a Main) d);
    one_block = λ k is lies one. one;
    log = refl;
    log_extent = refl;
  }

  pub keeps_then : (A B C : ℕ → Type 0) (a b c : D) → ((k : ℕ) → C k → A k × B k) → KeepsBlocks g A a b
      → KeepsBlocks g B b c → KeepsBlocks g C a c
  keeps_then A B C a b c both first second = record {
    no_shorter = omega (arith, first.no_shorter, second.no_shorter);
    images = changes_then g (SameKept A (g.extent a Main)) (SameKept B (g.extent b Main)) (SameKept C (g.extent a Main))
        Main a b c
        (λ x y left one. kept_less A C (g.extent a Main) x y (λ k is. (both k is).0) one)
        (λ x y z left behind one two. kept_then A B C (g.extent a Main) (g.extent b Main) x y z both first.no_shorter
        one two) first.images second.images;
    one_block = λ k is lies one. second.one_block k (both k is).1 (omega (arith, lies, first.no_shorter))
        (first.one_block k (both k is).0 lies one);
    log = second.log ∙ first.log;
    log_extent = second.log_extent ∙ first.log_extent;
  }

  pub keeps_less : (A C : ℕ → Type 0) (a b : D) → ((k : ℕ) → C k → A k) → KeepsBlocks g A a b → KeepsBlocks g C a b
  keeps_less A C a b less keeps = record {
    no_shorter = keeps.no_shorter;
    images = changes_less g (SameKept A (g.extent a Main)) (SameKept C (g.extent a Main)) Main a b
        (λ x y left one. kept_less A C (g.extent a Main) x y less one) keeps.images;
    one_block = λ k is lies one. keeps.one_block k (less k is) lies one;
    log = keeps.log;
    log_extent = keeps.log_extent;
  }

  pub headers_none : (a : D) → HasHeaders g a → KeepsHeaders g a a
  headers_none a there = record {
    there = there;
    current = changes_none g SameCurrent Main a (λ d. refl);
    closes = λ was_open twin few closes. closes;
  }

  pub headers_then : (a b c : D) → KeepsHeaders g a b → KeepsHeaders g b c → KeepsHeaders g a c
  headers_then a b c first second = record {
    there = second.there;
    current = changes_then g SameCurrent SameCurrent SameCurrent Main a b c (λ x y left one. one)
        (λ x y z left behind one two. two ∙ one) first.current second.current;
    closes = λ was_open twin few closes. second.closes was_open twin few (first.closes was_open twin few closes);
  }
