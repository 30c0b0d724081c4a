-- Blocks that hold a byte string, while other blocks are written.
use Rattle.std.specs.Prelude.{◌≡◌, ◌≢◌, ℕ, ◌<◌, ◌≤◌, ◌==◌, Bool, true, false, cond, nat_lt, List, [], ◌∷◌, ◌++◌, length, Option, Some, None, IfSome, Result, Err, refl, ◌||◌}
use Rattle.std.proofs.Common.{option_map, sym, ◌∙◌, ap, subst, arith, append_assoc}
use Rattle.std.proofs.lemmas.Bool.{eq-eqb, lt-ltb}
use Rattle.dk_types.specs.declared.damage.Damage.{Damage}
use Rattle.dk_types.specs.declared.damage.Damage.TheVariants.{Outside}
use Rattle.dk_block_man.specs.Used.{is_among}
use Rattle.dk_device.specs.Disk.{overlay, TornWrite}
use Rattle.dk_device.specs.ContentIsImage.{torn_overlaid}
use Rattle.dk_block_file.specs.Blocks.{blocks_in, place_of, block_at, payload_in, block_read, SameOthers}
use Rattle.dk_block_file.specs.declared.layout.TheConstants.{BLOCK_BYTES}
use Rattle.dk_block_file.proofs.OtherBlockLemmas.{torn_others}
use Rattle.dk_strings.specs.Chains.{first_or, HoldsPart, HoldsTo}
use Rattle.dk_strings.specs.Effects.{SameKept, SameContent, IsOneOf}
use Rattle.dk_strings.proofs.ChainLemmas.{read_within}

-- ---- more blocks, and more bytes

first_next : (blocks : List ℕ) (block : ℕ) (next : Option ℕ)
    → first_or (Some block) blocks ≡ first_or next (blocks ++ block ∷ [])
first_next [] block next = refl
first_next (x ∷ blocks) block next = refl

-- the block that was named holds bytes too
pub holds_more : (main : List ℕ) (blocks : List ℕ) (block : ℕ) (next : Option ℕ) (front bytes : List ℕ)
    → HoldsTo main (Some block) blocks front → HoldsPart main block next bytes
    → HoldsTo main next (blocks ++ block ∷ []) (front ++ bytes)
holds_more main [] block next front bytes holds part =
    (bytes, [], ap (λ (l : List ℕ). l ++ bytes) holds ∙ append_nil bytes, part, refl)
  where
    append_nil : (l : List ℕ) → l ≡ l ++ []
    append_nil [] = refl
    append_nil (x ∷ l) = ap (λ (t : List ℕ). x ∷ t) (append_nil l)
holds_more main (x ∷ blocks) block next front bytes holds part = (
  holds.0,
  holds.1 ++ bytes,
  ap (λ (l : List ℕ). l ++ bytes) holds.2 ∙ append_assoc holds.0 holds.1 bytes,
  subst (λ (n : Option ℕ). HoldsPart main x n holds.0) (first_next blocks block next) holds.3,
  holds_more main blocks block next holds.1 bytes holds.4 part,
)

-- ---- other blocks are written

same_read : (main main' : List ℕ) (block : ℕ) → block < blocks_in (length main) → length main ≤ length main'
    → block_at block main' ≡ block_at block main → block_read block main' ≡ block_read block main
same_read main main' block lt le same =
    let still : block < blocks_in (length main') = omega (arith, lt, le) in
    chosen (nat_lt block (blocks_in (length main'))) (payload_in block (block_at block main'))
    (Err (Outside block (blocks_in (length main')))) (lt-ltb block (blocks_in (length main')) still)
    ∙ ap (λ (l : List ℕ). payload_in block l) same
    ∙ sym (chosen (nat_lt block (blocks_in (length main))) (payload_in block (block_at block main))
    (Err (Outside block (blocks_in (length main)))) (lt-ltb block (blocks_in (length main)) lt))
  where
    chosen : (b : Bool) (x y : Result (List ℕ) Damage) → b ≡ true → cond b x y ≡ x
    chosen true x y e = refl
    chosen false x y e = absurd cc

part_stays : (main main' : List ℕ) (block : ℕ) (next : Option ℕ) (bytes : List ℕ) → length main ≤ length main'
    → (block < blocks_in (length main) → block_at block main' ≡ block_at block main)
    → HoldsPart main block next bytes → HoldsPart main' block next bytes
part_stays main main' block next bytes le same holds =
    let lt = read_within main block holds.payload holds.read in
    record {
      payload = holds.payload;
      read = same_read main main' block lt le (same lt) ∙ holds.read;
      part = holds.part;
    }

is_head : (x : ℕ) (blocks : List ℕ) → IsOneOf (x ∷ blocks) x
is_head x blocks = rw (eq-eqb x x refl) refl

in_tail : (x k : ℕ) (blocks : List ℕ) → IsOneOf blocks k → IsOneOf (x ∷ blocks) k
in_tail x k blocks on = by (x == k) (is_among blocks k) on
  where
    by : (t u : Bool) → u ≡ true → (t || u) ≡ true
    by true u e = refl
    by false u e = e

pub holds_stays : (main main' : List ℕ) (kept : ℕ → Type 0) (blocks : List ℕ) (next : Option ℕ) (bytes : List ℕ)
    → ((k : ℕ) → IsOneOf blocks k → kept k) → SameKept kept (length main) main main'
    → HoldsTo main next blocks bytes → HoldsTo main' next blocks bytes
holds_stays main main' kept [] next bytes all same holds = holds
holds_stays main main' kept (x ∷ blocks) next bytes all same holds = (
  holds.0,
  holds.1,
  holds.2,
  part_stays main main' x (first_or next blocks) holds.0 same.no_shorter
      (λ lt. same.blocks x (all x (is_head x blocks)) lt lt) holds.3,
  holds_stays main main' kept blocks next holds.1 (λ k on. all k (in_tail x k blocks on)) same holds.4,
)

-- the same where the file is known
pub holds_known : (old new : Option (List ℕ)) (kept : ℕ → Type 0) (blocks : List ℕ) (next : Option ℕ) (bytes : List ℕ)
    → ((k : ℕ) → IsOneOf blocks k → kept k) → SameContent kept old new
    → IfSome old (λ main. HoldsTo main next blocks bytes) → IfSome new (λ main. HoldsTo main next blocks bytes)
holds_known None None kept blocks next bytes all same holds = tt
holds_known None (Some new) kept blocks next bytes all same holds = absurd same
holds_known (Some old) None kept blocks next bytes all same holds = absurd same
holds_known (Some old) (Some new) kept blocks next bytes all same holds =
    holds_stays old new kept blocks next bytes all same holds

pub more_known : (new : Option (List ℕ)) (blocks : List ℕ) (block : ℕ) (next : Option ℕ) (front bytes : List ℕ)
    → IfSome new (λ main. HoldsTo main (Some block) blocks front) → IfSome new (λ main. HoldsPart main block next bytes)
    → IfSome new (λ main. HoldsTo main next (blocks ++ block ∷ []) (front ++ bytes))
more_known None blocks block next front bytes holds part = tt
more_known (Some main) blocks block next front bytes holds part = holds_more main blocks block next front bytes holds part

-- ---- what stays

pub same_others : (block extent : ℕ) (old new : List ℕ) → SameOthers block extent old new
    → SameKept (λ k. k ≢ block) extent old new
same_others block extent old new same = record {
  no_shorter = same.no_shorter;
  headers = same.headers;
  blocks = λ k not lies there. same.others k lies there not;
}

-- a block is written
pub written_same : (block : ℕ) (bytes : List ℕ) (old new : Option (List ℕ)) → length bytes ≡ BLOCK_BYTES
    → new ≡ option_map (overlay (place_of block) bytes) old → SameContent (λ k. k ≢ block) old new
written_same block bytes None new len is = subst (λ (n : Option (List ℕ)). SameContent (λ k. k ≢ block) None n) (sym is) tt
written_same block bytes (Some old) new len is =
    subst (λ (n : Option (List ℕ)). SameContent (λ k. k ≢ block) (Some old) n) (sym is)
    (same_others block (length old) old (overlay (place_of block) bytes old)
    (torn_others block (length old) old (overlay (place_of block) bytes old)
    (subst (λ (n : ℕ). TornWrite (place_of block) n (length old) old (overlay (place_of block) bytes old)) len
    (torn_overlaid (place_of block) (length old) bytes old))))

pub kept_same : (kept : ℕ → Type 0) (extent : ℕ) (l : List ℕ) → SameKept kept extent l l
kept_same kept extent l = record { no_shorter = omega arith; headers = λ whole. refl; blocks = λ k is lies there. refl }

pub kept_then : (A B C : ℕ → Type 0) (m n : ℕ) (x y z : List ℕ) → ((k : ℕ) → C k → A k × B k) → m ≤ n
    → SameKept A m x y → SameKept B n y z → SameKept C m x z
kept_then A B C m n x y z both le one two = record {
  no_shorter = omega (arith, one.no_shorter, two.no_shorter);
  headers = λ whole. two.headers (omega (arith, whole, one.no_shorter)) ∙ one.headers whole;
  blocks = λ k is lies there.
      two.blocks k (both k is).1 (omega (arith, lies, le)) (omega (arith, there, one.no_shorter))
      ∙ one.blocks k (both k is).0 lies there;
}

pub content_same : (kept : ℕ → Type 0) (c : Option (List ℕ)) → SameContent kept c c
content_same kept None = tt
content_same kept (Some l) = kept_same kept (length l) l

pub content_then : (A B C : ℕ → Type 0) (x y z : Option (List ℕ)) → ((k : ℕ) → C k → A k × B k)
    → SameContent A x y → SameContent B y z → SameContent C x z
content_then A B C None None None both one two = tt
content_then A B C None None (Some z) both one two = absurd two
content_then A B C None (Some y) z both one two = absurd one
content_then A B C (Some x) None z both one two = absurd one
content_then A B C (Some x) (Some y) None both one two = absurd two
content_then A B C (Some x) (Some y) (Some z) both one two =
    kept_then A B C (length x) (length y) x y z both one.no_shorter one two
