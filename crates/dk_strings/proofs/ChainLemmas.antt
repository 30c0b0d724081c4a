-- A chain is read exactly where the grammar has it.
use Rattle.std.specs.Prelude.{◌≡◌, ℕ, zero, suc, ◌+◌, ◌<◌, ◌≤◌, ◌==◌, Bool, true, false, cond, nat_lt, List, [], ◌∷◌, ◌++◌, length, Option, Some, None, Result, Ok, Err, refl, if◌then◌else◌}
use Rattle.std.proofs.Common.{inl, inr, sym, ◌∙◌, ap, subst, arith}
use Rattle.std.proofs.lemmas.Bool.{ltb-true}
use Rattle.std.proofs.lemmas.Bool.Decides.{eqb_tells}
use Rattle.dk_types.specs.declared.damage.Damage.{Damage}
use Rattle.dk_types.specs.declared.damage.Damage.TheVariants.{Twice, Outside}
use Rattle.dk_types.specs.declared.damage.Part as the
use Rattle.dk_block_man.specs.Used.{is_among, with_block}
use Rattle.dk_block_man.proofs.UsedLemmas.{among_with}
use Rattle.dk_block_file.specs.Blocks.{blocks_in, block_read, block_at, payload_in}
use Rattle.dk_meta.specs.Chain.{Part, part_at}
use Rattle.dk_strings.specs.declared.string.StringRef.{StringRef}
use Rattle.dk_strings.specs.Chains.{Chain, first_or, HoldsPart, HoldsTo, AreUnused, IsChain, ◌>>=◌, unused_read, part_behind, part_read, behind, continued, chain_from, string_at}

-- ---- a part

guard : {A : Type 0} (b : Bool) (d : Damage) (x y : A) → cond b (Err d) (Ok x) ≡ Ok y → (b ≡ false) × (x ≡ y)
guard true d x y e = absurd cc
guard false d x y e = (refl, cc)

bind_ok : {A B : Type 0} (r : Result A Damage) (f : A → Result B Damage) (y : B) → (r >>= f) ≡ Ok y
    → (x : A) × (r ≡ Ok x) × (f x ≡ Ok y)
bind_ok (Ok x) f y e = (x, refl, e)
bind_ok (Err d) f y e = absurd cc

behind_ok : (kind : the.Part) (joined : ℕ) (r : Result Part ℕ) (part : Part) → part_behind kind joined r ≡ Ok part
    → r ≡ Ok part
behind_ok kind joined (Ok x) part e = ap (λ (r : Result Part Damage). elim r [ Ok x ↦ Ok x | Err d ↦ Err 0 ]) e
behind_ok kind joined (Err at) part e = absurd cc

-- a part that is read stands in a block that nothing uses
pub record ReadsPart (main used : List ℕ) (block : ℕ) (part : Part) : Type 0 where
  pub unused : is_among used block ≡ false
  pub holds : HoldsPart main block part.next part.bytes

pub part_found : (kind : the.Part) (main used : List ℕ) (joined block : ℕ) (part : Part)
    → part_read kind main used joined block ≡ Ok part → ReadsPart main used block part
unfolding unused_read
part_found kind main used joined block part e =
    let a : (payload : List ℕ) × (unused_read main used block ≡ Ok payload)
    × (part_behind kind joined (part_at payload) ≡ Ok part) = bind_ok (unused_read main used block) _ part e in
    let b : (payload : List ℕ) × (block_read block main ≡ Ok payload)
    × (cond (is_among used block) (Err (Twice block)) (Ok payload) ≡ Ok a.0) =
    bind_ok (block_read block main) _ a.0 a.1 in
    let c = guard (is_among used block) (Twice block) b.0 a.0 b.2 in
    record {
      unused = c.0;
      holds = record {
        payload = a.0;
        read = b.1 ∙ ap (λ (l : List ℕ). Ok l) c.1;
        part = behind_ok kind joined (part_at a.0) part a.2;
      };
    }

pub part_again : (kind : the.Part) (main used : List ℕ) (joined block : ℕ) (next : Option ℕ) (bytes : List ℕ)
    → is_among used block ≡ false → HoldsPart main block next bytes
    → part_read kind main used joined block ≡ Ok (record { next = next; bytes = bytes })
unfolding unused_read
part_again kind main used joined block next bytes unused holds =
    rw (holds.read, unused, holds.part) refl

-- ---- a chain

-- what a chain from a block on says of it
pub record IsFrom (main used : List ℕ) (block : ℕ) (chain : Chain) : Type 0 where
  pub root : first_or None chain.blocks ≡ Some block
  pub holds : HoldsTo main None chain.blocks chain.bytes
  pub unused : AreUnused used chain.blocks

behind_parts : (front : Chain) (r : Result Chain Damage) (chain : Chain) → behind front r ≡ Ok chain
    → (rest : Chain) × (r ≡ Ok rest)
    × (record { bytes = front.bytes ++ rest.bytes; blocks = front.blocks ++ rest.blocks } ≡ chain)
behind_parts front (Ok rest) chain e = (rest, refl, cc)
behind_parts front (Err d) chain e = absurd cc

append_nil : (l : List ℕ) → l ≡ l ++ []
append_nil [] = refl
append_nil (x ∷ l) = ap (λ (t : List ℕ). x ∷ t) (append_nil l)

last_one : (main used : List ℕ) (block : ℕ) (bytes : List ℕ) → is_among used block ≡ false
    → HoldsPart main block None bytes → IsFrom main used block (record { bytes = bytes; blocks = block ∷ [] })
last_one main used block bytes unused holds =
    record { root = refl; holds = (bytes, [], append_nil bytes, holds, refl); unused = (unused, tt) }

one_more : (main used : List ℕ) (block next : ℕ) (bytes : List ℕ) (rest : Chain) → is_among used block ≡ false
    → HoldsPart main block (Some next) bytes → IsFrom main (with_block block used) next rest
    → IsFrom main used block (record { bytes = bytes ++ rest.bytes; blocks = block ∷ rest.blocks })
one_more main used block next bytes rest unused holds from = record {
  root = refl;
  holds = (
    bytes,
    rest.bytes,
    refl,
    subst (λ (n : Option ℕ). HoldsPart main block n bytes) (sym from.root) holds,
    from.holds,
  );
  unused = (unused, from.unused);
}

next_found : (main used : List ℕ) (block : ℕ) (bytes : List ℕ) (rest : ℕ → Result Chain Damage) (next : Option ℕ)
    (chain : Chain) → is_among used block ≡ false → HoldsPart main block next bytes
    → ((k : ℕ) (tail : Chain) → rest k ≡ Ok tail → IsFrom main (with_block block used) k tail)
    → continued block bytes rest next ≡ Ok chain → IsFrom main used block chain
next_found main used block bytes rest None chain unused holds on e =
    let is : record { bytes = bytes; blocks = block ∷ [] } ≡ chain = cc in
    subst (λ (c : Chain). IsFrom main used block c) is (last_one main used block bytes unused holds)
next_found main used block bytes rest (Some next) chain unused holds on e =
    let a : (tail : Chain) × (rest next ≡ Ok tail)
    × (record { bytes = bytes ++ tail.bytes; blocks = block ∷ tail.blocks } ≡ chain) =
    behind_parts (record { bytes = bytes; blocks = block ∷ [] }) (rest next) chain e in
    subst (λ (c : Chain). IsFrom main used block c) a.2
    (one_more main used block next bytes a.0 unused holds (on next a.0 a.1))

pub from_found : (n : ℕ) (kind : the.Part) (main used : List ℕ) (joined block : ℕ) (chain : Chain)
    → chain_from n kind main used joined block ≡ Ok chain → IsFrom main used block chain
from_found zero kind main used joined block chain e = absurd cc
from_found (suc n) kind main used joined block chain e =
    let a : (part : Part) × (part_read kind main used joined block ≡ Ok part)
    × (continued block part.bytes (chain_from n kind main (with_block block used) (joined + length part.bytes))
    part.next ≡ Ok chain) = bind_ok (part_read kind main used joined block) _ chain e in
    let h = part_found kind main used joined block a.0 a.1 in
    next_found main used block a.0.bytes (chain_from n kind main (with_block block used) (joined + length a.0.bytes))
    a.0.next chain h.unused h.holds
    (λ k tail is. from_found n kind main (with_block block used) (joined + length a.0.bytes) k tail is) a.2

-- ---- and back

first_is : (blocks : List ℕ) (block : ℕ) → first_or None blocks ≡ Some block
    → (rest : List ℕ) × (blocks ≡ block ∷ rest)
first_is [] block e = absurd cc
first_is (b ∷ blocks) block e = let is : b ≡ block = cc in (blocks, ap (λ (k : ℕ). k ∷ blocks) is)

-- blocks that hold bytes are read on to them, where so many are enough
pub from_again : (n : ℕ) (kind : the.Part) (main used : List ℕ) (joined block : ℕ) (blocks bytes : List ℕ)
    → length blocks < n → HoldsTo main None (block ∷ blocks) bytes → AreUnused used (block ∷ blocks)
    → chain_from n kind main used joined block ≡ Ok (record { bytes = bytes; blocks = block ∷ blocks })
from_again zero kind main used joined block blocks bytes few holds unused = absurd (omega arith)
from_again (suc n) kind main used joined block [] bytes few holds unused =
    let again = part_again kind main used joined block None holds.0 unused.0 holds.3 in
    let all : holds.0 ≡ bytes =
    append_nil holds.0 ∙ ap (λ (l : List ℕ). holds.0 ++ l) (sym holds.4) ∙ sym holds.2 in
    rw (again, all) refl
from_again (suc n) kind main used joined block (next ∷ blocks) bytes few holds unused =
    let again = part_again kind main used joined block (Some next) holds.0 unused.0 holds.3 in
    let rest = from_again n kind main (with_block block used) (joined + length holds.0) next blocks holds.1
    (omega (arith, few)) holds.4 unused.1 in
    rw (again, rest, holds.2) refl

-- ---- how many blocks there may be

-- how many of so many blocks aren't used
abbrev free : ℕ → List ℕ → ℕ
free zero used = 0
free (suc n) used = (if is_among used n then 0 else 1) + free n used

free_few : (n : ℕ) (used : List ℕ) → free n used ≤ n
free_few zero used = omega arith
free_few (suc n) used = by (is_among used n) (free n used) n (free_few n used)
  where
    by : (b : Bool) (k n : ℕ) → k ≤ n → (if b then 0 else 1) + k ≤ suc n
    by true k n le = omega (arith, le)
    by false k n le = omega (arith, le)

free_same : (n : ℕ) (used : List ℕ) (block : ℕ) → n ≤ block → free n (with_block block used) ≡ free n used
free_same zero used block le = refl
free_same (suc n) used block le =
    let other : (n == block) ≡ false = elim (eqb_tells n block) [
      | inl same ↦ absurd (omega (arith, same.1))
      | inr differs ↦ differs.0
    ] in
    let as_before : is_among (with_block block used) n ≡ is_among used n =
    among_with block n used ∙ ap (λ (b : Bool). if b then true else is_among used n) other in
    rw (as_before, free_same n used block (omega (arith, le))) refl

free_less : (n : ℕ) (used : List ℕ) (block : ℕ) → block < n → is_among used block ≡ false
    → free n used ≡ 1 + free n (with_block block used)
free_less zero used block lt unused = absurd (omega (arith, lt))
free_less (suc n) used block lt unused = elim (eqb_tells n block) [
  | inl same ↦
      let now : is_among (with_block block used) n ≡ true =
      among_with block n used ∙ ap (λ (b : Bool). if b then true else is_among used n) same.0 in
      let before : is_among used n ≡ false = ap (λ (k : ℕ). is_among used k) same.1 ∙ unused in
      rw (now, before, free_same n used block (omega (arith, same.1))) (omega arith)
  | inr differs ↦
      let as_before : is_among (with_block block used) n ≡ is_among used n =
      among_with block n used ∙ ap (λ (b : Bool). if b then true else is_among used n) differs.0 in
      let less = free_less n used block (omega (arith, lt, differs.1)) unused in
      rw as_before (omega (arith, less))
]

within_read : (b : Bool) (block blocks : ℕ) (r : Result (List ℕ) Damage) (payload : List ℕ)
    → cond b r (Err (Outside block blocks)) ≡ Ok payload → b ≡ true
within_read true block blocks r payload e = refl
within_read false block blocks r payload e = absurd cc

pub read_within : (main : List ℕ) (block : ℕ) (payload : List ℕ) → block_read block main ≡ Ok payload
    → block < blocks_in (length main)
read_within main block payload e = ltb-true block (blocks_in (length main))
    (within_read (nat_lt block (blocks_in (length main))) block (blocks_in (length main))
    (payload_in block (block_at block main)) payload e)

holds_few : (main used blocks bytes : List ℕ) (next : Option ℕ) → HoldsTo main next blocks bytes → AreUnused used blocks
    → length blocks ≤ free (blocks_in (length main)) used
holds_few main used [] bytes next holds unused = omega arith
holds_few main used (block ∷ blocks) bytes next holds unused =
    let lt = read_within main block holds.3.payload holds.3.read in
    let less = free_less (blocks_in (length main)) used block lt unused.0 in
    let rest = holds_few main (with_block block used) blocks holds.1 next holds.4 unused.1 in
    omega (arith, less, rest)

-- ---- the chain of a string

pub chain_found : (string : StringRef) (used main : List ℕ) (chain : Chain) → string_at string used main ≡ Ok chain
    → IsChain main used string.root chain
chain_found string used main chain e =
    let h = from_found (blocks_in (length main) + 1) string.part main used 0 string.root chain e in
    record { root = h.root; holds = h.holds; unused = h.unused }

again_at : (n : ℕ) (kind : the.Part) (main used : List ℕ) (root : ℕ) (blocks bytes rest : List ℕ)
    → blocks ≡ root ∷ rest → length rest < n → HoldsTo main None blocks bytes → AreUnused used blocks
    → chain_from n kind main used 0 root ≡ Ok (record { bytes = bytes; blocks = blocks })
again_at n kind main used root blocks bytes rest is few holds unused =
    from_again n kind main used 0 root rest bytes few
    (subst (λ (l : List ℕ). HoldsTo main None l bytes) is holds) (subst (λ (l : List ℕ). AreUnused used l) is unused)
    ∙ ap (λ (l : List ℕ). Ok (record { bytes = bytes; blocks = l })) (sym is)

pub chain_again : (string : StringRef) (used main : List ℕ) (chain : Chain) → IsChain main used string.root chain
    → string_at string used main ≡ Ok chain
chain_again string used main chain h =
    let first : (rest : List ℕ) × (chain.blocks ≡ string.root ∷ rest) = first_is chain.blocks string.root h.root in
    let few = holds_few main used chain.blocks chain.bytes None h.holds h.unused in
    let most = free_few (blocks_in (length main)) used in
    let long : length chain.blocks ≡ length (string.root ∷ first.0) = ap (λ (l : List ℕ). length l) first.1 in
    let lt : length first.0 < blocks_in (length main) + 1 = omega (arith, few, most, long) in
    again_at (blocks_in (length main) + 1) string.part main used string.root chain.blocks chain.bytes first.0 first.1 lt
    h.holds h.unused
