-- A byte string in a chain of blocks: which blocks hold it, and how it is read up to the first thing that is wrong.
use Rattle.std.specs.Prelude.{◌≡◌, ℕ, zero, suc, ◌+◌, List, [], ◌∷◌, ◌++◌, length, Option, Some, None, Result, Ok, Err, if◌then◌else◌, false}
use Rattle.dk_types.specs.declared.damage.Damage.{Damage}
use Rattle.dk_types.specs.declared.damage.Damage.TheVariants.{Twice, Malformed}
use Rattle.dk_types.specs.declared.damage.Part as the
use Rattle.dk_block_man.specs.Used.{is_among, with_block}
use Rattle.dk_block_file.specs.Blocks.{blocks_in, block_read}
use Rattle.dk_meta.specs.Chain.{Part, part_at}
use Rattle.dk_strings.specs.declared.string.StringRef.{StringRef}

-- the bytes of a chain, and its blocks, the root first
pub record Chain : Type 0 where
  pub bytes : List ℕ
  pub blocks : List ℕ

-- ---- the grammar

-- the block that stands first, or another where there is none
abbrev pub first_or : Option ℕ → List ℕ → Option ℕ
first_or next [] = next
first_or next (block ∷ blocks) = Some block

-- a block holds these bytes, and names this next block
pub record HoldsPart (main : List ℕ) (block : ℕ) (next : Option ℕ) (bytes : List ℕ) : Type 0 where
  pub payload : List ℕ
  pub read : block_read block main ≡ Ok payload
  pub part : part_at payload ≡ Ok (record { next = next; bytes = bytes })

-- the parts of these blocks, one behind the other, are these bytes; each names the block behind it, and the last one
-- this next block
abbrev pub HoldsTo : List ℕ → Option ℕ → List ℕ → List ℕ → Type 0
HoldsTo main next [] bytes = bytes ≡ []
HoldsTo main next (block ∷ blocks) bytes = (front rest : List ℕ) × (bytes ≡ front ++ rest)
    × HoldsPart main block (first_or next blocks) front × HoldsTo main next blocks rest

-- none of these blocks is used, and none stands twice
abbrev pub AreUnused : List ℕ → List ℕ → Type 0
AreUnused used [] = Unit {0}
AreUnused used (block ∷ blocks) = (is_among used block ≡ false) × AreUnused (with_block block used) blocks

-- a chain from this block on: its blocks hold its bytes, the last one names none, and nothing else uses one of them
pub record IsChain (main used : List ℕ) (block : ℕ) (chain : Chain) : Type 0 where
  pub root : first_or None chain.blocks ≡ Some block
  pub holds : HoldsTo main None chain.blocks chain.bytes
  pub unused : AreUnused used chain.blocks

-- ---- reading, up to the first thing that is wrong

infixl 10 ◌>>=◌
abbrev pub ◌>>=◌ : {A B : Type 0} → Result A Damage → (A → Result B Damage) → Result B Damage
(Ok x) >>= f = f x
(Err damage) >>= f = Err damage

-- the payload of a block: it lies in Main, its checksum is right, and nothing uses it
unfoldable pub unused_read : List ℕ → List ℕ → ℕ → Result (List ℕ) Damage
unused_read main used block = do
  payload ← block_read block main
  if is_among used block then Err (Twice block) else Ok payload

-- a part that stands behind so many bytes of the string
abbrev pub part_behind : the.Part → ℕ → Result Part ℕ → Result Part Damage
part_behind part joined (Ok found) = Ok found
part_behind part joined (Err at) = Err (Malformed part (joined + at))

-- the part that such a block holds
abbrev pub part_read : the.Part → List ℕ → List ℕ → ℕ → ℕ → Result Part Damage
part_read part main used joined block = do
  payload ← unused_read main used block
  part_behind part joined (part_at payload)

-- what was read, and behind it what is read on
abbrev pub behind : Chain → Result Chain Damage → Result Chain Damage
behind front (Ok rest) = Ok (record { bytes = front.bytes ++ rest.bytes; blocks = front.blocks ++ rest.blocks })
behind front (Err damage) = Err damage

-- one block of a chain with its bytes, and behind it the chain from the next block on, if there is one
abbrev pub continued : ℕ → List ℕ → (ℕ → Result Chain Damage) → Option ℕ → Result Chain Damage
continued block bytes rest None = Ok (record { bytes = bytes; blocks = block ∷ [] })
continued block bytes rest (Some next) = behind (record { bytes = bytes; blocks = block ∷ [] }) (rest next)

-- The chain from a block on, of at most so many blocks, where these are used and so many bytes are joined before. A
-- block is used once, so a chain with more blocks than Main names one twice.
abbrev pub chain_from : ℕ → the.Part → List ℕ → List ℕ → ℕ → ℕ → Result Chain Damage
chain_from zero part main used joined block = Err (Twice block)
chain_from (suc n) part main used joined block = do
  found ← part_read part main used joined block
  continued block found.bytes (chain_from n part main (with_block block used) (joined + length found.bytes)) found.next

-- the chain at this place of Main, where these blocks are used by others
abbrev pub string_at : StringRef → List ℕ → List ℕ → Result Chain Damage
string_at string used main = chain_from (blocks_in (length main) + 1) string.part main used 0 string.root

-- the used blocks with these too
abbrev pub with_blocks : List ℕ → List ℕ → List ℕ
with_blocks [] used = used
with_blocks (block ∷ blocks) used = with_blocks blocks (with_block block used)
