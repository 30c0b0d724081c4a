-- Where the blocks of the main file lie and what they hold, and the files of an empty database.
use Rattle.std.specs.Prelude.{◌≡◌, ◌≢◌, ℕ, ◌<◌, ◌≤◌, ◌+◌, ◌-◌, ◌*◌, ◌/◌, ◌==◌, nat_lt, Result, Ok, Err, List, [], ◌∷◌, ◌++◌, length, take, drop, replicate, if◌then◌else◌}
use Rattle.std.specs.Int.{w64, from_le_bytes}
use Rattle.dk_bytes.specs.Checksum.{checksum_of}
use Rattle.dk_types.specs.declared.damage.Damage.{Damage}
use Rattle.dk_types.specs.declared.damage.Damage.TheVariants.{Sum, Outside}
use Rattle.dk_header.specs.declared.header.DbHeader.{DbHeader}
use Rattle.dk_header.specs.declared.header.TheConstants.{HEADER_BYTES, SUM_BYTES, OPEN_GATE, NO_ROOT, VERSION}
use Rattle.dk_header.specs.Layout.{with_checksum, main_bytes, body_bytes}
use Rattle.dk_block_file.specs.declared.fault.BlockFault.{BlockFault}
use Rattle.dk_block_file.specs.declared.fault.BlockFault.TheVariants.{DiskFault, Damaged, OutOfMemory}
use Rattle.dk_block_file.specs.declared.layout.TheConstants.{HEADERS_BYTES, BLOCK_BYTES}

-- how many whole blocks lie in a main file of this length
abbrev pub blocks_in : ℕ → ℕ
blocks_in len = (len - HEADERS_BYTES) / BLOCK_BYTES

abbrev pub place_of : ℕ → ℕ
place_of block = HEADERS_BYTES + BLOCK_BYTES * block

abbrev pub block_at : ℕ → List ℕ → List ℕ
block_at block main = take BLOCK_BYTES (drop (place_of block) main)

-- a block of zeros
abbrev pub zero_block : List ℕ
zero_block = replicate BLOCK_BYTES 0

-- the checksum in front of a block, and that of its payload
abbrev pub stored_sum : List ℕ → ℕ
stored_sum block = from_le_bytes w64 block

abbrev pub payload_sum : List ℕ → ℕ
payload_sum block = checksum_of (drop SUM_BYTES block)

-- a block that holds a payload
abbrev pub with_sum : List ℕ → List ℕ
with_sum block = with_checksum (drop SUM_BYTES block)

-- the payload of a block, or its two checksums where they differ
abbrev pub payload_in : ℕ → List ℕ → Result (List ℕ) Damage
payload_in block bytes =
    if stored_sum bytes == payload_sum bytes then Ok (drop SUM_BYTES bytes) else Err
    (Sum block (stored_sum bytes) (payload_sum bytes))

-- the payload of a block of a main file, or what is wrong with it
abbrev pub block_read : ℕ → List ℕ → Result (List ℕ) Damage
block_read block main =
    if nat_lt block (blocks_in (length main)) then payload_in block (block_at block main) else Err
    (Outside block (blocks_in (length main)))

-- a block lies in each of these images, and is the same in each
pub record HasOneBlock (block : ℕ) (images : List ℕ → Type 0) : Type 0 where
  pub lies : (c : List ℕ) → images c → block < blocks_in (length c)
  pub same : (c d : List ℕ) → images c → images d → block_at block c ≡ block_at block d

-- no shorter, the same headers, and the same block at each other number that lies in it and in a file of this length
pub record SameOthers (block extent : ℕ) (old new : List ℕ) : Type 0 where
  pub no_shorter : length old ≤ length new
  pub headers : HEADERS_BYTES ≤ length old → take HEADERS_BYTES new ≡ take HEADERS_BYTES old
  pub others : (k : ℕ) → k < blocks_in extent → k < blocks_in (length old) → k ≢ block → block_at k new ≡ block_at k old

-- what a call that left this payload answered, where a block reads so
abbrev pub ReadsAs : Result (List ℕ) Damage → List ℕ → Result (Unit {0}) BlockFault → Type 0
ReadsAs found payload (Ok done) = found ≡ Ok payload
ReadsAs found payload (Err DiskFault) = Unit {0}
ReadsAs found payload (Err (Damaged damage)) = found ≡ Err damage
ReadsAs found payload (Err OutOfMemory) = ⊥

-- no root, no blocks
abbrev pub first_header : DbHeader
first_header = record { iteration = 1; root = NO_ROOT; blocks = 0 }

-- the empty database: no root, no blocks, twin 0 open, twin 1 zeros
abbrev pub empty_main : List ℕ
empty_main = main_bytes VERSION ++ body_bytes first_header ++ OPEN_GATE ∷ [] ++ replicate HEADER_BYTES 0
