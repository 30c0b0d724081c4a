-- What a block ends as once its payload was lent.
use Rattle.std.specs.Prelude.{List, ℕ, ◌++◌, take, drop}
use Rattle.std.specs.Borrow.{Lends, MutBor, Fml, Array, u8}
use Rattle.std.specs.List.{refill}
use Rattle.dk_block_file.specs.contracts.block_buf.BlockBuf.{the_row}
use Rattle.dk_header.specs.declared.header.TheConstants.{SUM_BYTES}
use Rattle.dk_block_file.specs.declared.layout.TheConstants.{PAYLOAD_BYTES}

-- a block with another payload behind the place of its checksum
abbrev pub with_payload : List ℕ → List ℕ → List ℕ
with_payload block payload = take SUM_BYTES block ++ refill PAYLOAD_BYTES (drop SUM_BYTES block) payload

-- once the borrow ends, the block has what was left behind it as its payload
abbrev pub LendsPayload : MutBor (List ℕ) → MutBor (List ℕ) → Fml
LendsPayload block payload = Lends the_row (Array u8 0) block payload (with_payload block.now)
