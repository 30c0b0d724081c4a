-- A part is written into its block.
use Rattle.std.specs.Prelude.{◌≡◌, ℕ, ◌-◌, ◌≤◌, List, ◌++◌, length, take, drop, replicate, Option, Some, None, IfSome, Ok}
use Rattle.std.specs.Int.{w32, w64, to_le_bytes}
use Rattle.std.proofs.Common.{◌∙◌, ap, arith, length-append, length-drop}
use Rattle.std.proofs.lemmas.List.{take_at, drop_at, length-take, length-replicate}
use Rattle.dk_bytes.specs.Checksum.{checksum_of}
use Rattle.dk_bytes.proofs.NumberLemmas.{wide32, wide64}
use Rattle.dk_device.specs.declared.device.Disk.{Ghosts}
use Rattle.dk_device.specs.declared.device.FileId.TheVariants.{Main}
use Rattle.dk_header.specs.declared.header.TheConstants.{SUM_BYTES}
use Rattle.dk_block_file.specs.Blocks.{block_read, with_sum}
use Rattle.dk_block_file.specs.Effects.{WritesBlock}
use Rattle.dk_block_file.specs.Lending.{with_payload}
use Rattle.dk_block_file.specs.declared.layout.TheConstants.{BLOCK_BYTES, PAYLOAD_BYTES}
use Rattle.dk_meta.specs.Strings.{IsString}
use Rattle.dk_meta.specs.Chain.{Part, IsPart, next_number, part_bytes}
use Rattle.dk_meta.proofs.ChainLemmas.{part_again}
use Rattle.dk_strings.specs.Chains.{HoldsPart}
use Rattle.dk_strings.specs.Effects.{HasPart}
use Rattle.dk_strings.proofs.HoldingLemmas.{written_same}

length_part : (part : Part) → length part.bytes ≤ 262124 → length (part_bytes part) ≡ 262136
length_part part few =
    let number : List ℕ = to_le_bytes w64 (next_number part.next) in
    let used : List ℕ = to_le_bytes w32 (length part.bytes) in
    let zeros : List ℕ = replicate (262124 - length part.bytes) 0 in
    omega (
      arith,
      few,
      length-append number (used ++ (part.bytes ++ zeros)),
      length-append used (part.bytes ++ zeros),
      length-append part.bytes zeros,
      length-replicate {A = ℕ} (262124 - length part.bytes) 0,
      wide64.len (next_number part.next),
      wide32.len (length part.bytes),
    )

-- what was lent is the payload
lent_payload : (block w : List ℕ) → length (drop SUM_BYTES block) ≡ PAYLOAD_BYTES → length w ≡ PAYLOAD_BYTES
    → drop SUM_BYTES (with_payload block w) ≡ w
lent_payload block w whole len =
    drop_at (take SUM_BYTES block) (take PAYLOAD_BYTES (w ++ drop (length w) (drop SUM_BYTES block))) SUM_BYTES
    (omega (arith, length-take SUM_BYTES block, length-drop SUM_BYTES block, whole))
    ∙ take_at w (drop (length w) (drop SUM_BYTES block)) PAYLOAD_BYTES len

sealed : (block : List ℕ) → drop SUM_BYTES (with_sum block) ≡ drop SUM_BYTES block
sealed block = drop_at (to_le_bytes w64 (checksum_of (drop SUM_BYTES block))) (drop SUM_BYTES block) SUM_BYTES
    (wide64.len (checksum_of (drop SUM_BYTES block)))

pub part_written : {D : Type 0} (g : Ghosts D) (block : ℕ) (part : Part) (buf w : List ℕ) (old new : D)
    → length (drop SUM_BYTES buf) ≡ PAYLOAD_BYTES → IsString IsPart part_bytes part w
    → length (with_sum (with_payload buf w)) ≡ BLOCK_BYTES
    → WritesBlock g block (with_sum (with_payload buf w)) old new → HasPart g block part old new
part_written g block part buf w old new whole is len written = record {
  holds = at (g.content new Main) written.reads;
  same = written_same block (with_sum (with_payload buf w)) (g.content old Main) (g.content new Main) len written.written;
  grown = written.grown;
}
  where
    long : length w ≡ PAYLOAD_BYTES
    long = ap (λ (l : List ℕ). length l) is.spelled ∙ length_part part is.lawful.few

    at : (c : Option (List ℕ)) → IfSome c (λ main. block_read block main ≡ Ok
        (drop SUM_BYTES (with_sum (with_payload buf w))))
        → IfSome c (λ main. HoldsPart main block part.next part.bytes)
    at None reads = tt
    at (Some main) reads = record {
      payload = w;
      read = reads ∙ ap (λ (l : List ℕ). Ok l) (sealed (with_payload buf w) ∙ lent_payload buf w whole long);
      part = part_again w part is;
    }
