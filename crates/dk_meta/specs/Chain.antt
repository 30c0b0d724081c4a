-- The payload of a block of a chain. A chain is a byte string that is kept in blocks, part by part.
use Rattle.std.specs.Prelude.{◌≡◌, ℕ, ◌-◌, ◌<◌, ◌≤◌, ◌==◌, Bool, ◌&&◌, nat_lt, nat_le, List, ◌++◌, length, take, drop, replicate, Option, Some, None, IsSome, IfSome, Result, Ok, Err, if◌then◌else◌}
use Rattle.std.specs.List.{list_all}
use Rattle.std.specs.Int.{w32, w64, to_le_bytes, from_le_bytes}
use Rattle.dk_meta.specs.declared.limits.TheConstants.{NO_BLOCK, PART_BYTES}

-- the block of the next part, if there is one, and the bytes of this one
pub record Part : Type 0 where
  pub next : Option ℕ
  pub bytes : List ℕ

-- a part has at least one byte; each but the last has as many as a block can hold
pub record IsPart (part : Part) : Type 0 where
  pub next : IfSome part.next (λ block. block < NO_BLOCK)
  pub some : 1 ≤ length part.bytes
  pub few : length part.bytes ≤ PART_BYTES
  pub full : IsSome part.next → length part.bytes ≡ PART_BYTES

abbrev pub next_number : Option ℕ → ℕ
next_number None = NO_BLOCK
next_number (Some block) = block

-- the next block in eight bytes, the number of bytes in four, the bytes, and zeros up to the payload's end
abbrev pub part_bytes : Part → List ℕ
part_bytes part = to_le_bytes w64 (next_number part.next)
    ++ (to_le_bytes w32 (length part.bytes) ++ (part.bytes ++ replicate (PART_BYTES - length part.bytes) 0))

-- ---- reading, up to the first fault

abbrev pub next_of : ℕ → Option ℕ
next_of number = if number == NO_BLOCK then None else Some number

-- whether a part before this next block may have so many bytes
abbrev pub is_length : Option ℕ → ℕ → Bool
is_length None len = nat_lt 0 len && nat_le len PART_BYTES
is_length (Some block) len = len == PART_BYTES

-- the first of these bytes, and zeros behind them
abbrev pub filled : Option ℕ → ℕ → List ℕ → Result Part ℕ
filled next used rest =
    if is_length next used
    then (if list_all (λ byte. byte == 0) (drop used rest) then Ok (record { next = next; bytes = take used rest })
    else Err used)
    else Err 0

-- the part that the payload holds, or how many of its bytes are joined before the place that breaks a rule: none where
-- their number does, and all where a byte behind them isn't zero
abbrev pub part_at : List ℕ → Result Part ℕ
part_at payload = filled (next_of (from_le_bytes w64 (take 8 payload)))
    (from_le_bytes w32 (take 4 (drop 8 payload))) (drop 4 (drop 8 payload))
