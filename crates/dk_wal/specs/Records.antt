-- Records: a payload behind its length and its checksum, and the record that stands whole at the front of bytes.
use Rattle.std.specs.Prelude.{ℕ, ◌-◌, ◌||◌, Bool, List, ◌++◌, length, take, drop, Option, Some, None, nat_lt, ◌==◌, if◌then◌else◌}
use Rattle.std.specs.Int.{w32, w64, to_le_bytes, from_le_bytes}
use Rattle.dk_bytes.specs.Checksum.{checksum_of}
use Rattle.dk_pages.specs.declared.log.LogCommit.{LogCommit}
use Rattle.dk_wal.specs.Payload.{payload_bytes}
use Rattle.dk_wal.specs.declared.limits.TheConstants.{FRAME_BYTES, MOST_PAYLOAD}

-- the length and the checksum of a payload, and the payload
abbrev pub framed : List ℕ → List ℕ
framed payload = to_le_bytes w32 (length payload) ++ (to_le_bytes w64 (checksum_of payload) ++ payload)

abbrev pub record_bytes : LogCommit → List ℕ
record_bytes commit = framed (payload_bytes commit)

-- the length and the checksum that stand at the front
abbrev pub stored_len : List ℕ → ℕ
stored_len bytes = from_le_bytes w32 bytes

abbrev pub stored_sum : List ℕ → ℕ
stored_sum bytes = from_le_bytes w64 (drop 4 bytes)

-- as many bytes behind them as the length says
abbrev pub stored_payload : List ℕ → List ℕ
stored_payload bytes = take (stored_len bytes) (drop FRAME_BYTES bytes)

-- the bytes are too few for a record: for its length and checksum, or for so long a payload
abbrev pub ends_early : List ℕ → Bool
ends_early bytes = nat_lt (length bytes) FRAME_BYTES
    || (nat_lt MOST_PAYLOAD (stored_len bytes) || nat_lt (length bytes - FRAME_BYTES) (stored_len bytes))

-- the payload of the record that stands whole at the front, if one does; else the log ends here
abbrev pub payload_at : List ℕ → Option (List ℕ)
payload_at bytes =
    if ends_early bytes then None
    else (if stored_sum bytes == checksum_of (stored_payload bytes) then Some (stored_payload bytes) else None)
