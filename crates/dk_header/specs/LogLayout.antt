-- The layout of the log's header.
use Rattle.std.specs.Prelude.{ℕ, List, ◌++◌}
use Rattle.std.specs.Int.{w64, to_le_bytes}
use Rattle.dk_bytes.specs.Checksum.{checksum_of}
use Rattle.dk_header.specs.declared.log.TheConstants.{LOG_MAGIC}

-- the magic and the iteration, and their checksum
abbrev pub log_header_bytes : ℕ → List ℕ
log_header_bytes iteration =
    to_le_bytes w64 LOG_MAGIC ++ to_le_bytes w64 iteration ++ to_le_bytes w64
    (checksum_of (to_le_bytes w64 LOG_MAGIC ++ to_le_bytes w64 iteration))
