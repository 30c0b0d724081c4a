-- The calls of a disk that a call above it makes, one after the other.
use Rattle.std.specs.Prelude.{ℕ, List, [], ◌∷◌, ◌++◌}
use Rattle.dk_device.specs.declared.device.FileId.TheVariants.{Main, Wal}
use Rattle.dk_device.specs.declared.calls.Request.TheVariants.{Read, Write}
use Rattle.dk_device.specs.Calls.{Call, synced_write, synced_replacement}
use Rattle.dk_header.specs.LogLayout.{log_header_bytes}
use Rattle.dk_block_file.specs.Blocks.{place_of, empty_main}
use Rattle.dk_block_file.specs.declared.layout.TheConstants.{BLOCK_BYTES}

abbrev pub block_read_call : ℕ → List Call
block_read_call block = (Main, Read (place_of block) BLOCK_BYTES) ∷ []

abbrev pub block_write_call : ℕ → List ℕ → List Call
block_write_call block bytes = (Main, Write (place_of block) bytes) ∷ []

-- a log without records is made
abbrev pub log_creation : List Call
log_creation = synced_replacement Wal (log_header_bytes 1)

-- and then the headers
abbrev pub creation : List Call
creation = log_creation ++ synced_write Main 0 empty_main
