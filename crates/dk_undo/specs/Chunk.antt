-- What holds of the fields of a chunk.
use Rattle.std.specs.Prelude.{◌≡◌, ◌-◌, ◌≤◌, length}
use Rattle.dk_undo.specs.ChunkContent.{Held}
use Rattle.dk_undo.specs.Places.{somes, filled}
use Rattle.dk_undo.specs.declared.chunk.Chunk.TheInside.{Inside}
use Rattle.dk_undo.specs.declared.chunk.TheConstants.{CHUNK_LEN}

module _ {X : Type 0} where
  abbrev pub held : Inside X → Held X
  held c = record { place = c.base.ptr; items = somes c.cells.slots }

  -- the chunk owns its block of 64 places, which begin with its items
  pub record IsChunk (c : Inside X) : Type 0 where
    pub block : (c.cells.at ≡ c.base.ptr) × (c.deed.at ≡ c.base.ptr) × (c.deed.len ≡ CHUNK_LEN)
        × (c.deed.alloc ≡ c.alloc)
    pub within : length (somes c.cells.slots) ≤ CHUNK_LEN
    pub laid : c.cells.slots ≡ filled (somes c.cells.slots) (CHUNK_LEN - length (somes c.cells.slots))
