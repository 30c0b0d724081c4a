-- How the entries of a stack lie in its chunks.
use Rattle.std.specs.Prelude.{◌≡◌, ℕ, ◌-◌, ◌*◌, ◌^◌, ◌<◌, min, List, [], ◌∷◌, ◌++◌, length, map}
use denote.RawPtr.{Ptr}
use Rattle.dk_undo.specs.ChunkContent.{Held}
use Rattle.dk_undo.specs.Stack.{Stack, stack}
use Rattle.dk_undo.specs.declared.stack.UndoStack.TheInside.{Inside}
use Rattle.dk_undo.specs.declared.chunk.TheConstants.{CHUNK_LEN}

module _ {X : Type 0} where
  -- the items of the chunks, one after another
  abbrev pub entries_of : List (Held X) → List X
  entries_of [] = []
  entries_of (c ∷ cs) = c.items ++ entries_of cs

  -- where the chunks lie
  abbrev pub places_of : List (Held X) → List Ptr
  places_of cs = map (λ c. c.place) cs

  -- n entries fill the chunks from the front: each chunk has 64 until they are used up
  abbrev pub IsPacked : ℕ → List (Held X) → Type 0
  IsPacked n [] = n ≡ 0
  IsPacked n (c ∷ cs) = (length c.items ≡ min n CHUNK_LEN) × IsPacked (n - CHUNK_LEN) cs

  -- none of the chunks has an item
  abbrev pub AreEmpty : List (Held X) → Type 0
  AreEmpty [] = Unit {0}
  AreEmpty (c ∷ cs) = (c.items ≡ []) × AreEmpty cs

  -- new has the chunks of old where they lie, and behind them so many empty ones
  pub record Grows (old new : List (Held X)) (count : ℕ) : Type 0 where
    pub added : List (Held X)
    pub after : new ≡ old ++ added
    pub many : length added ≡ count
    pub empty : AreEmpty added

  abbrev pub stack_view : Inside X → Stack X
  stack_view s = stack (entries_of s.chunks.items) (CHUNK_LEN * length s.chunks.items - s.len)

  pub record IsStack (s : Inside X) : Type 0 where
    pub packed : IsPacked s.len s.chunks.items
    pub within : CHUNK_LEN * length s.chunks.items < 2 ^ 64
