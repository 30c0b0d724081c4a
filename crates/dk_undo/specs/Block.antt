-- How the parts of a block go together.
use Rattle.std.specs.Prelude.{◌≡◌, ℕ, ◌<◌, length, replicate, get_or, slice_set, Option, None}
use Rattle.dk_undo.specs.Places.{IsFilled}
use Rattle.dk_undo.specs.declared.cells.Base.{Base}
use Rattle.dk_undo.specs.declared.cells.Cells.{Cells}
use Rattle.dk_undo.specs.declared.cells.Deed.{Deed}

module _ {X : Type 0} where
  -- they are the parts of one block of n places from the allocator, all of them empty
  abbrev pub IsEmptyBlock : {A : Type 0} → Base X → Cells X → Deed X A → ℕ → A → Type 0
  IsEmptyBlock base cells deed n alloc = (cells.at ≡ base.ptr) × (cells.slots ≡ replicate n None)
      × (deed.at ≡ base.ptr) × (deed.len ≡ n) × (deed.alloc ≡ alloc)

  -- the block begins at the base, and has an empty place at the index
  abbrev pub HasEmptyPlace : Cells X → Base X → ℕ → Type 0
  HasEmptyPlace cells base i = (base.ptr ≡ cells.at) × (i < length cells.slots) × (get_or cells.slots i None ≡ None)

  -- the block begins at the base, and has a filled place at the index
  abbrev pub HasFilledPlace : Cells X → Base X → ℕ → Type 0
  HasFilledPlace cells base i = (base.ptr ≡ cells.at) × IsFilled cells.slots i

  -- new is old, where it lies, with this in the place at the index
  abbrev pub ChangesPlace : Cells X → Cells X → ℕ → Option X → Type 0
  ChangesPlace old new i o = (new.at ≡ old.at) × (new.slots ≡ slice_set old.slots i o)
