-- The stamps of the rows of a vector.
use Rattle.std.specs.Prelude.{ℕ, zero, suc, Bool, true, false, ◌&&◌, not, ◌==◌, List, [], ◌∷◌, map, replicate, Option, Some, None, slice_get, slice_set, if◌then◌else◌}
use Rattle.dk_stamp.specs.declared.snapshot.TheConstants.{NEVER}
use Rattle.dk_version.specs.declared.stamps.Stamp.{Stamp}
use Rattle.dk_version.specs.declared.stamps.Kept.{Kept}
use Rattle.dk_version.specs.declared.stamps.Kept.TheVariants as kept

-- the stamps of a vector: those of each row, and whether each row has its own
pub record VectorStamps : Type 0 where
  pub rows : List Stamp
  pub apart : Bool

abbrev pub stamps_of : List Stamp → Bool → VectorStamps
stamps_of rows apart = record { rows = rows; apart = apart }

abbrev pub rows_in : Kept → List Stamp
rows_in (kept.Same stamp count) = replicate count stamp
rows_in (kept.Each stamps) = stamps.items

abbrev pub is_apart : Kept → Bool
is_apart (kept.Same stamp count) = false
is_apart (kept.Each stamps) = true

-- a row that is not there
abbrev pub spare_row : Stamp
spare_row = record { inserted = NEVER; deleted = NEVER }

-- an insert stamp in place of another
abbrev pub reinserted : ℕ → ℕ → Stamp → Stamp
reinserted from to stamp = if stamp.inserted == from then record stamp { inserted = to } else stamp

-- the same from a place on
abbrev pub reinserted_from : ℕ → ℕ → ℕ → List Stamp → List Stamp
reinserted_from zero from to rows = map (reinserted from to) rows
reinserted_from (suc start) from to [] = []
reinserted_from (suc start) from to (stamp ∷ rows) = stamp ∷ reinserted_from start from to rows

abbrev pub erased_by : ℕ → Stamp → Stamp
erased_by deleted stamp = record stamp { deleted = deleted }

-- another delete stamp of one row
abbrev pub with_deleted : ℕ → ℕ → List Stamp → List Stamp
with_deleted row deleted rows = elim (slice_get rows row) [
  | None ↦ rows
  | Some stamp ↦ slice_set rows row (erased_by deleted stamp)
]

-- whether a reader finds the row there
abbrev pub is_there : (ℕ → Bool) → Stamp → Bool
is_there sees stamp = sees stamp.inserted && not (sees stamp.deleted)

-- the delete stamp of a row, where there is one and the reader doesn't see it
abbrev pub unseen_delete : (ℕ → Bool) → Stamp → Option ℕ
unseen_delete sees stamp = if (stamp.deleted == NEVER) then None else (if sees stamp.deleted then None else Some stamp.deleted)
