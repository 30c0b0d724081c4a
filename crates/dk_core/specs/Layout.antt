-- Where rows stand: a table's rows are cut into groups of at most 122,880, and a group into vectors of 2,048.
use Rattle.std.specs.Prelude.{ℕ, zero, suc, ◌+◌, ◌*◌, ◌/◌, ◌%◌, Bool, ◌&&◌, List, [], ◌∷◌, ◌++◌, map, sum, take, length, Some, None, ◌==◌, nat_lt, nat_le, if◌then◌else◌, slice_get}
use Rattle.std.proofs.Math.ListN.{replicate}
use Rattle.dk_types.specs.declared.vector.VectorId.{VectorId}
use Rattle.dk_si.specs.declared.database.Table.{Table}
use Rattle.dk_si.specs.declared.limits.TheConstants.{GROUP_ROWS}
use Rattle.dk_core.specs.declared.layout.TheConstants.{VECTOR_ROWS, VECTORS}

-- a table that is opened is cut into full groups and a last one
abbrev pub cut : ℕ → List ℕ
cut rows = replicate (rows / GROUP_ROWS) GROUP_ROWS ++ (if rows % GROUP_ROWS == 0 then [] else rows % GROUP_ROWS ∷ [])

-- of each table, how many rows its groups have
abbrev pub layout_of : List Table → List (List ℕ)
layout_of tables = map (λ table. cut (length table.rows)) tables

abbrev pub groups_of : List (List ℕ) → ℕ → List ℕ
groups_of layout table = elim (slice_get layout table) [ None ↦ [] | Some groups ↦ groups ]

-- the id of a group's first row
abbrev pub first_row : List ℕ → ℕ → ℕ
first_row groups group = sum (take group groups)

-- how many rows a group has; a new one has none
abbrev pub rows_in : List ℕ → ℕ → ℕ
rows_in groups group = elim (slice_get groups group) [ None ↦ 0 | Some rows ↦ rows ]

-- the group that the next rows go into: the last one where it has room, else a new one
abbrev pub next_group : List ℕ → ℕ
next_group [] = 0
next_group (rows ∷ []) = if nat_lt rows GROUP_ROWS then 0 else 1
next_group (rows ∷ next ∷ groups) = suc (next_group (next ∷ groups))

-- so many more rows stand in that group, or in a new one behind the others
abbrev pub with_rows : ℕ → ℕ → List ℕ → List ℕ
with_rows group more [] = more ∷ []
with_rows zero more (rows ∷ groups) = (rows + more) ∷ groups
with_rows (suc group) more (rows ∷ groups) = rows ∷ with_rows group more groups

-- a vector exists where its group does
abbrev pub has_vector : List (List ℕ) → VectorId → Bool
has_vector layout at = nat_lt at.group (length (groups_of layout at.table)) && nat_lt at.vector VECTORS

-- the row is one of the vector's
abbrev pub is_in_vector : List ℕ → VectorId → ℕ → Bool
is_in_vector groups at row =
    nat_le (first_row groups at.group + at.vector * VECTOR_ROWS) row
    && (nat_lt row (first_row groups at.group + (at.vector + 1) * VECTOR_ROWS)
    && nat_lt row (first_row groups (at.group + 1)))
