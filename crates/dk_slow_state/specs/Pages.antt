-- The rows of a vector among those that a session reads.
use Rattle.std.specs.Prelude.{ℕ, ◌+◌, ◌-◌, ◌*◌, min, List, [], ◌∷◌, Option, drop, take, ◌==◌, if◌then◌else◌}
use Rattle.dk_values.specs.declared.value.Value.{Value}
use Rattle.dk_types.specs.declared.net.TableNet.{TableNet}
use Rattle.dk_types.specs.declared.vector.VectorId.{VectorId}
use Rattle.dk_fault.specs.Counts.{capped}
use Rattle.dk_si.specs.declared.database.Table.{Table}
use Rattle.dk_si.specs.Database.{rows_after}
use Rattle.dk_core.specs.declared.layout.TheConstants.{VECTOR_ROWS}
use Rattle.dk_core.specs.declared.seat.NewTable.{NewTable}
use Rattle.dk_core.specs.Layout.{first_row, rows_in}
use Rattle.dk_slow_state.specs.declared.reading.Page.{Page}

-- the id of a group's first row; ids end at the greatest number of 64 bits
abbrev pub first_id : List ℕ → ℕ → ℕ
first_id groups group = capped (first_row groups group)

-- the id of a vector's first row, and the id behind its last one
abbrev pub vector_first : List ℕ → VectorId → ℕ
vector_first groups at = capped (first_id groups at.group + at.vector * VECTOR_ROWS)

abbrev pub vector_end : List ℕ → VectorId → ℕ
vector_end groups at = min (capped (vector_first groups at + VECTOR_ROWS))
    (capped (first_id groups at.group + rows_in groups at.group))

-- of the rows that a session reads of a table, those of the vector
abbrev pub page_of : List ℕ → VectorId → List (Option (List Value)) → Page
page_of groups at rows = record {
  first = vector_first groups at;
  rows = take (vector_end groups at - vector_first groups at) (drop (vector_first groups at) rows);
}

-- the rows of a table behind the parts of that table, one after the other
abbrev pub rows_behind : List TableNet → ℕ → List (Option (List Value)) → List (Option (List Value))
rows_behind [] table rows = rows
rows_behind (part ∷ parts) table rows =
    rows_behind parts table (if part.table == table then rows_after part rows else rows)

-- a table without its rows
abbrev pub heading : Table → NewTable
heading table = record { name = table.name; schema = table.schema }
