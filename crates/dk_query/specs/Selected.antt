-- What a query gives on the rows of its table.
use Rattle.std.specs.Prelude.{ℕ, List, map, take, min, Option, Some, None, Result, Ok, Err, if◌then◌else◌}
use Rattle.dk_values.specs.declared.value.Value.{Value}
use Rattle.dk_types.specs.declared.bound.BoundQuery.{BoundQuery}
use Rattle.dk_query.specs.declared.lines.Line.{Line}
use Rattle.dk_query.specs.Groups.{group_lines}
use Rattle.dk_query.specs.Kept.{kept_from}
use Rattle.dk_query.specs.Order.{goes_before, order_keys}
use Rattle.dk_query.specs.Sorted.{sorted}

-- LIMIT keeps the first rows
abbrev pub limited : {T : Type 0} → Option ℕ → List T → List T
limited None rows = rows
limited (Some most) rows = take most rows

-- how many of so many rows that is
abbrev pub within_limit : Option ℕ → ℕ → ℕ
within_limit None count = count
within_limit (Some most) count = min most count

-- the values of lines, ordered and then limited
abbrev pub rows_of : BoundQuery → List Line → List (List Value)
rows_of query lines = limited query.limit (map (λ line. line.values) (sorted (goes_before (order_keys query.keys)) lines))

-- the lines that are ordered: those of the rows, or one for each group
abbrev pub lines_of : BoundQuery → List Line → List Line
lines_of query lines = if query.grouped then group_lines query.groups query.items lines else lines

-- the rows of a query, or the first row on which its filter or an item has no value
abbrev pub selected : BoundQuery → List (Option (List Value)) → Result (List (List Value)) ℕ
selected query rows = elim (kept_from query 0 rows) [
  | Ok lines ↦ Ok (rows_of query (lines_of query lines))
  | Err row ↦ Err row
]
