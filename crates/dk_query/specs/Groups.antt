-- Groups: lines with the same keys, and one line of values for each.
use Rattle.std.specs.Prelude.{ℕ, ◌+◌, pos, Bool, false, List, [], ◌∷◌, ◌++◌, map, length, if◌then◌else◌}
use Rattle.std.specs.Ordering.{is_eq}
use Rattle.dk_values.specs.declared.value.Value.{Value}
use Rattle.dk_values.specs.declared.value.Value.TheVariants.{Big}
use Rattle.dk_types.specs.declared.bound.BoundItem.{BoundItem}
use Rattle.dk_types.specs.declared.bound.BoundItem.TheVariants as item
use Rattle.dk_eval.specs.Values.{value_at}
use Rattle.dk_eval.specs.Aggregates.{aggregate}
use Rattle.dk_query.specs.declared.lines.Line.{Line}
use Rattle.dk_query.specs.declared.order.SortKey.{SortKey}
use Rattle.dk_query.specs.Order.{keys_cmp, goes_before, group_keys}
use Rattle.dk_query.specs.Sorted.{sorted}

-- a line has the keys of a group's first line
abbrev pub joins : List SortKey → List Line → Line → Bool
joins keys [] line = false
joins keys (first ∷ others) line = is_eq (keys_cmp keys first.row line.row)

-- sorted lines cut into groups, the first of which has begun
abbrev pub groups_behind : List SortKey → List Line → List Line → List (List Line)
groups_behind keys group [] = group ∷ []
groups_behind keys group (line ∷ lines) =
    if joins keys group line then groups_behind keys (group ++ line ∷ []) lines
    else group ∷ groups_behind keys (line ∷ []) lines

abbrev pub groups_in : List SortKey → List Line → List (List Line)
groups_in keys [] = []
groups_in keys (line ∷ lines) = groups_behind keys (line ∷ []) lines

-- groups stand in ascending order of their columns, null lowest and equal to null; without GROUP BY all lines are one
-- group, even if there are none
abbrev pub groups_of : List ℕ → List Line → List (List Line)
groups_of [] lines = lines ∷ []
groups_of (column ∷ columns) lines =
    groups_in (group_keys (column ∷ columns)) (sorted (goes_before (group_keys (column ∷ columns))) lines)

-- the values of the item of that place
abbrev pub values_at : ℕ → List Line → List Value
values_at place group = map (λ line. value_at line.values place) group

abbrev pub first_row : List Line → List Value
first_row [] = []
first_row (line ∷ lines) = line.row

abbrev pub first_values : List Line → List Value
first_values [] = []
first_values (line ∷ lines) = line.values

-- an item of a group: a plain one is a column of GROUP BY, which is the same on all lines
abbrev pub group_value : List Line → ℕ → BoundItem → Value
group_value group place (item.Plain expr) = value_at (first_values group) place
group_value group place item.CountAll = Big (pos (length group))
group_value group place (item.Fold kind of) = aggregate kind (values_at place group)

-- the items from a place on
abbrev pub group_values : List Line → ℕ → List BoundItem → List Value
group_values group place [] = []
group_values group place (first ∷ others) = group_value group place first ∷ group_values group (place + 1) others

abbrev pub group_line : List BoundItem → List Line → Line
group_line items group = record { row = first_row group; values = group_values group 0 items }

-- the lines of the groups
abbrev pub group_lines : List ℕ → List BoundItem → List Line → List Line
group_lines columns items lines = map (group_line items) (groups_of columns lines)
