-- Which columns are a schema, and why others are none.
use Rattle.std.specs.Prelude.{◌≡◌, ℕ, ◌+◌, Bool, List, [], ◌∷◌, ◌++◌, length, not, nat_lt, ◌==◌, bytes_eq, position, Option, Some, None, option_map, if◌then◌else◌}
use Rattle.std.specs.List.{list_any}
use Rattle.dk_values.specs.declared.column.Column.{Column}
use Rattle.dk_values.specs.declared.column.SchemaError.{SchemaError}
use Rattle.dk_values.specs.declared.column.SchemaError.TheVariants.{NoColumns, TooManyColumns, NameTooLong, SameName}
use Rattle.dk_values.specs.declared.column.TheConstants.{MAX_COLUMNS}
use Rattle.dk_values.specs.Names.{is_name}

-- the place of the first column whose name is no name
abbrev pub first_no_name : List Column → Option ℕ
first_no_name columns = position (λ column. not (is_name column.name)) columns

-- whether a column of that name stands among these
abbrev pub is_among : List Column → List ℕ → Bool
is_among columns name = list_any (λ column. bytes_eq column.name name) columns

-- the place of the first column whose name stands earlier, where i columns stand before these
abbrev pub repeat_from : ℕ → List Column → List Column → Option ℕ
repeat_from i earlier [] = None
repeat_from i earlier (column ∷ columns) =
    if is_among earlier column.name then Some i else repeat_from (i + 1) (earlier ++ column ∷ []) columns

-- the place of the first column whose name stands earlier
abbrev pub first_repeat : List Column → Option ℕ
first_repeat columns = repeat_from 0 [] columns

-- why columns that are neither none nor too many are no schema: first a name's length, then equal names
abbrev pub name_fault : Option ℕ → Option ℕ → Option SchemaError
name_fault (Some place) repeated = Some (NameTooLong place)
name_fault None repeated = option_map SameName repeated

-- why columns are no schema, the causes in their order
abbrev pub schema_fault : List Column → Option SchemaError
schema_fault columns =
    if length columns == 0 then Some NoColumns
    else (if nat_lt MAX_COLUMNS (length columns) then Some (TooManyColumns (length columns))
    else name_fault (first_no_name columns) (first_repeat columns))

abbrev pub IsSchema : List Column → Type 0
IsSchema columns = schema_fault columns ≡ None
