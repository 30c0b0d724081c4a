-- The rows of a COPY's data, or the first field that has no value in its column.
use Rattle.std.specs.Prelude.{◌≡◌, ℕ, ◌+◌, List, [], ◌∷◌, ◌++◌, length, min, ◌==◌, Option, Some, None, Result, Ok, Err, if◌then◌else◌}
use Rattle.csv.specs.Reading.{records, default_config, strip_bom}
use Rattle.dk_values.specs.declared.column.Column.{Column}
use Rattle.dk_values.specs.declared.value.Value.{Value}
use Rattle.dk_copy.specs.declared.fault.FieldPlace.{FieldPlace}
use Rattle.dk_copy.specs.declared.fault.CopyError.{CopyError}
use Rattle.dk_copy.specs.declared.fault.CopyError.TheVariants as copy_error
use Rattle.dk_copy.specs.Fields.{field_value}

-- what comes of more, behind what came of a front
abbrev pub behind : {T E : Type 0} → List T → Result (List T) E → Result (List T) E
behind front (Ok found) = Ok (front ++ found)
behind front (Err fault) = Err fault

-- a value before those behind it; a field without a value is named by its place
abbrev pub with_value : Option Value → ℕ → Result (List Value) ℕ → Result (List Value) ℕ
with_value None field others = Err field
with_value (Some v) field others = behind (v ∷ []) others

-- the values of fields in columns, the first of which has that place, or the place of the first field without a value
abbrev pub values_from : ℕ → List Column → List (List ℕ) → Result (List Value) ℕ
values_from field [] fields = Ok []
values_from field (column ∷ columns) [] = Ok []
values_from field (column ∷ columns) (bytes ∷ fields) =
    with_value (field_value column.kind bytes) field (values_from (field + 1) columns fields)

-- the row of a record. With another number of fields than there are columns it is none, whatever the fields are
abbrev pub row_of : List Column → List (List ℕ) → Result (List Value) ℕ
row_of columns fields =
    if length columns == length fields then values_from 0 columns fields else Err (min (length columns) (length fields))

-- a row before those behind it; a field without a value is named with its record
abbrev pub with_row : Result (List Value) ℕ → ℕ → Result (List (List Value)) FieldPlace → Result (List (List Value)) FieldPlace
with_row (Ok values) row others = behind (values ∷ []) others
with_row (Err field) row others = Err (record { row = row; field = field })

-- the rows of records, the first of which has that number
abbrev pub rows_from : List Column → ℕ → List (List (List ℕ)) → Result (List (List Value)) FieldPlace
rows_from columns row [] = Ok []
rows_from columns row (fields ∷ others) = with_row (row_of columns fields) row (rows_from columns (row + 1) others)

-- the rows of data: of the records that `csv`'s default reader finds behind a byte order mark
abbrev pub copied_rows : List Column → List ℕ → Result (List (List Value)) FieldPlace
copied_rows columns bytes = rows_from columns 0 (records default_config (strip_bom bytes))

-- an outcome is the one that was found; memory may run out at any time
abbrev pub Gives : {S T : Type 0} → (S → T) → Result S CopyError → Result T FieldPlace → Type 0
Gives shown (Ok x) found = found ≡ Ok (shown x)
Gives shown (Err (copy_error.BadField place)) found = found ≡ Err place
Gives shown (Err copy_error.OutOfMemory) found = Unit {0}

-- the values that were made, or the field that has none
abbrev pub outcome : List Value → Option ℕ → Result (List Value) ℕ
outcome made None = Ok made
outcome made (Some field) = Err field
