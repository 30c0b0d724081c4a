-- The width of a schema.
use Rattle.std.proofs.Common.{◌≡◌, ◌≤◌, Bool, true, false, ◌==◌, nat_lt, List, length, Some, None, cond, refl, arith}
use Rattle.dk_values.specs.declared.column.Column.{Column}
use Rattle.dk_values.specs.declared.column.TheConstants.{MAX_COLUMNS}
use Rattle.dk_values.specs.Columns.{schema_fault, first_no_name, first_repeat, name_fault}
use Rattle.dk_values.specs.declared.column.SchemaError.{SchemaError}
use Rattle.dk_values.specs.declared.column.SchemaError.TheVariants.{NoColumns, TooManyColumns}

-- a schema has 64 columns at most
pub schema_width : (columns : List Column) → schema_fault columns ≡ None → length columns ≤ 64
schema_width columns lawful = by_tests (length columns == 0) (nat_lt MAX_COLUMNS (length columns)) refl lawful
  where
    by_tests : (none many : Bool) → nat_lt MAX_COLUMNS (length columns) ≡ many
        → cond none (Some NoColumns) (cond many (Some (TooManyColumns (length columns)))
        (name_fault (first_no_name columns) (first_repeat columns))) ≡ None → length columns ≤ 64
    by_tests true many e h = absurd (grind (arith, h))
    by_tests false true e h = absurd (grind (arith, h))
    by_tests false false e h = grind (arith, e)
