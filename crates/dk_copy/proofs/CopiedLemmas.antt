-- How rows and values go on.
use Rattle.std.proofs.Common.{◌≡◌, ℕ, suc, ◌+◌, ◌-◌, ◌<◌, ◌≤◌, Bool, true, false, cond, List, [], ◌∷◌, ◌++◌, length, Option, Some, None, Result, Ok, Err, refl, sym, ap, ◌∙◌, append_assoc, arith}
use Rattle.std.proofs.lemmas.List.{append-nil, length-append}
use Rattle.std.proofs.lemmas.Bool.{ltb-false}
use Rattle.std.specs.Prelude.{nat_lt, ◌==◌}
use Rattle.dk_values.specs.Columns.{IsSchema, name_fault, first_no_name, first_repeat}
use Rattle.dk_values.specs.declared.column.SchemaError.{SchemaError}
use Rattle.dk_values.specs.declared.column.SchemaError.TheVariants.{NoColumns, TooManyColumns}
use Rattle.dk_values.specs.declared.column.Column.{Column}
use Rattle.dk_values.specs.declared.value.Value.{Value}
use Rattle.dk_copy.specs.declared.fault.CopyError.{CopyError}
use Rattle.dk_copy.specs.declared.fault.CopyError.TheVariants as copy_error
use Rattle.dk_copy.specs.declared.fault.FieldPlace.{FieldPlace}
use Rattle.csv.specs.Reading.{records, default_config, strip_bom}
use Rattle.dk_copy.specs.Copied.{behind, with_row, row_of, rows_from, copied_rows, Gives}

-- behind one more
behind_one : {T E : Type 0} (front : List T) (x : T) (more : Result (List T) E)
    → behind (front ++ x ∷ []) more ≡ behind front (behind (x ∷ []) more)
behind_one front x (Ok more) = ap Ok (append_assoc front (x ∷ []) more)
behind_one front x (Err fault) = refl

pub behind_none : {T E : Type 0} (more : Result (List T) E) → behind [] more ≡ more
behind_none (Ok more) = refl
behind_none (Err fault) = refl

-- ---- the rows of records

pub next_row : (columns : List Column) (front new : List (List Value)) (r : Result (List Value) ℕ) (others : List (List (List ℕ)))
    → behind front (with_row r (length front) (Ok [])) ≡ Ok new
    → behind new (rows_from columns (length new) others)
    ≡ behind front (with_row r (length front) (rows_from columns (length front + 1) others))
next_row columns front new (Err field) others made = absurd cc
next_row columns front new (Ok values) others made =
    let is : front ++ values ∷ [] ≡ new = cc in
    rw (sym is, length-append front (values ∷ [])) (behind_one front values (rows_from columns (length front + 1) others))

pub no_row : (front : List (List Value)) (r : Result (List Value) ℕ) (more : Result (List (List Value)) FieldPlace) (place : FieldPlace)
    → behind front (with_row r (length front) (Ok [])) ≡ Err place
    → behind front (with_row r (length front) more) ≡ Err place
no_row front (Ok values) more place found = absurd cc
no_row front (Err field) more place found = found

-- at the start
pub begins : (columns schema : List Column) (rows : List (List Value)) (bytes : List ℕ) → rows ≡ [] → columns ≡ schema
    → behind rows (rows_from columns (length rows) (records default_config (strip_bom bytes))) ≡ copied_rows schema bytes
begins columns schema rows bytes none same =
    ap (λ front. behind front (rows_from columns (length front) (records default_config (strip_bom bytes)))) none
    ∙ behind_none (rows_from columns 0 (records default_config (strip_bom bytes)))
    ∙ ap (λ these. rows_from these 0 (records default_config (strip_bom bytes))) same

-- one row more
pub goes_on : (columns : List Column) (front new : List (List Value)) (fields : List (List ℕ)) (left rest : List (List (List ℕ)))
    (all : Result (List (List Value)) FieldPlace) → left ≡ fields ∷ rest
    → behind front (rows_from columns (length front) left) ≡ all
    → behind front (with_row (row_of columns fields) (length front) (Ok [])) ≡ Ok new
    → behind new (rows_from columns (length new) rest) ≡ all
goes_on columns front new fields left rest all is told made =
    next_row columns front new (row_of columns fields) rest made
    ∙ ap (λ others. behind front (rows_from columns (length front) others)) (sym is)
    ∙ told

-- an error of a row is one of all
pub fails : {S : Type 0} (shown : S → List (List Value)) (columns : List Column) (front : List (List Value)) (fields : List (List ℕ))
    (left rest : List (List (List ℕ))) (all : Result (List (List Value)) FieldPlace) (error : CopyError) → left ≡ fields ∷ rest
    → behind front (rows_from columns (length front) left) ≡ all
    → Gives shown (Err error) (behind front (with_row (row_of columns fields) (length front) (Ok [])))
    → Gives (λ (rows : List (List Value)). rows) (Err error) all
fails shown columns front fields left rest all (copy_error.BadField place) is told given =
    sym told
    ∙ ap (λ others. behind front (rows_from columns (length front) others)) is
    ∙ no_row front (row_of columns fields) (rows_from columns (length front + 1) rest) place given
fails shown columns front fields left rest all copy_error.OutOfMemory is told given = given

-- no record is left
pub ends : (columns : List Column) (front : List (List Value)) (left : List (List (List ℕ)))
    (all : Result (List (List Value)) FieldPlace) → left ≡ []
    → behind front (rows_from columns (length front) left) ≡ all → all ≡ Ok front
ends columns front left all none told =
    sym told
    ∙ ap (λ others. behind front (rows_from columns (length front) others)) none
    ∙ ap Ok (append-nil front)

-- ---- columns

few_by : (n : ℕ) (empty many : Bool) (rest : Option SchemaError) → nat_lt 64 n ≡ many
    → cond empty (Some NoColumns) (cond many (Some (TooManyColumns n)) rest) ≡ None → n ≤ 64
few_by n true many rest is fault = absurd cc
few_by n false true rest is fault = absurd cc
few_by n false false rest is fault = ltb-false 64 n is

-- a schema has at most 64 columns
pub few_columns : (columns : List Column) → IsSchema columns → length columns ≤ 64
few_columns columns lawful =
    few_by (length columns) (length columns == 0) (nat_lt 64 (length columns))
    (name_fault (first_no_name columns) (first_repeat columns)) refl lawful
