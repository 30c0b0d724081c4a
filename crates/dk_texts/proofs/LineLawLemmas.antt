-- A line, and what the `csv` library's default writer writes of its values.
use Rattle.std.proofs.Common.{◌≡◌, ◌==◌, ℕ, Bool, true, false, List, [], ◌∷◌, ◌++◌, length, refl, sym, ap, ◌∙◌}
use Rattle.std.specs.Prelude.{if◌then◌else◌, map}
use Rattle.std.proofs.lemmas.Bool.{ne_eqb}
use Rattle.csv.specs.Writing.{default_writer, fields_text, is_blank, row_body}
use Rattle.csv.specs.Writing as writing
use Rattle.dk_values.specs.declared.value.Value.{Value}
use Rattle.dk_values.specs.declared.value.Value.TheVariants as value
use Rattle.dk_texts.specs.Fields.{quote_mark, wants_quotes, field_text, truth_text, value_text}
use Rattle.dk_texts.specs.Texts.{more_values, values_text, shown}
use Rattle.dk_texts.specs.Laws.{value_bytes, ValuesAreFieldsOfCsv, LinesAreRecordsOfCsv}
use Rattle.dk_texts.proofs.FieldLemmas.{fields_are}
use Rattle.dk_texts.proofs.NumberLemmas.{number_no_mark}

-- bytes without a mark are a field as they are
unquoted : (bytes : List ℕ) → wants_quotes bytes ≡ false → bytes ≡ writing.field_text default_writer bytes
unquoted bytes none =
    let whole : field_text bytes ≡ bytes = rw none refl in
    sym whole ∙ fields_are bytes

truth_is : (truth : Bool) → truth_text truth ≡ writing.field_text default_writer (truth_text truth)
truth_is true = unquoted (truth_text true) refl
truth_is false = unquoted (truth_text false) refl

pub values_are : ValuesAreFieldsOfCsv
values_are value.Null = refl
values_are (value.Bool truth) = truth_is truth
values_are (value.Int n) = unquoted _ (number_no_mark n)
values_are (value.Big n) = unquoted _ (number_no_mark n)
values_are (value.Text bytes) = fields_are bytes
values_are (value.Huge n) = unquoted _ (number_no_mark n)

more_are : (values : List Value) → more_values values ≡ fields_text default_writer (map value_bytes values)
unfolding fields_text
more_are [] = refl
more_are (v ∷ values) =
    ap (λ (xs : List ℕ). 44 ∷ (xs ++ more_values values)) (values_are v)
    ∙ ap (λ (xs : List ℕ). 44 ∷ (writing.field_text default_writer (value_bytes v) ++ xs)) (more_are values)

body_is : (row : List Value) → values_text row ≡ row_body default_writer (map value_bytes row)
body_is [] = refl
body_is (v ∷ values) =
    ap (λ (xs : List ℕ). xs ++ more_values values) (values_are v)
    ∙ ap (λ (xs : List ℕ). writing.field_text default_writer (value_bytes v) ++ xs) (more_are values)

-- a line of one field
alone : (field : List ℕ) → shown (field ++ []) ++ (10 ∷ [])
    ≡ (field ++ []) ++ ((if length field == 0 then quote_mark ∷ quote_mark ∷ [] else []) ++ (10 ∷ []))
alone [] = refl
alone (b ∷ field) =
    let some = ne_eqb (length (b ∷ field)) 0 (λ e. cc e) in
    rw some refl

-- a line with a comma
beside : (field rest : List ℕ) → shown (field ++ (44 ∷ rest)) ≡ field ++ (44 ∷ rest)
beside [] rest = refl
beside (b ∷ field) rest = refl

pub lines_are : LinesAreRecordsOfCsv
unfolding fields_text is_blank
lines_are [] = refl
lines_are (v ∷ []) =
    ap (λ (xs : List ℕ). shown (xs ++ []) ++ (10 ∷ [])) (values_are v)
    ∙ alone (writing.field_text default_writer (value_bytes v))
lines_are (v ∷ next ∷ values) =
    ap (λ (xs : List ℕ). xs ++ (10 ∷ []))
    (beside (value_text v) (value_text next ++ more_values values) ∙ body_is (v ∷ next ∷ values))
