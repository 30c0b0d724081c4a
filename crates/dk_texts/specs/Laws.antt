-- What the `csv` library's default writer writes of the same values.
use Rattle.std.specs.Prelude.{◌≡◌, ℕ, List, [], map}
use Rattle.std.specs.Fmt.{signed_decimal}
use Rattle.csv.specs.Writing.{default_writer}
use Rattle.csv.specs.Writing as writing
use Rattle.dk_values.specs.declared.value.Value.{Value}
use Rattle.dk_values.specs.declared.value.Value.TheVariants as value
use Rattle.dk_texts.specs.Fields.{field_text, truth_text, value_text}
use Rattle.dk_texts.specs.Texts.{row_text}

-- the bytes of a value, whatever they are
abbrev pub value_bytes : Value → List ℕ
value_bytes value.Null = []
value_bytes (value.Bool truth) = truth_text truth
value_bytes (value.Int n) = signed_decimal n
value_bytes (value.Big n) = signed_decimal n
value_bytes (value.Text bytes) = bytes
value_bytes (value.Huge n) = signed_decimal n

abbrev pub FieldsAreThoseOfCsv : Type 0
FieldsAreThoseOfCsv = (bytes : List ℕ) → field_text bytes ≡ writing.field_text default_writer bytes

abbrev pub ValuesAreFieldsOfCsv : Type 0
ValuesAreFieldsOfCsv = (v : Value) → value_text v ≡ writing.field_text default_writer (value_bytes v)

abbrev pub LinesAreRecordsOfCsv : Type 0
LinesAreRecordsOfCsv = (row : List Value) → row_text row ≡ writing.row_text default_writer (map value_bytes row)
