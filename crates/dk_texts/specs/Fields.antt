-- The text of a value in a line of a result: a field, between quotes where its text would be read otherwise.
use Rattle.std.specs.Prelude.{◌==◌, ◌||◌, ℕ, Bool, true, false, List, [], ◌∷◌, ◌++◌, codes, flat_map, if◌then◌else◌}
use Rattle.std.specs.List.{list_any}
use Rattle.std.specs.Fmt.{signed_decimal}
use Rattle.dk_values.specs.declared.value.Value.{Value}
use Rattle.dk_values.specs.declared.value.Value.TheVariants as value

abbrev pub quote_mark : ℕ
quote_mark = 34

-- a comma, a quote or a byte of a line's end
abbrev pub is_mark : ℕ → Bool
is_mark b = (b == 44) || (b == quote_mark) || (b == 13) || (b == 10)

abbrev pub wants_quotes : List ℕ → Bool
wants_quotes bytes = list_any is_mark bytes

-- a quote stands twice, and each other byte once
abbrev pub doubled_byte : ℕ → List ℕ
doubled_byte b = if b == quote_mark then quote_mark ∷ quote_mark ∷ [] else b ∷ []

abbrev pub doubled : List ℕ → List ℕ
doubled bytes = flat_map doubled_byte bytes

abbrev pub quoted : List ℕ → List ℕ
quoted bytes = quote_mark ∷ (doubled bytes ++ (quote_mark ∷ []))

-- bytes as a field
abbrev pub field_text : List ℕ → List ℕ
field_text bytes = if wants_quotes bytes then quoted bytes else bytes

abbrev pub truth_text : Bool → List ℕ
truth_text true = codes "true"
truth_text false = codes "false"

-- a value in a line of a result: null is nothing
abbrev pub value_text : Value → List ℕ
value_text value.Null = []
value_text (value.Bool truth) = truth_text truth
value_text (value.Int n) = signed_decimal n
value_text (value.Big n) = signed_decimal n
value_text (value.Text bytes) = field_text bytes
value_text (value.Huge n) = signed_decimal n
