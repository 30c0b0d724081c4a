-- The value of a field in a column of a type.
use Rattle.std.specs.Prelude.{ℕ, ◌-◌, ◌^◌, Bool, true, false, ◌&&◌, List, [], ◌∷◌, length, codes, nat_le, Option, Some, None, option_map, if◌then◌else◌}
use Rattle.std.specs.Str.{is_utf8, str_eq_ignore_ascii_case}
use Rattle.dk_values.specs.declared.value.ColType.{ColType}
use Rattle.dk_values.specs.declared.value.ColType.TheVariants as kind
use Rattle.dk_values.specs.declared.value.Value.{Value}
use Rattle.dk_values.specs.declared.value.Value.TheVariants as value
use Rattle.dk_copy.specs.Numbers.{number_in}

-- `true` or `false`, in capital or in small letters
abbrev pub truth_in : List ℕ → Option Bool
truth_in bytes =
    if str_eq_ignore_ascii_case bytes (codes "true") then Some true
    else (if str_eq_ignore_ascii_case bytes (codes "false") then Some false else None)

-- UTF-8 of at most 65,535 bytes
abbrev pub is_text : List ℕ → Bool
is_text bytes = nat_le (length bytes) 65535 && is_utf8 bytes

-- the value of a field that isn't empty
abbrev pub content_value : ColType → List ℕ → Option Value
content_value kind.Bool bytes = option_map value.Bool (truth_in bytes)
content_value kind.Int bytes = option_map value.Int (number_in (2 ^ 31 - 1) bytes)
content_value kind.Big bytes = option_map value.Big (number_in (2 ^ 63 - 1) bytes)
content_value kind.Text bytes = if is_text bytes then Some (value.Text bytes) else None

-- the value of a field, if it has one: an empty field is null
abbrev pub field_value : ColType → List ℕ → Option Value
field_value kind [] = Some value.Null
field_value kind (b ∷ bytes) = content_value kind (b ∷ bytes)
