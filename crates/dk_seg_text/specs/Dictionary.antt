-- The bodies of segments that have each different text once, and for each value the number of its text.
use Rattle.std.specs.Prelude.{◌≡◌, ℕ, zero, suc, ◌+◌, ◌-◌, ◌*◌, ◌<◌, ◌^◌, ◌==◌, Bool, true, false, ◌||◌, not, List, [], ◌∷◌, ◌++◌, length, map, fold, bytes_eq, nat_lt, slice_index_or, Option, Some, None, Result, Ok, Err, if◌then◌else◌}
use Rattle.std.specs.List.{AllByRecursion, flat_map, list_any, position_or_len}
use Rattle.std.specs.Int.{w8, w16, to_le_bytes}
use Rattle.dk_values.specs.declared.value.ColType.{ColType}
use Rattle.dk_values.specs.declared.value.ColType.TheVariants as types
use Rattle.dk_values.specs.declared.value.Value.{Value}
use Rattle.dk_values.specs.declared.value.Value.TheVariants as values
use Rattle.dk_bytes.specs.Fields.{Place, bytes_at, number_at}
use Rattle.dk_bytes.specs.PlainValue.{IsPlain, text_at}
use Rattle.dk_bytes.specs.Reading.{◌>>=◌, start, whole, or_fault}
use Rattle.dk_bytes.specs.Bits.{bit_width, byte_count, packed, numbers_in}
use Rattle.dk_seg_body.specs.Grammar.{Grammar}

abbrev pub text_of : Value → List ℕ
text_of (values.Text text) = text
text_of value = []

-- whether the text is one of these
abbrev pub is_entry : List (List ℕ) → List ℕ → Bool
is_entry entries text = list_any (bytes_eq text) entries

-- the entries with one more text, which goes last if it is none of them
abbrev pub with_entry : List (List ℕ) → List ℕ → List (List ℕ)
with_entry entries text = if is_entry entries text then entries else entries ++ text ∷ []

-- the different texts in the order of first use, behind those of before
abbrev pub entries_behind : List (List ℕ) → List (List ℕ) → List (List ℕ)
entries_behind entries texts = fold with_entry entries texts

abbrev pub entries_of : List (List ℕ) → List (List ℕ)
entries_of texts = entries_behind [] texts

-- the place of a text among the entries
abbrev pub code_of : List (List ℕ) → List ℕ → ℕ
code_of entries text = position_or_len (bytes_eq text) entries

-- the codes of texts, each among the entries when it comes
abbrev pub codes_behind : List (List ℕ) → List (List ℕ) → List ℕ
codes_behind entries [] = []
codes_behind entries (text ∷ texts) = code_of entries text ∷ codes_behind (with_entry entries text) texts

-- the width that each code has
abbrev pub code_width : ℕ → ℕ
code_width entry_count = bit_width (entry_count - 1)

-- a text whose length has two bytes
abbrev pub IsShort : List ℕ → Type 0
IsShort text = length text < 2 ^ 16

abbrev pub entry_bytes : List ℕ → List ℕ
entry_bytes text = to_le_bytes w16 (length text) ++ text

-- how many entries, the entries, the width, and the codes
abbrev pub body_with : List (List ℕ) → List ℕ → List ℕ
body_with entries codes =
    to_le_bytes w16 (length entries)
    ++ (flat_map entry_bytes entries
    ++ (code_width (length entries) ∷ packed (code_width (length entries)) codes))

abbrev pub dictionary_body : List (List ℕ) → List ℕ
dictionary_body texts = body_with (entries_of texts) (codes_behind [] texts)

abbrev pub dictionary_bytes : List Value → List ℕ
dictionary_bytes values = dictionary_body (map text_of values)

-- at least one value, all are texts, and their different texts can be counted in 16 bits
pub record IsDictionary (kind : ColType) (values : List Value) : Type 0 where
  pub text : kind ≡ types.Text
  pub some : 0 < length values
  pub plain : AllByRecursion (IsPlain types.Text) values
  pub few : length (entries_of (map text_of values)) < 2 ^ 16

-- the entries and the text that stands next, if it is none of them, or the first fault
unfoldable pub entry_at : List (List ℕ) → Place → Result (List (List ℕ) × Place) ℕ
entry_at entries place = do
  text ← text_at place
  if is_entry entries (text_of text.0) then Err place.at else Ok (entries ++ text_of text.0 ∷ [], text.1)

-- the entries and so many more
abbrev pub entries_at : ℕ → List (List ℕ) → Place → Result (List (List ℕ) × Place) ℕ
entries_at zero entries place = Ok (entries, place)
entries_at (suc n) entries place = do
  more ← entry_at entries place
  entries_at n more.0 more.1

-- how many entries are used, if each is used after all before it; so many were used before
abbrev pub used_behind : ℕ → List ℕ → Option ℕ
used_behind n [] = Some n
used_behind n (code ∷ codes) = if nat_lt n code then None else used_behind (if code == n then n + 1 else n) codes

-- whether just so many entries are used, each after all before it
abbrev pub are_all_used : ℕ → Option ℕ → Bool
are_all_used n None = false
are_all_used n (Some used) = used == n

abbrev pub text_with : List (List ℕ) → ℕ → Value
text_with entries code = values.Text (slice_index_or entries code [])

-- the values that the codes stand for, if all entries are used and in their order
abbrev pub texts_with : List (List ℕ) → Option (List ℕ) → Option (List Value)
texts_with entries None = None
texts_with entries (Some codes) =
    if are_all_used (length entries) (used_behind 0 codes) then Some (map (text_with entries) codes) else None

-- the codes; every fault of theirs is charged to their first byte
unfoldable pub codes_at : List (List ℕ) → ℕ → ℕ → Place → Result (List Value × Place) ℕ
codes_at entries width count place = do
  bytes ← bytes_at (byte_count (width * count)) place
  texts ← or_fault place.at (texts_with entries (numbers_in width count bytes.0))
  Ok (texts, bytes.1)

-- the width and the codes
unfoldable pub width_at : List (List ℕ) → ℕ → Place → Result (List Value × Place) ℕ
width_at entries count place = do
  width ← number_at w8 place
  fitting ← if width.0 == code_width (length entries) then Ok width else Err place.at
  codes_at entries fitting.0 count fitting.1

-- the entries, the width and the codes; no body has no entries
unfoldable pub texts_at : ℕ → Place → Result (List Value × Place) ℕ
texts_at count place = do
  n ← number_at w16 place
  some ← if n.0 == 0 then Err place.at else Ok n
  entries ← entries_at some.0 [] some.1
  width_at entries.0 count entries.1

abbrev pub is_text : ColType → Bool
is_text types.Text = true
is_text kind = false

-- so many texts that a body stands for, or its first fault; no body has no values or values of another type
unfoldable pub dictionary_at : ColType → ℕ → List ℕ → Result (List Value) ℕ
dictionary_at kind count bytes =
    if (count == 0) || not (is_text kind) then Err 0 else whole (texts_at count (start bytes))

abbrev pub dictionary_grammar : Grammar
dictionary_grammar = record { Is = IsDictionary; spell = dictionary_bytes; at = dictionary_at }
