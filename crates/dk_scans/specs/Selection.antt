-- Which of the values of a column a scan takes.
use Rattle.std.specs.Prelude.{ℕ, ℤ, zero, suc, pos, ◌*◌, ◌==◌, ◌&&◌, Bool, true, false, List, [], ◌∷◌, ◌++◌, length, map, take, Option, Some, None}
use Rattle.std.specs.List.{filter}
use Rattle.std.specs.Int.{bit_at}
use Rattle.dk_values.specs.declared.value.Value.{Value}
use Rattle.dk_values.specs.declared.value.Value.TheVariants as values
use Rattle.dk_columns.specs.Columns.{is_present, number_of}

-- the items whose flag is set
abbrev pub select : {T : Type 0} → List Bool → List T → List T
select [] items = []
select (b ∷ bs) [] = []
select (true ∷ bs) (item ∷ items) = item ∷ select bs items
select (false ∷ bs) (item ∷ items) = select bs items

-- flags that are set in both
abbrev pub both : List Bool → List Bool → List Bool
both [] cs = []
both (b ∷ bs) [] = []
both (b ∷ bs) (c ∷ cs) = (b && c) ∷ both bs cs

-- the flags that are set
abbrev pub set_flags : List Bool → List Bool
set_flags flags = select flags flags

-- the first n bits of a word
abbrev pub bits : ℕ → ℕ → List Bool
bits zero word = []
bits (suc n) word = bits n word ++ (bit_at word n == 1) ∷ []

-- the items whose bit in a word is set
abbrev pub in_word : {T : Type 0} → ℕ → List T → List T
in_word word items = select (bits (length items) word) items

-- those of the first 64 k items whose flag is set
abbrev pub in_words : {T : Type 0} → ℕ → List Bool → List T → List T
in_words k flags items = select (take (64 * k) flags) (take (64 * k) items)

-- the number where its flag is set, else 0
abbrev pub if_set : Bool → ℤ → ℤ
if_set true n = n
if_set false n = pos 0

-- the values of the rows that are asked for, without nulls
abbrev pub present_values : List Bool → List Value → List Value
present_values rows all = filter is_present (select rows all)

-- their numbers
abbrev pub numbers : List Bool → List Value → List ℤ
numbers rows all = map number_of (present_values rows all)

-- the bytes of a text
abbrev pub text_of : Value → List ℕ
text_of (values.Text text) = text
text_of value = []

-- their texts
abbrev pub texts : List Bool → List Value → List (List ℕ)
texts rows all = map text_of (present_values rows all)

-- the text of a value that is asked for
abbrev pub text_if : Bool → Value → Option (List ℕ)
text_if true (values.Text text) = Some text
text_if asked value = None
