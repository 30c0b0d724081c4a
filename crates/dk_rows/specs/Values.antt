-- Values in slots, with the texts and the sums of 128 bits apart.
use Rattle.std.specs.Prelude.{◌≡◌, ℕ, ℤ, pos, ◌+◌, ◌<◌, ⊤, List, [], ◌∷◌, length, map, take, get_or}
use Rattle.dk_values.specs.declared.value.Value.{Value}
use Rattle.dk_values.specs.declared.value.Value.TheVariants as values
use Rattle.dk_rows.specs.declared.slots.Slot.{Slot}
use Rattle.dk_rows.specs.declared.slots.Slot.TheVariants as places

-- the value of a slot
abbrev pub value_in : List (List ℕ) → List ℤ → Slot → Value
value_in texts sums places.Null = values.Null
value_in texts sums (places.Bool truth) = values.Bool truth
value_in texts sums (places.Int number) = values.Int number
value_in texts sums (places.Big number) = values.Big number
value_in texts sums (places.Text place) = values.Text (get_or texts place [])
value_in texts sums (places.Huge place) = values.Huge (get_or sums place (pos 0))

-- the values of slots
abbrev pub values_in : List (List ℕ) → List ℤ → List Slot → List Value
values_in texts sums slots = map (value_in texts sums) slots

-- 1 where a slot names a text
abbrev pub text_count : Slot → ℕ
text_count (places.Text place) = 1
text_count slot = 0

-- 1 where a slot names a sum
abbrev pub sum_count : Slot → ℕ
sum_count (places.Huge place) = 1
sum_count slot = 0

-- the slot names the next text or sum, where so many stand before it
abbrev pub IsNext : ℕ → ℕ → Slot → Type 0
IsNext texts sums (places.Text place) = place ≡ texts
IsNext texts sums (places.Huge place) = place ≡ sums
IsNext texts sums slot = ⊤

-- the text or sum that the slot names is there
abbrev pub IsThere : ℕ → ℕ → Slot → Type 0
IsThere texts sums (places.Text place) = place < texts
IsThere texts sums (places.Huge place) = place < sums
IsThere texts sums slot = ⊤

-- behind `t` texts and `s` sums the slots name the texts and the sums up to `texts` and `sums`, in order
abbrev pub AllNamed : ℕ → ℕ → ℕ → ℕ → List Slot → Type 0
AllNamed texts sums t s [] = (t ≡ texts) × (s ≡ sums)
AllNamed texts sums t s (slot ∷ slots) = IsNext t s slot × AllNamed texts sums (t + text_count slot) (s + sum_count slot) slots

-- what is kept so that a slot stands for a value
pub record Keeps (texts texts' : List (List ℕ)) (sums sums' : List ℤ) (value : Value) (slot : Slot) : Type 0 where
  pub next : IsNext (length texts) (length sums) slot
  pub texts_len : length texts' ≡ length texts + text_count slot
  pub sums_len : length sums' ≡ length sums + sum_count slot
  pub texts_front : take (length texts) texts' ≡ texts
  pub sums_front : take (length sums) sums' ≡ sums
  pub stands : value_in texts' sums' slot ≡ value
