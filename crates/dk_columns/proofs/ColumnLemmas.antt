-- Columns of values.
use Rattle.std.proofs.Common.{◌≡◌, ℕ, ℤ, suc, ◌+◌, List, [], ◌∷◌, ◌++◌, map, take, Option, Some, None, refl, ap, sym, ◌∙◌, inl, inr, arith}
use Rattle.std.specs.Prelude.{slice_get, is_some}
use Rattle.std.specs.List.{All}
use Rattle.std.proofs.lemmas.List.{append_assoc}
use Rattle.dk_values.specs.declared.value.ColType.{ColType}
use Rattle.dk_values.specs.declared.value.ColType.TheVariants as types
use Rattle.dk_values.specs.declared.value.Value.{Value}
use Rattle.dk_rows.proofs.RowLemmas.{take_more}
use Rattle.dk_columns.specs.Options.{number_or_zero}
use Rattle.dk_columns.specs.Columns.{Column, with_value, with_values, is_present, number_of}
use Rattle.dk_columns.specs.Stored.{number_value, text_value, IsNumber, IsNumeric}

number_present : (kind : ColType) (o : Option ℤ) → IsNumeric kind → is_some o ≡ is_present (number_value kind o)
number_present kind None k = refl
number_present types.Bool (Some n) k = refl
number_present types.Int (Some n) k = refl
number_present types.Big (Some n) k = refl
number_present types.Text (Some n) k = absurd k

pub numbers_present : (kind : ColType) (os : List (Option ℤ)) → IsNumeric kind → map is_some os ≡ map is_present (map (number_value kind) os)
numbers_present kind [] k = refl
numbers_present kind (o ∷ os) k = rw (number_present kind o k, numbers_present kind os k) refl

text_present : (o : Option (List ℕ)) → is_some o ≡ is_present (text_value o)
text_present None = refl
text_present (Some text) = refl

pub texts_present : (os : List (Option (List ℕ))) → map is_some os ≡ map is_present (map text_value os)
texts_present [] = refl
texts_present (o ∷ os) = rw (text_present o, texts_present os) refl

number_again : (kind : ColType) (o : Option ℤ) → IsNumber kind o → number_or_zero o ≡ number_of (number_value kind o)
number_again kind None h = refl
number_again types.Bool (Some n) h = elim h [ inl z ↦ rw z refl | inr o ↦ rw o refl ]
number_again types.Int (Some n) h = refl
number_again types.Big (Some n) h = refl
number_again types.Text (Some n) h = absurd h

-- the numbers of the values are those that are kept
pub numbers_of_values : (kind : ColType) (os : List (Option ℤ)) → All (IsNumber kind) os → map number_or_zero os ≡ map number_of (map (number_value kind) os)
numbers_of_values kind [] h = refl
numbers_of_values kind (o ∷ os) h = rw (number_again kind o (h 0 o (omega arith)), numbers_of_values kind os (λ k d lt. h (suc k) d (omega (arith, lt)))) refl

-- a value more behind the front of others
pub appended_more : (column cells new : Column) (more : List Value) (i : ℕ) (value : Value) → cells ≡ with_values (take i more) column → slice_get more i ≡ Some value → new ≡ with_value value cells → new ≡ with_values (take (i + 1) more) column
appended_more column cells new more i value e at pushed =
    pushed ∙ ap (with_value value) e
    ∙ ap (λ (values : List Value). record { kind = column.kind; values = values }) (append_assoc column.values (take i more) (value ∷ []) ∙ ap (λ (values : List Value). column.values ++ values) (sym (take_more more i value at)))

pub made_more : (kind : ColType) (cells new : Column) (all : List Value) (i : ℕ) (value given : Value) → cells ≡ record { kind = kind; values = take i all } → slice_get all i ≡ Some given → value ≡ given → new ≡ with_value value cells
    → new ≡ record { kind = kind; values = take (i + 1) all }
made_more kind cells new all i value given e at same pushed =
    pushed ∙ ap (with_value value) e
    ∙ ap (λ (values : List Value). record { kind = kind; values = values }) (ap (λ (v : Value). take i all ++ v ∷ []) same ∙ sym (take_more all i given at))
