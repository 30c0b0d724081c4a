-- Rows are equal to themselves.
use Rattle.std.proofs.Common.{◌≡◌, Bool, true, false, List, [], ◌∷◌, refl}
use Rattle.std.specs.Prelude.{not, if◌then◌else◌}
use Rattle.std.proofs.lemmas.Bool.{and_from}
use Rattle.std.proofs.lemmas.Bool.Decides.{Decides-int_eq}
use Rattle.std.proofs.lemmas.Slice.Eq.{bytes_eq-Decides}
use lib.Pointwise.{pointwise}
use Rattle.dk_values.specs.declared.value.Value.{Value}
use Rattle.dk_values.specs.declared.value.Value.TheVariants as value
use Rattle.dk_si.specs.Meaning.{same_value, same_rows}

bool_is_same : (a : Bool) → (if a then a else not a) ≡ true
bool_is_same true = refl
bool_is_same false = refl

value_is_same : (v : Value) → same_value v v ≡ true
value_is_same value.Null = refl
value_is_same (value.Bool a) = bool_is_same a
value_is_same (value.Int a) = (Decides-int_eq a a).1 refl
value_is_same (value.Big a) = (Decides-int_eq a a).1 refl
value_is_same (value.Text a) = (bytes_eq-Decides a a).1 refl
value_is_same (value.Huge a) = (Decides-int_eq a a).1 refl

list_is_same : {T : Type 0} → (same : T → T → Bool) → ((x : T) → same x x ≡ true) → (xs : List T)
    → pointwise same xs xs ≡ true
list_is_same same each [] = refl
list_is_same same each (x ∷ xs) = and_from (same x x) (pointwise same xs xs) (each x) (list_is_same same each xs)

-- rows are equal to themselves
pub rows_are_same : (rows : List (List Value)) → same_rows rows rows ≡ true
rows_are_same rows = list_is_same (pointwise same_value) (list_is_same same_value value_is_same) rows
