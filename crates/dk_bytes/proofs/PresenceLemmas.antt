-- Values that are present.
use Rattle.std.proofs.Common.{◌≡◌, ◌≤◌, List, [], ◌∷◌, length, sym, arith}
use Rattle.std.specs.Prelude.{count_by}
use Rattle.std.proofs.lemmas.List.Sums.{length-filter}
use Rattle.dk_values.specs.declared.value.Value.{Value}
use Rattle.dk_bytes.specs.PlainValue.{is_present, present}
use Rattle.dk_values.specs.declared.value.Value.TheVariants as cell

pub count_is : (values : List Value) → count_by is_present values ≡ length (present values)
count_is values = sym (length-filter is_present values)

pub present_few : (values : List Value) → length (present values) ≤ length values
present_few [] = omega arith
present_few (cell.Null ∷ vs) = omega (arith, present_few vs)
present_few (v ∷ vs) = omega (arith, present_few vs)
