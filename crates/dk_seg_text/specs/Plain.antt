-- The bodies of segments that have each value as it is.
use Rattle.std.specs.Prelude.{ℕ, zero, suc, ◌<◌, ◌^◌, List, [], ◌∷◌, length, Result, Ok}
use Rattle.std.specs.List.{AllByRecursion, flat_map}
use Rattle.dk_values.specs.declared.value.ColType.{ColType}
use Rattle.dk_values.specs.declared.value.Value.{Value}
use Rattle.dk_bytes.specs.Fields.{Place}
use Rattle.dk_bytes.specs.PlainValue.{IsPlain, plain_bytes, value_at}
use Rattle.dk_bytes.specs.Reading.{◌>>=◌, start, whole}
use Rattle.dk_seg_body.specs.Grammar.{Grammar}

-- the values one behind the other
abbrev pub plain_body : List Value → List ℕ
plain_body values = flat_map plain_bytes values

-- all are values of the type, and their bytes can be counted in 64 bits
pub record ArePlain (kind : ColType) (values : List Value) : Type 0 where
  pub plain : AllByRecursion (IsPlain kind) values
  pub room : length (plain_body values) < 2 ^ 64

-- so many values, or the first fault
abbrev pub values_at : ColType → ℕ → Place → Result (List Value × Place) ℕ
values_at kind zero place = Ok ([], place)
values_at kind (suc n) place = do
  value ← value_at kind place
  others ← values_at kind n value.1
  Ok (value.0 ∷ others.0, others.1)

-- so many values that a body stands for, or its first fault
abbrev pub plain_at : ColType → ℕ → List ℕ → Result (List Value) ℕ
plain_at kind count bytes = whole (values_at kind count (start bytes))

abbrev pub plain_grammar : Grammar
plain_grammar = record { Is = ArePlain; spell = plain_body; at = plain_at }
