-- The bodies of segments whose values are all the same.
use Rattle.std.specs.Prelude.{◌≡◌, ℕ, zero, suc, List, [], ◌∷◌, Result, Ok, Err, replicate}
use Rattle.std.specs.List.{AllByRecursion}
use Rattle.dk_values.specs.declared.value.ColType.{ColType}
use Rattle.dk_values.specs.declared.value.Value.{Value}
use Rattle.dk_bytes.specs.PlainValue.{IsPlain, plain_bytes, value_at}
use Rattle.dk_bytes.specs.Reading.{◌>>=◌, start, whole}
use Rattle.dk_seg_body.specs.Grammar.{Grammar}

-- at least one value, and all are that one
abbrev pub IsConstant : ColType → List Value → Type 0
IsConstant kind [] = ⊥
IsConstant kind (value ∷ values) = IsPlain kind value × AllByRecursion (λ other. other ≡ value) values

-- the one value that all are
abbrev pub constant_bytes : List Value → List ℕ
constant_bytes [] = []
constant_bytes (value ∷ values) = plain_bytes value

-- so many values that a body stands for, or its first fault; no body stands for no values
unfoldable pub constant_at : ColType → ℕ → List ℕ → Result (List Value) ℕ
constant_at kind zero bytes = Err 0
constant_at kind (suc n) bytes = do
  value ← whole (value_at kind (start bytes))
  Ok (replicate (suc n) value)

abbrev pub constant_grammar : Grammar
constant_grammar = record { Is = IsConstant; spell = constant_bytes; at = constant_at }
