-- Encodings as grammars.
use Rattle.std.specs.Prelude.{ℕ, List, Result}
use Rattle.dk_values.specs.declared.value.ColType.{ColType}
use Rattle.dk_values.specs.declared.value.Value.{Value}
use Rattle.dk_bytes.specs.declared.field_error.FieldError.{FieldError}
use Rattle.dk_bytes.specs.Bodies.{ReadsBody}

-- which values of a type an encoding holds, their bytes, and so many values that bytes stand for, or the place of their
-- first fault
pub record Grammar : Type 1 where
  pub Is : ColType → List Value → Type 0
  pub spell : List Value → List ℕ
  pub at : ColType → ℕ → List ℕ → Result (List Value) ℕ

-- what was answered, seen by view, is what the grammar says of the bytes as a body of so many values
abbrev pub ReadsAs : {X : Type 0} → Grammar → ColType → ℕ → List ℕ → (X → List Value) → Result X FieldError → Type 0
ReadsAs grammar kind count bytes view result =
    ReadsBody (grammar.Is kind) grammar.spell (grammar.at kind) count bytes view result
