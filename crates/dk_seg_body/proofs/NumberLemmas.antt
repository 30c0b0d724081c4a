-- Numbers that stand for values.
use Rattle.std.proofs.Common.{◌≡◌, ◌*◌, List, [], ◌∷◌, length, refl, arith}
use Rattle.std.specs.List.{AllByRecursion, flat_map}
use Rattle.std.proofs.lemmas.List.{length-append}
use Rattle.dk_values.specs.declared.value.ColType.{ColType}
use Rattle.dk_values.specs.declared.value.ColType.TheVariants as types
use Rattle.dk_values.specs.declared.value.Value.{Value}
use Rattle.dk_values.specs.declared.value.Value.TheVariants as values
use Rattle.dk_bytes.specs.PlainValue.{IsPlain, plain_bytes}
use Rattle.dk_columns.specs.Stored.{IsNumeric}
use Rattle.dk_seg_body.specs.Numbers.{number_len}

-- a plain value has the bytes of its type
pub plain_len_is : (kind : ColType) (value : Value) → IsNumeric kind → IsPlain kind value → length (plain_bytes value) ≡ number_len kind
plain_len_is types.Bool (values.Bool b) n h = refl
plain_len_is types.Int (values.Int m) n h = refl
plain_len_is types.Big (values.Big m) n h = refl
plain_len_is types.Text value n h = absurd n
plain_len_is kind value n h = absurd h

pub plain_body_len : (kind : ColType) (vs : List Value) → IsNumeric kind → AllByRecursion (IsPlain kind) vs → length (flat_map plain_bytes vs) ≡ number_len kind * length vs
plain_body_len kind [] n h = omega arith
plain_body_len kind (v ∷ vs) n h = omega (arith, plain_len_is kind v n h.0, plain_body_len kind vs n h.1, length-append (plain_bytes v) (flat_map plain_bytes vs))
