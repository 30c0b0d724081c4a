-- Plain values are of the column's type.
use Rattle.std.proofs.Common.{◌≡◌, sym, subst}
use Rattle.dk_values.specs.declared.value.ColType.{ColType}
use Rattle.dk_values.specs.declared.value.ColType.TheVariants as types
use Rattle.dk_values.specs.declared.value.Value.{Value}
use Rattle.dk_values.specs.declared.value.Value.TheVariants as values
use Rattle.dk_bytes.specs.PlainValue.{IsPlain}
use Rattle.dk_columns.specs.Columns.{IsOfKind}

pub plain_of_kind : (kind : ColType) (value : Value) → IsPlain kind value → IsOfKind kind value
plain_of_kind types.Bool (values.Bool b) h = tt
plain_of_kind types.Int (values.Int n) h = tt
plain_of_kind types.Big (values.Big n) h = tt
plain_of_kind types.Text (values.Text text) h = tt
plain_of_kind kind value h = absurd h

-- the same of a value that is lent
pub lent_of_kind : (kind : ColType) (lent value : Value) → IsPlain kind value → lent ≡ value → IsOfKind kind lent
lent_of_kind kind lent value h e = subst (λ (v : Value). IsOfKind kind v) (sym e) (plain_of_kind kind value h)
