-- What an expression is worth on a row.
use Rattle.std.specs.Prelude.{◌≡◌, ◌^◌, ◌-◌, ℤ, pos, negsuc, ◌+ℤ◌, ◌-ℤ◌, ◌*ℤ◌, neg_ℤ, int_le, ℕ, Bool, true, false, not, ◌&&◌, List, Option, Some, None, option_map, slice_get, unwrap_or, Result, Ok, Err, if◌then◌else◌}
use Rattle.std.specs.declared.cmp.Ordering.{Ordering}
use Rattle.std.specs.Ordering.{nat_cmp, int_cmp, bool_cmp, is_eq, is_ne, is_lt, is_le, is_gt, is_ge}
use Rattle.std.specs.Cmp.Lexicographic.{slice_cmp}
use Rattle.dk_values.specs.declared.value.Value.{Value}
use Rattle.dk_values.specs.declared.value.Value.TheVariants as value
use Rattle.dk_syntax.specs.declared.expression.Op.{Op}
use Rattle.dk_syntax.specs.declared.expression.Op.TheVariants as op
use Rattle.dk_types.specs.declared.bound.BoundExpr.{BoundExpr}
use Rattle.dk_types.specs.declared.bound.BoundExpr.TheOpen.{BoundExpr-F}
use Rattle.dk_types.specs.declared.bound.BoundExpr.TheFolds.{fold-BoundExpr}
use Rattle.dk_eval.specs.declared.fault.EvalError.{EvalError}
use Rattle.dk_eval.specs.declared.fault.EvalError.TheVariants.{OutOfRange, OutOfMemory}

-- ---- kinds: what a value is, where it is of that kind

abbrev pub is_null : Value → Bool
is_null value.Null = true
is_null _ = false

abbrev pub number_of : Value → Option ℤ
number_of (value.Int n) = Some n
number_of (value.Big n) = Some n
number_of _ = None

abbrev pub truth_of : Value → Option Bool
truth_of (value.Bool truth) = Some truth
truth_of _ = None

abbrev pub text_of : Value → Option (List ℕ)
text_of (value.Text bytes) = Some bytes
text_of _ = None

-- ---- truth by Kleene: None is what is not known

-- a truth, or null
abbrev pub known : Option Bool → Value
known None = value.Null
known (Some truth) = value.Bool truth

-- false where one side is, true where both are
abbrev pub and_of : Option Bool → Option Bool → Option Bool
and_of (Some false) right = Some false
and_of (Some true) right = right
and_of None (Some false) = Some false
and_of None _ = None

-- true where one side is, false where both are
abbrev pub or_of : Option Bool → Option Bool → Option Bool
or_of (Some true) right = Some true
or_of (Some false) right = right
or_of None (Some true) = Some true
or_of None _ = None

-- ---- comparisons

abbrev pub number_order : Option ℤ → Option ℤ → Option Ordering
number_order (Some x) (Some y) = Some (int_cmp x y)
number_order _ _ = None

-- the order of two values of one kind: numbers by value, texts by bytes, false below true; None beside null
abbrev pub order_of : Value → Value → Option Ordering
order_of (value.Bool x) right = option_map (bool_cmp x) (truth_of right)
order_of (value.Text x) right = option_map (slice_cmp nat_cmp x) (text_of right)
order_of left right = number_order (number_of left) (number_of right)

-- ---- arithmetic

-- the value of a number, if 64 bits hold it
abbrev pub within : ℤ → Option Value
within z =
    if int_le (negsuc (2 ^ 63 - 1)) z && int_le z (pos (2 ^ 63 - 1)) then Some (value.Big z) else None

-- null where there is no number
abbrev pub ranged : Option ℤ → Option Value
ranged None = Some value.Null
ranged (Some z) = within z

abbrev pub of_both : (ℤ → ℤ → ℤ) → Option ℤ → Option ℤ → Option ℤ
of_both operation (Some x) (Some y) = Some (operation x y)
of_both operation _ _ = None

abbrev pub negated : Option ℤ → Option ℤ
negated number = option_map neg_ℤ number

-- ---- operators; None is no value

abbrev pub compared : (Ordering → Bool) → Value → Value → Option Value
compared test left right = Some (known (option_map test (order_of left right)))

abbrev pub combined : Op → Value → Value → Option Value
combined op.Or left right = Some (known (or_of (truth_of left) (truth_of right)))
combined op.And left right = Some (known (and_of (truth_of left) (truth_of right)))
combined op.Eq left right = compared is_eq left right
combined op.Ne left right = compared is_ne left right
combined op.Lt left right = compared is_lt left right
combined op.Le left right = compared is_le left right
combined op.Gt left right = compared is_gt left right
combined op.Ge left right = compared is_ge left right
combined op.Add left right = ranged (of_both (λ x y. x +ℤ y) (number_of left) (number_of right))
combined op.Sub left right = ranged (of_both (λ x y. x -ℤ y) (number_of left) (number_of right))
combined op.Mul left right = ranged (of_both (λ x y. x *ℤ y) (number_of left) (number_of right))

-- ---- expressions

-- whether a value is null, or, denied, whether it is not
abbrev pub null_test : Bool → Value → Bool
null_test denied v = if denied then not (is_null v) else is_null v

-- the value of a row's column; null behind the last one, where no lawful expression looks
abbrev pub value_at : List Value → ℕ → Value
value_at row column = unwrap_or (slice_get row column) value.Null

-- the value of an expression by those of its parts: both sides of an operator are always evaluated
abbrev pub value_step : List Value → BoundExpr-F (Option Value) → Option Value
value_step row (BoundExpr-F.Lit v) = Some v
value_step row (BoundExpr-F.Col column) = Some (value_at row column)
value_step row (BoundExpr-F.Neg of) = elim of [ None ↦ None | Some v ↦ ranged (negated (number_of v)) ]
value_step row (BoundExpr-F.Not of) = option_map (λ v. known (option_map not (truth_of v))) of
value_step row (BoundExpr-F.IsNull of denied) = option_map (λ v. value.Bool (null_test denied v)) of
value_step row (BoundExpr-F.Two op left right) = elim left [
  | None ↦ None
  | Some x ↦ elim right [ None ↦ None | Some y ↦ combined op x y ]
]

-- the value of an expression on a row, if it has one
abbrev pub value_of : List Value → BoundExpr → Option Value
value_of row = fold-BoundExpr (Option Value) (value_step row)

-- a value where there is one, and OutOfRange exactly where there is none; memory may run out at any time
abbrev pub Evaluates : Result Value EvalError → Option Value → Type 0
Evaluates (Ok v) found = found ≡ Some v
Evaluates (Err OutOfRange) found = found ≡ None
Evaluates (Err OutOfMemory) found = Unit {0}

-- WHERE keeps the rows on which its value is true
abbrev pub is_true : Value → Bool
is_true v = unwrap_or (truth_of v) false
