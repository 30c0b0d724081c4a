-- Expressions bound to the columns of a table: left side, right side, operator.
use Rattle.std.specs.Prelude.{ℕ, Bool, true, false, ◌&&◌, ◌||◌, List, length, nat_lt, bytes_eq, position, slice_get, Option, Some, None, Result, Ok, Err, if◌then◌else◌}
use Rattle.dk_values.specs.declared.value.Value.{Value}
use Rattle.dk_values.specs.declared.value.Value.TheVariants as value
use Rattle.dk_values.specs.declared.value.ColType.{ColType}
use Rattle.dk_values.specs.declared.value.ColType.TheVariants as type
use Rattle.dk_values.specs.declared.column.Column.{Column}
use Rattle.dk_syntax.specs.declared.expression.Expr.{Expr}
use Rattle.dk_syntax.specs.declared.expression.Node.TheOpen.{Node-F, Expr-F}
use Rattle.dk_syntax.specs.declared.expression.Node.TheFolds.{fold-Expr}
use Rattle.dk_syntax.specs.declared.expression.Op.{Op}
use Rattle.dk_syntax.specs.declared.expression.Op.TheVariants as op
use Rattle.dk_types.specs.declared.bound.BoundExpr.{BoundExpr}
use Rattle.dk_types.specs.declared.bound.BoundExpr.TheVariants as bound
use Rattle.dk_types.specs.declared.reply.Refusal.{Refusal}
use Rattle.dk_types.specs.declared.reply.Refusal.TheVariants.{NoColumn, TypeMismatch}
use Rattle.dk_bind.specs.declared.kinds.Kind.{Kind}
use Rattle.dk_bind.specs.declared.kinds.Kind.TheVariants.{Truth, Number, Text, Null}
use Rattle.dk_bind.specs.declared.kinds.TheConstants.{MAX_TEXT}
use Rattle.dk_bind.specs.declared.expressions.Typed.{Typed}
use Rattle.dk_bind.specs.Outcomes.{Outcome, ◌>>=◌}

-- ---- kinds

abbrev pub kind_of_type : ColType → Kind
kind_of_type type.Bool = Truth
kind_of_type type.Int = Number
kind_of_type type.Big = Number
kind_of_type type.Text = Text

abbrev pub kind_of_value : Value → Kind
kind_of_value value.Null = Null
kind_of_value (value.Bool truth) = Truth
kind_of_value (value.Text bytes) = Text
kind_of_value other = Number

-- the kind of NULL fits every one
abbrev pub fits : Kind → Kind → Bool
fits wanted Null = true
fits Truth Truth = true
fits Number Number = true
fits Text Text = true
fits wanted found = false

-- two sides of a comparison
abbrev pub are_alike : Kind → Kind → Bool
are_alike left right = fits left right || fits right left

-- the operands that an operator takes
abbrev pub takes : Op → Kind → Kind → Bool
takes op.Or left right = fits Truth left && fits Truth right
takes op.And left right = fits Truth left && fits Truth right
takes op.Add left right = fits Number left && fits Number right
takes op.Sub left right = fits Number left && fits Number right
takes op.Mul left right = fits Number left && fits Number right
takes _ left right = are_alike left right

abbrev pub kind_of_result : Op → Kind
kind_of_result op.Add = Number
kind_of_result op.Sub = Number
kind_of_result op.Mul = Number
kind_of_result _ = Truth

-- ---- expressions

abbrev pub typed : Kind → BoundExpr → Typed
typed kind expr = record { expr = expr; kind = kind }

-- a text of more bytes fits no column
abbrev pub is_too_long : Value → Bool
is_too_long (value.Text bytes) = nat_lt MAX_TEXT (length bytes)
is_too_long other = false

abbrev pub bound_literal : ℕ → Value → Outcome Typed
bound_literal at v =
    if is_too_long v then Err (TypeMismatch at) else Ok (typed (kind_of_value v) (bound.Lit v))

-- the place of the column of that name
abbrev pub column_place : List Column → List ℕ → Option ℕ
column_place columns name = position (λ column. bytes_eq column.name name) columns

abbrev pub bound_column_at : List Column → Option ℕ → ℕ → Outcome ℕ
bound_column_at columns None at = Err (NoColumn at)
bound_column_at columns (Some place) at = Ok place

-- a column by its name, which stands at that place of the text
abbrev pub bound_column : List Column → ℕ → List ℕ → Outcome ℕ
bound_column columns at name = bound_column_at columns (column_place columns name) at

-- the kind of a column
abbrev pub kind_at : List Column → ℕ → Kind
kind_at columns place = elim (slice_get columns place) [ None ↦ Null | Some column ↦ kind_of_type column.kind ]

abbrev pub typed_column : List Column → ℕ → List ℕ → Outcome Typed
typed_column columns at name =
    bound_column columns at name >>= λ place. Ok (typed (kind_at columns place) (bound.Col place))

abbrev pub bound_neg : ℕ → Typed → Outcome Typed
bound_neg at of = if fits Number of.kind then Ok (typed Number (bound.Neg of.expr)) else Err (TypeMismatch at)

abbrev pub bound_not : ℕ → Typed → Outcome Typed
bound_not at of = if fits Truth of.kind then Ok (typed Truth (bound.Not of.expr)) else Err (TypeMismatch at)

abbrev pub bound_two : ℕ → Op → Typed → Typed → Outcome Typed
bound_two at op left right =
    if takes op left.kind right.kind then Ok (typed (kind_of_result op) (bound.Two op left.expr right.expr))
    else Err (TypeMismatch at)

-- a node at a place of the text
abbrev pub node_step : List Column → Node-F (ℕ → Outcome Typed) (Outcome Typed) → ℕ → Outcome Typed
node_step columns (Node-F.Lit v) at = bound_literal at v
node_step columns (Node-F.Col name) at = typed_column columns at name
node_step columns (Node-F.Neg of) at = of >>= λ of. bound_neg at of
node_step columns (Node-F.Not of) at = of >>= λ of. bound_not at of
node_step columns (Node-F.IsNull of negated) at = of >>= λ of. Ok (typed Truth (bound.IsNull of.expr negated))
node_step columns (Node-F.Two op left right) at =
    left >>= λ left. right >>= λ right. bound_two at op left right

abbrev pub expr_step : Expr-F (ℕ → Outcome Typed) (Outcome Typed) → Outcome Typed
expr_step expr = expr.node expr.at

-- an expression, and its kind
abbrev pub bound_expr : List Column → Expr → Outcome Typed
bound_expr columns = fold-Expr (ℕ → Outcome Typed) (Outcome Typed) (node_step columns) expr_step
