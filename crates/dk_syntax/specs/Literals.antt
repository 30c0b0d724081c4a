-- Which expressions are literals, and which values they write.
use Rattle.std.specs.Prelude.{Bool, List, Option, Some, None, is_some, if◌then◌else◌}
use Rattle.std.specs.List.{list_all, filter_map}
use Rattle.dk_values.specs.declared.value.Value.{Value}
use Rattle.dk_syntax.specs.declared.expression.Expr.{Expr}
use Rattle.dk_syntax.specs.declared.expression.Node.{Node, Lit}

-- the value of a node that is a literal
abbrev pub node_literal : Node → Option Value
node_literal (Lit value) = Some value
node_literal _ = None

-- the value of an expression that is a literal
abbrev pub literal_of : Expr → Option Value
literal_of expr = node_literal expr.node

abbrev pub is_literal : Expr → Bool
is_literal expr = is_some (literal_of expr)

-- the values of expressions that are all literals
abbrev pub literals_of : List Expr → Option (List Value)
literals_of exprs = if list_all is_literal exprs then Some (filter_map literal_of exprs) else None
