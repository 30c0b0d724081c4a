-- Statements that a text can say.
use Rattle.std.specs.List.{list_all}
use Rattle.std.specs.Prelude.{ℕ, ◌^◌, Bool, true, false, ◌&&◌, length, Option, Some, None, nat_lt, nat_le}
use Rattle.std.specs.Str.{is_utf8}
use Rattle.dk_values.specs.Names.{is_name}
use Rattle.dk_values.specs.declared.column.TheConstants.{MAX_COLUMNS}
use Rattle.dk_values.specs.declared.value.Value.{Value}
use Rattle.dk_values.specs.declared.value.Value.TheVariants as value
use Rattle.dk_syntax.specs.Literals.{literal_of}
use Rattle.dk_syntax.specs.declared.expression.Expr.{Expr}
use Rattle.dk_syntax.specs.declared.expression.Node.TheOpen.{Node-F, Expr-F}
use Rattle.dk_syntax.specs.declared.expression.Node.TheFolds.{fold-Expr}
use Rattle.dk_syntax.specs.declared.query.Item.{Item}
use Rattle.dk_syntax.specs.declared.query.Item.TheVariants as item
use Rattle.dk_syntax.specs.declared.query.Items.{Items}
use Rattle.dk_syntax.specs.declared.query.Items.TheVariants as items
use Rattle.dk_syntax.specs.declared.query.Query.{Query}
use Rattle.dk_syntax.specs.declared.statement.Statement.{Statement}
use Rattle.dk_syntax.specs.declared.statement.Statement.TheVariants as statement

-- a literal of the language
abbrev pub is_literal_value : Value → Bool
is_literal_value value.Null = true
is_literal_value (value.Bool truth) = true
is_literal_value (value.Big n) = true
is_literal_value (value.Text bytes) = is_utf8 bytes
is_literal_value other = false

-- the literals and names of an expression
abbrev pub lawful_node : Node-F Bool Bool → Bool
lawful_node (Node-F.Lit v) = is_literal_value v
lawful_node (Node-F.Col name) = is_name name
lawful_node (Node-F.Neg of) = of
lawful_node (Node-F.Not of) = of
lawful_node (Node-F.IsNull of negated) = of
lawful_node (Node-F.Two op left right) = left && right

abbrev pub lawful_place : Expr-F Bool Bool → Bool
lawful_place expr = expr.node

abbrev pub is_lawful_expr : Expr → Bool
is_lawful_expr = fold-Expr Bool Bool lawful_node lawful_place

abbrev pub is_lawful_filter : Option Expr → Bool
is_lawful_filter None = true
is_lawful_filter (Some expr) = is_lawful_expr expr

abbrev pub is_lawful_item : Item → Bool
is_lawful_item (item.Plain expr) = is_lawful_expr expr
is_lawful_item (item.CountAll at) = true
is_lawful_item (item.Fold kind at of) = is_lawful_expr of

abbrev pub are_lawful_items : Items → Bool
are_lawful_items (items.All at) = true
are_lawful_items (items.Listed list) = list_all is_lawful_item list

-- LIMIT is a number of 63 bits
abbrev pub is_lawful_limit : Option ℕ → Bool
is_lawful_limit None = true
is_lawful_limit (Some limit) = nat_lt limit (2 ^ 63)

abbrev pub is_lawful_query : Query → Bool
is_lawful_query query =
    (is_name query.table.name && are_lawful_items query.items)
    && ((is_lawful_filter query.filter && list_all (λ group. is_name group.name) query.groups)
    && (list_all (λ key. is_name key.column.name) query.keys && is_lawful_limit query.limit))

-- a value of a tuple is a literal
abbrev pub is_lawful_value : Expr → Bool
is_lawful_value expr = elim (literal_of expr) [ None ↦ false | Some v ↦ is_literal_value v ]

-- a statement that a text can say
abbrev pub is_lawful : Statement → Bool
is_lawful (statement.Create table columns) =
    is_name table.name && (list_all (λ column. is_name column.column.name) columns && (nat_lt 0 (length columns) && nat_le (length columns) MAX_COLUMNS))
is_lawful (statement.Insert table tuples) = is_name table.name && list_all (λ tuple. list_all is_lawful_value tuple.values) tuples
is_lawful (statement.InsertSelect table at query) = is_name table.name && is_lawful_query query
is_lawful (statement.Copy table bytes) = is_name table.name
is_lawful (statement.Select query) = is_lawful_query query
is_lawful (statement.Update table sets filter) =
    is_name table.name && (list_all (λ set. is_name set.column.name && is_lawful_expr set.value) sets && is_lawful_filter filter)
is_lawful (statement.Delete table filter) = is_name table.name && is_lawful_filter filter
is_lawful other = true
