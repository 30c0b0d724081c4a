-- Queries bound to a table: items, filter, groups and keys in the order of the text.
use Rattle.std.specs.Prelude.{ℕ, ◌+◌, zero, suc, Bool, true, false, not, ◌&&◌, ◌||◌, List, [], ◌∷◌, ◌++◌, length, bytes_eq, slice_get, Option, Some, None, option_map, Ok, Err, ◌==◌, if◌then◌else◌}
use Rattle.std.specs.List.{list_any}
use Rattle.dk_values.specs.declared.column.Column.{Column}
use Rattle.dk_syntax.specs.declared.expression.Expr.{Expr}
use Rattle.dk_syntax.specs.declared.expression.Node.{Node, Col}
use Rattle.dk_syntax.specs.declared.query.Spot.{Spot}
use Rattle.dk_syntax.specs.declared.query.FoldKind.{FoldKind}
use Rattle.dk_syntax.specs.declared.query.FoldKind.TheVariants.{Count, Sum, Min, Max}
use Rattle.dk_syntax.specs.declared.query.Item.{Item}
use Rattle.dk_syntax.specs.declared.query.Item.TheVariants as item
use Rattle.dk_syntax.specs.declared.query.Items.{Items}
use Rattle.dk_syntax.specs.declared.query.Items.TheVariants.{All, Listed}
use Rattle.dk_syntax.specs.declared.query.Key.{Key}
use Rattle.dk_syntax.specs.declared.query.Query.{Query}
use Rattle.dk_syntax.specs.declared.statement.Set.{Set}
use Rattle.dk_types.specs.declared.bound.BoundExpr.{BoundExpr}
use Rattle.dk_types.specs.declared.bound.BoundExpr.TheVariants as expr
use Rattle.dk_types.specs.declared.bound.BoundItem.{BoundItem}
use Rattle.dk_types.specs.declared.bound.BoundItem.TheVariants as bound
use Rattle.dk_types.specs.declared.bound.BoundKey.{BoundKey}
use Rattle.dk_types.specs.declared.bound.BoundQuery.{BoundQuery}
use Rattle.dk_types.specs.declared.reply.Refusal.{Refusal}
use Rattle.dk_types.specs.declared.reply.Refusal.TheVariants.{NotGrouped, TypeMismatch}
use Rattle.dk_bind.specs.declared.kinds.Kind.{Kind}
use Rattle.dk_bind.specs.declared.kinds.Kind.TheVariants as kind
use Rattle.dk_bind.specs.declared.expressions.Typed.{Typed}
use Rattle.dk_bind.specs.declared.lists.Scope.{Scope}
use Rattle.dk_bind.specs.Outcomes.{Outcome, ◌>>=◌}
use Rattle.dk_bind.specs.Lists.{bound_from}
use Rattle.dk_bind.specs.Expressions.{fits, kind_at, kind_of_type, bound_column, bound_expr}

-- what surrounds the parts of a statement: the columns of its table; of a query those of GROUP BY, whether it is
-- grouped, and the columns that an INSERT puts its items into; and the sets of an UPDATE
pub record Around : Type 0 where
  pub columns : List Column
  pub grouped : Bool
  pub groups : List Spot
  pub targets : Option (List Column)
  pub sets : List Set

abbrev pub around_of : Scope → Around
around_of scope = record {
  columns = scope.schema.now;
  grouped = scope.grouped;
  groups = scope.groups.now;
  targets = option_map (λ schema. schema.now) scope.targets;
  sets = scope.sets.now;
}

-- ---- where an item goes

-- the column that the item of a place goes into takes the kind
abbrev pub has_room : Option (List Column) → ℕ → Kind → Bool
has_room None place kind = true
has_room (Some columns) place kind = fits (kind_at columns place) kind

abbrev pub fitted : Around → ℕ → ℕ → Kind → BoundItem → Outcome BoundItem
fitted around place at kind item = if has_room around.targets place kind then Ok item else Err (TypeMismatch at)

-- ---- items

-- a column of that name is one of GROUP BY
abbrev pub is_group : List Spot → List ℕ → Bool
is_group groups name = list_any (λ group. bytes_eq group.name name) groups

-- an expression that a grouped query may list: a column of GROUP BY
abbrev pub is_group_node : List Spot → Node → Bool
is_group_node groups (Col name) = is_group groups name
is_group_node groups other = false

abbrev pub may_list : Around → Expr → Bool
may_list around expr = not around.grouped || is_group_node around.groups expr.node

abbrev pub bound_plain : Around → ℕ → Expr → Outcome BoundItem
bound_plain around place expr = bound_expr around.columns expr >>= λ typed.
    if may_list around expr then fitted around place expr.at typed.kind (bound.Plain typed.expr)
    else Err (NotGrouped expr.at)

-- sum takes numbers, the others every kind
abbrev pub folds : FoldKind → Kind → Bool
folds Sum found = fits kind.Number found
folds _ found = true

-- count and sum are numbers, min and max of the kind that they are over
abbrev pub kind_of_fold : FoldKind → Kind → Kind
kind_of_fold Count found = kind.Number
kind_of_fold Sum found = kind.Number
kind_of_fold _ found = found

abbrev pub bound_fold : Around → ℕ → FoldKind → ℕ → Expr → Outcome BoundItem
bound_fold around place fold at of = bound_expr around.columns of >>= λ typed.
    if folds fold typed.kind
    then fitted around place at (kind_of_fold fold typed.kind) (bound.Fold fold typed.expr)
    else Err (TypeMismatch of.at)

-- the item at that place among the items
abbrev pub bound_item : Around → ℕ → Item → Outcome BoundItem
bound_item around place (item.Plain expr) = bound_plain around place expr
bound_item around place (item.CountAll at) = fitted around place at kind.Number bound.CountAll
bound_item around place (item.Fold fold at of) = bound_fold around place fold at of

-- one plain item per column, from a place on, where `*` stands there
abbrev pub bound_star : Around → ℕ → ℕ → List Column → Outcome (List BoundItem)
bound_star around at place columns = bound_from (λ place column.
    fitted around place at (kind_of_type column.kind) (bound.Plain (expr.Col place))) place columns

abbrev pub bound_items : Around → Items → Outcome (List BoundItem)
bound_items around (All at) =
    if around.grouped then Err (NotGrouped at) else bound_star around at 0 around.columns
bound_items around (Listed items) = bound_from (bound_item around) 0 items

-- ---- groups and keys

abbrev pub bound_group : Around → ℕ → Spot → Outcome ℕ
bound_group around place group = bound_column around.columns group.at group.name

abbrev pub bound_key : Around → ℕ → Key → Outcome BoundKey
bound_key around place key = bound_column around.columns key.column.at key.column.name >>= λ column.
    if not around.grouped || is_group around.groups key.column.name
    then Ok (record { column = column; descending = key.descending })
    else Err (NotGrouped key.column.at)

-- ---- queries

abbrev pub bound_filter : List Column → Option Expr → Outcome (Option BoundExpr)
bound_filter columns None = Ok None
bound_filter columns (Some expr) = bound_expr columns expr >>= λ typed.
    if fits kind.Truth typed.kind then Ok (Some typed.expr) else Err (TypeMismatch expr.at)

abbrev pub is_fold : Item → Bool
is_fold (item.Plain expr) = false
is_fold _ = true

abbrev pub has_fold : Items → Bool
has_fold (All at) = false
has_fold (Listed items) = list_any is_fold items

-- a query is grouped where it has GROUP BY or an aggregate
abbrev pub is_grouped : Query → Bool
is_grouped query = not (length query.groups == 0) || has_fold query.items

abbrev pub around_query : List Column → Option (List Column) → Query → Around
around_query columns targets query =
    record { columns = columns; grouped = is_grouped query; groups = query.groups; targets = targets; sets = [] }

-- a query over the table of that number and those columns
unfoldable pub bound_query : ℕ → List Column → Option (List Column) → Query → Outcome BoundQuery
bound_query table columns targets query = do
  items ← bound_items (around_query columns targets query) query.items
  filter ← bound_filter columns query.filter
  groups ← bound_from (bound_group (around_query columns targets query)) 0 query.groups
  keys ← bound_from (bound_key (around_query columns targets query)) 0 query.keys
  Ok (record {
    items = items;
    table = table;
    filter = filter;
    grouped = is_grouped query;
    groups = groups;
    keys = keys;
    limit = query.limit;
  })
