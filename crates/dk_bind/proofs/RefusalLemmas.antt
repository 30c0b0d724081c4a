-- A statement that isn't bound has a refusal of binding.
use Rattle.std.proofs.Common.{◌≡◌, ℕ, ◌+◌, Bool, true, false, List, [], ◌∷◌, length, Option, Some, None, refl, subst, sym}
use Rattle.std.specs.Prelude.{Result, Ok, Err, if◌then◌else◌, slice_get, ◌&&◌, ◌==◌, not, take, nat_le}
use Rattle.dk_values.specs.Columns.{schema_fault}
use Rattle.dk_values.specs.declared.column.Column.{Column}
use Rattle.dk_values.specs.declared.column.SchemaError.{SchemaError}
use Rattle.dk_values.specs.declared.column.SchemaError.TheVariants as fault
use Rattle.dk_values.specs.declared.value.Value.{Value}
use Rattle.dk_syntax.specs.Literals.{literal_of}
use Rattle.dk_syntax.specs.declared.expression.Expr.{Expr, roll-Expr}
use Rattle.dk_syntax.specs.declared.expression.Node.{Node, map-Node, roll-Node}
use Rattle.dk_syntax.specs.declared.expression.Node.TheFolds.{fold-Expr, fold-Node, fold-roll-Expr, fold-roll-Node, ind-Expr, ind-Node}
use Rattle.dk_syntax.specs.declared.expression.Node.TheOpen.{Expr-F, Node-F}
use Rattle.dk_syntax.specs.declared.query.Item.{Item}
use Rattle.dk_syntax.specs.declared.query.Item.TheVariants as item
use Rattle.dk_syntax.specs.declared.query.Items.{Items}
use Rattle.dk_syntax.specs.declared.query.Items.TheVariants.{All, Listed}
use Rattle.dk_syntax.specs.declared.query.Query.{Query}
use Rattle.dk_syntax.specs.declared.query.Spot.{Spot}
use Rattle.dk_syntax.specs.declared.statement.ColumnSpot.{ColumnSpot}
use Rattle.dk_syntax.specs.declared.statement.Set.{Set}
use Rattle.dk_syntax.specs.declared.statement.Statement.{Statement}
use Rattle.dk_syntax.specs.declared.statement.Statement.TheVariants as ask
use Rattle.dk_types.specs.declared.bound.Bound.{Bound}
use Rattle.dk_types.specs.declared.bound.Bound.TheVariants as bound
use Rattle.dk_types.specs.declared.bound.BoundExpr.TheVariants as part
use Rattle.dk_types.specs.declared.bound.BoundItem.{BoundItem}
use Rattle.dk_types.specs.declared.reply.Refusal.{Refusal}
use Rattle.dk_types.specs.declared.reply.Refusal.TheVariants as refusal
use Rattle.dk_pages.specs.declared.tree.TableEntry.{TableEntry}
use Rattle.dk_bind.specs.declared.expressions.Typed.{Typed}
use Rattle.dk_bind.specs.Expressions.{typed, kind_of_value, node_step, expr_step, bound_expr, bound_column, bound_column_at, column_place, fits, is_too_long, takes}
use Rattle.dk_bind.specs.Laws.{is_refusal_of_binding, RefusedByBinding, StatementsAreRefusedByBinding}
use Rattle.dk_bind.specs.Lists.{bound_from}
use Rattle.dk_bind.specs.Outcomes.{Outcome, ◌>>=◌}
use Rattle.dk_bind.specs.Queries.{Around, around_query, bound_filter, bound_fold, bound_group, bound_item, bound_items, bound_key, bound_plain, bound_query, bound_star, fitted, folds, has_room, is_group, may_list}
use Rattle.dk_bind.specs.Statements.{bound_create, bound_delete, bound_insert, bound_insert_query, bound_set, bound_statement, bound_table, bound_table_at, bound_tuple, bound_update, bound_value, columns_at, columns_of, create_by, insert_query_of, literal_by, sets_column, spot_place, table_place, width_of}

-- ---- steps

-- what is bound has no refusal
done : {A : Type 0} (x : A) → RefusedByBinding (Ok x)
done x refusal is = cc

refused : {A : Type 0} (by : Refusal) → is_refusal_of_binding by ≡ true → RefusedByBinding {A = A} (Err by)
refused by so refusal is = let same : by ≡ refusal = cc in subst (λ r. is_refusal_of_binding r ≡ true) same so

step : {A B : Type 0} (first : Outcome A) (more : A → Outcome B) → RefusedByBinding first
    → ((x : A) → RefusedByBinding (more x)) → RefusedByBinding (first >>= more)
step (Ok x) more so each = each x
step {A = A} {B = B} (Err refusal) more so each = refused {A = B} refusal (so refusal refl)

test : {A : Type 0} (holds : Bool) (x : A) (refusal : Refusal) → is_refusal_of_binding refusal ≡ true
    → RefusedByBinding (if holds then Ok x else Err refusal)
test true x refusal so = done x
test {A = A} false x refusal so = refused {A = A} refusal so

choice : {A : Type 0} (holds : Bool) (ours others : Outcome A) → RefusedByBinding ours → RefusedByBinding others
    → RefusedByBinding (if holds then ours else others)
choice true ours others so other = so
choice false ours others so other = other

each_from : {A B : Type 0} (bind : ℕ → A → Outcome B) → ((place : ℕ) (part : A) → RefusedByBinding (bind place part))
    → (place : ℕ) (parts : List A) → RefusedByBinding (bound_from bind place parts)
each_from bind each place [] = done []
each_from bind each place (part ∷ parts) = step (bind place part) _ (each place part) (λ first.
    step (bound_from bind (place + 1) parts) _ (each_from bind each (place + 1) parts) (λ others. done (first ∷ others)))

-- ---- expressions

column_at : (columns : List Column) (found : Option ℕ) (at : ℕ) → RefusedByBinding (bound_column_at columns found at)
column_at columns None at = refused (refusal.NoColumn at) refl
column_at columns (Some place) at = done place

column : (columns : List Column) (at : ℕ) (name : List ℕ) → RefusedByBinding (bound_column columns at name)
column columns at name = column_at columns (column_place columns name) at

literal : (long : Bool) (at : ℕ) (typed : Typed) → RefusedByBinding (if long then Err (refusal.TypeMismatch at) else Ok typed)
literal true at typed = refused (refusal.TypeMismatch at) refl
literal false at typed = done typed

abbrev bound_node : List Column → Node → ℕ → Outcome Typed
bound_node columns = fold-Node (ℕ → Outcome Typed) (Outcome Typed) (node_step columns) expr_step

abbrev NodeRefused : List Column → Node → Type 0
NodeRefused columns n = (at : ℕ) → RefusedByBinding (bound_node columns n at)

abbrev ExprRefused : List Column → Expr → Type 0
ExprRefused columns expr = RefusedByBinding (bound_expr columns expr)

-- one layer of an expression, where its parts are refused by binding
module _ (columns : List Column) {N E : Type 0} (node_in : N → Node) (expr_in : E → Expr)
    (parts : (e : E) → ExprRefused columns (expr_in e)) where
  at_node : (layer : Node-F Node Expr) → ((at : ℕ) → RefusedByBinding (node_step columns (map-Node Node Expr (ℕ → Outcome Typed) (Outcome Typed)
      (bound_node columns) (bound_expr columns) layer) at)) → NodeRefused columns (roll-Node layer)
  at_node layer so at = subst (λ (f : ℕ → Outcome Typed). RefusedByBinding (f at))
      (sym (fold-roll-Node (ℕ → Outcome Typed) (Outcome Typed) (node_step columns) expr_step layer)) (so at)

  node_refused : (layer : Node-F N E) → NodeRefused columns (roll-Node (map-Node N E Node Expr node_in expr_in layer))
  node_refused (Node-F.Lit v) = at_node (Node-F.Lit v) (λ at. literal (is_too_long v) at (typed (kind_of_value v) (part.Lit v)))
  node_refused (Node-F.Col name) = at_node (Node-F.Col name) (λ at. step _ _ (column columns at name) (λ place. done _))
  node_refused (Node-F.Neg of) = at_node (Node-F.Neg (expr_in of)) (λ at. step _ _ (parts of) (λ typed. test _ _ _ refl))
  node_refused (Node-F.Not of) = at_node (Node-F.Not (expr_in of)) (λ at. step _ _ (parts of) (λ typed. test _ _ _ refl))
  node_refused (Node-F.IsNull of negated) =
      at_node (Node-F.IsNull (expr_in of) negated) (λ at. step _ _ (parts of) (λ typed. done _))
  node_refused (Node-F.Two op left right) = at_node (Node-F.Two op (expr_in left) (expr_in right)) (λ at.
      step _ _ (parts left) (λ l. step _ _ (parts right) (λ r. test _ _ _ refl)))

at_expr : (columns : List Column) (layer : Expr-F Node Expr) → NodeRefused columns layer.node
    → ExprRefused columns (roll-Expr layer)
at_expr columns layer so = subst RefusedByBinding
    (sym (fold-roll-Expr (ℕ → Outcome Typed) (Outcome Typed) (node_step columns) expr_step layer)) (so layer.at)

expression : (columns : List Column) (expr : Expr) → ExprRefused columns expr
expression columns = ind-Expr (NodeRefused columns) (ExprRefused columns)
    (λ x y is. subst (λ layer. NodeRefused columns (roll-Node layer)) is
    (node_refused columns (λ n. n.0) (λ e. e.0) (λ e. e.1) y))
    (λ x y is. subst (λ layer. ExprRefused columns (roll-Expr layer)) is (at_expr columns _ y.node.1))

-- ---- queries

room : (around : Around) (place at : ℕ) (item : BoundItem) (holds : Bool)
    → RefusedByBinding (if holds then Ok item else Err (refusal.TypeMismatch at))
room around place at item holds = test holds item (refusal.TypeMismatch at) refl

plain : (around : Around) (place : ℕ) (expr : Expr) → RefusedByBinding (bound_plain around place expr)
plain around place expr = step _ _ (expression around.columns expr) (λ typed.
    choice (may_list around expr) _ _ (test _ _ _ refl) (refused (refusal.NotGrouped expr.at) refl))

fold : (around : Around) (place : ℕ) (one : Item) → RefusedByBinding (bound_item around place one)
fold around place (item.Plain expr) = plain around place expr
fold around place (item.CountAll at) = test _ _ _ refl
fold around place (item.Fold kind at of) = step _ _ (expression around.columns of) (λ typed.
    choice (folds kind typed.kind) _ _ (test _ _ _ refl) (refused (refusal.TypeMismatch of.at) refl))

star : (around : Around) (at : ℕ) (grouped : Bool)
    → RefusedByBinding (if grouped then Err (refusal.NotGrouped at) else bound_star around at 0 around.columns)
star around at true = refused (refusal.NotGrouped at) refl
star around at false = each_from _ (λ place column. test _ _ _ refl) 0 around.columns

items : (around : Around) (list : Items) → RefusedByBinding (bound_items around list)
items around (All at) = star around at around.grouped
items around (Listed list) = each_from (bound_item around) (fold around) 0 list

filters : (columns : List Column) (filter : Option Expr) → RefusedByBinding (bound_filter columns filter)
filters columns None = done None
filters columns (Some expr) = step _ _ (expression columns expr) (λ typed. test _ _ _ refl)

query : (table : ℕ) (columns : List Column) (targets : Option (List Column)) (one : Query)
    → RefusedByBinding (bound_query table columns targets one)
unfolding bound_query
query table columns targets one =
    let around = around_query columns targets one in
    step _ _ (items around one.items) (λ items.
    step _ _ (filters columns one.filter) (λ filter.
    step _ _ (each_from (bound_group around) (λ place group. column columns group.at group.name) 0 one.groups) (λ groups.
    step _ _ (each_from (bound_key around) (λ place key. step _ _ (column columns key.column.at key.column.name) (λ column.
    test _ _ _ refl)) 0 one.keys) (λ keys. done _))))

-- ---- statements

table_at : (found : Option ℕ) (spot : Spot) → RefusedByBinding (bound_table_at found spot)
table_at None spot = refused (refusal.NoTable spot.at) refl
table_at (Some place) spot = done place

table : (tables : List TableEntry) (spot : Spot) → RefusedByBinding (bound_table tables spot)
table tables spot = table_at (table_place tables spot.name) spot

by_fault : (tables : List TableEntry) (spot : Spot) (columns : List ColumnSpot) (found : Option SchemaError)
    → RefusedByBinding (create_by tables spot columns found)
by_fault tables spot columns None = choice _ _ _ (refused refusal.TooManyTables refl) (done _)
by_fault tables spot columns (Some (fault.SameName place)) = refused (refusal.SameColumn (spot_place columns place spot.at)) refl
by_fault tables spot columns (Some other) = refused (refusal.TypeMismatch spot.at) refl

creation : (tables : List TableEntry) (spot : Spot) (columns : List ColumnSpot)
    → RefusedByBinding (bound_create tables spot columns)
creation tables spot columns = at (table_place tables spot.name)
  where
    at : (found : Option ℕ) → RefusedByBinding (elim found as (λ x. Outcome Bound) [
      | Some place ↦ Err (refusal.TableExists spot.at)
      | None ↦ create_by tables spot columns (schema_fault (columns_of columns))
    ])
    at (Some place) = refused (refusal.TableExists spot.at) refl
    at None = by_fault tables spot columns (schema_fault (columns_of columns))

value_by : (columns : List Column) (place at : ℕ) (found : Option Value)
    → RefusedByBinding (literal_by columns place at found)
value_by columns place at None = refused (refusal.TypeMismatch at) refl
value_by columns place at (Some v) = test _ _ _ refl

wide : (target source : ℕ) (into columns : List Column) (at : ℕ) (one : Query)
    → RefusedByBinding (insert_query_of target source into columns at one)
wide target source into columns at one =
    choice (width_of one.items columns == length into) _ _ (step _ _ (query source columns (Some into) one) (λ bound. done _))
    (refused (refusal.TypeMismatch at) refl)

set : (columns : List Column) (sets : List Set) (place : ℕ) (one : Set)
    → RefusedByBinding (bound_set columns sets place one)
set columns sets place one = step _ _ (column columns one.column.at one.column.name) (λ column.
    choice (sets_column (take place sets) one.column.name) _ _ (refused (refusal.SameColumn one.column.at) refl)
    (step _ _ (expression columns one.value) (λ typed. test _ _ _ refl)))

insertion : (tables : List TableEntry) (spot other : Spot) (at : ℕ) (one : Query)
    → RefusedByBinding (bound_insert_query tables spot at one)
unfolding bound_insert_query
insertion tables spot other at one = step _ _ (table tables spot) (λ target.
    step _ _ (table tables one.table) (λ source. wide target source _ _ at one))

update : (tables : List TableEntry) (spot : Spot) (sets : List Set) (filter : Option Expr)
    → RefusedByBinding (bound_update tables spot sets filter)
unfolding bound_update
update tables spot sets filter = step _ _ (table tables spot) (λ place.
    step _ _ (each_from (bound_set (columns_at tables place) sets) (set (columns_at tables place) sets) 0 sets) (λ bound.
    step _ _ (filters (columns_at tables place) filter) (λ filter. done _)))

pub statements_are_refused_by_binding : StatementsAreRefusedByBinding
statements_are_refused_by_binding tables (ask.Create spot columns) = creation tables spot columns
statements_are_refused_by_binding tables (ask.Insert spot tuples) = step _ _ (table tables spot) (λ place.
    step _ _ (each_from (bound_tuple (columns_at tables place)) (λ number tuple.
    choice (length tuple.values == length (columns_at tables place)) _ _
    (each_from (bound_value (columns_at tables place)) (λ number expr.
    value_by (columns_at tables place) number expr.at (literal_of expr)) 0 tuple.values) (refused (refusal.TypeMismatch tuple.at) refl)) 0 tuples) (λ rows. done _))
statements_are_refused_by_binding tables (ask.InsertSelect spot at query) = insertion tables spot spot at query
statements_are_refused_by_binding tables (ask.Copy spot bytes) = step _ _ (table tables spot) (λ place. done _)
statements_are_refused_by_binding tables (ask.Select one) = step _ _ (table tables one.table) (λ place.
    step _ _ (query place (columns_at tables place) None one) (λ bound. done _))
statements_are_refused_by_binding tables (ask.Update spot sets filter) = update tables spot sets filter
statements_are_refused_by_binding tables (ask.Delete spot filter) = step _ _ (table tables spot) (λ place.
    step _ _ (filters (columns_at tables place) filter) (λ filter. done _))
statements_are_refused_by_binding tables other = done bound.Other
