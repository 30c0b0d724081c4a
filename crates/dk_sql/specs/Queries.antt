-- Queries: each rule under its line of the grammar.
use Rattle.std.specs.Prelude.{ℕ, Bool, true, false, List, [], codes, Option, Some, None, option_map, Ok, if◌then◌else◌}
use Rattle.dk_syntax.specs.declared.expression.Expr.{Expr}
use Rattle.dk_syntax.specs.declared.query.FoldKind.{FoldKind}
use Rattle.dk_syntax.specs.declared.query.FoldKind.TheVariants.{Count, Sum, Min, Max}
use Rattle.dk_syntax.specs.declared.query.Item.{Item}
use Rattle.dk_syntax.specs.declared.query.Item.TheVariants.{Plain, CountAll, Fold}
use Rattle.dk_syntax.specs.declared.query.Items.{Items}
use Rattle.dk_syntax.specs.declared.query.Items.TheVariants.{All, Listed}
use Rattle.dk_syntax.specs.declared.query.Key.{Key}
use Rattle.dk_syntax.specs.declared.query.Query.{Query}
use Rattle.dk_sql.specs.declared.lists.TheConstants.{ANY}
use Rattle.dk_sql.specs.declared.expressions.TheConstants.{MAX_NUMBER}
use Rattle.dk_sql.specs.Readers.{Outcome, Reader, ◌>>=◌}
use Rattle.dk_sql.specs.Tokens.{unblank, word_in, is_same_word, keyword_after, keyword_at, mark_after, mark_at, number_at, place_at}
use Rattle.dk_sql.specs.Lists.{list_at, spot_at}
use Rattle.dk_sql.specs.Expressions.{expr_at}

-- count | sum | min | max
abbrev pub fold_kind_of : List ℕ → Option FoldKind
fold_kind_of word =
    if is_same_word word (codes "count") then Some Count
    else (if is_same_word word (codes "sum") then Some Sum
    else (if is_same_word word (codes "min") then Some Min
    else (if is_same_word word (codes "max") then Some Max else None)))

abbrev pub fold_of : Option (List ℕ × List ℕ) → Option (FoldKind × List ℕ)
fold_of None = None
fold_of (Some word) = option_map (λ kind. (kind, word.1)) (fold_kind_of word.0)

-- an aggregate's word, where one stands next, and the rest
abbrev pub fold_after : List ℕ → Option (FoldKind × List ℕ)
fold_after text = fold_of (word_in (unblank text))

-- the sign * of count ( * )
abbrev pub star_after : FoldKind → List ℕ → Option (List ℕ)
star_after Count text = mark_after 42 text
star_after _ text = None

-- expr ), behind the word of an aggregate and its first parenthesis
unfoldable pub folded_at : ℕ → FoldKind → ℕ → Reader Item
folded_at whole kind at text = do
  of ← expr_at whole text
  rest ← mark_at 41 of.1
  Ok (Fold kind at of.0, rest)

-- * ) | expr ), behind the same; only count has the first
abbrev pub aggregated_at : ℕ → FoldKind → ℕ → Reader Item
aggregated_at whole kind at text = elim (star_after kind text) [
  | None ↦ folded_at whole kind at text
  | Some rest ↦ (mark_at 41 rest >>= λ rest. Ok (CountAll at, rest))
]

-- ( * ) | ( expr ), behind the word of an aggregate
abbrev pub aggregate_at : ℕ → FoldKind → ℕ → Reader Item
aggregate_at whole kind at text = mark_at 40 text >>= λ inside. aggregated_at whole kind at inside

abbrev pub plain_at : ℕ → Reader Item
plain_at whole text = expr_at whole text >>= λ expr. Ok (Plain expr.0, expr.1)

abbrev pub item_by : ℕ → List ℕ → Option (FoldKind × List ℕ) → Outcome (Item × List ℕ)
item_by whole text None = plain_at whole text
item_by whole text (Some fold) = aggregate_at whole fold.0 (place_at whole text) fold.1

-- expr | count ( * ) | count ( expr ) | sum ( expr ) | min ( expr ) | max ( expr )
abbrev pub item_at : ℕ → Reader Item
item_at whole text = item_by whole text (fold_after text)

-- * | item { , item }
abbrev pub items_at : ℕ → Reader Items
items_at whole text = elim (mark_after 42 text) [
  | None ↦ (list_at (item_at whole) ANY text >>= λ items. Ok (Listed items.0, items.1))
  | Some rest ↦ Ok (All (place_at whole text), rest)
]

-- [ WHERE expr ]
abbrev pub filter_at : ℕ → Reader (Option Expr)
filter_at whole text = elim (keyword_after (codes "where") text) [
  | None ↦ Ok (None, text)
  | Some rest ↦ (expr_at whole rest >>= λ expr. Ok (Some expr.0, expr.1))
]

-- [ word BY item { , item } ]
abbrev pub by_at : {A : Type 0} → List ℕ → Reader A → Reader (List A)
by_at word item text = elim (keyword_after word text) [
  | None ↦ Ok ([], text)
  | Some rest ↦ (keyword_at (codes "by") rest >>= λ rest. list_at item ANY rest)
]

-- [ ASC | DESC ]: whether the order is descending
abbrev pub order_after : List ℕ → Bool × List ℕ
order_after text = elim (keyword_after (codes "desc") text) [
  | Some rest ↦ (true, rest)
  | None ↦ elim (keyword_after (codes "asc") text) [ Some rest ↦ (false, rest) | None ↦ (false, text) ]
]

-- name [ ASC | DESC ]
abbrev pub key_at : ℕ → Reader Key
key_at whole text = spot_at whole text >>= λ column.
    Ok (record { column = column.0; descending = (order_after column.1).0 }, (order_after column.1).1)

-- [ LIMIT number ], at most 2^63 - 1
abbrev pub limit_at : Reader (Option ℕ)
limit_at text = elim (keyword_after (codes "limit") text) [
  | None ↦ Ok (None, text)
  | Some rest ↦ (number_at MAX_NUMBER rest >>= λ n. Ok (Some n.0, n.1))
]

-- SELECT ( * | item { , item } ) FROM name [ WHERE expr ] [ GROUP BY name { , name } ] [ ORDER BY key { , key } ]
-- [ LIMIT number ], behind SELECT
unfoldable pub query_at : ℕ → Reader Query
query_at whole text = do
  items ← items_at whole text
  rest ← keyword_at (codes "from") items.1
  table ← spot_at whole rest
  filter ← filter_at whole table.1
  groups ← by_at (codes "group") (spot_at whole) filter.1
  keys ← by_at (codes "order") (key_at whole) groups.1
  limit ← limit_at keys.1
  Ok (
    record {
      items = items.0;
      table = table.0;
      filter = filter.0;
      groups = groups.0;
      keys = keys.0;
      limit = limit.0;
    },
    limit.1,
  )
