-- The rows that a query keeps, with the values of its items on them.
use Rattle.std.specs.Prelude.{◌≡◌, ℕ, ◌+◌, Bool, true, false, List, [], ◌∷◌, ◌++◌, Option, Some, None, option_map, Result, Ok, Err}
use Rattle.dk_values.specs.declared.value.Value.{Value}
use Rattle.dk_values.specs.declared.value.Value.TheVariants.{Null}
use Rattle.dk_types.specs.declared.bound.BoundExpr.{BoundExpr}
use Rattle.dk_types.specs.declared.bound.BoundItem.{BoundItem}
use Rattle.dk_types.specs.declared.bound.BoundItem.TheVariants as item
use Rattle.dk_types.specs.declared.bound.BoundQuery.{BoundQuery}
use Rattle.dk_eval.specs.declared.fault.EvalError.{EvalError}
use Rattle.dk_eval.specs.declared.fault.EvalError.TheVariants as eval_error
use Rattle.dk_eval.specs.Values.{value_of, is_true}
use Rattle.dk_query.specs.declared.lines.Line.{Line}
use Rattle.dk_query.specs.declared.fault.QueryError.{QueryError}
use Rattle.dk_query.specs.declared.fault.QueryError.TheVariants as query_error

-- WHERE keeps the rows on which its value is true; None is no value
abbrev pub passes : Option BoundExpr → List Value → Option Bool
passes None row = Some true
passes (Some expr) row = option_map is_true (value_of row expr)

-- the value of an item on a row: of an aggregate the value that it takes, of count(*) any
abbrev pub item_value : List Value → BoundItem → Option Value
item_value row (item.Plain expr) = value_of row expr
item_value row item.CountAll = Some Null
item_value row (item.Fold kind of) = value_of row of

-- a value and the others, if all have one
abbrev pub both : {T : Type 0} → Option T → Option (List T) → Option (List T)
both None others = None
both (Some x) others = option_map (λ xs. x ∷ xs) others

abbrev pub item_values : List Value → List BoundItem → Option (List Value)
item_values row [] = Some []
item_values row (first ∷ others) = both (item_value row first) (item_values row others)

-- a row that is kept, with its values
abbrev pub line_if : List Value → List BoundItem → Bool → Option (Option Line)
line_if row items false = Some None
line_if row items true = option_map (λ values. Some (record { row = row; values = values })) (item_values row items)

abbrev pub line_of : BoundQuery → List Value → Option (Option Line)
line_of query row = elim (passes query.filter row) [ None ↦ None | Some keeps ↦ line_if row query.items keeps ]

-- what comes of more rows, behind what came of a front
abbrev pub behind : {T : Type 0} → List T → Result (List T) ℕ → Result (List T) ℕ
behind front (Ok found) = Ok (front ++ found)
behind front (Err row) = Err row

-- the line of a row, if it has one, before those of the rows behind it; a row without a value is named by its id
abbrev pub with_line : Option (Option Line) → ℕ → Result (List Line) ℕ → Result (List Line) ℕ
with_line None id others = Err id
with_line (Some None) id others = others
with_line (Some (Some line)) id others = behind (line ∷ []) others

-- the lines of the rows that are there, whose ids are counted on from this one, or the first row without a value
abbrev pub kept_from : BoundQuery → ℕ → List (Option (List Value)) → Result (List Line) ℕ
kept_from query id [] = Ok []
kept_from query id (None ∷ rows) = kept_from query (id + 1) rows
kept_from query id (Some row ∷ rows) = with_line (line_of query row) id (kept_from query (id + 1) rows)

-- a value where there is one, and OutOfRange exactly where there is none; memory may run out at any time
abbrev pub HasValue : {T : Type 0} → Result T EvalError → Option T → Type 0
HasValue (Ok x) found = found ≡ Some x
HasValue (Err eval_error.OutOfRange) found = found ≡ None
HasValue (Err eval_error.OutOfMemory) found = Unit {0}

-- the same of a query: OutOfRange names the row
abbrev pub Gives : {S T : Type 0} → (S → T) → Result S QueryError → Result T ℕ → Type 0
Gives shown (Ok x) found = found ≡ Ok (shown x)
Gives shown (Err (query_error.OutOfRange row)) found = found ≡ Err row
Gives shown (Err query_error.OutOfMemory) found = Unit {0}
