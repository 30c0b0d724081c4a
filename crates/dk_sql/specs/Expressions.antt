-- Expressions by precedence: each rule a reader of what nests in it, under its line of the grammar.
use Rattle.std.specs.Prelude.{ℕ, zero, suc, ◌-◌, ◌^◌, Bool, true, false, List, [], ◌∷◌, ◌==◌, codes, pos, neg_ℤ, Option, Some, None, Ok, if◌then◌else◌}
use Rattle.dk_values.specs.declared.value.Value.{Value}
use Rattle.dk_values.specs.declared.value.Value.TheVariants as value
use Rattle.dk_syntax.specs.declared.expression.Expr.{Expr}
use Rattle.dk_syntax.specs.declared.expression.Node.{Node}
use Rattle.dk_syntax.specs.declared.expression.Node.TheVariants as node
use Rattle.dk_syntax.specs.declared.expression.Op.{Op}
use Rattle.dk_syntax.specs.declared.expression.Op.TheVariants as op
use Rattle.dk_sql.specs.declared.expressions.Rule.{Rule}
use Rattle.dk_sql.specs.declared.expressions.Rule.TheVariants.{Or, And, Not, Test, Added, Product, Unary}
use Rattle.dk_sql.specs.declared.expressions.Operator.{Operator}
use Rattle.dk_sql.specs.declared.expressions.Cursor.{Cursor}
use Rattle.dk_sql.specs.declared.expressions.TheConstants.{MAX_LEVELS, MAX_OPERATORS}
use Rattle.dk_sql.specs.Readers.{Outcome, Reader, ◌>>=◌}
use Rattle.dk_sql.specs.Tokens.{is_digit, begins_word, begins, unblank, fault_at, found_at, word_at, is_same_word, keyword_after, keyword_at, name_at, mark_after, mark_at, number_at, text_at, place_at}

-- ---- literals and names

-- TRUE | FALSE | NULL
abbrev pub constant_of : List ℕ → Option Value
constant_of word =
    if is_same_word word (codes "true") then Some (value.Bool true)
    else (if is_same_word word (codes "false") then Some (value.Bool false)
    else (if is_same_word word (codes "null") then Some value.Null else None))

abbrev pub constant_at : Reader Value
constant_at text = do
  word ← word_at text
  value ← found_at text (constant_of word.0)
  Ok (value, word.1)

-- number, from 0 to 2^63 - 1
abbrev pub positive_at : Reader Value
positive_at text = do
  n ← number_at (2 ^ 63 - 1) text
  Ok (value.Big (pos n.0), n.1)

-- number, behind its sign: from -2^63 to 0
abbrev pub negative_at : Reader Value
negative_at text = do
  n ← number_at (2 ^ 63) text
  Ok (value.Big (neg_ℤ (pos n.0)), n.1)

abbrev pub quoted_at : Reader Value
quoted_at text = do
  quoted ← text_at text
  Ok (value.Text quoted.0, quoted.1)

-- number | text | TRUE | FALSE | NULL
abbrev pub unsigned_at : Reader Value
unsigned_at text =
    if begins is_digit (unblank text) then positive_at text
    else (if begins begins_word (unblank text) then constant_at text else quoted_at text)

-- [ - ] number | text | TRUE | FALSE | NULL
abbrev pub value_at : Reader Value
value_at text = elim (mark_after 45 text) [ None ↦ unsigned_at text | Some rest ↦ negative_at rest ]

-- an expression at a place
abbrev pub expr_of : ℕ → Node → Expr
expr_of at node = record { at = at; node = node }

-- a literal, its place that of its first byte
abbrev pub literal_at : ℕ → Reader Expr
literal_at whole text = value_at text >>= λ found. Ok (expr_of (place_at whole text) (node.Lit found.0), found.1)

-- a column, or the constant that the word is
abbrev pub word_node : List ℕ → List ℕ → Option Value → Outcome (Node × List ℕ)
word_node text rest None = name_at text >>= λ name. Ok (node.Col name.0, name.1)
word_node text rest (Some value) = Ok (node.Lit value, rest)

abbrev pub word_node_at : Reader Node
word_node_at text = word_at text >>= λ word. word_node text word.1 (constant_of word.0)

-- literal | name, without a sign
abbrev pub leaf_node_at : Reader Node
leaf_node_at text =
    if begins begins_word (unblank text) then word_node_at text
    else (unsigned_at text >>= λ found. Ok (node.Lit found.0, found.1))

-- ---- what is left of a text, and how many operators may still come

pub record Point : Type 0 where
  pub text : List ℕ
  pub operators : ℕ

abbrev pub point_of : Cursor → Point
point_of cursor = record { text = cursor.text.now; operators = cursor.operators }

-- the same number of operators in front of another text
abbrev pub at_text : Point → List ℕ → Point
at_text p text = record { text = text; operators = p.operators }

-- behind an operator, which stands next: one more than the limit is a fault
abbrev pub spend : Point → List ℕ → Outcome Point
spend p rest =
    if p.operators == 0 then fault_at p.text else Ok (record { text = rest; operators = p.operators - 1 })

abbrev pub Reading : Type 0
Reading = Point → Outcome (Expr × Point)

-- literal | name, with its place
abbrev pub leaf_at : ℕ → Reading
leaf_at whole p = leaf_node_at p.text >>= λ found. Ok (expr_of (place_at whole p.text) found.0, at_text p found.1)

-- ---- operators

abbrev pub as_op : Op → Option (List ℕ) → Option (Op × List ℕ)
as_op op None = None
as_op op (Some rest) = Some (op, rest)

-- <> | <= | <, behind the first byte
abbrev pub less_in : List ℕ → Op × List ℕ
less_in [] = (op.Lt, [])
less_in (b ∷ rest) = if b == 62 then (op.Ne, rest) else (if b == 61 then (op.Le, rest) else (op.Lt, b ∷ rest))

-- >= | >, behind the first byte
abbrev pub greater_in : List ℕ → Op × List ℕ
greater_in [] = (op.Gt, [])
greater_in (b ∷ rest) = if b == 61 then (op.Ge, rest) else (op.Gt, b ∷ rest)

-- = | <> | < | <= | > | >=
abbrev pub comparison_in : List ℕ → Option (Op × List ℕ)
comparison_in [] = None
comparison_in (b ∷ rest) =
    if b == 61 then Some (op.Eq, rest)
    else (if b == 60 then Some (less_in rest) else (if b == 62 then Some (greater_in rest) else None))

-- + | -
abbrev pub sum_after : List ℕ → Option (Op × List ℕ)
sum_after text = elim (mark_after 43 text) [
  | Some rest ↦ Some (op.Add, rest)
  | None ↦ as_op op.Sub (mark_after 45 text)
]

-- the operator of a rule, where it stands next
abbrev pub operator_after : Rule → List ℕ → Option (Op × List ℕ)
operator_after Or text = as_op op.Or (keyword_after (codes "or") text)
operator_after And text = as_op op.And (keyword_after (codes "and") text)
operator_after Test text = comparison_in (unblank text)
operator_after Added text = sum_after text
operator_after Product text = as_op op.Mul (mark_after 42 text)
operator_after _ text = None

abbrev pub operator_found : ℕ → Point → Option (Op × List ℕ) → Outcome (Option (Operator × Point))
operator_found whole p None = Ok None
operator_found whole p (Some found) =
    spend p found.1 >>= λ next. Ok (Some (record { at = place_at whole p.text; op = found.0 }, next))

-- the operator with its place, where one stands next, and what is behind it
abbrev pub operator_at : ℕ → Rule → Point → Outcome (Option (Operator × Point))
operator_at whole rule p = operator_found whole p (operator_after rule p.text)

abbrev pub two : Operator → Expr → Expr → Expr
two operator left right = expr_of operator.at (node.Two operator.op left right)

-- ---- the rules, whose operands are those of the rule below

-- the rule of a rule's operands
abbrev pub operand_of : Rule → Rule
operand_of Or = And
operand_of And = Not
operand_of Not = Test
operand_of Test = Added
operand_of Added = Product
operand_of Product = Unary
operand_of Unary = Unary

-- how many rules stand below
abbrev pub height : Rule → ℕ
height Or = 6
height And = 5
height Not = 4
height Test = 3
height Added = 2
height Product = 1
height Unary = 0

-- an operand on the right
abbrev pub joined : Reading → Expr → Operator → Reading
joined operand left operator p = operand p >>= λ right. Ok (two operator left right.0, right.1)

-- behind an operator, where one was found
abbrev pub goes_on : (Expr → Reading) → Reading → Expr → Point → Option (Operator × Point)
    → Outcome (Expr × Point)
goes_on others operand left p None = Ok (left, p)
goes_on others operand left p (Some found) =
    joined operand left found.0 found.1 >>= λ all. others all.0 all.1

-- { operator operand }, in at most so many turns: each takes an operator at least
abbrev pub operands_at : ℕ → Rule → Reading → ℕ → Expr → Reading
operands_at whole rule operand zero left p = operator_at whole rule p >>= λ _. Ok (left, p)
operands_at whole rule operand (suc turns) left p =
    operator_at whole rule p >>= λ found. goes_on (operands_at whole rule operand turns) operand left p found

-- operand { operator operand }, the first ones together
unfoldable pub chain_at : ℕ → Rule → Reading → Reading
chain_at whole rule operand p =
    operand p >>= λ first. operands_at whole rule operand first.1.operators first.0 first.1

-- whether NOT stands next, and what is behind it
abbrev pub maybe_not : List ℕ → Bool × List ℕ
maybe_not text = elim (keyword_after (codes "not") text) [ None ↦ (false, text) | Some rest ↦ (true, rest) ]

-- [ NOT ] NULL
unfoldable pub null_at : Reader Bool
null_at text = do
  rest ← keyword_at (codes "null") (maybe_not text).1
  Ok ((maybe_not text).0, rest)

-- IS [ NOT ] NULL, behind IS
unfoldable pub is_at : ℕ → Expr → Point → List ℕ → Outcome (Expr × Point)
is_at whole left p rest = do
  next ← spend p rest
  negated ← null_at next.text
  Ok (expr_of (place_at whole p.text) (node.IsNull left negated.0), at_text next negated.1)

-- [ IS [ NOT ] NULL ]
abbrev pub maybe_null : ℕ → Expr → Reading
maybe_null whole left p = elim (keyword_after (codes "is") p.text) [
  | None ↦ Ok (left, p)
  | Some rest ↦ is_at whole left p rest
]

abbrev pub compared : ℕ → Reading → Expr → Point → Option (Operator × Point) → Outcome (Expr × Point)
compared whole operand left p None = maybe_null whole left p
compared whole operand left p (Some found) = joined operand left found.0 found.1

-- added [ ( = | <> | < | <= | > | >= ) added | IS [ NOT ] NULL ]
unfoldable pub test_in : ℕ → Reading → Reading
test_in whole operand p = do
  left ← operand p
  found ← operator_at whole Test left.1
  compared whole operand left.0 left.1 found

-- what nests one level deeper: a rule, behind the token that opens the level
abbrev pub Inner : Type 0
Inner = Rule → List ℕ → Reading

abbrev pub prefix_node : Rule → Expr → Node
prefix_node Not of = node.Not of
prefix_node _ of = node.Neg of

-- NOT not | - unary, behind the first token
unfoldable pub prefixed_in : ℕ → Inner → Rule → Point → List ℕ → Outcome (Expr × Point)
prefixed_in whole inner rule p rest = do
  next ← spend p rest
  of ← inner rule p.text next
  Ok (expr_of (place_at whole p.text) (prefix_node rule of.0), of.1)

-- NOT not | test
unfoldable pub negation_in : ℕ → Inner → Reading → Reading
negation_in whole inner test p =
    elim (keyword_after (codes "not") p.text) [ None ↦ test p | Some rest ↦ prefixed_in whole inner Not p rest ]

-- a literal with a sign, behind the sign
unfoldable pub negative_of : ℕ → Point → List ℕ → Outcome (Expr × Point)
negative_of whole p rest = do
  found ← negative_at rest
  Ok (expr_of (place_at whole p.text) (node.Lit found.0), at_text p found.1)

-- a sign belongs to a number that stands behind it
abbrev pub signed_in : ℕ → Inner → Point → List ℕ → Outcome (Expr × Point)
signed_in whole inner p rest =
    if begins is_digit (unblank rest) then negative_of whole p rest else prefixed_in whole inner Unary p rest

-- ( expr ), behind the first parenthesis
unfoldable pub enclosed_in : Inner → Point → List ℕ → Outcome (Expr × Point)
enclosed_in inner p rest = do
  inside ← inner Or p.text (at_text p rest)
  close ← mark_at 41 inside.1.text
  Ok (inside.0, at_text inside.1 close)

-- literal | name | ( expr )
abbrev pub unsigned_in : ℕ → Inner → Reading
unsigned_in whole inner p = elim (mark_after 40 p.text) [
  | None ↦ leaf_at whole p
  | Some rest ↦ enclosed_in inner p rest
]

-- - unary | literal | name | ( expr )
unfoldable pub unary_in : ℕ → Inner → Reading
unary_in whole inner p = elim (mark_after 45 p.text) [
  | None ↦ unsigned_in whole inner p
  | Some rest ↦ signed_in whole inner p rest
]

-- unary { * unary }
abbrev pub product_in : ℕ → Inner → Reading
product_in whole inner = chain_at whole Product (unary_in whole inner)

-- product { ( + | - ) product }
abbrev pub added_in : ℕ → Inner → Reading
added_in whole inner = chain_at whole Added (product_in whole inner)

-- NOT not | test
abbrev pub not_in : ℕ → Inner → Reading
not_in whole inner = negation_in whole inner (test_in whole (added_in whole inner))

-- not { AND not }
abbrev pub and_in : ℕ → Inner → Reading
and_in whole inner = chain_at whole And (not_in whole inner)

abbrev pub rule_in : ℕ → Inner → Rule → Reading
-- and { OR and }
rule_in whole inner Or = chain_at whole Or (and_in whole inner)
rule_in whole inner And = and_in whole inner
rule_in whole inner Not = not_in whole inner
rule_in whole inner Test = test_in whole (added_in whole inner)
rule_in whole inner Added = added_in whole inner
rule_in whole inner Product = product_in whole inner
rule_in whole inner Unary = unary_in whole inner

-- what nests, with so many levels left: one more than the limit is refused at the token that opens it
unfoldable pub inner_at : ℕ → ℕ → Inner
inner_at whole zero rule opening p = fault_at opening
inner_at whole (suc levels) rule opening p = rule_in whole (inner_at whole levels) rule p

-- a rule, with so many levels left
abbrev pub rule_at : ℕ → ℕ → Rule → Reading
rule_at whole levels rule = rule_in whole (inner_at whole levels) rule

-- an expression of at most 64 levels and 1,000 operators
unfoldable pub expr_at : ℕ → Reader Expr
expr_at whole text = do
  found ← rule_at whole MAX_LEVELS Or (record { text = text; operators = MAX_OPERATORS })
  Ok (found.0, found.1.text)
