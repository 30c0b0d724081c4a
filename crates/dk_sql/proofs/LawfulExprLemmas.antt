-- An expression that was read has lawful literals and names: each rule, where its operands are lawful.
use Rattle.std.proofs.Common.{◌≡◌, ℕ, zero, suc, Bool, true, false, ◌&&◌, List, Option, Some, None, Ok, IfOk, cond, sym, ap, ◌∙◌}
use Rattle.std.specs.Prelude.{codes}
use Rattle.std.proofs.lemmas.Bool.{and_from}
use Rattle.dk_values.specs.declared.value.Value.{Value}
use Rattle.dk_values.specs.Names.{is_name}
use Rattle.dk_syntax.specs.LawfulStatements.{is_literal_value, lawful_node, lawful_place, is_lawful_expr, is_lawful_value}
use Rattle.dk_syntax.specs.declared.expression.Expr.{Expr}
use Rattle.dk_syntax.specs.declared.expression.Node.{Node}
use Rattle.dk_syntax.specs.declared.expression.Node.TheVariants as node
use Rattle.dk_syntax.specs.declared.expression.Node.TheOpen.{Node-F}
use Rattle.dk_syntax.specs.declared.expression.Node.TheFolds.{fold-Node, fold-roll-Expr, fold-roll-Node}
use Rattle.dk_syntax.specs.declared.expression.Op.{Op}
use Rattle.dk_sql.specs.declared.expressions.Rule.{Rule}
use Rattle.dk_sql.specs.declared.expressions.Rule.TheVariants.{Or, And, Not, Test, Added, Product, Unary}
use Rattle.dk_sql.specs.declared.expressions.Operator.{Operator}
use Rattle.dk_sql.specs.declared.expressions.TheConstants.{MAX_LEVELS, MAX_OPERATORS}
use Rattle.dk_sql.specs.Readers.{Outcome, ◌>>=◌}
use Rattle.dk_sql.specs.Tokens.{begins, is_digit, begins_word, unblank, word_at, name_at, keyword_after, mark_after, mark_at, place_at}
use Rattle.dk_sql.specs.Expressions.{constant_of, unsigned_at, negative_at, value_at, literal_at, expr_of, word_node, word_node_at, leaf_node_at, leaf_at, Point, Reading, at_text, spend, operator_at, two, joined, goes_on, operands_at, chain_at, null_at, is_at, compared, test_in, Inner, prefix_node, prefixed_in, negation_in, negative_of, signed_in, enclosed_in, unsigned_in, unary_in, product_in, added_in, not_in, and_in, rule_in, inner_at, rule_at, expr_at}
use Rattle.dk_sql.proofs.FoundLemmas.{after, after_any, Reads}
use Rattle.dk_sql.proofs.LawfulValueLemmas.{name_lawful, constant_lawful, unsigned_lawful, negative_lawful, value_lawful, IsLiteralFound}

-- ---- what a lawful node is made of

abbrev is_lawful_node : Node → Bool
is_lawful_node = fold-Node Bool Bool lawful_node lawful_place

with_place : (at : ℕ) (n : Node) → is_lawful_expr (expr_of at n) ≡ is_lawful_node n
with_place at n = fold-roll-Expr Bool Bool lawful_node lawful_place (record { at = at; node = n })

lit_node : (v : Value) → is_lawful_node (node.Lit v) ≡ is_literal_value v
lit_node v = ap is_lawful_node (sym (node.rolls-Lit v)) ∙ fold-roll-Node Bool Bool lawful_node lawful_place (Node-F.Lit v)

col_node : (name : List ℕ) → is_lawful_node (node.Col name) ≡ is_name name
col_node name =
    ap is_lawful_node (sym (node.rolls-Col name)) ∙ fold-roll-Node Bool Bool lawful_node lawful_place (Node-F.Col name)

neg_node : (of : Expr) → is_lawful_node (node.Neg of) ≡ is_lawful_expr of
neg_node of =
    ap is_lawful_node (sym (node.rolls-Neg of)) ∙ fold-roll-Node Bool Bool lawful_node lawful_place (Node-F.Neg of)

not_node : (of : Expr) → is_lawful_node (node.Not of) ≡ is_lawful_expr of
not_node of =
    ap is_lawful_node (sym (node.rolls-Not of)) ∙ fold-roll-Node Bool Bool lawful_node lawful_place (Node-F.Not of)

null_node : (of : Expr) (negated : Bool) → is_lawful_node (node.IsNull of negated) ≡ is_lawful_expr of
null_node of negated =
    ap is_lawful_node (sym (node.rolls-IsNull of negated))
    ∙ fold-roll-Node Bool Bool lawful_node lawful_place (Node-F.IsNull of negated)

two_node : (op : Op) (left right : Expr)
    → is_lawful_node (node.Two op left right) ≡ (is_lawful_expr left && is_lawful_expr right)
two_node op left right =
    ap is_lawful_node (sym (node.rolls-Two op left right))
    ∙ fold-roll-Node Bool Bool lawful_node lawful_place (Node-F.Two op left right)

two_lawful : (operator : Operator) (left right : Expr) → is_lawful_expr left ≡ true → is_lawful_expr right ≡ true
    → is_lawful_expr (two operator left right) ≡ true
two_lawful operator left right l r =
    with_place operator.at (node.Two operator.op left right) ∙ (two_node operator.op left right ∙ and_from _ _ l r)

prefix_lawful : (rule : Rule) (of : Expr) → is_lawful_expr of ≡ true → is_lawful_node (prefix_node rule of) ≡ true
prefix_lawful Not of so = not_node of ∙ so
prefix_lawful Or of so = neg_node of ∙ so
prefix_lawful And of so = neg_node of ∙ so
prefix_lawful Test of so = neg_node of ∙ so
prefix_lawful Added of so = neg_node of ∙ so
prefix_lawful Product of so = neg_node of ∙ so
prefix_lawful Unary of so = neg_node of ∙ so

-- a value of a tuple
lit_value : (at : ℕ) (v : Value) → is_literal_value v ≡ true → is_lawful_value (expr_of at (node.Lit v)) ≡ true
lit_value at v so = so

pub literal_lawful : (whole : ℕ) → Reads is_lawful_value (literal_at whole)
literal_lawful whole text =
    after {A = Value × List ℕ} {B = Expr × List ℕ} (λ x. is_literal_value x.0 ≡ true) (λ x. is_lawful_value x.0 ≡ true) _
    (λ found so. lit_value (place_at whole text) found.0 so) (value_at text) (value_lawful text)

-- ---- leaves

abbrev FindsNode : Outcome (Node × List ℕ) → Type 0
FindsNode o = IfOk o (λ x. is_lawful_node x.0 ≡ true)

word_lawful : (text rest : List ℕ) (constant : Option Value) → IsLiteralFound constant
    → FindsNode (word_node text rest constant)
word_lawful text rest None so =
    after {A = List ℕ × List ℕ} {B = Node × List ℕ} (λ x. is_name x.0 ≡ true) (λ x. is_lawful_node x.0 ≡ true) _
    (λ name named. col_node name.0 ∙ named) (name_at text) (name_lawful text)
word_lawful text rest (Some v) so = lit_node v ∙ so

leaf_node_lawful : (text : List ℕ) → FindsNode (leaf_node_at text)
leaf_node_lawful text = by_test (begins begins_word (unblank text))
  where
    by_test : (t : Bool) → FindsNode (cond t (word_node_at text) (unsigned_at text >>= λ found. Ok (node.Lit found.0, found.1)))
    by_test true =
        after_any {A = List ℕ × List ℕ} {B = Node × List ℕ} (λ x. is_lawful_node x.0 ≡ true) _
        (λ word. word_lawful text word.1 (constant_of word.0) (constant_lawful word.0)) (word_at text)
    by_test false =
        after {A = Value × List ℕ} {B = Node × List ℕ} (λ x. is_literal_value x.0 ≡ true) (λ x. is_lawful_node x.0 ≡ true) _
        (λ found so. lit_node found.0 ∙ so) (unsigned_at text) (unsigned_lawful text)

-- ---- rules

-- what is found is lawful
abbrev Finds : Outcome (Expr × Point) → Type 0
Finds o = IfOk o (λ x. is_lawful_expr x.0 ≡ true)

abbrev IsLawfulReading : Reading → Type 0
IsLawfulReading reading = (p : Point) → Finds (reading p)

-- a step behind an expression that is lawful, or behind anything
step_after : (o : Outcome (Expr × Point)) → Finds o → (f : Expr × Point → Outcome (Expr × Point))
    → ((x : Expr × Point) → is_lawful_expr x.0 ≡ true → Finds (f x)) → Finds (o >>= f)
step_after o so f step =
    after {A = Expr × Point} {B = Expr × Point} (λ x. is_lawful_expr x.0 ≡ true) (λ x. is_lawful_expr x.0 ≡ true) f step o so

step_any : {A : Type 0} (o : Outcome A) (f : A → Outcome (Expr × Point)) → ((x : A) → Finds (f x)) → Finds (o >>= f)
step_any {A} o f step = after_any {A = A} {B = Expr × Point} (λ x. is_lawful_expr x.0 ≡ true) f step o

leaf_lawful : (whole : ℕ) → IsLawfulReading (leaf_at whole)
leaf_lawful whole p =
    after {A = Node × List ℕ} {B = Expr × Point} (λ x. is_lawful_node x.0 ≡ true) (λ x. is_lawful_expr x.0 ≡ true) _
    (λ found so. with_place (place_at whole p.text) found.0 ∙ so) (leaf_node_at p.text) (leaf_node_lawful p.text)

joined_lawful : (operand : Reading) → IsLawfulReading operand → (left : Expr) → is_lawful_expr left ≡ true
    → (operator : Operator) → IsLawfulReading (joined operand left operator)
joined_lawful operand lawful left so operator p =
    step_after (operand p) (lawful p) _ (λ right right_so. two_lawful operator left right.0 so right_so)

goes_on_lawful : (others : Expr → Reading) (operand : Reading) → IsLawfulReading operand
    → ((left : Expr) → is_lawful_expr left ≡ true → IsLawfulReading (others left)) → (left : Expr)
    → is_lawful_expr left ≡ true → (p : Point) (found : Option (Operator × Point)) → Finds (goes_on others operand left p found)
goes_on_lawful others operand lawful more left so p None = so
goes_on_lawful others operand lawful more left so p (Some found) =
    step_after (joined operand left found.0 found.1) (joined_lawful operand lawful left so found.0 found.1) _
    (λ all all_so. more all.0 all_so all.1)

operands_lawful : (whole : ℕ) (rule : Rule) (operand : Reading) → IsLawfulReading operand → (turns : ℕ) (left : Expr)
    → is_lawful_expr left ≡ true → IsLawfulReading (operands_at whole rule operand turns left)
operands_lawful whole rule operand lawful zero left so p = step_any (operator_at whole rule p) _ (λ found. so)
operands_lawful whole rule operand lawful (suc turns) left so p =
    step_any (operator_at whole rule p) _
    (goes_on_lawful (operands_at whole rule operand turns) operand lawful
    (operands_lawful whole rule operand lawful turns) left so p)

chain_lawful : (whole : ℕ) (rule : Rule) (operand : Reading) → IsLawfulReading operand
    → IsLawfulReading (chain_at whole rule operand)
unfolding chain_at
chain_lawful whole rule operand lawful p =
    step_after (operand p) (lawful p) _
    (λ first so. operands_lawful whole rule operand lawful first.1.operators first.0 so first.1)

is_at_lawful : (whole : ℕ) (left : Expr) → is_lawful_expr left ≡ true → (p : Point) (rest : List ℕ)
    → Finds (is_at whole left p rest)
unfolding is_at
is_at_lawful whole left so p rest =
    step_any (spend p rest) _ (λ next. step_any (null_at next.text) _
    (λ negated. with_place (place_at whole p.text) (node.IsNull left negated.0) ∙ (null_node left negated.0 ∙ so)))

compared_lawful : (whole : ℕ) (operand : Reading) → IsLawfulReading operand → (left : Expr) → is_lawful_expr left ≡ true
    → (p : Point) (found : Option (Operator × Point)) → Finds (compared whole operand left p found)
compared_lawful whole operand lawful left so p None = by_word (keyword_after (codes "is") p.text)
  where
    by_word : (word : Option (List ℕ))
        → Finds (elim word [ None ↦ Ok (left, p) | Some rest ↦ is_at whole left p rest ])
    by_word None = so
    by_word (Some rest) = is_at_lawful whole left so p rest
compared_lawful whole operand lawful left so p (Some found) = joined_lawful operand lawful left so found.0 found.1

test_lawful : (whole : ℕ) (operand : Reading) → IsLawfulReading operand → IsLawfulReading (test_in whole operand)
unfolding test_in
test_lawful whole operand lawful p =
    step_after (operand p) (lawful p) _ (λ left so. step_any (operator_at whole Test left.1) _
    (λ found. compared_lawful whole operand lawful left.0 so left.1 found))

abbrev IsLawfulInner : Inner → Type 0
IsLawfulInner inner = (rule : Rule) (opening : List ℕ) → IsLawfulReading (inner rule opening)

prefixed_lawful : (whole : ℕ) (inner : Inner) → IsLawfulInner inner → (rule : Rule) (p : Point) (rest : List ℕ)
    → Finds (prefixed_in whole inner rule p rest)
unfolding prefixed_in
prefixed_lawful whole inner lawful rule p rest =
    step_any (spend p rest) _ (λ next. step_after (inner rule p.text next) (lawful rule p.text next) _
    (λ of so. with_place (place_at whole p.text) (prefix_node rule of.0) ∙ prefix_lawful rule of.0 so))

negation_lawful : (whole : ℕ) (inner : Inner) → IsLawfulInner inner → (test : Reading) → IsLawfulReading test
    → IsLawfulReading (negation_in whole inner test)
unfolding negation_in
negation_lawful whole inner lawful test tests p = by_word (keyword_after (codes "not") p.text)
  where
    by_word : (word : Option (List ℕ))
        → Finds (elim word [ None ↦ test p | Some rest ↦ prefixed_in whole inner Not p rest ])
    by_word None = tests p
    by_word (Some rest) = prefixed_lawful whole inner lawful Not p rest

negative_of_lawful : (whole : ℕ) (p : Point) (rest : List ℕ) → Finds (negative_of whole p rest)
unfolding negative_of
negative_of_lawful whole p rest =
    after {A = Value × List ℕ} {B = Expr × Point} (λ x. is_literal_value x.0 ≡ true) (λ x. is_lawful_expr x.0 ≡ true) _
    (λ found so. with_place (place_at whole p.text) (node.Lit found.0) ∙ (lit_node found.0 ∙ so))
    (negative_at rest) (negative_lawful rest)

enclosed_in_lawful : (inner : Inner) → IsLawfulInner inner → (p : Point) (rest : List ℕ) → Finds (enclosed_in inner p rest)
unfolding enclosed_in
enclosed_in_lawful inner lawful p rest =
    step_after (inner Or p.text (at_text p rest)) (lawful Or p.text (at_text p rest)) _
    (λ inside so. step_any (mark_at 41 inside.1.text) _ (λ close. so))

unary_lawful : (whole : ℕ) (inner : Inner) → IsLawfulInner inner → IsLawfulReading (unary_in whole inner)
unfolding unary_in
unary_lawful whole inner lawful p = by_sign (mark_after 45 p.text)
  where
    by_digit : (rest : List ℕ) (t : Bool) → Finds (cond t (negative_of whole p rest) (prefixed_in whole inner Unary p rest))
    by_digit rest true = negative_of_lawful whole p rest
    by_digit rest false = prefixed_lawful whole inner lawful Unary p rest

    by_mark : (mark : Option (List ℕ)) → Finds (elim mark [ None ↦ leaf_at whole p | Some rest ↦ enclosed_in inner p rest ])
    by_mark None = leaf_lawful whole p
    by_mark (Some rest) = enclosed_in_lawful inner lawful p rest

    by_sign : (sign : Option (List ℕ))
        → Finds (elim sign [ None ↦ unsigned_in whole inner p | Some rest ↦ signed_in whole inner p rest ])
    by_sign None = by_mark (mark_after 40 p.text)
    by_sign (Some rest) = by_digit rest (begins is_digit (unblank rest))

product_lawful : (whole : ℕ) (inner : Inner) → IsLawfulInner inner → IsLawfulReading (product_in whole inner)
product_lawful whole inner lawful = chain_lawful whole Product (unary_in whole inner) (unary_lawful whole inner lawful)

added_lawful : (whole : ℕ) (inner : Inner) → IsLawfulInner inner → IsLawfulReading (added_in whole inner)
added_lawful whole inner lawful = chain_lawful whole Added (product_in whole inner) (product_lawful whole inner lawful)

tested_lawful : (whole : ℕ) (inner : Inner) → IsLawfulInner inner → IsLawfulReading (test_in whole (added_in whole inner))
tested_lawful whole inner lawful = test_lawful whole (added_in whole inner) (added_lawful whole inner lawful)

not_lawful : (whole : ℕ) (inner : Inner) → IsLawfulInner inner → IsLawfulReading (not_in whole inner)
not_lawful whole inner lawful =
    negation_lawful whole inner lawful (test_in whole (added_in whole inner)) (tested_lawful whole inner lawful)

and_lawful : (whole : ℕ) (inner : Inner) → IsLawfulInner inner → IsLawfulReading (and_in whole inner)
and_lawful whole inner lawful = chain_lawful whole And (not_in whole inner) (not_lawful whole inner lawful)

rule_lawful : (whole : ℕ) (inner : Inner) → IsLawfulInner inner → (rule : Rule) → IsLawfulReading (rule_in whole inner rule)
rule_lawful whole inner lawful Or = chain_lawful whole Or (and_in whole inner) (and_lawful whole inner lawful)
rule_lawful whole inner lawful And = and_lawful whole inner lawful
rule_lawful whole inner lawful Not = not_lawful whole inner lawful
rule_lawful whole inner lawful Test = tested_lawful whole inner lawful
rule_lawful whole inner lawful Added = added_lawful whole inner lawful
rule_lawful whole inner lawful Product = product_lawful whole inner lawful
rule_lawful whole inner lawful Unary = unary_lawful whole inner lawful

-- what nests, by its levels
inner_lawful : (whole levels : ℕ) → IsLawfulInner (inner_at whole levels)
unfolding inner_at
inner_lawful whole zero rule opening p = tt
inner_lawful whole (suc levels) rule opening p =
    rule_lawful whole (inner_at whole levels) (inner_lawful whole levels) rule p

pub expr_lawful : (whole : ℕ) → Reads is_lawful_expr (expr_at whole)
unfolding expr_at
expr_lawful whole text =
    after {A = Expr × Point} {B = Expr × List ℕ} (λ x. is_lawful_expr x.0 ≡ true) (λ x. is_lawful_expr x.0 ≡ true) _
    (λ found so. so) (rule_at whole MAX_LEVELS Or (record { text = text; operators = MAX_OPERATORS }))
    (rule_lawful whole (inner_at whole MAX_LEVELS) (inner_lawful whole MAX_LEVELS) Or _)
