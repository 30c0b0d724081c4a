-- Operands behind operators, read one after another.
use Rattle.std.proofs.Common.{◌≡◌, ℕ, zero, suc, ◌<◌, ◌≤◌, ◌-◌, List, Some, None, Ok, Err, refl, sym, ap, ◌∙◌, arith}
use Rattle.dk_syntax.specs.declared.expression.Expr.{Expr}
use Rattle.dk_sql.specs.declared.expressions.Rule.{Rule}
use Rattle.dk_sql.specs.declared.expressions.Operator.{Operator}
use Rattle.dk_sql.specs.declared.fault.Stop.{Stop}
use Rattle.dk_sql.specs.declared.fault.Stop.TheVariants.{Fault, OutOfMemory}
use Rattle.dk_sql.specs.Readers.{Outcome, ◌>>=◌, Stops}
use Rattle.dk_sql.specs.Tokens.{bytes_left}
use Rattle.dk_sql.specs.Expressions.{Point, Reading, operator_at, operands_at, goes_on, two, inner_at, rule_at}

-- what was read so far goes on to the whole, in some number of turns that is enough
pub record Operands (whole : ℕ) (rule : Rule) (operand : Reading) (left : Expr) (p : Point)
    (all : Outcome (Expr × Point)) : Type 0 where
  pub turns : ℕ
  pub enough : p.operators ≤ turns
  pub told : operands_at whole rule operand turns left p ≡ all

pub operands_start : (whole : ℕ) (rule : Rule) (operand : Reading) (left : Expr) (p : Point)
    → Operands whole rule operand left p (operands_at whole rule operand p.operators left p)
operands_start whole rule operand left p = record { turns = p.operators; enough = omega arith; told = refl }

-- an operand on the right was read
pub joins : (others : Expr → Reading) (operand : Reading) (left right : Expr) (p next behind : Point) (operator : Operator)
    → operand next ≡ Ok (right, behind)
    → goes_on others operand left p (Some (operator, next)) ≡ others (two operator left right) behind
joins others operand left right p next behind operator read =
    let step : Outcome (Expr × Point) → Outcome (Expr × Point) =
    λ o. ◌>>=◌ {A = Expr × Point} (◌>>=◌ {A = Expr × Point} o (λ x. Ok (two operator left x.0, x.1))) (λ all. others all.0 all.1) in
    ap step read

pub joins_none : (others : Expr → Reading) (operand : Reading) (left : Expr) (p next : Point) (operator : Operator) (at : ℕ)
    → operand next ≡ Err at → goes_on others operand left p (Some (operator, next)) ≡ Err at
joins_none others operand left p next operator at read =
    let step : Outcome (Expr × Point) → Outcome (Expr × Point) =
    λ o. ◌>>=◌ {A = Expr × Point} (◌>>=◌ {A = Expr × Point} o (λ x. Ok (two operator left x.0, x.1))) (λ all. others all.0 all.1) in
    ap step read

turned : (whole : ℕ) (rule : Rule) (operand : Reading) (left right : Expr) (p next behind : Point) (operator : Operator)
    (all : Outcome (Expr × Point)) → operator_at whole rule p ≡ Ok (Some (operator, next))
    → operand next ≡ Ok (right, behind) → behind.operators < p.operators → (turns : ℕ) → p.operators ≤ turns
    → operands_at whole rule operand turns left p ≡ all
    → Operands whole rule operand (two operator left right) behind all
turned whole rule operand left right p next behind operator all found read fewer zero enough told = absurd (omega arith)
turned whole rule operand left right p next behind operator all found read fewer (suc turns) enough told =
    record {
      turns = turns;
      enough = omega arith;
      told = sym (ap (λ o. o >>= λ found. goes_on (operands_at whole rule operand turns) operand left p found) found
          ∙ joins (operands_at whole rule operand turns) operand left right p next behind operator read) ∙ told;
    }

pub operands_turn : (whole : ℕ) (rule : Rule) (operand : Reading) (left right : Expr) (p next behind : Point)
    (operator : Operator) (all : Outcome (Expr × Point)) → operator_at whole rule p ≡ Ok (Some (operator, next))
    → operand next ≡ Ok (right, behind) → behind.operators < p.operators → Operands whole rule operand left p all
    → Operands whole rule operand (two operator left right) behind all
operands_turn whole rule operand left right p next behind operator all found read fewer so =
    turned whole rule operand left right p next behind operator all found read fewer so.turns so.enough so.told

ended : (whole : ℕ) (rule : Rule) (operand : Reading) (left : Expr) (p : Point) (all : Outcome (Expr × Point))
    → operator_at whole rule p ≡ Ok None → (turns : ℕ) → operands_at whole rule operand turns left p ≡ all
    → all ≡ Ok (left, p)
ended whole rule operand left p all found zero told = sym told ∙ ap (λ o. o >>= λ _. Ok (left, p)) found
ended whole rule operand left p all found (suc turns) told =
    sym told ∙ ap (λ o. o >>= λ found. goes_on (operands_at whole rule operand turns) operand left p found) found

-- no operator stands next
pub operands_end : (whole : ℕ) (rule : Rule) (operand : Reading) (left : Expr) (p : Point)
    (all : Outcome (Expr × Point)) → operator_at whole rule p ≡ Ok None → Operands whole rule operand left p all
    → all ≡ Ok (left, p)
operands_end whole rule operand left p all found so = ended whole rule operand left p all found so.turns so.told

stopped : (whole : ℕ) (rule : Rule) (operand : Reading) (left : Expr) (p : Point) (at : ℕ)
    (all : Outcome (Expr × Point)) → operator_at whole rule p ≡ Err at → (turns : ℕ)
    → operands_at whole rule operand turns left p ≡ all → all ≡ Err at
stopped whole rule operand left p at all found zero told = sym told ∙ ap (λ o. o >>= λ _. Ok (left, p)) found
stopped whole rule operand left p at all found (suc turns) told =
    sym told ∙ ap (λ o. o >>= λ found. goes_on (operands_at whole rule operand turns) operand left p found) found

-- an operator too many
pub operands_full : (whole : ℕ) (rule : Rule) (operand : Reading) (left : Expr) (p : Point) (at : ℕ)
    (all : Outcome (Expr × Point)) → operator_at whole rule p ≡ Err at → Operands whole rule operand left p all
    → all ≡ Err at
operands_full whole rule operand left p at all found so =
    stopped whole rule operand left p at all found so.turns so.told

broken : (whole : ℕ) (rule : Rule) (operand : Reading) (left : Expr) (p next : Point) (operator : Operator) (at : ℕ)
    (all : Outcome (Expr × Point)) → operator_at whole rule p ≡ Ok (Some (operator, next)) → operand next ≡ Err at
    → 0 < p.operators → (turns : ℕ) → p.operators ≤ turns → operands_at whole rule operand turns left p ≡ all
    → all ≡ Err at
broken whole rule operand left p next operator at all found read some zero enough told = absurd (omega arith)
broken whole rule operand left p next operator at all found read some (suc turns) enough told =
    sym told ∙ (ap (λ o. o >>= λ found. goes_on (operands_at whole rule operand turns) operand left p found) found
    ∙ joins_none (operands_at whole rule operand turns) operand left p next operator at read)

-- no operand behind an operator
pub operands_fault : (whole : ℕ) (rule : Rule) (operand : Reading) (left : Expr) (p next : Point)
    (operator : Operator) (at : ℕ) (all : Outcome (Expr × Point))
    → operator_at whole rule p ≡ Ok (Some (operator, next)) → operand next ≡ Err at → 0 < p.operators
    → Operands whole rule operand left p all → all ≡ Err at
operands_fault whole rule operand left p next operator at all found read some so =
    broken whole rule operand left p next operator at all found read some so.turns so.enough so.told

-- the same, of whatever stops a reader
pub operator_stops : (whole : ℕ) (rule : Rule) (operand : Reading) (left : Expr) (p : Point) (stop : Stop)
    (all : Outcome (Expr × Point)) → Stops stop (operator_at whole rule p) → Operands whole rule operand left p all
    → Stops stop all
operator_stops whole rule operand left p (Fault at) all found so =
    operands_full whole rule operand left p at all found so
operator_stops whole rule operand left p OutOfMemory all found so = tt

pub operand_stops : (whole : ℕ) (rule : Rule) (operand : Reading) (left : Expr) (p next : Point)
    (operator : Operator) (stop : Stop) (all : Outcome (Expr × Point))
    → operator_at whole rule p ≡ Ok (Some (operator, next)) → Stops stop (operand next) → 0 < p.operators
    → Operands whole rule operand left p all → Stops stop all
operand_stops whole rule operand left p next operator (Fault at) all found read some so =
    operands_fault whole rule operand left p next operator at all found read some so
operand_stops whole rule operand left p next operator OutOfMemory all found read some so = tt

-- ---- levels

-- no level is left
pub no_level : (whole levels : ℕ) (rule : Rule) (opening : List ℕ) (p : Point) → levels ≡ 0
    → inner_at whole levels rule opening p ≡ Err (bytes_left opening)
unfolding inner_at
no_level whole levels rule opening p none = ap (λ n. inner_at whole n rule opening p) none

-- a level is left
pub one_level : (whole levels : ℕ) (rule : Rule) (opening : List ℕ) (p : Point) → 0 < levels
    → inner_at whole levels rule opening p ≡ rule_at whole (levels - 1) rule p
unfolding inner_at
one_level whole levels rule opening p some =
    let same : levels ≡ suc (levels - 1) = omega arith in ap (λ n. inner_at whole n rule opening p) same

abbrev pub found : {A : Type 0} → A → Outcome A
found x = Ok x

-- what is found is one value
pub same_found : {A : Type 0} {x y : A} → found x ≡ found y → x ≡ y
same_found e = cc
