-- Levels that are left or not, and operands one after another.
use Rattle.std.proofs.Common.{sym, arith}
use Rattle.std.proofs.lemmas.Result.{err_from_is_err_and}
use Rattle.dk_sql.specs.Expressions.{point_of, operand_of, rule_at}
use Rattle.dk_sql.proofs.OperandLemmas.{operands_turn, operands_end, operator_stops, operand_stops, no_level, one_level, same_found}
use Rattle.dk_sql.proofs.expressions.+expr.Goals as goal

pub nested-returns-then-levels-eq0-clause-exact : goal.nested-returns-then-levels-eq0-clause-exact
nested-returns-then-levels-eq0-clause-exact t c =
    rw c.fault.ensures (no_level c.args.scope.whole c.args.levels c.args.rule c.args.opening.now _ c.if-levels-eq0.true)

pub nested-returns-clause-exact : goal.nested-returns-clause-exact
nested-returns-clause-exact t c =
    rw (one_level c.args.scope.whole c.args.levels c.args.rule c.args.opening.now (point_of c.args.cursor) (omega arith))
    c.read.ensures.exact

pub operands-returns-in_err-operator-clause-exact :
    goal.operands-returns-in_err-operator-clause-exact
operands-returns-in_err-operator-clause-exact t c =
    let p = err_from_is_err_and c.from_residual.result c.from_residual.ensures.1 in
    rw (p.1, p.2) (operator_stops c.args.scope.whole c.args.rule
    (rule_at c.args.scope.whole c.args.levels (operand_of c.args.rule)) c.operands.left (point_of c.operands.here) _ _
    c.in_err-operator.ensures.exact c.operands.invariant.told)

pub operands-returns-in_err-right-clause-exact : goal.operands-returns-in_err-right-clause-exact
operands-returns-in_err-right-clause-exact t c =
    let p = err_from_is_err_and c.from_residual-in_err-right.result c.from_residual-in_err-right.ensures.1 in
    let found = rw c.in-Some.is at c.in_ok-operator.ensures.exact in
    let fewer = rw c.in-Some.is at c.in_ok-operator.ensures.fewer in
    let read = rw c.operand_of.ensures at c.in_err-right.ensures.exact in
    rw (p.1, p.2) (operand_stops c.args.scope.whole c.args.rule
    (rule_at c.args.scope.whole c.args.levels (operand_of c.args.rule)) c.operands.left (point_of c.operands.here)
    (point_of c.in-Some.next) c.in-Some.operator _ _ found read (omega (arith, fewer)) c.operands.invariant.told)

pub operands-operands-preserved : goal.operands-operands-preserved
operands-operands-preserved t c =
    let found = rw c.in-Some.is at c.in_ok-operator.ensures.exact in
    let fewer = rw c.in-Some.is at c.in_ok-operator.ensures.fewer in
    let within = rw c.in-Some.is at c.in_ok-operator.ensures.within in
    let read = rw c.operand_of.ensures at c.in_ok-right.ensures.exact in
    let left = same_found c.in_ok-left.ensures in
    record {
      told = rw (sym left) (operands_turn c.args.scope.whole c.args.rule
          (rule_at c.args.scope.whole c.args.levels (operand_of c.args.rule)) c.operands.left c.in_ok-right.right
          (point_of c.operands.here) (point_of c.in-Some.next) (point_of c.in_ok-right.behind) c.in-Some.operator _
          found read (omega (arith, fewer, c.in_ok-right.ensures.fewer)) c.operands.invariant.told);
      within = omega (arith, within, c.in_ok-right.ensures.within, c.operands.invariant.within);
      fewer = omega (arith, fewer, c.in_ok-right.ensures.fewer, c.operands.invariant.fewer);
    }

pub operands-returns-clause-exact : goal.operands-returns-clause-exact
operands-returns-clause-exact t c =
    let found = rw c.in_default.is at c.in_ok-operator.ensures.exact in
    operands_end c.args.scope.whole c.args.rule (rule_at c.args.scope.whole c.args.levels (operand_of c.args.rule))
    c.operands.left (point_of c.operands.here) _ found c.operands.invariant.told
