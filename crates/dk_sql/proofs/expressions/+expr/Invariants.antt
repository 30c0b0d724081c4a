-- Each rule stands above that of its operands, and a level has room for all rules.
use Rattle.std.proofs.Common.{◌+◌, ◌*◌, ◌≤◌, length}
use Rattle.dk_sql.specs.Expressions.{point_of, operand_of, height, operands_at, rule_at}
use Rattle.dk_sql.proofs.OperandLemmas.{Operands}
use Rattle.dk_sql.proofs.expressions.+expr.Given as goal

abbrev pub decreases-nested : goal.decreases-nested
decreases-nested l = 32 * l.levels

abbrev pub decreases-read : goal.decreases-read
decreases-read l = 32 * l.levels + 4 * height l.rule + 3

abbrev pub decreases-chain : goal.decreases-chain
decreases-chain l = 32 * l.levels + 4 * height l.rule + 2

abbrev pub decreases-operands : goal.decreases-operands
decreases-operands l = 32 * l.levels + 4 * height l.rule + 1

abbrev pub decreases-negation : goal.decreases-negation
decreases-negation l = 32 * l.levels + 18

abbrev pub decreases-test : goal.decreases-test
decreases-test l = 32 * l.levels + 14

abbrev pub decreases-unary : goal.decreases-unary
decreases-unary l = 32 * l.levels + 2

abbrev pub decreases-enclosed : goal.decreases-enclosed
decreases-enclosed l = 32 * l.levels + 1

abbrev pub decreases-prefixed : goal.decreases-prefixed
decreases-prefixed l = 32 * l.levels + 1

-- what was read so far goes on to the whole
abbrev pub invariant-operands-operands : goal.invariant-operands-operands
invariant-operands-operands l = record {
  told : Operands l.scope.whole l.rule (rule_at l.scope.whole l.levels (operand_of l.rule)) l.left (point_of l.here)
      (operands_at l.scope.whole l.rule (rule_at l.scope.whole l.levels (operand_of l.rule)) l.fn.cursor.operators
      l.fn.first (point_of l.fn.cursor));
  within : length l.here.text.now ≤ length l.fn.cursor.text.now;
  fewer : l.here.operators ≤ l.fn.cursor.operators;
}

abbrev pub decreases-operands-operands : goal.decreases-operands-operands
decreases-operands-operands l = l.here.operators
