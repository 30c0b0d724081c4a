-- There is room for the numbers that are left.
use Rattle.std.proofs.Common.{◌-◌, ◌≤◌}
use Rattle.dk_undo.proofs.tests.push_numbers.Given as goal

abbrev pub invariant-loop-number : goal.invariant-loop-number
invariant-loop-number l = l.count - l.number ≤ l.stack.spare
