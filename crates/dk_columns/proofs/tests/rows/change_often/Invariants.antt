-- The columns stay of their types.
use Rattle.std.proofs.Common.{◌≡◌}
use Rattle.dk_columns.proofs.tests.rows.change_often.Given as goal

abbrev pub invariant-changes : goal.invariant-changes
invariant-changes l = l.rows.kinds ≡ l.fn.rows.kinds
