-- The rows so far go behind those of the other parts.
use Rattle.std.proofs.Common.{◌≡◌, drop}
use Rattle.dk_slow_rules.specs.Rows.{with_placed}
use Rattle.dk_slow_rules.proofs.commits.with_placed.Given as goal

abbrev pub invariant-loop-part : goal.invariant-loop-part
invariant-loop-part l = with_placed l.table (drop l.part-index l.made) l.all ≡ with_placed l.table l.made l.rows
