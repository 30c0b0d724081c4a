-- The other rows come behind those that are there.
use Rattle.std.proofs.Common.{◌≡◌, ◌++◌, map, drop, Some}
use Rattle.dk_plain_engine.proofs.now.add_exact.Given as goal

abbrev pub invariant-loop-row : goal.invariant-loop-row
invariant-loop-row l = l.rows.items ++ map Some (drop l.row-index l.more) ≡ l.fn.rows.items ++ map Some l.more
