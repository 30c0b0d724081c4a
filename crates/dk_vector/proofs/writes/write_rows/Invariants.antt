use Rattle.std.proofs.Common.{length, drop, ◌-◌}
use Rattle.dk_vector.specs.Changes.{IsWritten}
use Rattle.dk_vector.proofs.writes.write_rows.Given as goal

abbrev pub invariant-rows : goal.invariant-rows
invariant-rows l = IsWritten (drop (length l.rows - l.k) l.rows) (drop (length l.rows - l.k) l.values) l.fn.base l.base
