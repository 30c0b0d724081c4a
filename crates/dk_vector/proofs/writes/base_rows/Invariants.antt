use Rattle.std.proofs.Common.{◌≡◌, take}
use Rattle.dk_vector.specs.Changes.{rows_of}
use Rattle.dk_vector.proofs.writes.base_rows.Given as goal

abbrev pub invariant-rows : goal.invariant-rows
invariant-rows l = l.values ≡ rows_of l.base (take l.i l.rows)
