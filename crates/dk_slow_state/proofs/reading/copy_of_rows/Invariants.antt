-- What is copied so far is the front of the rows.
use Rattle.std.proofs.Common.{◌≡◌, take}
use Rattle.dk_slow_state.proofs.reading.copy_of_rows.Given as goal

abbrev pub invariant-loop-row : goal.invariant-loop-row
invariant-loop-row l = l.copy ≡ take l.row-index l.rows
