-- What is done so far, and what the rest gives.
use Rattle.std.proofs.Common.{◌≡◌, ◌++◌, map, drop}
use Rattle.dk_states.proofs.call.ids_of.Given as goal

abbrev pub invariant-loop-row : goal.invariant-loop-row
invariant-loop-row l = l.ids.items ++ map (λ row. row.0) (drop l.row-index l.rows) ≡ map (λ row. row.0) l.rows
