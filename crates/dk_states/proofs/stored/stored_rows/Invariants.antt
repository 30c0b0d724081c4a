-- The rows so far, before those that are left as the columns hold them, are all.
use Rattle.std.proofs.Common.{◌≡◌, drop}
use Rattle.dk_query.specs.Kept.{behind}
use Rattle.dk_si.specs.Stored.{stored_rows}
use Rattle.dk_states.proofs.stored.stored_rows.Given as goal

abbrev pub invariant-rows : goal.invariant-rows
invariant-rows l = behind l.rows (stored_rows l.columns l.i (drop l.i l.given)) ≡ stored_rows l.columns 0 l.given
