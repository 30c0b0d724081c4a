-- The other ids lead to the same rows.
use Rattle.std.proofs.Common.{◌≡◌, drop}
use Rattle.dk_si.specs.Database.{clear_rows}
use Rattle.dk_plain.proofs.database.clear_rows.Given as goal

abbrev pub invariant-loop-id : goal.invariant-loop-id
invariant-loop-id l = clear_rows (drop l.id-index l.ids) l.rows.items ≡ clear_rows l.ids l.fn.rows.items
