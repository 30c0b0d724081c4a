-- The other updates lead to the same rows.
use Rattle.std.proofs.Common.{◌≡◌, drop}
use Rattle.dk_si.specs.Database.{put_rows}
use Rattle.dk_plain.proofs.database.put_rows.Given as goal

abbrev pub invariant-loop-update : goal.invariant-loop-update
invariant-loop-update l = put_rows (drop l.update-index l.updates) l.rows.items ≡ put_rows l.updates l.fn.rows.items
