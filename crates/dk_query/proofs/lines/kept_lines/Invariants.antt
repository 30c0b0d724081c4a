-- The lines so far, with those of the rows that are left, are those of all.
use Rattle.std.proofs.Common.{◌≡◌, drop}
use Rattle.dk_query.specs.Kept.{behind, kept_from}
use Rattle.dk_query.proofs.lines.kept_lines.Given as goal

abbrev pub invariant-rows : goal.invariant-rows
invariant-rows l = behind l.lines (kept_from l.query l.id (drop l.id l.rows)) ≡ kept_from l.query 0 l.rows
