-- The rows so far, with those of the places that are left, are those of all.
use Rattle.std.proofs.Common.{◌≡◌, drop, []}
use Rattle.dk_query.specs.Kept.{kept_from}
use Rattle.dk_query.specs.Direct.{rows_behind}
use Rattle.dk_query.proofs.direct.direct_rows.Given as goal

abbrev pub invariant-rows : goal.invariant-rows
invariant-rows l = rows_behind l.query.limit l.found (kept_from l.query l.id (drop l.id l.rows))
    ≡ rows_behind l.query.limit [] (kept_from l.query 0 l.rows)
