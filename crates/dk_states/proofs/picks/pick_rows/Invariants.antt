-- What came of the rows so far, before what comes of those that are left, is what comes of all.
use Rattle.std.proofs.Common.{◌≡◌, drop}
use Rattle.dk_query.specs.Kept.{behind}
use Rattle.dk_si.specs.Picked.{picked}
use Rattle.dk_states.proofs.picks.pick_rows.Given as goal

abbrev pub invariant-rows : goal.invariant-rows
invariant-rows g l =
    behind l.picks (picked (g.P.Pick.meaning l.by) l.id (drop l.id l.rows)) ≡ picked (g.P.Pick.meaning l.by) 0 l.rows
