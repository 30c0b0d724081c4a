-- The row so far, with the sets that are left, becomes the row of all.
use Rattle.std.proofs.Common.{◌≡◌, drop}
use Rattle.dk_si.specs.Picked.{with_sets}
use Rattle.dk_states.proofs.picks.with_sets.Given as goal

abbrev pub invariant-sets : goal.invariant-sets
invariant-sets l =
    with_sets l.columns l.old (drop l.set-index l.sets) l.row.items ≡ with_sets l.columns l.old l.sets l.old
