-- What stands, and the rest of the run that joins what is left.
use Rattle.std.proofs.Common.{◌≡◌, ◌++◌, drop, true}
use Rattle.dk_si.specs.Nets.{put_all, rises}
use Rattle.dk_plain.proofs.runs.merge.Given as goal

abbrev pub invariant-loop-item : goal.invariant-loop-item
invariant-loop-item g l =
    (l.all.items ++ put_all g.T.Keyed.key (drop l.item-index l.run) l.left ≡ put_all g.T.Keyed.key l.run l.items)
    × (rises g.T.Keyed.key (drop l.item-index l.run) ≡ true)
