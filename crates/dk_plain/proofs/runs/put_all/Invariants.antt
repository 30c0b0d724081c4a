-- The rest joins what stands.
use Rattle.std.proofs.Common.{◌≡◌, length}
use Rattle.dk_si.specs.Nets.{put_all}
use Rattle.dk_plain.proofs.runs.put_all.Given as goal

abbrev pub invariant-runs : goal.invariant-runs
invariant-runs g l = put_all g.T.Keyed.key l.left l.all.items ≡ put_all g.T.Keyed.key l.more l.items

abbrev pub decreases-runs : goal.decreases-runs
decreases-runs g l = length l.left
