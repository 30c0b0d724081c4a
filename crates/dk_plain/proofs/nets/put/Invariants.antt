-- Whatever comes behind the items so far comes behind those that are done, and the one that waits has its place there.
use Rattle.std.proofs.Common.{◌≡◌, ◌++◌, List}
use Rattle.dk_si.specs.Nets.{put_by, with_waiting}
use Rattle.dk_plain.proofs.nets.put.Given as goal

abbrev pub invariant-loop-other : goal.invariant-loop-other
invariant-loop-other g l = (rest : List g.row.T.Denot) → l.done.items ++ with_waiting g.T.Keyed.key l.waiting rest
    ≡ put_by g.T.Keyed.key l.fn.item (l.yielded ++ rest)
