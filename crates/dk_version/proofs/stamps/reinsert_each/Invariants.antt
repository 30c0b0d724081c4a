use Rattle.std.proofs.Common.{◌≡◌, ◌++◌, map, take, drop}
use Rattle.dk_version.specs.Rows.{reinserted}
use Rattle.dk_version.proofs.stamps.reinsert_each.Given as goal

abbrev pub invariant-rows : goal.invariant-rows
invariant-rows l = l.stamps.items ≡ map (reinserted l.from l.to) (take l.i l.fn.stamps.items) ++ drop l.i l.fn.stamps.items
