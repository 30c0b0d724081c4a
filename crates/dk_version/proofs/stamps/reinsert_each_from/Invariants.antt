use Rattle.std.proofs.Common.{◌≡◌, ◌-◌, length}
use Rattle.dk_version.specs.Rows.{reinserted_from}
use Rattle.dk_version.proofs.stamps.reinsert_each_from.Given as goal

abbrev pub invariant-rows : goal.invariant-rows
invariant-rows l = l.stamps.items ≡ reinserted_from (length l.fn.stamps.items - l.k) l.from l.to l.fn.stamps.items
