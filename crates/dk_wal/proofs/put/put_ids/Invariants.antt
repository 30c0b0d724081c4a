use Rattle.std.proofs.Common.{◌≡◌, ◌++◌, length}
use Rattle.std.specs.Int.{w32}
use Rattle.std.specs.List.{flat_map}
use Rattle.dk_wal.specs.Counted.{counted}
use Rattle.dk_wal.specs.Payload.{id_bytes}
use Rattle.dk_wal.proofs.put.put_ids.Given as goal

abbrev pub invariant-ids : goal.invariant-ids
invariant-ids l = l.out.items ++ flat_map id_bytes l.left ≡ l.fn.out.items ++ counted w32 id_bytes l.ids

abbrev pub decreases-ids : goal.decreases-ids
decreases-ids l = length l.left
