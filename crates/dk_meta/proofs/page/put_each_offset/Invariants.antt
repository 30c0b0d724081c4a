use Rattle.std.proofs.Common.{◌≡◌, ◌++◌, length}
use Rattle.std.specs.List.{flat_map}
use Rattle.dk_meta.specs.Page.{offset_bytes}
use Rattle.dk_meta.proofs.page.put_each_offset.Given as goal

abbrev pub invariant-offsets : goal.invariant-offsets
invariant-offsets l = l.out.items ++ flat_map offset_bytes l.left ≡ l.fn.out.items ++ flat_map offset_bytes l.offsets

abbrev pub decreases-offsets : goal.decreases-offsets
decreases-offsets l = length l.left
