use Rattle.std.proofs.Common.{◌≡◌, ◌++◌, length}
use Rattle.std.specs.List.{flat_map}
use Rattle.dk_meta.specs.Tree.{group_ref_bytes}
use Rattle.dk_meta.proofs.tree.put_each_group.Given as goal

abbrev pub invariant-groups : goal.invariant-groups
invariant-groups l = l.out.items ++ flat_map group_ref_bytes l.left ≡ l.fn.out.items ++ flat_map group_ref_bytes l.groups

abbrev pub decreases-groups : goal.decreases-groups
decreases-groups l = length l.left
