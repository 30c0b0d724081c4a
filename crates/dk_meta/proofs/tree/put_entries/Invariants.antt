use Rattle.std.proofs.Common.{◌≡◌, ◌++◌, length}
use Rattle.std.specs.List.{flat_map, AllByRecursion}
use Rattle.dk_meta.specs.Tree.{HasName, entry_bytes}
use Rattle.dk_meta.proofs.tree.put_entries.Given as goal

abbrev pub invariant-entries : goal.invariant-entries
invariant-entries l = record {
  told : l.out.items ++ flat_map entry_bytes l.left ≡ l.fn.out.items ++ flat_map entry_bytes l.entries;
  names : AllByRecursion HasName l.left;
}

abbrev pub decreases-entries : goal.decreases-entries
decreases-entries l = length l.left
