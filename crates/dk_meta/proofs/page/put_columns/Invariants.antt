use Rattle.std.proofs.Common.{◌≡◌, ◌++◌, length}
use Rattle.std.specs.List.{flat_map, AllByRecursion}
use Rattle.dk_meta.specs.Segments.{HasCount, vectors_bytes}
use Rattle.dk_meta.proofs.page.put_columns.Given as goal

abbrev pub invariant-columns : goal.invariant-columns
invariant-columns l = record {
  told : l.out.items ++ flat_map vectors_bytes l.left ≡ l.fn.out.items ++ flat_map vectors_bytes l.columns;
  counts : AllByRecursion (AllByRecursion HasCount) l.left;
}

abbrev pub decreases-columns : goal.decreases-columns
decreases-columns l = length l.left
