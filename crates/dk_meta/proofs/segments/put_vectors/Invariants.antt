use Rattle.std.proofs.Common.{◌≡◌, ◌++◌, length}
use Rattle.std.specs.List.{flat_map, AllByRecursion}
use Rattle.dk_meta.specs.Segments.{HasCount, vector_bytes}
use Rattle.dk_meta.proofs.segments.put_vectors.Given as goal

abbrev pub invariant-vectors : goal.invariant-vectors
invariant-vectors l = record {
  told : l.out.items ++ flat_map vector_bytes l.left ≡ l.fn.out.items ++ flat_map vector_bytes l.vectors;
  counts : AllByRecursion HasCount l.left;
}

abbrev pub decreases-vectors : goal.decreases-vectors
decreases-vectors l = length l.left
