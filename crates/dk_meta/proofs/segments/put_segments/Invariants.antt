use Rattle.std.proofs.Common.{◌≡◌, ◌++◌, length}
use Rattle.std.specs.List.{flat_map}
use Rattle.dk_meta.specs.Segments.{segment_ref_bytes}
use Rattle.dk_meta.proofs.segments.put_segments.Given as goal

abbrev pub invariant-segments : goal.invariant-segments
invariant-segments l = l.out.items ++ flat_map segment_ref_bytes l.left ≡ l.fn.out.items ++ flat_map segment_ref_bytes l.segments

abbrev pub decreases-segments : goal.decreases-segments
decreases-segments l = length l.left
