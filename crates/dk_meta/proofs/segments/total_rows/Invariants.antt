use Rattle.std.proofs.Common.{◌≡◌, ◌+◌, ◌*◌, ◌≤◌, length}
use Rattle.dk_meta.specs.Segments.{total_rows}
use Rattle.dk_meta.proofs.segments.total_rows.Given as goal

abbrev pub invariant-segments : goal.invariant-segments
invariant-segments l = record {
  told : l.total + total_rows l.left ≡ total_rows l.segments;
  small : l.total + 65535 * length l.left ≤ 65535 * length l.segments;
}

abbrev pub decreases-segments : goal.decreases-segments
decreases-segments l = length l.left
