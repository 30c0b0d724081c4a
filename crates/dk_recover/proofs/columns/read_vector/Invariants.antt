-- What is left is read to the same.
use Rattle.std.specs.Prelude.{◌≡◌, ◌≤◌, IfSome, length}
use Rattle.dk_device.specs.declared.device.FileId.TheVariants.{Main}
use Rattle.dk_device.specs.Changes.{Looks}
use Rattle.dk_recover.specs.Readings.{each}
use Rattle.dk_recover.specs.Rows.{Holds, next_segment}
use Rattle.dk_recover.proofs.columns.read_vector.Given as goal

abbrev pub invariant-segments : goal.invariant-segments
invariant-segments g l = record {
  told : IfSome (g.D.Disk.content l.fn.disk Main) (λ main. each (next_segment l.fn.column.kind main) l.column.values l.left
      ≡ each (next_segment l.fn.column.kind main) l.fn.column.values l.segments);
  kind : l.column.kind ≡ l.fn.column.kind;
  holds : IfSome (g.D.Disk.content l.fn.disk Main) (λ main. Holds main l.held);
  looks : Looks g.D.Disk l.fn.disk l.disk;
  later : g.D.Disk.faults l.fn.disk ≤ g.D.Disk.faults l.disk;
}

abbrev pub decreases-segments : goal.decreases-segments
decreases-segments g l = length l.left
