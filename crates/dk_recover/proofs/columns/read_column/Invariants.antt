-- What is left is read to the same.
use Rattle.std.specs.Prelude.{◌≡◌, ◌≤◌, [], IfSome, length}
use Rattle.dk_device.specs.declared.device.FileId.TheVariants.{Main}
use Rattle.dk_device.specs.Changes.{Looks}
use Rattle.dk_recover.specs.Readings.{each}
use Rattle.dk_recover.specs.Rows.{Holds, next_vector}
use Rattle.dk_recover.proofs.columns.read_column.Given as goal

abbrev pub invariant-vectors : goal.invariant-vectors
invariant-vectors g l = record {
  told : IfSome (g.D.Disk.content l.fn.disk Main) (λ main. each (next_vector l.fn.kind main) l.column.values l.left
      ≡ each (next_vector l.fn.kind main) [] l.vectors);
  kind : l.column.kind ≡ l.fn.kind;
  holds : IfSome (g.D.Disk.content l.fn.disk Main) (λ main. Holds main l.held);
  looks : Looks g.D.Disk l.fn.disk l.disk;
  later : g.D.Disk.faults l.fn.disk ≤ g.D.Disk.faults l.disk;
}

abbrev pub decreases-vectors : goal.decreases-vectors
decreases-vectors g l = length l.left
