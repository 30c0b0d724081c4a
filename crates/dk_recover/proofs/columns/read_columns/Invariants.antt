-- What is left is read to the same.
use Rattle.std.specs.Prelude.{◌≡◌, ◌≤◌, IfSome, length}
use Rattle.dk_device.specs.declared.device.FileId.TheVariants.{Main}
use Rattle.dk_device.specs.Changes.{Looks}
use Rattle.dk_recover.specs.Rows.{Holds, columns_behind, columns_read}
use Rattle.dk_recover.proofs.columns.read_columns.Given as goal

abbrev pub invariant-columns : goal.invariant-columns
invariant-columns g l = record {
  told : IfSome (g.D.Disk.content l.fn.disk Main) (λ main. columns_behind l.columns l.left l.left_refs main
      ≡ columns_read l.schema l.refs main);
  holds : IfSome (g.D.Disk.content l.fn.disk Main) (λ main. Holds main l.held);
  looks : Looks g.D.Disk l.fn.disk l.disk;
  later : g.D.Disk.faults l.fn.disk ≤ g.D.Disk.faults l.disk;
}

abbrev pub decreases-columns : goal.decreases-columns
decreases-columns g l = length l.left
