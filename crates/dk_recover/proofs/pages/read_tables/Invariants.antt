-- What is left is read to the same.
use Rattle.std.specs.Prelude.{◌≡◌, ◌≤◌, IfSome, length}
use Rattle.dk_device.specs.declared.device.FileId.TheVariants.{Main}
use Rattle.dk_device.specs.Changes.{Looks}
use Rattle.dk_strings.specs.Effects.{StaysUsed}
use Rattle.dk_recover.specs.Readings.{each, next_read, all_read}
use Rattle.dk_recover.specs.Tree.{table_read}
use Rattle.dk_recover.proofs.pages.read_tables.Given as goal

abbrev pub invariant-entries : goal.invariant-entries
invariant-entries g l = record {
  told : IfSome (g.D.Disk.content l.fn.disk Main) (λ main.
      each (next_read table_read main) (record { it = l.tables; used = l.man.used }) l.left
      ≡ all_read table_read l.entries l.fn.man.used main);
  stays : StaysUsed l.fn.man.used l.man.used;
  blocks : l.man.blocks ≡ l.fn.man.blocks;
  looks : Looks g.D.Disk l.fn.disk l.disk;
  later : g.D.Disk.faults l.fn.disk ≤ g.D.Disk.faults l.disk;
}

abbrev pub decreases-entries : goal.decreases-entries
decreases-entries g l = length l.left
