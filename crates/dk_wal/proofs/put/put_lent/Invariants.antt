use Rattle.std.proofs.Common.{◌≡◌, ◌++◌, drop}
use Rattle.dk_bytes.specs.RowFields.{row_bytes}
use Rattle.dk_wal.specs.Writable.{AreShort}
use Rattle.dk_wal.proofs.put.put_lent.Given as goal

abbrev pub invariant-cells : goal.invariant-cells
invariant-cells l = record {
  told : l.out.items ++ row_bytes (drop l.j l.row) ≡ l.fn.out.items ++ row_bytes l.row;
  short : AreShort (drop l.j l.row);
}
