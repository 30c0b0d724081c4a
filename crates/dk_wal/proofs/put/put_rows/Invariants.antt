use Rattle.std.proofs.Common.{◌≡◌, ◌++◌, drop}
use Rattle.std.specs.Int.{w32}
use Rattle.std.specs.List.{flat_map, AllByRecursion}
use Rattle.dk_bytes.specs.RowFields.{row_bytes}
use Rattle.dk_wal.specs.Counted.{counted}
use Rattle.dk_wal.specs.Writable.{AreShort}
use Rattle.dk_wal.proofs.put.put_rows.Given as goal

abbrev pub invariant-rows : goal.invariant-rows
invariant-rows l = record {
  told : l.out.items ++ flat_map row_bytes (drop l.i l.rows) ≡ l.fn.out.items ++ counted w32 row_bytes l.rows;
  short : AllByRecursion AreShort (drop l.i l.rows);
}
