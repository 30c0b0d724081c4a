use Rattle.std.proofs.Common.{◌≡◌, ◌+◌, ◌<◌, ◌^◌, length, drop}
use Rattle.std.specs.Int.{w32}
use Rattle.std.specs.List.{flat_map}
use Rattle.dk_wal.specs.Counted.{counted}
use Rattle.dk_fault.specs.Counts.{capped}
use Rattle.dk_bytes.specs.RowFields.{row_bytes}
use Rattle.dk_wal.proofs.payload_size.rows_len.Given as goal

abbrev pub invariant-rows : goal.invariant-rows
invariant-rows l = record {
  small : l.len < 2 ^ 64;
  told : capped (l.len + length (flat_map row_bytes (drop l.i l.rows))) ≡ capped (length (counted w32 row_bytes l.rows));
}
