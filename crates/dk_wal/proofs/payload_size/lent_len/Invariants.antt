use Rattle.std.proofs.Common.{◌≡◌, ◌+◌, ◌<◌, ◌^◌, length, drop}
use Rattle.dk_fault.specs.Counts.{capped}
use Rattle.dk_bytes.specs.RowFields.{row_bytes}
use Rattle.dk_wal.proofs.payload_size.lent_len.Given as goal

abbrev pub invariant-cells : goal.invariant-cells
invariant-cells l = record {
  small : l.len < 2 ^ 64;
  told : capped (l.len + length (row_bytes (drop l.j l.row))) ≡ capped (length (row_bytes l.row));
}
