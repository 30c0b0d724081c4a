use Rattle.std.proofs.Common.{◌≡◌, ◌+◌, length}
use Rattle.dk_wal.specs.LogReading.{read_on}
use Rattle.dk_wal.proofs.scanning.read_records.Given as goal

-- what is left is read on to the same
abbrev pub invariant-records : goal.invariant-records
invariant-records l = record {
  told : read_on (length l.rest) l.reader l.rest ≡ read_on (length l.bytes) l.fn.reader l.bytes;
  place : l.reader.scan.end + length l.rest ≡ l.fn.reader.scan.end + length l.bytes;
}

abbrev pub decreases-records : goal.decreases-records
decreases-records l = length l.rest
