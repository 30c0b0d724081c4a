use Rattle.std.proofs.Common.{◌≡◌, ◌-◌, ◌≤◌, []}
use Rattle.dk_bytes.specs.Reading.{list_at}
use Rattle.dk_wal.specs.Payload.{tail_row_at}
use Rattle.dk_wal.proofs.read.read_each_row.Given as goal

abbrev pub invariant-rows : goal.invariant-rows
invariant-rows l = record {
  told : list_at (tail_row_at l.columns) (l.count - l.counter) l.rows l.cursor ≡ list_at (tail_row_at l.columns) l.count [] l.fn.cursor;
  within : l.counter ≤ l.count;
}
