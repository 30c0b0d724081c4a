use Rattle.std.proofs.Common.{◌≡◌, ◌-◌, ◌≤◌, []}
use Rattle.dk_bytes.specs.Reading.{list_at}
use Rattle.dk_bytes.specs.ColumnFields.{column_at}
use Rattle.dk_bytes.proofs.columns.read_each.Given as goal

abbrev pub invariant-columns : goal.invariant-columns
invariant-columns l = record {
  told : list_at column_at (l.count - l.counter) l.columns.items l.cursor ≡ list_at column_at l.count [] l.fn.cursor;
  within : l.counter ≤ l.count;
}
