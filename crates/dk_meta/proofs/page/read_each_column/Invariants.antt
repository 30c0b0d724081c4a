use Rattle.std.proofs.Common.{◌≡◌, ◌-◌, ◌≤◌, []}
use Rattle.dk_bytes.specs.Reading.{list_at}
use Rattle.dk_meta.specs.Strings.{always}
use Rattle.dk_meta.specs.Segments.{vectors_at}
use Rattle.dk_meta.proofs.page.read_each_column.Given as goal

abbrev pub invariant-columns : goal.invariant-columns
invariant-columns l = record {
  told : list_at (always (vectors_at l.rows)) (l.count - l.counter) l.columns.items l.cursor ≡ list_at (always (vectors_at l.rows)) l.count [] l.fn.cursor;
  within : l.counter ≤ l.count;
}
