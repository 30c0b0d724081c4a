use Rattle.std.proofs.Common.{◌≡◌, ◌-◌, ◌≤◌, []}
use Rattle.dk_bytes.specs.Reading.{list_at}
use Rattle.dk_meta.specs.Page.{least_offset, offset_at}
use Rattle.dk_meta.proofs.page.read_each_offset.Given as goal

abbrev pub invariant-offsets : goal.invariant-offsets
invariant-offsets l = record {
  told : list_at (offset_at l.rows) (l.count - l.counter) l.offsets.items l.cursor ≡ list_at (offset_at l.rows) l.count [] l.fn.cursor;
  within : l.counter ≤ l.count;
  least : l.least ≡ least_offset l.offsets.items;
}
