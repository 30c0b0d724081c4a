use Rattle.std.proofs.Common.{◌≡◌, ◌-◌, ◌≤◌, [], ◌<◌, vec_len}
use Rattle.dk_bytes.specs.Reading.{list_at}
use Rattle.dk_meta.specs.Strings.{always}
use Rattle.dk_meta.specs.Segments.{segment_at}
use Rattle.dk_meta.proofs.segments.read_segments.Given as goal

abbrev pub invariant-segments : goal.invariant-segments
invariant-segments l = record {
  told : list_at (always segment_at) (l.count - l.counter) l.segments.items l.cursor ≡ list_at (always segment_at) l.count [] l.fn.cursor;
  within : l.counter ≤ l.count;
  count : vec_len l.segments ≡ l.counter;
  behind : 0 < l.counter → 2 ≤ l.cursor.at;
}
