use Rattle.std.proofs.Common.{◌≡◌, ◌-◌, ◌≤◌, [], vec_len}
use Rattle.dk_bytes.specs.Reading.{list_at}
use Rattle.dk_meta.specs.Segments.{next_vector_at}
use Rattle.dk_meta.proofs.segments.read_each.Given as goal

abbrev pub invariant-vectors : goal.invariant-vectors
invariant-vectors l = record {
  told : list_at (next_vector_at l.rows) (l.count - l.counter) l.vectors.items l.cursor ≡ list_at (next_vector_at l.rows) l.count [] l.fn.cursor;
  within : l.counter ≤ l.count;
  count : vec_len l.vectors ≡ l.counter;
}
