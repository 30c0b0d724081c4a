use Rattle.std.proofs.Common.{◌≡◌, ◌-◌, ◌≤◌, []}
use Rattle.dk_seg_text.specs.Dictionary.{entries_at}
use Rattle.dk_seg_text.proofs.dictionary.read_entries.Given as goal

abbrev pub invariant-entries : goal.invariant-entries
invariant-entries l = record {
  told : entries_at (l.count - l.counter) l.entries l.cursor ≡ entries_at l.count [] l.fn.cursor;
  within : l.counter ≤ l.count;
}
