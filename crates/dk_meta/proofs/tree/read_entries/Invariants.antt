use Rattle.std.proofs.Common.{◌≡◌, ◌-◌, ◌≤◌, []}
use Rattle.dk_bytes.specs.Reading.{list_at}
use Rattle.dk_meta.specs.Tree.{entry_at}
use Rattle.dk_meta.proofs.tree.read_entries.Given as goal

abbrev pub invariant-entries : goal.invariant-entries
invariant-entries l = record {
  told : list_at (entry_at) (l.count - l.counter) l.entries.items l.cursor ≡ list_at (entry_at) l.count [] l.fn.cursor;
  within : l.counter ≤ l.count;
}
