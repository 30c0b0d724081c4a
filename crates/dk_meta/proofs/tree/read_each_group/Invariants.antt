use Rattle.std.proofs.Common.{◌≡◌, ◌-◌, ◌≤◌, []}
use Rattle.dk_bytes.specs.Reading.{list_at}
use Rattle.dk_meta.specs.Strings.{always}
use Rattle.dk_meta.specs.Tree.{group_at}
use Rattle.dk_meta.proofs.tree.read_each_group.Given as goal

abbrev pub invariant-groups : goal.invariant-groups
invariant-groups l = record {
  told : list_at (always group_at) (l.count - l.counter) l.groups.items l.cursor ≡ list_at (always group_at) l.count [] l.fn.cursor;
  within : l.counter ≤ l.count;
}
