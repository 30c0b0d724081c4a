use Rattle.std.proofs.Common.{◌≡◌, ◌++◌, length, take}
use Rattle.std.specs.List.{AllByRecursion}
use Rattle.dk_bytes.specs.ColumnFields.{IsColumn, each_column}
use Rattle.dk_bytes.proofs.columns.put_each.Given as goal

abbrev pub invariant-columns : goal.invariant-columns
invariant-columns l = record {
  told : l.out.items ++ each_column l.left ≡ l.fn.out.items ++ each_column l.columns;
  names : AllByRecursion IsColumn l.left;
  kept : take (length l.fn.out.items) l.out.items ≡ l.fn.out.items;
}

abbrev pub decreases-columns : goal.decreases-columns
decreases-columns l = length l.left
