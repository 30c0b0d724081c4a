use Rattle.std.proofs.Common.{◌≡◌, ◌+◌, ◌*◌, ◌≤◌, length}
use Rattle.std.specs.List.{AllByRecursion}
use Rattle.dk_bytes.specs.ColumnFields.{IsColumn, each_column}
use Rattle.dk_bytes.proofs.columns.each_len.Given as goal

abbrev pub invariant-columns : goal.invariant-columns
invariant-columns l = record {
  told : l.len + length (each_column l.left) ≡ length (each_column l.columns);
  names : AllByRecursion IsColumn l.left;
  small : l.len + 65 * length l.left ≤ 65 * length l.columns;
}

abbrev pub decreases-columns : goal.decreases-columns
decreases-columns l = length l.left
