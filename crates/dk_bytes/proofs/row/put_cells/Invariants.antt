use Rattle.std.proofs.Common.{◌≡◌, ◌++◌, length, take}
use Rattle.dk_bytes.specs.RowFields.{IsRow, row_bytes}
use Rattle.dk_bytes.proofs.row.put_cells.Given as goal

abbrev pub invariant-columns : goal.invariant-columns
invariant-columns l = record {
  told : l.out.items ++ row_bytes l.left ≡ l.fn.out.items ++ row_bytes l.row;
  row : IsRow l.kinds l.left;
  kept : take (length l.fn.out.items) l.out.items ≡ l.fn.out.items;
}

abbrev pub decreases-columns : goal.decreases-columns
decreases-columns l = length l.kinds
