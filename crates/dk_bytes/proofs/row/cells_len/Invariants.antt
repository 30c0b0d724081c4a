use Rattle.std.proofs.Common.{◌≡◌, ◌+◌, ◌*◌, ◌≤◌, length}
use Rattle.dk_bytes.specs.RowFields.{IsRow, row_bytes}
use Rattle.dk_bytes.proofs.row.cells_len.Given as goal

abbrev pub invariant-columns : goal.invariant-columns
invariant-columns l = record {
  told : l.len + length (row_bytes l.left) ≡ length (row_bytes l.row);
  row : IsRow l.kinds l.left;
  small : l.len + 65538 * length l.kinds ≤ 65538 * length l.columns;
}

abbrev pub decreases-columns : goal.decreases-columns
decreases-columns l = length l.kinds
