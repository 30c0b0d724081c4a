use Rattle.std.proofs.Common.{◌≡◌, length}
use Rattle.dk_bytes.specs.RowFields.{row_at}
use Rattle.dk_bytes.proofs.FrontLemmas.{with_front}
use Rattle.dk_bytes.proofs.row.read_cells.Given as goal

abbrev pub invariant-columns : goal.invariant-columns
invariant-columns l = with_front l.row.items (row_at l.kinds l.cursor) ≡ row_at l.columns l.fn.cursor

abbrev pub decreases-columns : goal.decreases-columns
decreases-columns l = length l.kinds
