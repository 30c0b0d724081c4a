use Rattle.std.proofs.Common.{◌≡◌, arith}
use Rattle.dk_rows.specs.Cells.{value_of}
use Rattle.dk_rows.proofs.RowLemmas.{same_more, indexed}
use Rattle.dk_rows.proofs.row_ref.RowRef.is_row.Goals as goal

pub cells-preserved : goal.cells-preserved
cells-preserved c =
    let same : value_of c.get.result ≡ c.index-row-j.result = c.is_value.ensures.0 c.if-not-is_value.false in
    same_more c.args.self.now c.args.row.now c.cells.j _ _ c.cells.invariant c.get.ensures (indexed c.args.row.now c.cells.j c.index-row-j.result (omega (arith, c.cells-test.true)) c.index-row-j.is) same
