use Rattle.std.specs.Bool.{one_answer}
use Rattle.dk_columns.specs.Equal.{column_decides}
use Rattle.dk_columns.proofs.cells.CellsPartialEq.eq.Goals as goal

pub returns : goal.returns
returns c = one_answer c.is_equal.result _ c.is_equal.ensures (column_decides c.args.self.now c.args.other.now)
