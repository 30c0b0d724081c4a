use Rattle.std.specs.Bool.{one_answer}
use Rattle.dk_rows.specs.Equal.{rows_decide}
use Rattle.dk_rows.proofs.rows.RowsPartialEq.eq.Goals as goal

pub returns : goal.returns
returns c = one_answer c.is_same.result _ c.is_same.ensures (rows_decide c.args.self.now c.args.other.now)
