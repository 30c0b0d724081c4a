use Rattle.std.specs.Bool.{one_answer}
use Rattle.dk_columns.specs.Equal.{table_decides}
use Rattle.dk_columns.proofs.option_rows.OptionRowsPartialEq.eq.Goals as goal

pub returns : goal.returns
returns c = one_answer c.is_same.result _ c.is_same.ensures (table_decides c.args.self.now c.args.other.now)
