use Rattle.std.proofs.Common.{arith}
use Rattle.dk_columns.proofs.PutLemmas.{nulls_fit}
use Rattle.dk_columns.proofs.option_rows.OptionRows.push_missing.Goals as goal

pub push_row-requires-clause-fits : goal.push_row-requires-clause-fits
push_row-requires-clause-fits c = nulls_fit c.self.inside.columns.items _ (omega (arith, c.len.ensures, c.self.inside.columns.ok.0))
