use Rattle.dk_columns.proofs.RowLemmas.{rows_next}
use Rattle.dk_columns.proofs.option_rows.OptionRows.append.Goals as goal

pub rows-preserved : goal.rows-preserved
rows-preserved c = rows_next c.args.self.now _ _ c.args.more.now.rows _ c.rows.invariant c.in_default.ensures.ok
