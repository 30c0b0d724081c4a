use Rattle.std.proofs.Common.{map, ap, sym, ◌∙◌}
use Rattle.std.specs.Prelude.{is_some}
use Rattle.dk_columns.specs.OptionTables.{OptionTable}
use Rattle.dk_columns.proofs.RowLemmas.{rows_flags}
use Rattle.dk_columns.proofs.option_rows.OptionRows.present.Goals as goal

pub returns : goal.returns
returns c = sym (rows_flags 0 c.self.inside.present c.self.inside.columns.items) ∙ ap (λ (t : OptionTable). map is_some t.rows) c.self.view_is
