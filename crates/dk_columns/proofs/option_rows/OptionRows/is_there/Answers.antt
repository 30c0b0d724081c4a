use Rattle.std.proofs.Common.{List, Bool, length, map, ap, sym, ◌∙◌, arith}
use Rattle.std.specs.Prelude.{slice_get, is_some}
use Rattle.dk_columns.specs.OptionTables.{OptionTable}
use Rattle.dk_columns.proofs.RowLemmas.{rows_len, rows_flags}
use Rattle.dk_columns.proofs.option_rows.OptionRows.is_there.Goals as goal

pub get-requires : goal.get-requires
get-requires c =
    let len = ap (λ (t : OptionTable). length t.rows) c.self.view_is in
    omega (arith, c.requires, len, rows_len 0 c.self.inside.present c.self.inside.columns.items)

pub returns : goal.returns
returns c =
    let flags = sym (rows_flags 0 c.self.inside.present c.self.inside.columns.items) ∙ ap (λ (t : OptionTable). map is_some t.rows) c.self.view_is in
    ap (λ (bs : List Bool). slice_get bs c.args.i) (sym flags) ∙ c.get.ensures
