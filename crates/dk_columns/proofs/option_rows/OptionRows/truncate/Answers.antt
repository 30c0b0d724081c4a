use Rattle.std.proofs.Common.{◌≡◌, ap, sym, ◌∙◌, arith}
use Rattle.dk_columns.specs.OptionTables.{table_of, with_rows_front}
use Rattle.dk_columns.proofs.PutLemmas.{long_less}
use Rattle.dk_columns.proofs.RowLemmas.{cut_table, all_rows}
use Rattle.dk_columns.proofs.option_rows.OptionRows.truncate.Goals as goal

pub cut_columns-requires : goal.cut_columns-requires
cut_columns-requires c = long_less c.args.n _ c.self.inside.columns.items (omega (arith, c.if-n-len.true, c.len.ensures)) c.self.invariant

pub returns-then-n-len : goal.returns-then-n-len
returns-then-n-len c =
    let cut = cut_table c.args.n c.self.inside.present c.self.inside.columns.items c.cut_columns.new.columns.items (omega (arith, c.if-n-len.true, c.len.ensures)) c.cut_columns.ensures in
    let table : table_of c.truncate.new.self c.cut_columns.new.columns.items ≡ with_rows_front c.args.n (table_of c.self.inside.present c.self.inside.columns.items) = rw c.truncate.ensures cut.1 in
    table ∙ ap (with_rows_front c.args.n) c.self.view_is

pub returns-else-n-len : goal.returns-else-n-len
returns-else-n-len c =
    sym c.self.view_is ∙ all_rows c.args.n c.self.inside.present c.self.inside.columns.items (omega (arith, c.if-n-len.false, c.len.ensures)) ∙ ap (with_rows_front c.args.n) c.self.view_is
