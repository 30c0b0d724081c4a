use Rattle.std.proofs.Common.{◌≡◌, [], length}
use Rattle.dk_columns.specs.OptionTables.{AreLong, table_of}
use Rattle.dk_columns.proofs.RowLemmas.{empty_long, empty_table}
use Rattle.dk_columns.proofs.option_rows.OptionRows.new.Goals as goal

pub invariant_of-result : goal.invariant_of-result
invariant_of-result c =
    let long : AreLong (length c.new.result) c.in_ok-columns.columns.items = rw (c.new.ensures, c.in_ok-columns.ensures) (empty_long c.args.kinds.now) in long

pub returns : goal.returns
returns c =
    let rows : table_of c.new.result c.in_ok-columns.columns.items ≡ record { kinds = c.args.kinds.now; rows = [] } = rw (c.new.ensures, c.in_ok-columns.ensures) (empty_table c.args.kinds.now) in rows
