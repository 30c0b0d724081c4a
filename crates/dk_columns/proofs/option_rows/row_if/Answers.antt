use Rattle.std.proofs.Common.{Bool, List, true, false, Some, suc, ap, sym, ◌∙◌, arith}
use Rattle.dk_values.specs.declared.value.Value.{Value}
use Rattle.dk_columns.specs.OptionTables.{AreLong}
use Rattle.dk_columns.proofs.PutLemmas.{long_less, row_fits}
use Rattle.dk_columns.proofs.RowLemmas.{row_there}
use Rattle.dk_columns.proofs.option_rows.row_if.Goals as goal

pub new-requires : goal.new-requires
new-requires c = long_less _ _ c.args.columns.now (omega (arith, c.requires.within)) c.requires.long

pub returns-then-get-clause-row : goal.returns-then-get-clause-row
returns-then-get-clause-row c =
    row_there _ _ c.args.i true (c.get.ensures ∙ ap (λ (b : Bool). Some b) c.if-get.true)
    ∙ ap (λ (row : List Value). Some (Some row)) (sym c.new.ensures)

pub returns-then-get-clause-fits : goal.returns-then-get-clause-fits
returns-then-get-clause-fits c =
    let long : AreLong (suc c.args.i) c.args.columns.now = long_less _ _ c.args.columns.now (omega (arith, c.requires.within)) c.requires.long in
    rw c.new.ensures (row_fits c.args.i c.args.columns.now long)

pub returns-else-get-clause-row : goal.returns-else-get-clause-row
returns-else-get-clause-row c = row_there _ _ c.args.i false (c.get.ensures ∙ ap (λ (b : Bool). Some b) c.if-get.false)
