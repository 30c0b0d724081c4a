use Rattle.std.proofs.Common.{List, length, ap, sym, subst, ◌∙◌, arith}
use Rattle.std.proofs.lemmas.List.{take_all}
use Rattle.dk_values.specs.declared.value.ColType.{ColType}
use Rattle.dk_values.specs.declared.value.Value.{Value}
use Rattle.dk_rows.specs.Cells.{value_of}
use Rattle.dk_columns.specs.Columns.{Column}
use Rattle.dk_columns.specs.OptionTables.{AreLong, IsFrontPut, IsKindAt, kinds_of, with_row_put, with_cell_put}
use Rattle.dk_columns.proofs.MaskLemmas.{on_err}
use Rattle.dk_columns.proofs.PutLemmas.{fits_len, fits_at, put_len, kinds_put, long_put, row_put_more}
use Rattle.dk_columns.proofs.option_rows.put_row.Goals as goal

pub cell-requires : goal.cell-requires
cell-requires g c =
    let size = fits_len c.args.columns.now.items (g.R.LendRow.values c.args.row.now) c.requires.fits in
    omega (arith, c.columns-test.true, c.len-j-end.ensures, c.args.columns.now.ok.0, size)

pub put_cell-requires-clause-column : goal.put_cell-requires-clause-column
put_cell-requires-clause-column g c =
    let size = ap (λ (cs : List Column). length cs) c.columns.invariant ∙ put_len c.args.i _ c.args.columns.now.items in
    omega (arith, c.columns-test.true, c.len-j-end.ensures, c.args.columns.now.ok.0, size)

pub put_cell-requires-clause-long : goal.put_cell-requires-clause-long
put_cell-requires-clause-long g c =
    subst (λ (cs : List Column). AreLong c.args.i cs) (sym c.columns.invariant)
    (long_put c.args.i c.args.i c.columns.j (g.R.LendRow.values c.args.row.now) c.args.columns.now.items c.requires.long c.requires.fits)

pub put_cell-requires-clause-kind : goal.put_cell-requires-clause-kind
put_cell-requires-clause-kind g c =
    let kinds = ap (λ (cs : List Column). kinds_of cs) c.columns.invariant ∙ kinds_put c.args.i _ c.args.columns.now.items in
    subst (λ (ks : List ColType). IsKindAt c.columns.j ks (value_of c.cell.result)) (sym kinds)
    (fits_at (kinds_of c.args.columns.now.items) (g.R.LendRow.values c.args.row.now) c.columns.j (value_of c.cell.result) c.requires.fits c.cell.ensures)

pub returns-in_err-put_cell-clause-err : goal.returns-in_err-put_cell-clause-err
returns-in_err-put_cell-clause-err g c =
    let front : IsFrontPut c.args.i (g.R.LendRow.values c.args.row.now) c.args.columns.now.items c.put_cell.new.columns.items = record { count = c.columns.j; put = c.in_err-put_cell.ensures.err ∙ c.columns.invariant } in
    on_err _ front

pub columns-preserved : goal.columns-preserved
columns-preserved g c =
    c.in_ok-put_cell.ensures.ok ∙ ap (with_cell_put c.columns.j c.args.i (value_of c.cell.result)) c.columns.invariant
    ∙ row_put_more c.columns.j c.args.i (g.R.LendRow.values c.args.row.now) c.args.columns.now.items (value_of c.cell.result) c.cell.ensures

pub returns-clause-ok : goal.returns-clause-ok
returns-clause-ok g c =
    let size = fits_len c.args.columns.now.items (g.R.LendRow.values c.args.row.now) c.requires.fits in
    c.columns.invariant
    ∙ ap (λ (row : List Value). with_row_put c.args.i row c.args.columns.now.items) (take_all c.columns.j (g.R.LendRow.values c.args.row.now) (omega (arith, c.columns-test.false, c.len-j-end.ensures, c.args.columns.now.ok.0, size)))
