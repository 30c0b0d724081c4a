use Rattle.std.proofs.Common.{suc, length, ap, sym, ◌∙◌, arith}
use Rattle.std.specs.Prelude.{slice_get}
use Rattle.dk_columns.specs.Columns.{Column}
use Rattle.dk_columns.proofs.PutLemmas.{long_at, row_value}
use Rattle.dk_columns.proofs.option_row.value_at.Goals as goal

pub get-requires : goal.get-requires
get-requires c =
    let long = long_at (suc c.args.place) c.args.j c.args.columns.now c.index-columns-j.result c.requires.long c.requires.within c.index-columns-j.is in
    let reach = long.long in
    let size = ap (λ (k : Column). length k.values) c.cells.ensures in
    omega (arith, reach, size)

pub returns : goal.returns
returns c =
    row_value c.args.place c.args.j c.args.columns.now c.index-columns-j.result _ c.requires.within c.index-columns-j.is
    (ap (λ (k : Column). slice_get k.values c.args.place) (sym c.cells.ensures) ∙ c.get.ensures.value)
