use Rattle.std.proofs.Common.{◌++◌, [], List, length, replicate, ap, ◌∙◌}
use Rattle.dk_values.specs.declared.value.ColType.{ColType}
use Rattle.dk_columns.specs.OptionTables.{with_rows}
use Rattle.dk_version.specs.Rows.{spare_row}
use Rattle.dk_vector.specs.Vectors.{VectorRows}
use Rattle.dk_group.proofs.FillLemmas.{fresh, filled}
use Rattle.dk_group.proofs.fill.filled_vector.Goals as goal

pub append-requires-clause-fresh : goal.append-requires-clause-fresh
append-requires-clause-fresh c =
    let n = length c.args.rows.now.rows in
    fresh n c.reserve.new.self
    (c.in_ok-reserve.ensures.ok.stamps ∙ ap (λ (v : VectorRows). v.stamps.rows ++ replicate n spare_row) c.in_ok-vector.ensures.rows)
    (c.in_ok-reserve.ensures.nodes ∙ ap (λ (v : VectorRows). v.nodes) c.in_ok-vector.ensures.rows)

pub returns : goal.returns
returns c =
    let table = c.args.rows.now in
    let n = length table.rows in
    let made = c.in_ok-vector.ensures.rows in
    let reserved = c.in_ok-reserve.ensures in
    filled c.args.id table c.reserve.new.self c.append.new.self
    (reserved.ok.stamps ∙ ap (λ (v : VectorRows). v.stamps.rows ++ replicate n spare_row) made)
    (reserved.ok.base ∙ ap (λ (v : VectorRows). with_rows table.rows v.base) made ∙ ap (λ (k : List ColType). with_rows table.rows (record { kinds = k; rows = [] })) c.requires.kinds)
    c.append.ensures.rows c.append.ensures.base c.append.ensures.nodes (reserved.nodes ∙ ap (λ (v : VectorRows). v.nodes) made) c.append.ensures.count
    (λ row. reserved.rows row ∙ c.in_ok-vector.ensures.absent row)
