-- A segment that has another number of values is refused.
use Rattle.std.proofs.Common.{ap}
use Rattle.dk_columns.specs.Columns.{Column}
use Rattle.dk_recover.proofs.ColumnLemmas.{wrong_of}
use Rattle.dk_recover.proofs.columns.decode_segment.Goals as goal

pub returns-then-not-begins_with-clause-values : goal.returns-then-not-begins_with-clause-values
returns-then-not-begins_with-clause-values c =
    wrong_of c.args.kind c.new-cells.result.kind c.args.rows c.from.result c.args.bytes.now c.behind.result.now
    c.begins_with.result c.wrong_count.result c.decode_cells-decoded.new.cells.values c.decode_cells-decoded.result
    (ap (λ (x : Column). x.kind) c.new-cells.ensures) c.from.ensures c.behind.ensures c.begins_with.ensures
    c.if-not-begins_with.true c.decode_cells-decoded.ensures.place c.wrong_count.ensures
