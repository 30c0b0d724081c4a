use Rattle.dk_bytes.specs.RowFields.{IsRow, row_bytes, row_at}
use Rattle.dk_bytes.proofs.SpellLemmas.{field_found, field_only}
use Rattle.dk_bytes.proofs.RowLemmas.{row_field}
use Rattle.dk_bytes.proofs.row.read_row.Goals as goal

pub returns-clause-found : goal.returns-clause-found
returns-clause-found c = field_found (row_at c.args.schema.now) (IsRow c.args.schema.now) row_bytes
    (row_field c.args.schema.now) (λ x. x) c.read_cells.result c.args.cursor.now c.read_cells.new.cursor
    (rw c.as_slice.ensures.columns at c.read_cells.ensures) c.left-left.ensures.bytes

pub returns-clause-only : goal.returns-clause-only
returns-clause-only c = field_only (row_at c.args.schema.now) (IsRow c.args.schema.now) row_bytes
    (row_field c.args.schema.now) (λ x. x) c.read_cells.result c.args.cursor.now c.read_cells.new.cursor
    (rw c.as_slice.ensures.columns at c.read_cells.ensures)
