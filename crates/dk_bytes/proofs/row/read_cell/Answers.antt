use Rattle.dk_bytes.specs.RowFields.{IsCell, cell_bytes, cell_at}
use Rattle.dk_bytes.proofs.SpellLemmas.{field_found, field_only}
use Rattle.dk_bytes.proofs.RowLemmas.{cell_field}
use Rattle.dk_bytes.proofs.row.read_cell.Goals as goal

pub returns-clause-found : goal.returns-clause-found
returns-clause-found c = field_found (cell_at c.args.kind) (IsCell c.args.kind) cell_bytes (cell_field c.args.kind)
    (λ x. x) c.next_cell.result c.args.cursor.now c.next_cell.new.cursor c.next_cell.ensures c.left-left.ensures.bytes

pub returns-clause-only : goal.returns-clause-only
returns-clause-only c = field_only (cell_at c.args.kind) (IsCell c.args.kind) cell_bytes (cell_field c.args.kind)
    (λ x. x) c.next_cell.result c.args.cursor.now c.next_cell.new.cursor c.next_cell.ensures
