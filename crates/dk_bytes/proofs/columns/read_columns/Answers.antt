use Rattle.dk_values.specs.Columns.{IsSchema}
use Rattle.dk_bytes.specs.ColumnFields.{columns_bytes, columns_at}
use Rattle.dk_bytes.proofs.SpellLemmas.{field_found, field_only}
use Rattle.dk_bytes.proofs.ColumnLemmas.{columns_field}
use Rattle.dk_bytes.proofs.columns.read_columns.Goals as goal

pub returns-clause-found : goal.returns-clause-found
returns-clause-found c = field_found columns_at IsSchema columns_bytes (columns_field)
    (λ x. x) c.next_schema.result c.args.cursor.now c.next_schema.new.cursor c.next_schema.ensures
    c.left-left.ensures.bytes

pub returns-clause-only : goal.returns-clause-only
returns-clause-only c = field_only columns_at IsSchema columns_bytes (columns_field)
    (λ x. x) c.next_schema.result c.args.cursor.now c.next_schema.new.cursor c.next_schema.ensures
