use Rattle.dk_bytes.specs.ColumnFields.{IsType, type_bytes, type_at}
use Rattle.dk_bytes.proofs.SpellLemmas.{field_found, field_only}
use Rattle.dk_bytes.proofs.ColumnLemmas.{type_field}
use Rattle.dk_bytes.proofs.column_type.read_type.Goals as goal

pub returns-clause-found : goal.returns-clause-found
returns-clause-found c = field_found type_at IsType type_bytes (type_field)
    (λ x. x) c.next_type.result c.args.cursor.now c.next_type.new.cursor c.next_type.ensures c.left-left.ensures.bytes

pub returns-clause-only : goal.returns-clause-only
returns-clause-only c = field_only type_at IsType type_bytes (type_field)
    (λ x. x) c.next_type.result c.args.cursor.now c.next_type.new.cursor c.next_type.ensures
