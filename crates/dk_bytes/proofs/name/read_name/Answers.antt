use Rattle.dk_bytes.specs.ColumnFields.{IsName, name_bytes, name_at}
use Rattle.dk_bytes.proofs.SpellLemmas.{field_found, field_only}
use Rattle.dk_bytes.proofs.ColumnLemmas.{name_field}
use Rattle.dk_bytes.proofs.name.read_name.Goals as goal

pub returns-clause-found : goal.returns-clause-found
returns-clause-found c = field_found name_at IsName name_bytes (name_field)
    (λ x. x) c.owned_name.result c.args.cursor.now c.owned_name.new.cursor c.owned_name.ensures
    c.left-left.ensures.bytes

pub returns-clause-only : goal.returns-clause-only
returns-clause-only c = field_only name_at IsName name_bytes (name_field)
    (λ x. x) c.owned_name.result c.args.cursor.now c.owned_name.new.cursor c.owned_name.ensures
