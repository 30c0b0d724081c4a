use Rattle.dk_bytes.specs.PlainValue.{IsPlain, plain_bytes, value_at}
use Rattle.dk_bytes.proofs.SpellLemmas.{field_found, field_only}
use Rattle.dk_bytes.proofs.RowLemmas.{value_field}
use Rattle.dk_bytes.proofs.plain_value.read_value.Goals as goal

pub returns-clause-found : goal.returns-clause-found
returns-clause-found c = field_found (value_at c.args.kind) (IsPlain c.args.kind) plain_bytes
    (value_field c.args.kind)
    (λ x. x) c.next_value.result c.args.cursor.now c.next_value.new.cursor c.next_value.ensures
    c.left-left.ensures.bytes

pub returns-clause-only : goal.returns-clause-only
returns-clause-only c = field_only (value_at c.args.kind) (IsPlain c.args.kind) plain_bytes
    (value_field c.args.kind)
    (λ x. x) c.next_value.result c.args.cursor.now c.next_value.new.cursor c.next_value.ensures
