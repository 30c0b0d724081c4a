use Rattle.dk_bytes.proofs.ColumnLemmas.{columns_lawful}
use Rattle.dk_bytes.proofs.columns.next_schema.Goals as goal

pub schema_of-requires : goal.schema_of-requires
schema_of-requires c = columns_lawful c.args.cursor.now c.in_ok-columns.columns.items c.read_list.new.cursor
    c.left-left.ensures.bytes c.in_ok-columns.ensures
