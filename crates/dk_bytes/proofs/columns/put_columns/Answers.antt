use Rattle.dk_bytes.proofs.ColumnLemmas.{schema_named}
use Rattle.dk_bytes.proofs.columns.put_columns.Goals as goal

pub put_body-put-requires-clause-names : goal.put_body-put-requires-clause-names
put_body-put-requires-clause-names c = rw c.as_slice.ensures.columns
    (schema_named c.args.schema.now c.as_slice.ensures.lawful)
